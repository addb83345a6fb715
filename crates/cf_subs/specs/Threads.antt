-- Lists that run through the held blocks: of each number, the blocks that have it as their key, in the order in which
-- they are held.
use Rattle.std.specs.Prelude.{◌≡◌, ℕ, ◌==◌, Bool, false, cond, List, [], ◌∷◌, map, Option, Some, None, IsSome}
use denote.RawPtr.{Ptr}
use Rattle.lru.specs.Linked.{same_ptr}
use Rattle.cf_subs.specs.declared.blocks.At.{At}
use Rattle.cf_subs.specs.Held.{Held, held, found}

abbrev pub at : Ptr → At
at p = record { ptr = p }

-- whether a pointer, if there is one, leads to p
abbrev pub leads_to : Option At → Ptr → Bool
leads_to None p = false
leads_to (Some a) p = same_ptr p a.ptr

abbrev pub nowhere : ℕ → Option At
nowhere k = None

module _ {T : Type 0} where
  -- a pointer, if there is one, leads to a block
  abbrev pub IsHeld : List (Held T) → Option At → Type 0
  IsHeld hs None = Unit {0}
  IsHeld hs (Some a) = IsSome (found hs a.ptr)

  -- the blocks, with the one to which a pointer leads changed
  abbrev pub changed : (T → T) → Option At → List (Held T) → List (Held T)
  changed change o hs = map (λ h. held h.at (cond (leads_to o h.at) (change h.value) h.value)) hs

  abbrev pub Changes : (T → T) → Option At → List (Held T) → List (Held T) → Type 0
  Changes change o hs ws = ws ≡ changed change o hs

  module _ (key : T → ℕ) where
    -- the first block of the number k
    abbrev pub first_of : ℕ → List (Held T) → Option At
    first_of k [] = None
    first_of k (h ∷ hs) = cond (key h.value == k) (Some (at h.at)) (first_of k hs)

    abbrev pub latest : (ℕ → Option At) → Held T → ℕ → Option At
    latest f h k = cond (key h.value == k) (Some (at h.at)) (f k)

    -- the last block of each number, or what f has if there is none
    abbrev pub last_of : (ℕ → Option At) → List (Held T) → ℕ → Option At
    last_of f [] = f
    last_of f (h ∷ hs) = last_of (latest f h) hs

    module _ (before after : T → Option At) where
      -- each block leads to the one before it and the one after it of its number
      abbrev pub AreThreaded : (ℕ → Option At) → List (Held T) → Type 0
      AreThreaded f [] = Unit {0}
      AreThreaded f (h ∷ hs) =
          (before h.value ≡ f (key h.value)) × (after h.value ≡ first_of (key h.value) hs)
          × AreThreaded (latest f h) hs
