-- What the readers of a settings text answer, part by part.
use Rattle.std.specs.Prelude.{◌≡◌, ◌≢◌, ℕ, ◌≤◌, ◌==◌, List, [], ◌∷◌, ◌++◌, count_by, ⊤, Option, Some, None, Result}
use Rattle.std.specs.Prelude.{Ok, Err}
use Rattle.std.specs.List.Sorted.{IsPermutation}
use Rattle.std.specs.Fmt.{decimal}
use Rattle.cf_protocol.specs.Settings.{entry_at}
use Rattle.cf_protocol.specs.SettingsText.{letters_of}
use Rattle.cf_protocol.specs.declared.settings.Settings.{Settings}
use Rattle.cf_protocol.specs.declared.fault.ReadFault.{ReadFault}
use Rattle.cf_protocol.specs.declared.fault.ReadFault.TheVariants.{Bad, Memory}

-- what was found is as P says, or nothing is
abbrev pub IsFoundBy : {A : Type 0} → (A → Type 0) → Option A → Type 0
IsFoundBy {A} P None = (x : A) → P x → ⊥
IsFoundBy P (Some x) = P x

-- ---- cuts

-- the byte b doesn't stand in s
abbrev pub Lacks : ℕ → List ℕ → Type 0
Lacks b [] = ⊤
Lacks b (x ∷ s) = (x ≢ b) × Lacks b s

-- s is cut at its first b
pub record IsCut (b : ℕ) (s before after : List ℕ) : Type 0 where
  pub whole : s ≡ before ++ b ∷ after
  pub first : Lacks b before

-- ---- numbers

-- the text spells n, which is 1 at least
pub record IsCount (most : ℕ) (text : List ℕ) (n : ℕ) : Type 0 where
  pub least : 1 ≤ n
  pub within : n ≤ most
  pub spelled : text ≡ decimal n

-- ---- flags

-- how often a letter stands in a text
abbrev pub times : ℕ → List ℕ → ℕ
times b s = count_by (λ x. x == b) s

-- the same settings with one letter more
pub record AddsLetter (b : ℕ) (old new : Settings) : Type 0 where
  pub size : new.size ≡ old.size
  pub seconds : new.seconds ≡ old.seconds
  pub letters : IsPermutation (letters_of old ++ b ∷ []) (letters_of new)

-- no settings have this letter more often
abbrev pub HasMost : ℕ → Settings → Type 0
HasMost b old = (s : Settings) → times b (letters_of s) ≤ times b (letters_of old)

-- ---- entries

-- a table has one entry more, which the text spells; Bad if each that it spells has a name that stands already
abbrev pub Adds : {V : Type 0} → (List ℕ → List ℕ × V → Type 0) → List ℕ → List (List ℕ × V)
    → Result Unit ReadFault
    → List (List ℕ × V) → Type 0
Adds {V} IsEntry text old (Ok done) new =
    (e : List ℕ × V) × IsEntry text e × (entry_at old e.0 ≡ None) × (new ≡ old ++ e ∷ [])
Adds {V} IsEntry text old (Err Bad) new = (e : List ℕ × V) → IsEntry text e → entry_at old e.0 ≢ None
Adds {V} IsEntry text old (Err Memory) new = ⊤
