-- A text that is being written, and what each step adds to it.
use Rattle.std.specs.Prelude.{◌≡◌, ℕ, ◌==◌, ◌&&◌, nat_le, not, List, [], ◌∷◌, ◌++◌, Bool, true, false, Option, Some}
use Rattle.std.specs.Prelude.{None, map, String, string_bytes}
use Rattle.std.specs.declared.alloc.Global.{Global}
use Rattle.cf_json.specs.Grammar.{Tree}
use Rattle.cf_json.specs.Compact.{key_text, first_text, more_text}
use Rattle.cf_protocol.specs.Written.{Member, parts_of, items_of}
use Rattle.cf_protocol.specs.declared.write.writer.Writer.{Writer}

-- if no call lacked memory so far, the text is the one before with this piece behind it
abbrev pub Grows : Writer → Writer → List ℕ → Type 0
Grows old new piece =
    new.failed ≡ false → (old.failed ≡ false) × (string_bytes new.text ≡ string_bytes old.text ++ piece)

-- an object is begun, if no call lacked memory so far, and has no member yet
pub record IsBegun (w : Writer) : Type 0 where
  pub text : w.failed ≡ false → string_bytes w.text ≡ 123 ∷ []
  pub fresh : w.fresh ≡ true

-- a byte that stands for itself in a string
abbrev pub is_plain : ℕ → Bool
is_plain x = nat_le 32 x && not (x == 34) && not (x == 92)

-- what parts a member or item from what stands before it, by whether nothing does
abbrev pub comma : Bool → List ℕ
comma true = []
comma false = 44 ∷ []

abbrev pub members_text : Bool → List Member → List ℕ
members_text true ms = first_text true (parts_of ms)
members_text false ms = more_text true (parts_of ms)

abbrev pub items_text : Bool → List Tree → List ℕ
items_text true ts = first_text false (items_of ts)
items_text false ts = more_text false (items_of ts)

-- whether still nothing stands there
abbrev pub fresh_with : Bool → Option Tree → Bool
fresh_with fresh None = fresh
fresh_with fresh (Some t) = false

abbrev pub fresh_after : Bool → List Member → Bool
fresh_after fresh [] = fresh
fresh_after fresh (m ∷ ms) = fresh_after (fresh_with fresh m.1) ms

pub record Adds (old new : Writer) (ms : List Member) : Type 0 where
  pub text : Grows old new (members_text old.fresh ms)
  pub fresh : new.fresh ≡ fresh_after old.fresh ms

-- whether nothing stands, after these items
abbrev pub fresh_items : Bool → List Tree → Bool
fresh_items fresh [] = fresh
fresh_items fresh (t ∷ ts) = false

pub record AddsItems (old new : Writer) (ts : List Tree) : Type 0 where
  pub text : Grows old new (items_text old.fresh ts)
  pub fresh : new.fresh ≡ fresh_items old.fresh ts

pub record AddsKey (old new : Writer) (key : List ℕ) : Type 0 where
  pub text : Grows old new (comma old.fresh ++ key_text true key)

pub record AddsValue (old new : Writer) (value : List ℕ) : Type 0 where
  pub text : Grows old new value
  pub fresh : new.fresh ≡ false

-- the bracket of an object or array is the last that stands
pub record Opens (old new : Writer) (opening : List ℕ) : Type 0 where
  pub text : Grows old new opening
  pub fresh : new.fresh ≡ true

-- a member's key, and the bracket of its value
pub record OpensMember (old new : Writer) (key bracket : List ℕ) : Type 0 where
  pub text : Grows old new (comma old.fresh ++ (key_text true key ++ bracket))
  pub fresh : new.fresh ≡ true

-- a list of pairs of texts, as their bytes
abbrev pub bytes_of : List (String Global × String Global) → List (List ℕ × List ℕ)
bytes_of us = map (λ u. (string_bytes u.0, string_bytes u.1)) us
