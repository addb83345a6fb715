-- A frame: one value or more, with white space or none around each of them.
use Rattle.std.specs.Prelude.{◌≡◌, ◌≢◌, ◌<◌, ◌≤◌, ⊤, ℕ, max, List, [], ◌∷◌, ◌++◌, length, take}
use Rattle.cf_json.specs.Grammar.{Tree, null, boolean, number, text, array, object, Place, Space, Value, Ends, depth}
use Rattle.cf_json.specs.Spans.{max_depth}
use Rattle.cf_json.specs.declared.fault.Fault.{Fault}
use Rattle.cf_json.specs.declared.fault.Fault.TheVariants.{NotJson, TooDeep, Memory}

-- another number does not begin here by its minus
abbrev pub NoMinus : List ℕ → Type 0
NoMinus [] = ⊤
NoMinus (x ∷ xs) = x ≢ 45

-- what may stand at once behind a value: behind a number nothing that goes on with it, and no other number
abbrev pub Apart : Tree → List ℕ → Type 0
Apart (number n) r = Ends r × NoMinus r
Apart null r = ⊤
Apart (boolean b) r = ⊤
Apart (text c) r = ⊤
Apart (array ps) r = ⊤
Apart (object ps) r = ⊤

-- these values up to the end, and where they stand
abbrev pub Values : List Tree → List Place → List ℕ → Type 0
Values [] places s = (places ≡ []) × Space s []
Values (t ∷ ts) places s =
    (s1 s2 : List ℕ) × (others : List Place) × Space s s1 × Value t s1 s2 × Apart t s2 × Values ts others s2
    × (places ≡ (length s1, length s2) ∷ others)

-- the text is a frame of these values
abbrev pub IsFrame : List ℕ → List Tree → Type 0
IsFrame s ts = (ts ≢ []) × (places : List Place) × Values ts places s

-- the depth of the deepest value
abbrev pub frame_depth : List Tree → ℕ
frame_depth [] = 0
frame_depth (t ∷ ts) = max (depth t) (frame_depth ts)

-- a text that a frame begins with, but no frame whose values nest no deeper than is read
abbrev pub OnlyDeepFrame : List ℕ → Type 0
OnlyDeepFrame start =
    ((rest : List ℕ) × (ts : List Tree) × IsFrame (start ++ rest) ts)
    × ((rest : List ℕ) (ts : List Tree) → IsFrame (start ++ rest) ts → max_depth < frame_depth ts)

-- some beginning of the text is one
abbrev pub BeginsTooDeepFrame : List ℕ → Type 0
BeginsTooDeepFrame s = (n : ℕ) × OnlyDeepFrame (take n s)

-- what each fault says of a text that is read as a frame
abbrev pub RefusesFrame : List ℕ → Fault → Type 0
RefusesFrame s (NotJson p) =
    (p ≤ length s) × ((ts : List Tree) → IsFrame s ts → ⊥) × (BeginsTooDeepFrame s → ⊥)
RefusesFrame s (TooDeep p) =
    (p ≤ length s) × ((ts : List Tree) → IsFrame s ts → max_depth < frame_depth ts) × BeginsTooDeepFrame s
RefusesFrame s Memory = ⊤
