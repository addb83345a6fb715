-- Remarks: lines that begin with `#` and a space. (This project's own format.)
use Rattle.std.specs.Prelude.{◌≡◌, ◌≢◌, ◌<◌, ℕ, List, [], ◌∷◌, ◌++◌, flat_map, codes, decimal, get_or, length}

-- no byte of it is a line feed
abbrev pub IsOneLine : List ℕ → Type 0
IsOneLine text = (i : ℕ) → i < length text → get_or text i 0 ≢ 10

abbrev pub AreOneLine : List (List ℕ) → Type 0
AreOneLine [] = Unit {0}
AreOneLine (t ∷ ts) = IsOneLine t × AreOneLine ts

abbrev pub remark : List ℕ → List ℕ
remark text = codes "# " ++ text ++ 10 ∷ []

-- the texts of remarks, each on a line of its own
pub record AreRemarks (bytes : List ℕ) : Type 0 where
  pub texts : List (List ℕ)
  pub one_line : AreOneLine texts
  pub lines : bytes ≡ flat_map remark texts

-- what stands above the remarks of an event: its number and its line
abbrev pub heading : ℕ → List ℕ → List ℕ
heading number line = decimal number ++ (codes ": " ++ line)

-- the first remark has this text
abbrev pub BeginsWith : List ℕ → List ℕ → Type 0
BeginsWith text remarks = (rest : List ℕ) × (remarks ≡ remark text ++ rest)
