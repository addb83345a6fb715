-- What the laws of JSON texts say, as proofs about texts are given it.
use Rattle.std.specs.Prelude.{◌≡◌, ℕ, List, ◌++◌, Some}
use Rattle.cf_json.specs.Grammar.{Tree, IsText, Value, Stops}
use Rattle.cf_json.specs.Compact.{compact_text, IsRegular}
use Rattle.cf_json.specs.Quoting.{escaped}
use Rattle.cf_json.specs.Characters.{characters}

pub record JsonLaws : Type 0 where
  pub one : (t u : Tree) (s r q : List ℕ) → Value t s r → Stops t r → Value u s q → Stops u q → (t ≡ u) × (r ≡ q)
  pub back : (t : Tree) (r : List ℕ) → IsRegular t → Value t (compact_text t ++ r) r
  pub regular : (t : Tree) (s r : List ℕ) → Value t s r → IsRegular t
  pub is_text : (s : List ℕ) → IsText (escaped s)
  pub read : (s : List ℕ) → characters (escaped s) ≡ Some s
