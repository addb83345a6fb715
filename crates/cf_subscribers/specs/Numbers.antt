-- Numbers by name, as a map keeps them.
use Rattle.std.specs.Prelude.{◌≡◌, ℕ, List, Option}
use Rattle.std.specs.BTreeMap.{BTreeMap, get_by_text}
use Rattle.std.specs.Map.{update}
use Rattle.std.specs.Str.{bytes_eq}
use Rattle.std.specs.declared.alloc.Global.{Global}
use Rattle.std.specs.declared.string.String.{String}

abbrev pub NumberMap : Type 0
NumberMap = BTreeMap (String Global) ℕ

-- new has w at the name, and elsewhere what old has
abbrev pub SetsNumber : NumberMap → NumberMap → List ℕ → Option ℕ → Type 0
SetsNumber old new c w = (q : List ℕ) → get_by_text new q ≡ update bytes_eq (get_by_text old) c w q
