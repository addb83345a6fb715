-- The values of the lines with one name.
use Rattle.std.proofs.Common.{◌≡◌, ◌<◌, ℕ, true, List, [], ◌∷◌, length, get_or, drop, Option, None, Some, is_some, Bor}
use Rattle.std.proofs.Common.{refl, sym, ap}
use Rattle.std.proofs.lemmas.List.{drop_more}
use Rattle.httparse.specs.Spans.{span_bytes}
use Rattle.httparse.specs.declared.spans.HeaderSpan.{HeaderSpan}
use Rattle.websocket.specs.Headers.{eq_ignore_case, fields_of}
use Rattle.cf_handshake.specs.Lines.{has_any, has_line, only_of}

-- behind the value that was found
abbrev pub after : Option (Bor (List ℕ)) → List (List ℕ) → List (List ℕ)
after None values = values
after (Some value) values = value.now ∷ values

-- behind a value that was found there is another
pub two_values : (found : Option (Bor (List ℕ))) (all behind : List (List ℕ))
    → is_some found ≡ true → all ≡ after found behind → has_any behind ≡ true → None ≡ only_of all
two_values None all behind found here more = absurd (cc)
two_values (Some value) all [] found here more = absurd (cc)
two_values (Some value) all (other ∷ others) found here more = sym (ap only_of here)

-- a line with the name is among those from it on
pub named_from : (head name : List ℕ) (lines : List HeaderSpan) (i : ℕ) (other : HeaderSpan) → i < length lines
    → eq_ignore_case (span_bytes head (get_or lines i other).name) name ≡ true
    → has_line (fields_of head (drop i lines)) name ≡ true
named_from head name lines i other inside same = rw (drop_more lines i other inside, same) refl
