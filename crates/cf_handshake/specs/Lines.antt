-- The lines of a head by their names, and the lists in them. (RFC 9110, 5.1 to 5.3 and 5.6.1.)
use Rattle.std.specs.Prelude.{ℕ, Bool, true, false, cond, ◌==◌, List, [], ◌∷◌, ◌++◌, bytes_eq, Option, None, Some}
use Rattle.std.specs.List.{list_any}
use Rattle.httparse.specs.Grammar.{trim_ows}
use Rattle.httparse.specs.Ascii.{comma}
use Rattle.websocket.specs.Headers.{Fields, eq_ignore_case}
use Rattle.cf_handshake.specs.declared.lines.Case.{Case}
use Rattle.cf_handshake.specs.declared.lines.Case.TheVariants.{Matters, Ignored}

-- the values of the lines with this name, in order; the case of a name doesn't matter
abbrev pub values_of : Fields → List ℕ → List (List ℕ)
values_of [] name = []
values_of (line ∷ lines) name =
    cond (eq_ignore_case line.0 name) (line.1 ∷ values_of lines name) (values_of lines name)

abbrev pub has_any : List (List ℕ) → Bool
has_any [] = false
has_any (value ∷ values) = true

-- a line has this name
abbrev pub has_line : Fields → List ℕ → Bool
has_line lines name = has_any (values_of lines name)

abbrev pub only_of : List (List ℕ) → Option (List ℕ)
only_of [] = None
only_of (value ∷ []) = Some value
only_of (value ∷ other ∷ values) = None

-- the value of the one line with this name: none if there is none, or if there are several
abbrev pub only_value : Fields → List ℕ → Option (List ℕ)
only_value lines name = only_of (values_of lines name)

-- the parts of a list between its commas, of which the first has begun so
abbrev pub parts_from : List ℕ → List ℕ → List (List ℕ)
parts_from part [] = part ∷ []
parts_from part (b ∷ bs) = cond (b == comma) (part ∷ parts_from [] bs) (parts_from (part ++ b ∷ []) bs)

-- two words are the same, as the case of letters matters or is ignored
abbrev pub is_same : Case → List ℕ → List ℕ → Bool
is_same Matters word item = bytes_eq word item
is_same Ignored word item = eq_ignore_case word item

-- a part is the item with white space around it
abbrev pub is_item : Case → List ℕ → List ℕ → Bool
is_item case item part = is_same case (trim_ows part) item

-- a list has the item between its commas
unfoldable pub listed_in : Case → List ℕ → List ℕ → Bool
listed_in case item list = list_any (is_item case item) (parts_from [] list)

-- several lines with one name are one list: one of them has the item
abbrev pub lists : Case → List ℕ → Fields → List ℕ → Bool
lists case item lines name = list_any (listed_in case item) (values_of lines name)
