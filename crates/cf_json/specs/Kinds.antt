-- The kinds of values.
use Rattle.std.specs.Prelude.{ℕ, true, false, ◌==◌, if◌then◌else◌}
use Rattle.cf_json.specs.Grammar.{Tree, null, boolean, number, text, array, object}
use Rattle.cf_json.specs.declared.kinds.Kind.{Kind}
use Rattle.cf_json.specs.declared.kinds.Kind.TheVariants.{Object, Array, Text, Number, True, False, Null}

abbrev pub kind_of : Tree → Kind
kind_of null = Null
kind_of (boolean true) = True
kind_of (boolean false) = False
kind_of (number n) = Number
kind_of (text c) = Text
kind_of (array ps) = Array
kind_of (object ps) = Object

-- what begins with this byte, if a value does
unfoldable pub kind_from : ℕ → Kind
kind_from x =
    if x == 123 then Object else if x == 91 then Array else if x == 34 then Text
    else if x == 116 then True else if x == 102 then False else if x == 110 then Null
    else Number
