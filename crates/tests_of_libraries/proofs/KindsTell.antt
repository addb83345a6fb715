-- What the kind of a value tells of it.
use Rattle.std.proofs.Common.{◌≡◌, ℕ, List, true, false, refl}
use Rattle.cf_json.specs.Grammar.{Tree, null, boolean, number, text, array, object, Parts}
use Rattle.cf_json.specs.Kinds.{kind_of}
use Rattle.cf_json.specs.declared.kinds.Kind.TheVariants.{Object, Array, Text, Number}

pub is_object : (t : Tree) → kind_of t ≡ Object → (ps : Parts) × (t ≡ object ps)
is_object null e = absurd cc
is_object (boolean true) e = absurd cc
is_object (boolean false) e = absurd cc
is_object (number n) e = absurd cc
is_object (text c) e = absurd cc
is_object (array ps) e = absurd cc
is_object (object ps) e = (ps, refl)

pub is_array : (t : Tree) → kind_of t ≡ Array → (ps : Parts) × (t ≡ array ps)
is_array null e = absurd cc
is_array (boolean true) e = absurd cc
is_array (boolean false) e = absurd cc
is_array (number n) e = absurd cc
is_array (text c) e = absurd cc
is_array (array ps) e = (ps, refl)
is_array (object ps) e = absurd cc

pub is_text : (t : Tree) → kind_of t ≡ Text → (c : List ℕ) × (t ≡ text c)
is_text null e = absurd cc
is_text (boolean true) e = absurd cc
is_text (boolean false) e = absurd cc
is_text (number n) e = absurd cc
is_text (text c) e = (c, refl)
is_text (array ps) e = absurd cc
is_text (object ps) e = absurd cc

pub is_number : (t : Tree) → kind_of t ≡ Number → (n : List ℕ) × (t ≡ number n)
is_number null e = absurd cc
is_number (boolean true) e = absurd cc
is_number (boolean false) e = absurd cc
is_number (number n) e = (n, refl)
is_number (text c) e = absurd cc
is_number (array ps) e = absurd cc
is_number (object ps) e = absurd cc
