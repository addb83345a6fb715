-- Reading the members of an object by their keys.
-- (RFC 8259, section 4. What an absent member counts as, and the ranges, are this project's own profile.)
use Rattle.std.specs.Prelude.{ℕ, nat_le, ℤ, pos, negsuc, int_le, List, [], ◌∷◌, ◌++◌, Bool, false, ◌&&◌}
use Rattle.std.specs.Prelude.{if◌then◌else◌, Option, Some, None, option_map, option_to_list, option_and_then, codes}
use Rattle.std.specs.Str.{bytes_eq}
use Prim.Native.String.{String as Name}
use Rattle.cf_json.specs.Grammar.{Tree, null, boolean, number, text as string, array, object}
use Rattle.cf_json.specs.Characters.{characters}
use Rattle.cf_json.specs.Integers.{whole_of, signed_of}
pub use Rattle.cf_json.specs.Members.{Fields, members_onto, members_of, items_of}
use Rattle.cf_protocol.specs.Epoch.{epoch_of}
use Rattle.cf_protocol.specs.Position.{Position}

-- What is read as None is unreadable, and so is all that it stands in.
infixr 5 ◌>>=◌
abbrev pub ◌>>=◌ : {A B : Type 0} → Option A → (A → Option B) → Option B
r >>= f = option_and_then f r

abbrev pub both : {A : Type 0} → Option A → Option (List A) → Option (List A)
both r rs = r >>= λ x. option_map (λ xs. x ∷ xs) rs

-- each of the list under f, if f reads them all
abbrev pub read_all : {A B : Type 0} → (A → Option B) → List A → Option (List B)
read_all f [] = Some []
read_all f (x ∷ xs) = both (f x) (read_all f xs)

-- ---- values by their kinds

abbrev pub as_text : Tree → Option (List ℕ)
as_text (string s) = characters s
as_text t = None

abbrev pub as_flag : Tree → Option Bool
as_flag (boolean b) = Some b
as_flag t = None

abbrev pub within : ℕ → ℕ → ℕ → Option ℕ
within low high n = if nat_le low n && nat_le n high then Some n else None

-- a whole number from low to high
abbrev pub as_whole : ℕ → ℕ → Tree → Option ℕ
as_whole low high (number s) = whole_of s >>= within low high
as_whole low high t = None

-- a whole number of 32 bits with a sign
abbrev pub is_limit : ℤ → Bool
is_limit z = int_le (negsuc 2147483647) z && int_le z (pos 2147483647)

abbrev pub as_limit : Tree → Option ℤ
as_limit (number s) = signed_of s >>= λ z. if is_limit z then Some z else None
as_limit t = None

abbrev pub max_u32 : ℕ
max_u32 = 4294967295

abbrev pub max_u64 : ℕ
max_u64 = 18446744073709551615

-- ---- members by their keys

-- None: no object, or one with a key that has no characters
abbrev pub as_object : Tree → Option Fields
as_object (object ps) = members_of ps
as_object t = None

-- an object, read by f
abbrev pub object_as : {A : Type 0} → (Fields → Option A) → Tree → Option A
object_as f t = as_object t >>= f

abbrev pub as_items : Tree → Option (List Tree)
as_items (array ps) = Some (items_of ps)
as_items t = None

abbrev pub look_up : List ℕ → Fields → Option Tree
look_up k [] = None
look_up k (f ∷ fs) = if bytes_eq k f.0 then Some f.1 else look_up k fs

-- the member with this key
abbrev pub member : Fields → Name → Option Tree
member r k = look_up (codes k) r

abbrev pub unless_null : Tree → Option Tree
unless_null null = None
unless_null t = Some t

-- the same, if `null` counts as absent
abbrev pub present : Fields → Name → Option Tree
present r k = option_and_then unless_null (member r k)

-- what it is read as, and x if nothing stands
abbrev pub read_or : {A : Type 0} → A → (Tree → Option A) → Option Tree → Option A
read_or x read None = Some x
read_or x read (Some t) = read t

abbrev pub text : Fields → Name → Option (List ℕ)
text r k = read_or [] as_text (present r k)

abbrev pub flag : Fields → Name → Option Bool
flag r k = read_or false as_flag (present r k)

abbrev pub whole : ℕ → Fields → Name → Option ℕ
whole high r k = read_or 0 (as_whole 0 high) (present r k)

abbrev pub limit : Fields → Name → Option ℤ
limit r k = read_or (pos 0) as_limit (present r k)

-- a list of objects, each read by f
abbrev pub objects : {A : Type 0} → (Fields → Option A) → Fields → Name → Option (List A)
objects f r k = read_or [] (λ t. as_items t >>= read_all (object_as f)) (present r k)

-- an object read by f, or none
abbrev pub object_or_none : {A : Type 0} → (Fields → Option A) → Fields → Name → Option (Option A)
object_or_none f r k = read_or None (λ t. option_map Some (object_as f t)) (present r k)

-- what is no epoch is read as the empty one
abbrev pub position : Fields → Option Position
position r =
    whole max_u64 r "offset" >>= λ offset. text r "epoch" >>= λ epoch. Some
    (record { epoch = epoch_of epoch; offset = offset })

-- ---- one of several keys

-- what each key of a table is read as, of those that the object has
abbrev pub each_of : {A : Type 0} → List (Name × (Tree → Option A)) → Fields → List (Option A)
each_of [] r = []
each_of (m ∷ ms) r = option_to_list (option_map m.1 (present r m.0)) ++ each_of ms r

abbrev pub the_only : {A : Type 0} → List (Option A) → Option A
the_only [] = None
the_only (x ∷ []) = x
the_only (x ∷ y ∷ ys) = None
