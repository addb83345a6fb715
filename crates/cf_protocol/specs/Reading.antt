-- What the reading calls answer, beside what the definitions have.
use Rattle.std.specs.Prelude.{◌≡◌, ⊤, List, ℕ, Result, Ok, Err, Option, Some, None, option_and_then, option_map}
use Rattle.std.specs.Prelude.{option_to_list, [], ◌∷◌, ◌++◌}
use Rattle.std.specs.Borrow.{Bor}
use Rattle.std.specs.List.{AllZip}
use Rattle.std.specs.Option.{IsSomeAnd}
use Rattle.std.specs.String.{string_bytes}
use Rattle.std.specs.declared.string.String.{String}
use Rattle.std.specs.declared.alloc.Global.{Global}
use Rattle.cf_json.specs.Grammar.{Tree}
use Rattle.cf_json.specs.Spans.{Span, IsAt}
use Rattle.cf_protocol.specs.Fields.{Fields, look_up, unless_null, read_or, as_items, the_only}
use Rattle.cf_protocol.specs.declared.read.members.Members.{Members}
use Rattle.cf_protocol.specs.declared.fault.ReadFault.{ReadFault}
use Rattle.cf_protocol.specs.declared.fault.ReadFault.TheVariants.{Bad, Memory}

-- Ok of something that stands for what is there, and Bad only if nothing is
abbrev pub Tells : {T A : Type 0} → (T → A → Type 0) → Result T ReadFault → Option A → Type 0
Tells R (Ok v) o = IsSomeAnd o (R v)
Tells R (Err Bad) o = o ≡ None
Tells R (Err Memory) o = ⊤

-- the same, if what is found is a function of the answer
abbrev pub Answers : {T A : Type 0} → (T → A) → Result T ReadFault → Option A → Type 0
Answers show (Ok v) o = o ≡ Some (show v)
Answers show (Err Bad) o = o ≡ None
Answers show (Err Memory) o = ⊤

-- a member that was found: its key, and the span of its value
abbrev pub IsMember : List ℕ → String Global × Span → List ℕ × Tree → Type 0
IsMember text m f = (string_bytes m.0 ≡ f.0) × IsAt text f.1 m.1

-- these are the members, and where they stand in the text
abbrev pub Reads : List ℕ → List (String Global × Span) → Fields → Type 0
Reads text found fs = AllZip (IsMember text) found fs

-- the members of an object that was read
abbrev pub AreMembers : Members → Type 0
AreMembers m = (fs : Fields) × Reads m.text.now m.found.items fs

-- what is said of the fields that the members stand for
abbrev pub OfFields : Members → (Fields → Type 0) → Type 0
OfFields m P = (fs : Fields) → Reads m.text.now m.found.items fs → P fs

-- a value of the text stands at the span
abbrev pub HasValue : List ℕ → Span → Type 0
HasValue text s = (t : Tree) × IsAt text t s

-- what is said of the value that stands there
abbrev pub OfValue : List ℕ → Span → (Tree → Type 0) → Type 0
OfValue text s P = (t : Tree) → IsAt text t s → P t

-- where a value stands, if one is there
abbrev pub Finds : List ℕ → Option Span → Option Tree → Type 0
Finds text None o = o ≡ None
Finds text (Some s) o = IsSomeAnd o (λ t. IsAt text t s)

abbrev pub present_at : List ℕ → Fields → Option Tree
present_at k fs = option_and_then unless_null (look_up k fs)

-- the items of a list, none if it isn't there
abbrev pub items_at : List ℕ → Fields → Option (List Tree)
items_at k fs = read_or [] as_items (present_at k fs)

abbrev pub Stand : List ℕ → List Span → List Tree → Type 0
Stand text spans ts = AllZip (λ s t. IsAt text t s) spans ts

-- ---- one key of several

-- what the members are read as under these keys, of those that they have
abbrev pub each_under : {K A : Type 0} → (K → Tree → Option A) → List (Bor (List ℕ) × K) → Fields → List (Option A)
each_under read [] fs = []
each_under read (k ∷ ks) fs =
    option_to_list (option_map (read k.1) (present_at k.0.now fs)) ++ each_under read ks fs

abbrev pub with_value : {K : Type 0} → K → Tree → Option (K × Tree)
with_value k t = Some (k, t)

-- what the one of these keys that has a value stands for, and that value
unfoldable pub the_key : {K : Type 0} → List (Bor (List ℕ) × K) → Fields → Option (K × Tree)
the_key ks fs = the_only (each_under with_value ks fs)

-- that key, and where its value stands; Bad if no key has one, or several have
abbrev pub Chooses : {K : Type 0} → List ℕ → Result (K × Span) ReadFault → Option (K × Tree) → Type 0
Chooses text (Ok r) o = (t : Tree) × IsAt text t r.1 × (o ≡ Some (r.0, t))
Chooses text (Err Bad) o = o ≡ None
Chooses text (Err Memory) o = ⊥
