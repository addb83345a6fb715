-- An object that is read by its members.
use Rattle.std.proofs.Common.{◌≡◌, ℕ, List, [], Option, Some, None, refl}
use Rattle.std.specs.Prelude.{codes}
use Rattle.std.specs.Option.{IsSomeAnd}
use Rattle.std.specs.declared.string.String.{String}
use Rattle.std.specs.declared.alloc.Global.{Global}
use Prim.Native.String.{String as Name}
use Rattle.cf_json.specs.Grammar.{Tree}
use Rattle.cf_json.specs.Spans.{Span}
use Rattle.cf_protocol.specs.Fields.{Fields, ◌>>=◌, as_object, as_items, object_as, objects, present, read_all, read_or}
use Rattle.cf_protocol.specs.Reading.{Reads, items_at}
use Rattle.cf_protocol.proofs.Standing.{some_and}

-- the fields that the members of a value stand for
pub record IsObject (text : List ℕ) (ms : List (String Global × Span)) (t : Tree) : Type 0 where
  pub fields : Fields
  pub is : as_object t ≡ Some fields
  pub reads : Reads text ms fields

pub object_by : (text : List ℕ) (ms : List (String Global × Span)) (t : Tree)
    → IsSomeAnd (as_object t) (λ fs. Reads text ms fs) → IsObject text ms t
object_by text ms t h = let p = some_and (as_object t) (λ fs. Reads text ms fs) h in
    record { fields = p.0; is = p.1; reads = p.2 }

by_items : {A : Type 0} (read : Tree → Option A) (o : Option Tree)
    → read_or [] (λ t. as_items t >>= read_all read) o ≡ (read_or [] as_items o >>= read_all read)
by_items read None = refl
by_items read (Some t) = refl

-- a list of objects is read by its items
pub objects_by_items : {A : Type 0} (f : Fields → Option A) (fs : Fields) (k : Name)
    → objects f fs k ≡ (items_at (codes k) fs >>= read_all (object_as f))
objects_by_items f fs k = by_items (object_as f) (present fs k)
