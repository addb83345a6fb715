-- The loop keeps that the members still to be looked at answer as all do.
use Rattle.std.proofs.Common.{◌≡◌, length, map}
use Rattle.std.specs.List.{list_any}
use Rattle.std.specs.Str.{bytes_eq}
use Rattle.cf_json.specs.Members.{entry_of}
use Rattle.cf_json.proofs.fields.has_key.Given as goal

abbrev pub invariant-loop-member : goal.invariant-loop-member
invariant-loop-member l =
    list_any (λ e. bytes_eq l.key e.0) (map entry_of l.rest)
    ≡ list_any (λ e. bytes_eq l.key e.0) (map entry_of l.members)

abbrev pub decreases-loop-member : goal.decreases-loop-member
decreases-loop-member l = length l.rest
