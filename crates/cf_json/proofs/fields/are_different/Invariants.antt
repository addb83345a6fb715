use Rattle.std.proofs.Common.{◌≡◌, length, map}
use Rattle.cf_json.specs.Members.{entry_of}
use Rattle.cf_json.proofs.Lasts.{lasts}
use Rattle.cf_json.proofs.fields.are_different.Given as goal

abbrev pub invariant-loop-first : goal.invariant-loop-first
invariant-loop-first l =
    lasts (map entry_of l.rest) ≡ map entry_of l.rest → lasts (map entry_of l.members) ≡ map entry_of l.members

abbrev pub decreases-loop-first : goal.decreases-loop-first
decreases-loop-first l = length l.rest
