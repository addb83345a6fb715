use Rattle.std.proofs.Common.{map, take}
use Rattle.cf_protocol.specs.Written.{publication, as_it_is}
use Rattle.cf_protocol.specs.Writing.{AddsItems}
use Rattle.cf_protocol.proofs.write.outgoing.write_publications.Given as goal

abbrev pub invariant-loop-publication : goal.invariant-loop-publication
invariant-loop-publication l =
    AddsItems l.initial.writer l.writer (map (publication as_it_is) (take l.publication-index l.publications.items))
