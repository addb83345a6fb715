use Rattle.std.proofs.Common.{◌≡◌, ◌++◌, map}
use Rattle.cf_client.specs.AppItem.{published}
use Rattle.cf_client.specs.Shown.{shown_item}
use Rattle.cf_client.proofs.event.pass_all.Given as goal

abbrev pub invariant-loop-publication : goal.invariant-loop-publication
invariant-loop-publication l =
    map shown_item l.events.items ≡ map shown_item l.fn.events.items ++ map (published l.channel l.epoch) l.yielded
