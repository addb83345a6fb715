use Rattle.std.proofs.Common.{◌≡◌, drop}
use Rattle.cf_model.specs.Keys.{offset_of}
use Rattle.cf_stream.proofs.keys.RecentKeys.offset_of.Given as goal

abbrev pub invariant-loop-i : goal.invariant-loop-i
invariant-loop-i l = offset_of l.key (drop l.i l.self.items) ≡ offset_of l.key l.self.items
