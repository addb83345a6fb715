use Rattle.std.proofs.Common.{◌≡◌, ◌≤◌, take, drop}
use Rattle.std.specs.Prelude.{vec_capacity}
use Rattle.cf_stream.proofs.ring.copies.Given as goal

abbrev pub invariant-loop-i : goal.invariant-loop-i
invariant-loop-i l = record {
  copied : l.copies.items ≡ take l.i (drop l.from l.ring.items);
  roomy : l.count ≤ vec_capacity l.copies;
}
