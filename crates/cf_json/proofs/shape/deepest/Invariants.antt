use Rattle.std.proofs.Common.{◌≡◌, ◌≤◌, ◌+◌, length}
use Rattle.cf_json.specs.Levels.{deepest}
use Rattle.cf_json.specs.declared.squeeze.SqueezeMode.TheVariants.{Between}
use Rattle.cf_json.proofs.shape.deepest.Given as goal

abbrev pub invariant-loop-byte : goal.invariant-loop-byte
invariant-loop-byte l =
    record {
      same : deepest l.mode l.level l.highest l.rest ≡ deepest Between 0 0 l.text;
      room : l.level + length l.rest ≤ length l.text;
    }

abbrev pub decreases-loop-byte : goal.decreases-loop-byte
decreases-loop-byte l = length l.rest
