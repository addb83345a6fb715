use Rattle.std.proofs.Common.{◌≡◌, ◌≤◌, length}
use Rattle.cf_json.specs.Squeeze.{kept}
use Rattle.cf_json.specs.declared.squeeze.SqueezeMode.TheVariants.{Between}
use Rattle.cf_json.proofs.squeeze.is_compact.Given as goal

abbrev pub invariant-loop-byte : goal.invariant-loop-byte
invariant-loop-byte l =
    record {
      same : kept Between l.rest ≡ l.rest → kept Between l.text ≡ l.text;
      shorter : length l.rest ≤ length l.text;
    }

abbrev pub decreases-loop-byte : goal.decreases-loop-byte
decreases-loop-byte l = length l.rest
