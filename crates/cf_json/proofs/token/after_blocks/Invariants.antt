use Rattle.std.proofs.Common.{◌≡◌, ◌≤◌, length}
use Rattle.cf_json.specs.declared.token.Within.TheVariants.{Plain}
use Rattle.cf_json.specs.Reading.{text_end}
use Rattle.cf_json.proofs.token.after_blocks.Given as goal

abbrev pub invariant-loop-block : goal.invariant-loop-block
invariant-loop-block l =
    record { same : text_end Plain l.rest ≡ text_end Plain l.text; shorter : length l.rest ≤ length l.text }

abbrev pub decreases-loop-block : goal.decreases-loop-block
decreases-loop-block l = length l.rest
