use Rattle.std.proofs.Common.{◌≡◌, ◌≤◌, length}
use Rattle.cf_json.specs.declared.token.Within.TheVariants.{Plain}
use Rattle.cf_json.specs.Reading.{text_end}
use Rattle.cf_json.proofs.token.after_each.Given as goal

abbrev pub invariant-loop-byte : goal.invariant-loop-byte
invariant-loop-byte l =
    record { same : text_end Plain l.rest ≡ text_end Plain l.text; shorter : length l.rest ≤ length l.text }

abbrev pub decreases-loop-byte : goal.decreases-loop-byte
decreases-loop-byte l = length l.rest
