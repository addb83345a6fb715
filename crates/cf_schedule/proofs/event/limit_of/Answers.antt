-- With a minus in front the limit is the least's, and without one the most's.
use Rattle.std.proofs.Common.{arith, Some, None}
use Rattle.std.proofs.lemmas.Str.Pattern.{strip_prefix_char}
use Rattle.cf_schedule.proofs.Limits.{limit_signed, limit_plain}
use Rattle.cf_schedule.proofs.event.limit_of.Goals as goal

pub returns-in-Some : goal.returns-in-Some
returns-in-Some c =
    let s = c.args.text.now in
    limit_signed s c.in-Some.digits.now c.least_of.result
    (strip_prefix_char 45 s (Some c.in-Some.digits) c.in-Some.ensures.cases (omega arith)) c.least_of.ensures

pub returns-in-None : goal.returns-in-None
returns-in-None c =
    let s = c.args.text.now in
    limit_plain s c.most_of.result (strip_prefix_char 45 s None c.in-None.ensures.cases (omega arith)) c.most_of.ensures
