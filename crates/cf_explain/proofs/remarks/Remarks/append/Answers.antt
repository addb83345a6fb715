-- Two lists of remarks make a list of remarks, by `remarks_joined`.
use Rattle.std.proofs.Common.{rules, subst}
use Rattle.cf_explain.specs.Remarks.{AreRemarks}
use Rattle.cf_explain.proofs.Adding.{remarks_joined}
use Rattle.cf_explain.proofs.remarks.Remarks.append.Goals as goal

pub invariant_of-self-2 : goal.invariant_of-self-2
invariant_of-self-2 c =
    subst AreRemarks (search rules) (remarks_joined _ c.args.others.now c.self.invariant c.as_str.ensures.remarks)
