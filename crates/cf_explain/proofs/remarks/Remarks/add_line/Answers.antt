-- A line more keeps the invariant, if it has no line feed: `contains` says that it has none.
use Rattle.std.proofs.Common.{rules, subst}
use Rattle.cf_explain.specs.Remarks.{AreRemarks}
use Rattle.cf_explain.proofs.Adding.{none_found, remark_added}
use Rattle.cf_explain.proofs.remarks.Remarks.add_line.Goals as goal

pub invariant_of-self-2 : goal.invariant_of-self-2
invariant_of-self-2 c =
    let more = remark_added _ c.args.line.now c.self.invariant
    (none_found c.args.line.now c.contains.result c.contains.ensures.cases c.if-contains.false) in
    subst AreRemarks (search rules) more
