-- By the part that can't be read: without it the line is no such event, since it could be cut in no other way.
use Rattle.std.proofs.Common.{arith, Some, None, sym, subst}
use Rattle.std.specs.Fmt.{decimal}
use Rattle.cf_schedule.specs.Word.{IsNamespaceName}
use Rattle.cf_schedule.proofs.Spacing.{namespace_lacks, uncut}
use Rattle.cf_schedule.proofs.Lines.{no_size}
use Rattle.cf_schedule.proofs.Refusals.{cut_by, cut_same, refused_name}
use Rattle.cf_schedule.proofs.event.size.Goals as goal

pub returns-in_default : goal.returns-in_default
returns-in_default c =
    λ nodes. no_size nodes c.args.text.now (λ name n h. uncut 61 c.args.text.now name (decimal n)
    (cut_by 61 c.args.text.now (omega arith) None c.in_default.ensures.cases) h.3)

pub returns-in_default-read : goal.returns-in_default-read
returns-in_default-read c = λ nodes. no_size nodes c.args.text.now (λ name n h.
    let cut = cut_same 61 c.args.text.now c.in-Some.name.now c.in-Some.number.now name (decimal n)
    (cut_by 61 c.args.text.now (omega arith) (Some (c.in-Some.name, c.in-Some.number)) c.in-Some.ensures.cases)
    (namespace_lacks name h.0) h.3 in
    c.in_default-read.ensures n h.1 h.2 (sym cut.1))

pub returns-in-Err : goal.returns-in-Err
returns-in-Err c = λ nodes.
    refused_name _ _ _ c.in-Err.ensures.unreadable (λ not_name. no_size nodes c.args.text.now (λ name n h.
    let cut = cut_same 61 c.args.text.now c.in-Some.name.now c.in-Some.number.now name (decimal n)
    (cut_by 61 c.args.text.now (omega arith) (Some (c.in-Some.name, c.in-Some.number)) c.in-Some.ensures.cases)
    (namespace_lacks name h.0) h.3 in
    not_name (subst IsNamespaceName cut.0 h.0)))
