-- Both ends' views are merged (`merges`), and what was sent is what was received and what the queue still holds.
use Rattle.std.proofs.Common.{◌++◌, ap, sym, ◌∙◌}
use Rattle.cf_link.specs.declared.log.Log.{Log}
use Rattle.cf_link.specs.Link.{End}
use Rattle.cf_link.proofs.Rules.{merges}
use Rattle.cf_link.proofs.ends.settle.Goals as goal

pub absorb-requires-clause-rule : goal.absorb-requires-clause-rule
absorb-requires-clause-rule g c = merges _ _ _ _ c.sender.invariant.1 c.receiver.invariant.1

pub returns : goal.returns
returns g c =
    let held = c.len_as.ensures.rule.1 in
    let one = c.absorb.ensures.rule in
    let sent = ap (λ (v : Log g.row.T.Denot). v.sent) one ∙ ap (λ (e : End g.row.T.Denot). e.items) c.sender.view_is in
    let received =
    ap (λ (v : Log g.row.T.Denot). v.received) one ∙ ap (λ (e : End g.row.T.Denot). e.items) c.receiver.view_is in
    (held.0, sym sent ∙ held.2 ∙ ap (λ l. l ++ held.0) received, held.1)
