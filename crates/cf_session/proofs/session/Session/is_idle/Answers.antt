-- By the stage: one that is ready is idle exactly if no command is left (`idle_when_ready`).
use Rattle.std.proofs.Common.{◌∙◌, ap, sym}
use Rattle.cf_session.specs.Standing.{commands_left, idle_at}
use Rattle.cf_session.proofs.Steps.{idle_when_ready}
use Rattle.cf_session.proofs.session.Session.is_idle.Goals as goal

pub returns-in-Ready : goal.returns-in-Ready
returns-in-Ready c =
    let s = c.args.self.now in
    let at_stage = ap (λ at. idle_at at (commands_left s)) c.in-Ready.is in
    (c.is_empty.ensures ∙ idle_when_ready s.frame.items s.frame.ok.0) ∙ sym at_stage
