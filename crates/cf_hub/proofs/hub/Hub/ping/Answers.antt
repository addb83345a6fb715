-- One session is met (`met_agrees`, `ping_seen`): what `tick_one` promises of the table is said of the hub.
use Rattle.std.proofs.Common.{◌∙◌, [], sym, ap, refl}
use Rattle.cf_hub.specs.Hub.{Node, Pings, counted, one_if}
use Rattle.cf_hub.specs.Turns.{gets_turn}
use Rattle.cf_hub.proofs.Bounds.{bounded_both}
use Rattle.cf_hub.proofs.Mets.{met_agrees, ping_seen}
use Rattle.cf_hub.proofs.hub.Hub.ping.Goals as goal

pub invariant_of-self : goal.invariant_of-self
invariant_of-self c = (
  met_agrees c.tick_one-step.result.fate [] c.args.session c.self.inside.sessions c.tick_one-step.new.sessions
      c.self.inside.rows c.self.invariant.0 c.tick_one-step.ensures.others c.tick_one-step.ensures.offs
      c.settle.new.rows c.settle.ensures,
  bounded_both c.args.session c.self.inside.sessions c.tick_one-step.new.sessions c.self.invariant.1
      (Pings c.tick_one-step.result.refused c.args.now) c.tick_one-step.ensures.here c.tick_one-step.ensures.others,
)

pub returns-clause-step : goal.returns-clause-step
returns-clause-step c =
    ping_seen c.tick_one-step.result.fate [] c.args.session c.self.inside.sessions c.tick_one-step.new.sessions
    c.self.inside.rows c.self.invariant.0 c.tick_one-step.ensures.others c.tick_one-step.ensures.offs
    c.args.self.now _ (ap (λ (h : Node). h.sessions) (sym c.self.view_is)) refl c.settle.ensures c.args.now
    c.tick_one-step.result.refused c.tick_one-step.ensures.here
    (c.count_more-self-inside.ensures ∙ ap (λ (h : Node). counted (one_if c.tick_one-step.result.refused) h.refused)
    c.self.view_is) (c.add.ensures ∙ ap (λ (h : Node). gets_turn c.args.session h.turns) c.self.view_is)
