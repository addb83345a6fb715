-- One session is met (`met_agrees`, `met_seen_at`): what `finish_one` promises of the table is said of the hub.
use Rattle.std.proofs.Common.{◌∙◌, ℕ, Option, sym, ap, refl}
use Rattle.cf_hub.specs.Hub.{Node, counted, one_if}
use Rattle.cf_hub.specs.Rows.{sub_in}
use Rattle.cf_hub.specs.Session.{Attached}
use Rattle.cf_model.specs.Sessions.{is_ready}
use Rattle.cf_hub.proofs.Bounds.{bounded_both}
use Rattle.cf_hub.proofs.Hubs.{seen}
use Rattle.cf_hub.proofs.Mets.{met_agrees, met_seen_at}
use Rattle.cf_hub.specs.Finish.{FinishesAt}
use Rattle.cf_hub.proofs.hub.Hub.finish.Goals as goal

pub invariant_of-self : goal.invariant_of-self
invariant_of-self c = (
  met_agrees c.finish_one-found.result.1.fate c.args.channel.now c.args.session c.self.inside.sessions
      c.finish_one-found.new.sessions c.self.inside.rows c.self.invariant.0 c.finish_one-found.ensures.others
      c.finish_one-found.ensures.offs
      c.settle.new.rows c.settle.ensures,
  bounded_both c.args.session c.self.inside.sessions c.finish_one-found.new.sessions c.self.invariant.1
      _ c.finish_one-found.ensures.here c.finish_one-found.ensures.others,
)

pub returns-clause-session : goal.returns-clause-session
returns-clause-session c =
    met_seen_at c.finish_one-found.result.1.fate c.args.channel.now c.args.session c.self.inside.sessions
    c.finish_one-found.new.sessions c.self.inside.rows c.self.invariant.0 c.finish_one-found.ensures.others
    c.finish_one-found.ensures.offs
    c.args.self.now _ (ap (λ (h : Node). h.sessions) (sym c.self.view_is)) refl c.settle.ensures
    (λ g hit. FinishesAt hit c.args.channel.now (sub_in (g c.args.session) c.args.channel.now))
    c.finish_one-found.result.1.refused c.finish_one-found.ensures.here
    (c.count_more-self-inside.ensures ∙ ap (λ (h : Node). counted (one_if c.finish_one-found.result.1.refused)
    h.refused) c.self.view_is)

pub returns-clause-found : goal.returns-clause-found
returns-clause-found c =
    c.finish_one-found.ensures.found ∙ ap (λ (g : ℕ → Option Attached). is_ready
    (sub_in (g c.args.session) c.args.channel.now))
    (sym (seen c.args.self.now c.self.inside.sessions (ap (λ (h : Node). h.sessions) (sym c.self.view_is))))
