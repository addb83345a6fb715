-- One session is met (`met_agrees`, `met_seen`): what `check_one` promises of the table is said of the hub.
use Rattle.std.proofs.Common.{◌∙◌, ℕ, Option, sym, ap, refl}
use Rattle.cf_hub.specs.Hub.{Node, counted, one_if}
use Rattle.cf_hub.specs.Rows.{sub_in}
use Rattle.cf_hub.specs.Session.{Attached}
use Rattle.cf_model.specs.Sessions.{checks}
use Rattle.cf_hub.proofs.Bounds.{bounded_both}
use Rattle.cf_hub.proofs.Hubs.{seen}
use Rattle.cf_hub.proofs.Mets.{met_agrees, met_seen}
use Rattle.cf_hub.specs.Checked.{check_answer}
use Rattle.cf_hub.specs.WantOfMemory.{OrCloses}
use Rattle.cf_hub.specs.Wordings.{plain}
use Rattle.cf_hub.proofs.hub.Hub.check.Goals as goal

pub invariant_of-self : goal.invariant_of-self
invariant_of-self c = (
  met_agrees c.check_one-checked.result.1.fate c.args.channel.now c.args.session c.self.inside.sessions
      c.check_one-checked.new.sessions c.self.inside.rows c.self.invariant.0 c.check_one-checked.ensures.others
      c.check_one-checked.ensures.offs
      c.settle.new.rows c.settle.ensures,
  bounded_both c.args.session c.self.inside.sessions c.check_one-checked.new.sessions c.self.invariant.1
      _ c.check_one-checked.ensures.here c.check_one-checked.ensures.others,
)

pub returns-clause-session : goal.returns-clause-session
returns-clause-session c =
    met_seen c.check_one-checked.result.1.fate c.args.channel.now c.args.session c.self.inside.sessions
    c.check_one-checked.new.sessions c.self.inside.rows c.self.invariant.0 c.check_one-checked.ensures.others
    c.check_one-checked.ensures.offs
    c.args.self.now _ (ap (λ (h : Node). h.sessions) (sym c.self.view_is)) refl c.settle.ensures
    (λ hit. OrCloses hit plain (checks plain c.args.channel.now c.args.top)) c.check_one-checked.result.1.refused
    c.check_one-checked.ensures.here
    (c.count_more-self-inside.ensures ∙ ap (λ (h : Node). counted (one_if c.check_one-checked.result.1.refused)
    h.refused) c.self.view_is)

pub returns-clause-answer : goal.returns-clause-answer
returns-clause-answer c =
    c.check_one-checked.ensures.answer ∙ ap (λ (g : ℕ → Option Attached). check_answer c.args.top
    (sub_in (g c.args.session) c.args.channel.now))
    (sym (seen c.args.self.now c.self.inside.sessions (ap (λ (h : Node). h.sessions) (sym c.self.view_is))))
