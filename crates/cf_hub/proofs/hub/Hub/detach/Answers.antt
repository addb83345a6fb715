-- The session is taken out of the table and off the rows, and the two agree on what is left, since all its
-- subscriptions are
-- gone.
use Rattle.std.proofs.Common.{◌∙◌, Option, List, [], ℕ, subst, sym, ap, option_map}
use Rattle.cf_subscribers.specs.Follows.{Follow}
use Rattle.cf_hub.specs.declared.fate.Fate.TheVariants as fate
use Rattle.cf_hub.specs.Hub.{Node, attached_in}
use Rattle.cf_hub.specs.Rows.{Agrees, sub_in}
use Rattle.cf_hub.specs.Session.{Attached, attached_of}
use Rattle.cf_model.specs.Sessions.{is_off}
use Rattle.cf_hub.proofs.Walks.{agrees_by}
use Rattle.cf_hub.proofs.Hubs.{seen, seen_in, agrees_shown}
use Rattle.cf_hub.proofs.Bounds.{bounded_gone}
use Rattle.cf_hub.proofs.hub.Hub.detach.Goals as goal

pub invariant_of-self : goal.invariant_of-self
invariant_of-self c = (
  subst (λ (rows : List Follow). Agrees (attached_in c.remove.new.self) rows) (sym c.detach.ensures.removed)
      (agrees_by fate.Closed [] c.args.session (attached_in c.self.inside.sessions) (attached_in c.remove.new.self)
      c.self.inside.rows c.self.invariant.0 (λ d. ap (λ (o : Option Attached). is_off (sub_in o d))
      (ap (option_map attached_of) c.remove.ensures.here))
      (λ j h. ap (option_map attached_of) (c.remove.ensures.others j h))),
  rw c.min-self-inside.ensures (bounded_gone c.args.session c.self.inside.sessions c.remove.new.self c.self.invariant.1
      (ap (option_map attached_of) c.remove.ensures.here)
      (λ j h. ap (option_map attached_of) (c.remove.ensures.others j h))),
)

pub returns-clause-gone : goal.returns-clause-gone
returns-clause-gone c = seen_in c.remove.new.self c.args.session ∙ (ap (option_map attached_of) c.remove.ensures.here)

pub returns-clause-others : goal.returns-clause-others
returns-clause-others c = λ j h.
    seen_in c.remove.new.self j ∙ ap (option_map attached_of) (c.remove.ensures.others j h)
    ∙ ap (λ (g : ℕ → Option Attached). g j) (sym (seen c.args.self.now c.self.inside.sessions
    (ap (λ (h : Node). h.sessions) (sym c.self.view_is))))

pub returns-clause-agrees : goal.returns-clause-agrees
returns-clause-agrees c = agrees_shown c.remove.new.self c.detach.new.self (invariant_of-self c).0
