-- One session changes (`one_agrees`, `one_seen`), and its row goes with its subscription, so rows and sessions agree.
use Rattle.std.proofs.Common.{◌∙◌, not, Option, List, ℕ, subst, sym, ap, refl}
use Rattle.cf_subscribers.specs.Follows.{Follow}
use Rattle.cf_hub.specs.declared.fate.Fate.TheVariants as fate
use Rattle.cf_hub.specs.Hub.{Node, attached_in}
use Rattle.cf_hub.specs.Rows.{Agrees, sub_in}
use Rattle.cf_hub.specs.Session.{Attached}
use Rattle.cf_model.specs.Sessions.{leaves, is_off}
use Rattle.cf_hub.proofs.Hubs.{seen}
use Rattle.cf_hub.proofs.Bounds.{bounded_move}
use Rattle.cf_hub.proofs.Ones.{one_agrees, one_seen, leaves_off}
use Rattle.cf_hub.proofs.hub.Hub.leave.Goals as goal

pub invariant_of-self : goal.invariant_of-self
invariant_of-self c = (
  subst (λ (rows : List Follow). Agrees (attached_in c.leave_one.new.sessions) rows) (sym c.remove.ensures.removed)
      (one_agrees fate.Ended c.args.channel.now c.args.session (leaves c.args.channel.now) c.self.inside.sessions
      c.leave_one.new.sessions c.self.inside.rows c.self.invariant.0 c.leave_one.ensures.here
      c.leave_one.ensures.others (λ a d e. leaves_off c.args.channel.now a.state d)),
  bounded_move c.args.session c.self.inside.sessions c.leave_one.new.sessions (leaves c.args.channel.now)
      c.self.invariant.1 c.leave_one.ensures.here c.leave_one.ensures.others,
)

pub returns-clause-sessions : goal.returns-clause-sessions
returns-clause-sessions c =
    one_seen fate.Ended c.args.channel.now c.args.session (leaves c.args.channel.now) c.self.inside.sessions
    c.leave_one.new.sessions c.self.inside.rows c.self.invariant.0 c.leave_one.ensures.here
    c.leave_one.ensures.others (λ a d e. leaves_off c.args.channel.now a.state d)
    c.args.self.now _ (ap (λ (h : Node). h.sessions) (sym c.self.view_is)) refl c.remove.ensures.removed

pub returns-clause-found : goal.returns-clause-found
returns-clause-found c =
    c.remove.ensures.found ∙ c.self.invariant.0 c.args.channel.now c.args.session
    ∙ ap (λ (g : ℕ → Option Attached). not (is_off (sub_in (g c.args.session) c.args.channel.now)))
    (sym (seen c.args.self.now c.self.inside.sessions (ap (λ (h : Node). h.sessions) (sym c.self.view_is))))
