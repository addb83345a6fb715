-- One session is closed: by the lemmas on one session that changes, once where it is taken off its channels and once
-- where it
-- isn't.
use Rattle.std.proofs.Common.{◌∙◌, List, [], subst, sym, ap, refl}
use Rattle.cf_subscribers.specs.Follows.{Follow}
use Rattle.cf_queue.specs.OutQueue.{Close}
use Rattle.cf_hub.specs.declared.fate.Fate.TheVariants as fate
use Rattle.cf_hub.specs.Hub.{Node, attached_in}
use Rattle.cf_hub.specs.Rows.{Agrees}
use Rattle.cf_model.specs.Sessions.{closes_now}
use Rattle.cf_hub.proofs.Bounds.{bounded_move}
use Rattle.cf_hub.proofs.Ones.{one_agrees, one_seen, closes_off, stays_off, opened, shut}
use Rattle.cf_hub.proofs.hub.Hub.close.Goals as goal

pub invariant_of-self : goal.invariant_of-self
invariant_of-self c = (
  subst (λ (rows : List Follow). Agrees (attached_in c.close_one.new.sessions) rows) (sym c.detach-gone.ensures.removed)
      (one_agrees fate.Closed [] c.args.session (closes_now (Close c.args.code)) c.self.inside.sessions
      c.close_one.new.sessions c.self.inside.rows c.self.invariant.0 c.close_one.ensures.here
      c.close_one.ensures.others
      (λ a d e. closes_off c.args.code [] a.state d
      (opened (attached_in c.self.inside.sessions c.args.session) a
      (sym c.close_one.ensures.open ∙ c.if-close_one.true) e))),
  bounded_move c.args.session c.self.inside.sessions c.close_one.new.sessions (closes_now (Close c.args.code))
      c.self.invariant.1 c.close_one.ensures.here c.close_one.ensures.others,
)

pub invariant_of-self-else-close_one : goal.invariant_of-self-else-close_one
invariant_of-self-else-close_one c = (
  one_agrees fate.Passed [] c.args.session (closes_now (Close c.args.code)) c.self.inside.sessions
      c.close_one.new.sessions c.self.inside.rows c.self.invariant.0 c.close_one.ensures.here c.close_one.ensures.others
      (λ a d e. stays_off c.args.code [] a.state d (shut (attached_in c.self.inside.sessions c.args.session) a
      (sym c.close_one.ensures.open ∙ c.if-close_one.false) e)),
  bounded_move c.args.session c.self.inside.sessions c.close_one.new.sessions (closes_now (Close c.args.code))
      c.self.invariant.1 c.close_one.ensures.here c.close_one.ensures.others,
)

pub returns-then-close_one-clause-sessions : goal.returns-then-close_one-clause-sessions
returns-then-close_one-clause-sessions c =
    one_seen fate.Closed [] c.args.session (closes_now (Close c.args.code)) c.self.inside.sessions
    c.close_one.new.sessions c.self.inside.rows c.self.invariant.0 c.close_one.ensures.here
    c.close_one.ensures.others
    (λ a d e. closes_off c.args.code [] a.state d
    (opened (attached_in c.self.inside.sessions c.args.session) a
    (sym c.close_one.ensures.open ∙ c.if-close_one.true) e))
    c.args.self.now _ (ap (λ (h : Node). h.sessions) (sym c.self.view_is)) refl c.detach-gone.ensures.removed

pub returns-else-close_one-clause-sessions : goal.returns-else-close_one-clause-sessions
returns-else-close_one-clause-sessions c =
    one_seen fate.Passed [] c.args.session (closes_now (Close c.args.code)) c.self.inside.sessions
    c.close_one.new.sessions c.self.inside.rows c.self.invariant.0 c.close_one.ensures.here
    c.close_one.ensures.others
    (λ a d e. stays_off c.args.code [] a.state d (shut (attached_in c.self.inside.sessions c.args.session) a
    (sym c.close_one.ensures.open ∙ c.if-close_one.false) e))
    c.args.self.now _ (ap (λ (h : Node). h.sessions) (sym c.self.view_is)) refl refl
