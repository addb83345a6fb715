-- What `next_in` promises is carried over the view, session by session.
use Rattle.std.proofs.Common.{◌≢◌, ℕ, Option, [], sym, ap, subst}
use Rattle.std.specs.Prelude.{IfSome}
use Rattle.cf_hub.specs.Hub.{IsNextTurn, Node, attached_in, waits_in}
use Rattle.cf_hub.specs.Session.{Attached}
use Rattle.cf_hub.proofs.Hubs.{seen}
use Rattle.cf_hub.proofs.Naming.{named_waits}
use Rattle.cf_hub.proofs.hub.Hub.next_with_output.Goals as goal

pub returns-clause-waiting : goal.returns-clause-waiting
returns-clause-waiting c =
    subst (λ (f : ℕ → Option Attached). IfSome c.next_in.result (λ k. waits_in (f k) ≢ []))
    (sym (seen c.args.self.now c.self.inside.sessions (ap (λ (h : Node). h.sessions) (sym c.self.view_is))))
    (subst (λ (k : Option ℕ). IfSome k (λ j. waits_in (attached_in c.self.inside.sessions j) ≢ []))
    (sym c.next_in.ensures.first) (named_waits (attached_in c.self.inside.sessions) c.self.inside.pending.numbers))

pub returns-clause-next : goal.returns-clause-next
returns-clause-next c =
    subst (λ (f : ℕ → Option Attached). IsNextTurn f c.args.self.now.turns c.next_in.new.pending c.next_in.result)
    (sym (seen c.args.self.now c.self.inside.sessions (ap (λ (h : Node). h.sessions) (sym c.self.view_is))))
    (subst (λ (h : Node). IsNextTurn (attached_in c.self.inside.sessions) h.turns c.next_in.new.pending
    c.next_in.result) c.self.view_is c.next_in.ensures)
