-- A text without room in an open queue is slow for it, by the lemma.
use Rattle.std.proofs.Common.{◌≡◌, ◌∙◌, ap, refl, rules, sym, length}
use Rattle.cf_queue.proofs.Slow.{slow}
use Rattle.cf_queue.proofs.queue.OutQueue.push.Goals as goal

pub returns-then-not-has_room-clause-slow : goal.returns-then-not-has_room-clause-slow
returns-then-not-has_room-clause-slow c =
    let counted : c.len-len.result ≡ length c.args.text = search (rules, c.len-len.ensures) in
    let is_open = sym (ap (λ q. q.closed) c.self.view_is) ∙ c.if-self.false in
    ((λ _. slow c.args.text c.args.self.now is_open counted c.has_room.ensures c.if-not-has_room.true), (λ _. refl))
