-- The text of the reply is put together as the definition's, from the recovery that was read.
use Rattle.std.proofs.Common.{ℕ, List, Bool, [], ◌∷◌, subst, sym, map}
use Rattle.cf_queue.specs.OutQueue.{Text}
use Rattle.cf_hub.specs.Session.{state_of}
use Rattle.cf_hub.specs.Wordings.{plain}
use Rattle.cf_protocol.specs.Datum.{Placed}
use Rattle.cf_hub.specs.Reply.{answer_notes}
use Rattle.cf_hub.specs.Subscriptions.{reading_of}
use Rattle.cf_hub.specs.WantOfMemory.{SaysAll}
use Rattle.cf_hub.specs.Wordings.{push_text, reply_text}
use Rattle.cf_hub.proofs.Notes.{all_said, one_said}
use Rattle.cf_hub.proofs.session.AttachedSession.enqueue_answer.Goals as goal

pub returns-clause-state : goal.returns-clause-state
returns-clause-state c =
    let t : List ℕ =
    reply_text c.args.answered.id c.args.answered.was_recovering (reading_of c.args.answered.recovery)
    c.args.answered.recovery.publications.items in
    (all_said plain c.say-first.result c.enqueue_run-second.result (Text t ∷ [])
    (map (λ x. Text (push_text c.args.channel.now x)) c.args.answered.released.run.items)
    (state_of c.args.self.now) (state_of c.say-first.new.self) (state_of c.enqueue_run-second.new.self)
    (one_said plain c.say-first.result (Text t) (state_of c.args.self.now) (state_of c.say-first.new.self)
    (c.say-first.ensures.state t c.reply_text.ensures))
    (subst (λ (xs : List Placed). SaysAll c.enqueue_run-second.result plain
    (map (λ x. Text (push_text c.args.channel.now x)) xs) (state_of c.say-first.new.self)
    (state_of c.enqueue_run-second.new.self)) c.deref.ensures.value c.enqueue_run-second.ensures.state))
