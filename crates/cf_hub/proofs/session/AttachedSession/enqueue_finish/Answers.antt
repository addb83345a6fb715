-- By whether the subscription ends there: the texts said are those of the definition, one behind the other.
use Rattle.std.proofs.Common.{rules, ◌≡◌, ◌∙◌, List, Bool, [], ◌∷◌, ◌++◌, subst, sym, true, false, if◌then◌else◌, ◌||◌}
use Rattle.cf_queue.specs.OutQueue.{Item, Text}
use Rattle.cf_hub.specs.Session.{state_of}
use Rattle.cf_hub.specs.Wordings.{plain, end_text}
use Rattle.cf_hub.specs.Reply.{answer_notes, finish_texts}
use Rattle.cf_hub.specs.WantOfMemory.{SaysAll}
use Rattle.cf_hub.proofs.Finishing.{append_nil}
use Rattle.cf_hub.proofs.Notes.{all_said, one_said}
use Rattle.cf_hub.proofs.session.AttachedSession.enqueue_finish.Goals as goal

pub returns-then-not-ends-clause-state : goal.returns-then-not-ends-clause-state
returns-then-not-ends-clause-state c =
    let not_short : c.args.answered.released.insufficient ≡ false = search rules in
    subst (λ (r : Bool). SaysAll r plain (finish_texts c.args.channel.now c.args.answered) (state_of c.args.self.now)
    (state_of c.enqueue_answer-refused.new.self)) (sym c.step.ensures.refused)
    (subst (λ (t : Bool). SaysAll c.enqueue_answer-refused.result plain
    (answer_notes c.args.channel.now c.args.answered ++ (if t then Text (end_text c.args.channel.now) ∷ [] else []))
    (state_of c.args.self.now) (state_of c.enqueue_answer-refused.new.self)) (sym not_short)
    (subst (λ (ns : List Item). SaysAll c.enqueue_answer-refused.result plain ns (state_of c.args.self.now)
    (state_of c.enqueue_answer-refused.new.self))
    (sym (append_nil (answer_notes c.args.channel.now c.args.answered))) c.enqueue_answer-refused.ensures.state))

pub returns-clause-state : goal.returns-clause-state
returns-clause-state c =
    let short : c.args.answered.released.insufficient ≡ true = search rules in
    subst (λ (r : Bool). SaysAll r plain (finish_texts c.args.channel.now c.args.answered) (state_of c.args.self.now)
    (state_of c.say-end.new.self)) (sym c.step-2.ensures.refused)
    (subst (λ (t : Bool). SaysAll (c.enqueue_answer-refused.result || c.say-end.result) plain
    (answer_notes c.args.channel.now c.args.answered ++ (if t then Text (end_text c.args.channel.now) ∷ [] else []))
    (state_of c.args.self.now) (state_of c.say-end.new.self)) (sym short)
    (all_said plain c.enqueue_answer-refused.result c.say-end.result (answer_notes c.args.channel.now c.args.answered)
    (Text (end_text c.args.channel.now) ∷ []) (state_of c.args.self.now)
    (state_of c.enqueue_answer-refused.new.self) (state_of c.say-end.new.self)
    c.enqueue_answer-refused.ensures.state
    (one_said plain c.say-end.result (Text (end_text c.args.channel.now)) (state_of c.enqueue_answer-refused.new.self)
    (state_of c.say-end.new.self) (c.say-end.ensures.state (end_text c.args.channel.now) c.end_text.ensures))))
