-- A subscription from its read to its reply, as the code has it.
use Rattle.std.specs.Prelude.{◌≡◌, ◌+◌, ◌||◌, ◌∷◌, ◌++◌, [], if◌then◌else◌, ℕ, is_some, length, map, List, Option}
use Rattle.std.specs.Prelude.{Some, None}
use Rattle.cf_queue.specs.OutQueue.{Item, Text}
use Rattle.cf_recovery.specs.ArrivalBuffer.{ArrivalBuffer, IsRun, ended_at, places}
use Rattle.cf_model.specs.Recovery.{falls_short}
use Rattle.cf_stream.specs.declared.answer.Recovery.{Recovery}
use Rattle.cf_model.specs.Sessions.{Ready, SessionState, finished, put_sub}
use Rattle.cf_hub.specs.Subscriptions.{reading_of}
use Rattle.cf_hub.specs.Wordings.{Held, end_text, held, push_text, releasing, reply_text}
use Rattle.cf_hub.specs.declared.reply.Answered.{Answered}
use Rattle.cf_hub.specs.declared.subscription.Progress.{Progress}
use Rattle.cf_hub.specs.declared.subscription.Progress.TheVariants as code

-- the stream was read for it
abbrev pub was_read : Recovery → Progress → Progress
was_read r (code.Asked id since waiting) = code.Ready id (is_some since) r waiting
was_read r (code.Ready id was recovery waiting) = code.Ready id was recovery waiting
was_read r (code.On at behind_at) = code.On at behind_at

-- where the subscription stands after its reply and what follows it
abbrev pub stands : Answered → Progress
stands a =
    code.On
    (record
    { epoch = a.recovery.position.epoch; offset = a.recovery.position.offset + length a.released.run.items }) None

-- the reply of a subscription that was ready, and what follows it
pub record Answers (a : Answered) (old : Progress) : Type 0 where
  pub kept : ArrivalBuffer
  pub was : old ≡ code.Ready a.id a.was_recovering a.recovery kept
  pub is_run : IsRun kept a.recovery.position a.released.run.items
  pub short : a.released.insufficient
      ≡ (kept.overflow || falls_short (places kept.arrived) (ended_at a.recovery.position))

abbrev pub AnswersIn : Answered → Option Progress → Type 0
AnswersIn a None = ⊥
AnswersIn a (Some old) = Answers a old

-- the same for a session: its channel's subscription was ready, and stands behind the reply and the run now, or is over
pub record IsAnswered (a : Answered) (c : List ℕ) (old new : SessionState Held Item) : Type 0 where
  pub kept : ArrivalBuffer
  pub was : old.subs c ≡ Ready a.id a.was_recovering (reading_of a.recovery) (held kept a.recovery.publications.items)
  pub is_run : IsRun kept a.recovery.position a.released.run.items
  pub ends : a.released.insufficient ≡ (kept.overflow || falls_short (places kept.arrived) (reading_of a.recovery))
  pub put : new
      ≡ put_sub c (finished (releasing a.released.run.items) (reading_of a.recovery)
      (held kept a.recovery.publications.items)) old

-- the reply, and the pushes of the run
abbrev pub answer_notes : List ℕ → Answered → List Item
answer_notes c a =
    Text (reply_text a.id a.was_recovering (reading_of a.recovery) a.recovery.publications.items)
    ∷ map (λ x. Text (push_text c x)) a.released.run.items

-- and the unsubscribe push if something is missing then
abbrev pub finish_texts : List ℕ → Answered → List Item
finish_texts c a = answer_notes c a ++ (if a.released.insufficient then Text (end_text c) ∷ [] else [])
