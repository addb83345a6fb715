-- A subscription's read and its reply, in a session's state.
use Rattle.std.proofs.Common.{◌≡◌, ◌||◌, ◌+◌, ℕ, Bool, true, false, cond, if◌then◌else◌, Option, Some, None, List}
use Rattle.std.proofs.Common.{length, refl, sym, ap, ◌∙◌, option_map, is_some}
use Rattle.std.specs.Str.{bytes_eq}
use Rattle.cf_queue.specs.OutQueue.{OutQueue, Item}
use Rattle.cf_recovery.specs.ArrivalBuffer.{places}
use Rattle.cf_model.specs.Recovery.{falls_short}
use Rattle.cf_stream.specs.declared.answer.Recovery.{Recovery}
use Rattle.cf_hub.specs.declared.reply.Answered.{Answered}
use Rattle.cf_hub.specs.declared.subscription.Progress.{Progress}
use Rattle.cf_hub.specs.declared.subscription.Progress.TheVariants as code
use Rattle.cf_hub.specs.Reply.{AnswersIn, IsAnswered, stands, was_read}
use Rattle.cf_model.specs.Sessions.{Subscription, Off, On, SessionState, finished, put_sub, reads, read_at}
use Rattle.cf_hub.specs.Subscriptions.{SetsAt, Subscriptions, progress_at, reading_of, sub_of}
use Rattle.cf_hub.specs.Wordings.{Held, held, reading, releasing}
use Rattle.cf_hub.proofs.States.{state_is}
use Rattle.cf_hub.proofs.Notes.{with_queue}
use Rattle.cf_hub.proofs.Puts.{subs_of, put_state, same_state}

pub read_state : (m n : Subscriptions) (c : List ℕ) (r : Recovery) (q : OutQueue)
    → SetsAt m n c (option_map (was_read r) (progress_at m c))
    → with_queue (subs_of n) q ≡ reads (reading r.publications.items) c (reading_of r) (with_queue (subs_of m) q)
read_state m n c r q h = by_sub (progress_at m c) refl
  where
    by_sub : (o : Option Progress) → progress_at m c ≡ o
        → with_queue (subs_of n) q ≡ read_at (reading r.publications.items) c (reading_of r) (subs_of m c)
        (with_queue (subs_of m) q)
    by_sub None e =
        same_state m n c q (λ d. h d ∙ ap (λ o. cond (bytes_eq c d) (option_map (was_read r) o) (progress_at m d)) e
        ∙ ap (λ o. cond (bytes_eq c d) o (progress_at m d)) (sym e))
        ∙ ap (λ o. read_at (reading r.publications.items) c (reading_of r) (sub_of o) (with_queue (subs_of m) q))
        (sym e)
    by_sub (Some (code.Asked id since w)) e =
        put_state m n c (Some (code.Ready id (is_some since) r w)) q
        (λ d. h d ∙ ap (λ o. cond (bytes_eq c d) (option_map (was_read r) o) (progress_at m d)) e)
        ∙ ap (λ o. read_at (reading r.publications.items) c (reading_of r) (sub_of o) (with_queue (subs_of m) q))
        (sym e)
    by_sub (Some (code.Ready id was x w)) e =
        same_state m n c q (λ d. h d ∙ ap (λ o. cond (bytes_eq c d) (option_map (was_read r) o) (progress_at m d)) e
        ∙ ap (λ o. cond (bytes_eq c d) o (progress_at m d)) (sym e))
        ∙ ap (λ o. read_at (reading r.publications.items) c (reading_of r) (sub_of o) (with_queue (subs_of m) q))
        (sym e)
    by_sub (Some (code.On at behind_at)) e =
        same_state m n c q (λ d. h d ∙ ap (λ o. cond (bytes_eq c d) (option_map (was_read r) o) (progress_at m d)) e
        ∙ ap (λ o. cond (bytes_eq c d) o (progress_at m d)) (sym e))
        ∙ ap (λ o. read_at (reading r.publications.items) c (reading_of r) (sub_of o) (with_queue (subs_of m) q))
        (sym e)

pub with_twice : {B N : Type 0} (c : List ℕ) (x y : Subscription B) (s : SessionState B N)
    → put_sub c x (put_sub c y s) ≡ put_sub c x s
with_twice c x y s = state_is (put_sub c x (put_sub c y s)) (put_sub c x s) (λ d. by_value d (bytes_eq d c)) refl refl
  where
    by_value : (d : List ℕ) (t : Bool) → (if t then x else if t then y else s.subs d) ≡ (if t then x else s.subs d)
    by_value d true = refl
    by_value d false = refl

module _ (a : Answered) (c : List ℕ) (m n : Subscriptions) (q : OutQueue) (sets : SetsAt m n c (Some (stands a))) where
  -- the reply of a subscription that stands or is over
  pub answered : (o : Option Progress) → progress_at m c ≡ o → AnswersIn a o → (new : SessionState Held Item)
      → (short : Bool) → a.released.insufficient ≡ short
      → new ≡ (if short then put_sub c Off (with_queue (subs_of n) q) else with_queue (subs_of n) q)
      → IsAnswered a c (with_queue (subs_of m) q) new
  answered None e h new short s is = absurd h
  answered (Some p) e h new short s is =
      record {
        kept = h.kept;
        was = ap sub_of (e ∙ ap Some h.was);
        is_run = h.is_run;
        ends = h.short;
        put = is ∙ by_short short (sym h.short ∙ s);
      }
    where
      held_now : Held
      held_now = held h.kept a.recovery.publications.items

      by_short : (t : Bool) → (h.kept.overflow || falls_short (places h.kept.arrived) (reading_of a.recovery)) ≡ t
          → (if t then put_sub c Off (with_queue (subs_of n) q) else with_queue (subs_of n) q)
          ≡ put_sub c (finished (releasing a.released.run.items) (reading_of a.recovery) held_now)
          (with_queue (subs_of m) q)
      by_short true f =
          ap (λ s. put_sub c Off s) (put_state m n c (Some (stands a)) q sets)
          ∙ with_twice c Off (sub_of (Some (stands a))) (with_queue (subs_of m) q)
          ∙ ap (λ t. put_sub c (if t then Off else On (record
          { epoch = a.recovery.position.epoch; offset = a.recovery.position.offset + length a.released.run.items })
          None) (with_queue (subs_of m) q)) (sym f)
      by_short false f =
          put_state m n c (Some (stands a)) q sets
          ∙ ap (λ t. put_sub c (if t then Off else On (record
          { epoch = a.recovery.position.epoch; offset = a.recovery.position.offset + length a.released.run.items })
          None) (with_queue (subs_of m) q)) (sym f)
