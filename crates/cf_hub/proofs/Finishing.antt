-- A reply and what follows it are said.
use Rattle.std.proofs.Common.{◌≡◌, inl, inr, ◌&&◌, ◌+◌, length, ℕ, not, Bool, true, false, if◌then◌else◌, None, List}
use Rattle.std.proofs.Common.{[], ◌∷◌, ◌++◌, refl, sym, ap, ◌∙◌, subst}
use Rattle.cf_protocol.specs.Datum.{Placed}
use Rattle.cf_queue.specs.OutQueue.{Item, Text}
use Rattle.cf_hub.specs.declared.fate.Fate.TheVariants as fate
use Rattle.cf_hub.specs.declared.reply.Answered.{Answered}
use Rattle.cf_hub.specs.Delivery.{fate_or}
use Rattle.cf_hub.specs.Finish.{FinishesAt}
use Rattle.cf_hub.specs.Reply.{IsAnswered, answer_notes}
use Rattle.cf_hub.specs.Rows.{off_after}
use Rattle.cf_model.specs.Sessions.{Subscription, Off, Asked, Ready, On, SessionState, is_ready, closes, finish_notes}
use Rattle.cf_model.specs.Sessions.{is_off, no_memory, push, put_sub, says}
use Rattle.cf_hub.specs.Subscriptions.{reading_of}
use Rattle.cf_hub.specs.WantOfMemory.{SaysAll}
use Rattle.cf_hub.specs.Wordings.{Held, held, end_text, no_publication, plain, releasing, texts}
use Rattle.cf_hub.proofs.States.{all_said_off, ends_off, puts_off}

-- the code says texts in one way, whatever they are about
says_same : (p : Placed) (missed run : List Placed) (ns : List Item) (a : SessionState Held Item)
    → says (texts p missed run) ns a ≡ says plain ns a
says_same p missed run [] a = refl
says_same p missed run (n ∷ ns) a = says_same p missed run ns (push plain n a)

pub said_as : (run : List Placed) (r : Bool) (ns : List Item) (a b : SessionState Held Item) → SaysAll r plain ns a b
    → SaysAll r (releasing run) ns a b
said_as run r ns a b (inl e) = inl (e ∙ sym (says_same no_publication [] run ns a))
said_as run r ns a b (inr h) =
    inr (
      h.0,
      record {
        first = h.1.first;
        rest = h.1.rest;
        all = h.1.all;
        was_open = ap (λ (s : SessionState Held Item). s.closed) (says_same no_publication [] run h.1.first a)
            ∙ h.1.was_open;
        closed = h.1.closed ∙ ap (closes (plain.close no_memory)) (sym (says_same no_publication [] run h.1.first a));
      },
    )

pub append_nil : (ns : List Item) → ns ++ [] ≡ ns
append_nil [] = refl
append_nil (n ∷ ns) = ap (λ ms. n ∷ ms) (append_nil ns)

-- nothing to finish
pub not_ready : (r : Bool) (c : List ℕ) (a b : SessionState Held Item) (x : Subscription Held) → is_ready x ≡ false
    → b ≡ a → FinishesAt r c x a b
not_ready r c a b Off e h = h
not_ready r c a b (Asked id since k) e h = h
not_ready r c a b (Ready id was x k) e h = absurd (cc)
not_ready r c a b (On at behind_at) e h = h

module _ (a : Answered) (c : List ℕ) (old mid : SessionState Held Item) (h : IsAnswered a c old mid) where
  abbrev held_now : Held
  held_now = held h.kept a.recovery.publications.items

  abbrev tail : Bool → List Item
  tail short = if short then Text (end_text c) ∷ [] else []

  pub finish_state : (r : Bool) (b : SessionState Held Item) (short : Bool) → a.released.insufficient ≡ short
      → SaysAll r plain (answer_notes c a ++ (if short then Text (end_text c) ∷ [] else [])) mid b
      → FinishesAt r c (old.subs c) old b
  finish_state r b short e said =
      subst (λ (x : Subscription Held). FinishesAt r c x old b) (sym h.was) (record {
        run = a.released.run.items;
        is_run = h.is_run;
        said = subst (λ (s : SessionState Held Item). SaysAll r (releasing a.released.run.items)
            (finish_notes (releasing a.released.run.items) c a.id a.was_recovering (reading_of a.recovery) held_now) s
            b) h.put
            (subst (λ (t : Bool). SaysAll r (releasing a.released.run.items)
            (answer_notes c a ++ (if t then Text (end_text c) ∷ [] else [])) mid b) (sym e ∙ h.ends)
            (said_as a.released.run.items r (answer_notes c a ++ tail short) mid b said));
      })

  was_on : is_off (old.subs c) ≡ false
  was_on = ap is_off h.was

  mid_off : (short : Bool) → a.released.insufficient ≡ short → (d : List ℕ)
      → is_off (mid.subs d) ≡ off_after (if short then fate.Ended else fate.Passed) c d (is_off (old.subs d))
  mid_off true e d =
      ap (λ (s : SessionState Held Item). is_off (s.subs d)) h.put
      ∙ ap (λ (t : Bool). is_off ((put_sub c (if t then Off
      else On (record {
        epoch = a.recovery.position.epoch;
        offset = a.recovery.position.offset + length a.released.run.items;
      }) None) old).subs d)) (sym h.ends ∙ e)
      ∙ ends_off c d old
  mid_off false e d =
      ap (λ (s : SessionState Held Item). is_off (s.subs d)) h.put
      ∙ ap (λ (t : Bool). is_off ((put_sub c (if t then Off
      else On (record {
        epoch = a.recovery.position.epoch;
        offset = a.recovery.position.offset + length a.released.run.items;
      }) None) old).subs d)) (sym h.ends ∙ e)
      ∙ puts_off c d (On (record {
        epoch = a.recovery.position.epoch;
        offset = a.recovery.position.offset + length a.released.run.items;
      }) None) old refl was_on

  same_closed : mid.closed ≡ old.closed
  same_closed = ap (λ (s : SessionState Held Item). s.closed) h.put

  pub finish_offs : (r : Bool) (b : SessionState Held Item) (short : Bool) → a.released.insufficient ≡ short
      → (ns : List Item) → SaysAll r plain ns mid b
      → (d : List ℕ) → is_off (b.subs d) ≡ off_after (fate_or old b (if short then fate.Ended else fate.Passed)) c d
      (is_off (old.subs d))
  finish_offs r b short e ns said d =
      all_said_off c d plain ns r mid b (if short then fate.Ended else fate.Passed) (is_off (old.subs d)) said
      (mid_off short e d)
      ∙ ap (λ (t : Bool). off_after (if not t && b.closed then fate.Closed
      else (if short then fate.Ended else fate.Passed)) c d (is_off (old.subs d))) same_closed
