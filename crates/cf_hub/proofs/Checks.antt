-- What a position check makes of a session.
use Rattle.std.proofs.Common.{◌≡◌, ◌≢◌, ◌⊎◌, inl, inr, Bool, true, Option, Some, None, List, ℕ, refl, sym, ap, ◌∙◌}
use Rattle.std.proofs.Common.{subst, option_map, is_some}
use Rattle.cf_protocol.specs.Position.{Position}
use Rattle.cf_queue.specs.OutQueue.{OutQueue, Item, Text, Close}
use Rattle.cf_hub.specs.Checked.{answer_of, check_answer, behind_after, after_check, position_in, stand_of}
use Rattle.cf_model.specs.Recovery.{Checked, Fine, Behind, Ended, position_check}
use Rattle.cf_model.specs.Sessions.{Subscription, Off, Asked, Ready, On, SessionState, by_check, check_at, checks}
use Rattle.cf_model.specs.Sessions.{closes, is_off, no_memory, push, put_sub}
use Rattle.cf_hub.specs.Subscriptions.{SetsAt, Subscriptions, progress_at, sub_of}
use Rattle.cf_hub.specs.WantOfMemory.{ClosesWith, OrCloses}
use Rattle.cf_hub.specs.Wordings.{Held, end_text, plain}
use Rattle.cf_hub.specs.declared.checked.Checked.{Checked as Answer}
use Rattle.cf_hub.specs.declared.checked.Checked.TheVariants as answer
use Rattle.cf_hub.specs.declared.subscription.Progress.{Progress}
use Rattle.cf_hub.specs.declared.subscription.Progress.TheVariants as code
use Rattle.cf_hub.proofs.Notes.{with_queue}
use Rattle.cf_hub.proofs.Puts.{put_state, same_state, subs_of}
use Rattle.cf_hub.proofs.Replies.{with_twice}
use Rattle.cf_hub.proofs.States.{puts_off}

-- what has a place stands
pub is_placed : (x : Subscription Held) → is_some (position_in x) ≡ is_some (stand_of x)
is_placed Off = refl
is_placed (Asked id since b) = refl
is_placed (Ready id was r b) = refl
is_placed (On at behind_at) = refl

one_answer : (u v : Checked) → answer_of u ≡ answer_of v → u ≡ v
one_answer Fine Fine e = refl
one_answer Behind Behind e = refl
one_answer Ended Ended e = refl
one_answer Fine Behind e = absurd (cc)
one_answer Fine Ended e = absurd (cc)
one_answer Behind Fine e = absurd (cc)
one_answer Behind Ended e = absurd (cc)
one_answer Ended Fine e = absurd (cc)
one_answer Ended Behind e = absurd (cc)

module _ (c : List ℕ) (top : Option Position) (m n : Subscriptions) (q : OutQueue) (a : Answer)
    (sets : SetsAt m n c (option_map (after_check a) (progress_at m c))) (is : a ≡ check_answer top (subs_of m c)) where
  abbrev old : SessionState Held Item
  old = with_queue (subs_of m) q

  same : (o : Option Progress) → o ≡ progress_at m c → SetsAt m n c o → with_queue (subs_of n) q ≡ old
  same o e h = same_state m n c q (subst (λ w. SetsAt m n c w) e h)

  -- all is well, or there was nothing to check
  goes_on : (o : Option Progress) → o ≡ progress_at m c → SetsAt m n c (option_map (after_check a) o)
      → a ≡ check_answer top (sub_of o) → a ≢ answer.Ended
      → with_queue (subs_of n) q ≡ check_at plain c top (sub_of o) old
  goes_on None e h is going = same None e h
  goes_on (Some (code.Asked id since waiting)) e h is going = same (Some (code.Asked id since waiting)) e h
  goes_on (Some (code.Ready id was recovery waiting)) e h is going =
      same (Some (code.Ready id was recovery waiting)) e h
  goes_on (Some (code.On at behind_at)) e h is going =
      put_state m n c (Some (code.On at (behind_after a at))) q h ∙ by_answer (position_check top at behind_at) is
    where
      by_answer : (v : Checked) → a ≡ answer_of v → put_sub c (On at (behind_after a at)) old
          ≡ by_check plain c at v old
      by_answer Fine e = ap (λ b. put_sub c (On at (behind_after b at)) old) e
      by_answer Behind e = ap (λ b. put_sub c (On at (behind_after b at)) old) e
      by_answer Ended e = absurd (going e)

  pub checked : a ≢ answer.Ended → with_queue (subs_of n) q ≡ checks plain c top old
  checked going = goes_on (progress_at m c) refl sets is going

  -- it ends, wherever it was found behind
  ends : (o : Option Progress) → SetsAt m n c (option_map (after_check a) o) → a ≡ check_answer top (sub_of o)
      → a ≡ answer.Ended
      → (check_at plain c top (sub_of o) old ≡ push plain (Text (end_text c)) (put_sub c Off old))
      × (put_sub c Off (with_queue (subs_of n) q) ≡ put_sub c Off old)
  ends None h is e = absurd (let other = sym is ∙ e in cc)
  ends (Some (code.Asked id since waiting)) h is e = absurd (let other = sym is ∙ e in cc)
  ends (Some (code.Ready id was recovery waiting)) h is e = absurd (let other = sym is ∙ e in cc)
  ends (Some (code.On at behind_at)) h is e = (
    ap (λ v. by_check plain c at v old) (one_answer (position_check top at behind_at) Ended (sym is ∙ e)),
    ap (put_sub c Off) (put_state m n c (Some (code.On at (behind_after a at))) q h)
        ∙ with_twice c Off (On at (behind_after a at)) old,
  )

  pub left : a ≡ answer.Ended → (mid : SessionState Held Item) → mid ≡ put_sub c Off (with_queue (subs_of n) q)
      → mid ≡ put_sub c Off old
  left e mid h = h ∙ (ends (progress_at m c) sets is e).1

  -- an unsubscribe push is said, or the session is closed
  pub ended : a ≡ answer.Ended → (r : Bool) (mid b : SessionState Held Item)
      → mid ≡ put_sub c Off (with_queue (subs_of n) q)
      → (b ≡ push plain (Text (end_text c)) mid) ⊎ ((r ≡ true) × ClosesWith (Close no_memory) mid b)
      → OrCloses r plain (checks plain c top) old b
  ended e r mid b h (inl says) =
      inl (says ∙ ap (push plain (Text (end_text c))) (left e mid h) ∙ sym (ends (progress_at m c) sets is e).0)
  ended e r mid b h (inr closes_it) =
      inr (
        closes_it.0,
        record {
          was_open = ap (λ (x : SessionState Held Item). x.closed) (sym (left e mid h)) ∙ closes_it.1.was_open;
          closed = closes_it.1.closed ∙ ap (closes (Close no_memory)) (left e mid h);
        },
      )

  -- to be found behind turns nothing off
  stays : (d : List ℕ) (o : Option Progress) → o ≡ progress_at m c → SetsAt m n c (option_map (after_check a) o)
      → is_off (subs_of n d) ≡ is_off (subs_of m d)
  stays d None e h = ap (λ (x : SessionState Held Item). is_off (x.subs d)) (same None e h)
  stays d (Some (code.Asked id since waiting)) e h =
      ap (λ (x : SessionState Held Item). is_off (x.subs d)) (same (Some (code.Asked id since waiting)) e h)
  stays d (Some (code.Ready id was recovery waiting)) e h =
      ap (λ (x : SessionState Held Item). is_off (x.subs d)) (same (Some (code.Ready id was recovery waiting)) e h)
  stays d (Some (code.On at behind_at)) e h =
      ap (λ (x : SessionState Held Item). is_off (x.subs d))
      (put_state m n c (Some (code.On at (behind_after a at))) q h)
      ∙ puts_off c d (On at (behind_after a at)) old refl (ap (λ o. is_off (sub_of o)) (sym e))

  pub still_on : (d : List ℕ) → is_off (subs_of n d) ≡ is_off (subs_of m d)
  still_on d = stays d (progress_at m c) refl sets
