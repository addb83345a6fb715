-- States of a session: when they are the same, and which channels are off after a call.
use Rattle.std.proofs.Common.{◌≡◌, ◌⊎◌, inl, inr, ℕ, ◌&&◌, ◌+◌, not, Bool, true, false, if◌then◌else◌, Option, List, []}
use Rattle.std.proofs.Common.{◌∷◌, ◌++◌, refl, sym, ap, ◌∙◌, subst}
use Rattle.std.specs.Prelude.{nat_le, sum_by}
use Rattle.std.specs.Cmp.Lexicographic.{bytes_decides}
use Rattle.std.specs.Str.{bytes_eq}
use Rattle.cf_protocol.specs.Position.{Position}
use Rattle.cf_model.specs.Recovery.{Verdict, Drop, Pass, Insufficient, verdict}
use Rattle.cf_hub.specs.declared.fate.Fate.{Fate}
use Rattle.cf_hub.specs.declared.fate.Fate.TheVariants as fate
use Rattle.cf_model.specs.Sessions.{Subscription, Off, Asked, Ready, On, SessionState, Wording, put_sub, push, says}
use Rattle.cf_model.specs.Sessions.{closes, closes_now, comes, come_at, by_verdict, is_off, is_unfinished, most_waiting}
use Rattle.cf_model.specs.Sessions.{no_memory, slow}
use Rattle.cf_hub.specs.WantOfMemory.{Serves, ClosesWith, GivesUp, SaysAll, without_buffer}
use Rattle.cf_hub.specs.Delivery.{fate_of, fate_or, sub_fate, verdict_fate}
use Rattle.cf_hub.specs.Rows.{off_after}

pub state_is : {B N : Type 0} (a b : SessionState B N) → ((c : List ℕ) → a.subs c ≡ b.subs c) → a.notes ≡ b.notes
    → a.closed ≡ b.closed → a ≡ b
state_is a b s n c = λ i. record { subs = λ d. s d i; notes = n i; closed = c i }

-- a call that closes nothing
stays : (c d : List ℕ) (t : Bool) (f : Fate) (x : Bool) → x ≡ off_after f c d x
    → x ≡ off_after (if not t && t then fate.Closed else f) c d x
stays c d true f x h = h
stays c d false f x h = h

end_by : {B : Type 0} (t : Bool) (s : Subscription B) → is_off (if t then Off else s) ≡ (if t then true else is_off s)
end_by true s = refl
end_by false s = refl

abbrev pushed : {B N : Type 0} → Wording B N → N → Bool → Bool → SessionState B N → SessionState B N
pushed w n shut fits l =
    if shut then l else if fits then record l { notes = l.notes ++ n ∷ [] } else closes (w.close slow) l

-- a session that is closed says nothing more
pub push_shut : {B N : Type 0} (w : Wording B N) (n : N) (b : SessionState B N) → b.closed ≡ true → push w n b ≡ b
push_shut w n b e = by_value b.closed e
  where
    by_value : (t : Bool) → t ≡ true → (if t then b
        else if nat_le (sum_by w.weight b.notes + w.weight n) most_waiting then record b { notes = b.notes ++ n ∷ [] }
        else closes (w.close slow) b) ≡ b
    by_value true h = refl
    by_value false h = absurd (cc)

pub says_shut : {B N : Type 0} (w : Wording B N) (ns : List N) (b : SessionState B N) → b.closed ≡ true
    → says w ns b ≡ b
says_shut w [] b e = refl
says_shut w (n ∷ ns) b e = ap (says w ns) (push_shut w n b e) ∙ says_shut w ns b e

module _ {B N : Type 0} (c d : List ℕ) where
  put_by : (t : Bool) → (t ≡ true → d ≡ c) → (s : Subscription B) (a : SessionState B N) → is_off s ≡ is_off (a.subs c)
      → is_off (if t then s else a.subs d) ≡ is_off (a.subs d)
  put_by true e s a h = subst (λ j. is_off s ≡ is_off (a.subs j)) (sym (e refl)) h
  put_by false e s a h = refl

  put_off : (s : Subscription B) (a : SessionState B N) → is_off s ≡ is_off (a.subs c)
      → is_off ((put_sub c s a).subs d) ≡ is_off (a.subs d)
  put_off s a h = put_by (bytes_eq d c) ((bytes_decides d c).0) s a h

  push_by : (shut fits : Bool) (w : Wording B N) (n : N) (l : SessionState B N) (f : Fate) (z : Bool) → l.closed ≡ shut
      → is_off (l.subs d) ≡ off_after f c d z
      → is_off ((pushed w n shut fits l).subs d) ≡ off_after
      (if not shut && (pushed w n shut fits l).closed then fate.Closed else f) c d z
  push_by true fits w n l f z e h = h
  push_by false false w n l f z e h = refl
  push_by false true w n l f z e h =
      subst (λ t. is_off (l.subs d) ≡ off_after (if t then fate.Closed else f) c d z) (sym e) h

  push_off : (w : Wording B N) (n : N) (l : SessionState B N) (f : Fate) (z : Bool)
      → is_off (l.subs d) ≡ off_after f c d z
      → is_off ((push w n l).subs d) ≡ off_after (if not l.closed && (push w n l).closed then fate.Closed else f) c d z
  push_off w n l f z h = push_by l.closed (nat_le (sum_by w.weight l.notes + w.weight n) most_waiting) w n l f z refl h

  verdict_off : (w : Wording B N) (q : Position) (behind_at : Option ℕ) (v : Verdict) (p : Position)
      (a : SessionState B N)
      → a.subs c ≡ On p behind_at
      → is_off ((by_verdict w c q behind_at v a).subs d)
      ≡ off_after (if not a.closed && (by_verdict w c q behind_at v a).closed then fate.Closed else verdict_fate v) c d
      (is_off (a.subs d))
  verdict_off w q behind_at Drop p a s = stays c d a.closed fate.Dropped (is_off (a.subs d)) refl
  verdict_off w q behind_at Pass p a s =
      push_off w (w.place c q) (put_sub c (On q behind_at) a) fate.Passed (is_off (a.subs d))
      (put_off (On q behind_at) a (sym (ap is_off s)))
  verdict_off w q behind_at Insufficient p a s =
      push_off w (w.end c) (put_sub c Off a) fate.Ended (is_off (a.subs d)) (end_by (bytes_eq d c) (a.subs d))

  come_off : (w : Wording B N) (q : Position) (s : Subscription B) (a : SessionState B N) → a.subs c ≡ s
      → is_off ((come_at w c q s a).subs d) ≡ off_after
      (if not a.closed && (come_at w c q s a).closed then fate.Closed else sub_fate q s) c d (is_off (a.subs d))
  come_off w q Off a e = stays c d a.closed fate.Dropped (is_off (a.subs d)) refl
  come_off w q (Asked id since b) a e =
      put_off (Asked id since (w.with_one q b)) a (sym (ap is_off e))
      ∙ stays c d a.closed fate.Kept (is_off (a.subs d)) refl
  come_off w q (Ready id was r b) a e =
      put_off (Ready id was r (w.with_one q b)) a (sym (ap is_off e))
      ∙ stays c d a.closed fate.Kept (is_off (a.subs d)) refl
  come_off w q (On p behind_at) a e = verdict_off w q behind_at (verdict p q) p a e

  moved_off : (w : Wording B N) (q : Position) (a b : SessionState B N) → b ≡ comes w c q a
      → is_off (b.subs d) ≡ off_after (fate_of c q a b) c d (is_off (a.subs d))
  moved_off w q a b e =
      subst (λ (l : SessionState B N). is_off (l.subs d) ≡ off_after (fate_of c q a l) c d (is_off (a.subs d))) (sym e)
      (come_off w q (a.subs c) a refl)

  -- a session that was closed by a call has no channel
  pub closed_off : (f : Fate) (n : N) (a b : SessionState B N) → ClosesWith n a b
      → is_off (b.subs d) ≡ off_after (fate_or a b f) c d (is_off (a.subs d))
  closed_off f n a b h =
      subst (λ (l : SessionState B N). is_off (l.subs d) ≡ off_after (fate_or a l f) c d (is_off (a.subs d)))
      (sym h.closed)
      (subst (λ t. true ≡ off_after (if not t && true then fate.Closed else f) c d (is_off (a.subs d))) (sym h.was_open)
      refl)

  without_by : (w : Wording B N) (q : Position) (s : Subscription B) (a : SessionState B N) → a.subs c ≡ s
      → is_unfinished s ≡ true
      → is_off ((put_sub c (without_buffer w s) a).subs d)
      ≡ off_after (if not a.closed && a.closed then fate.Closed else sub_fate q s) c d (is_off (a.subs d))
  without_by w q Off a e u = absurd (cc)
  without_by w q (Asked id since b) a e u =
      put_off (Asked id since (w.given_up b)) a (sym (ap is_off e))
      ∙ stays c d a.closed fate.Kept (is_off (a.subs d)) refl
  without_by w q (Ready id was r b) a e u =
      put_off (Ready id was r (w.given_up b)) a (sym (ap is_off e))
      ∙ stays c d a.closed fate.Kept (is_off (a.subs d)) refl
  without_by w q (On p behind_at) a e u = absurd (cc)

  given_off : (w : Wording B N) (q : Position) (a b : SessionState B N) → GivesUp w c a b
      → is_off (b.subs d) ≡ off_after (fate_of c q a b) c d (is_off (a.subs d))
  given_off w q a b h =
      subst (λ (l : SessionState B N). is_off (l.subs d) ≡ off_after (fate_of c q a l) c d (is_off (a.subs d)))
      (sym h.given_up) (without_by w q (a.subs c) a refl h.waits)

  -- which channels are off after a delivery
  pub served_off : (refused : Bool) (w : Wording B N) (q : Position) (a b : SessionState B N)
      → Serves refused w c (comes w c q) a b → is_off (b.subs d) ≡ off_after (fate_of c q a b) c d (is_off (a.subs d))
  served_off refused w q a b (inl h) = moved_off w q a b h
  served_off refused w q a b (inr (_, inl h)) = closed_off (sub_fate q (a.subs c)) (w.close no_memory) a b h
  served_off refused w q a b (inr (_, inr h)) = given_off w q a b h

  -- ---- what is said after a subscription changed

  one_off : (w : Wording B N) (n : N) (a b : SessionState B N) (f : Fate) (z : Bool) → b ≡ push w n a
      → is_off (a.subs d) ≡ off_after f c d z → is_off (b.subs d) ≡ off_after (fate_or a b f) c d z
  one_off w n a b f z e h =
      subst (λ (l : SessionState B N). is_off (l.subs d) ≡ off_after (fate_or a l f) c d z) (sym e)
      (push_off w n a f z h)

  said_closed : (w : Wording B N) (n : N) (a b : SessionState B N) (f : Fate) (z : Bool) → ClosesWith n a b
      → is_off (b.subs d) ≡ off_after (fate_or a b f) c d z
  said_closed w n a b f z h =
      subst (λ (l : SessionState B N). is_off (l.subs d) ≡ off_after (fate_or a l f) c d z) (sym h.closed)
      (subst (λ t. true ≡ off_after (if not t && true then fate.Closed else f) c d z) (sym h.was_open) refl)

  -- one text more, or the close where memory is refused
  pub said_off : (w : Wording B N) (n m : N) (refused : Bool) (a b : SessionState B N) (f : Fate) (z : Bool)
      → (b ≡ push w n a) ⊎ ((refused ≡ true) × ClosesWith m a b)
      → is_off (a.subs d) ≡ off_after f c d z → is_off (b.subs d) ≡ off_after (fate_or a b f) c d z
  said_off w n m refused a b f z (inl e) h = one_off w n a b f z e h
  said_off w n m refused a b f z (inr e) h = said_closed w m a b f z e.1

  pub ends_off : (a : SessionState B N) → is_off ((put_sub c Off a).subs d)
      ≡ off_after fate.Ended c d (is_off (a.subs d))
  ends_off a = end_by (bytes_eq d c) (a.subs d)

  pub puts_off : (s : Subscription B) (a : SessionState B N) → is_off s ≡ false → is_off (a.subs c) ≡ false
      → is_off ((put_sub c s a).subs d) ≡ is_off (a.subs d)
  puts_off s a e h = put_off s a (e ∙ sym h)

  -- ---- several texts

  says_open : (w : Wording B N) (ns : List N) (a : SessionState B N) → (says w ns a).closed ≡ false → a.closed ≡ false
  says_open w ns a e = by_value a.closed refl
    where
      by_value : (t : Bool) → a.closed ≡ t → a.closed ≡ false
      by_value true is =
          absurd (let f : true ≡ false = sym is ∙ ap (λ (l : SessionState B N). l.closed) (sym (says_shut w ns a is))
          ∙ e in cc)
      by_value false is = is

  fate_shut : (f : Fate) (a b : SessionState B N) → b.closed ≡ false → fate_or a b f ≡ f
  fate_shut f a b e = ap (λ t. if not a.closed && t then fate.Closed else f) e ∙ by_value a.closed
    where
      by_value : (t : Bool) → (if not t && false then fate.Closed else f) ≡ f
      by_value true = refl
      by_value false = refl

  says_off : (w : Wording B N) (ns : List N) (a : SessionState B N) (f : Fate) (z : Bool)
      → is_off (a.subs d) ≡ off_after f c d z → is_off ((says w ns a).subs d)
      ≡ off_after (fate_or a (says w ns a) f) c d z
  says_off w [] a f z h = h ∙ ap (λ g. off_after g c d z) (sym (unchanged a.closed))
    where
      unchanged : (t : Bool) → (if not t && t then fate.Closed else f) ≡ f
      unchanged true = refl
      unchanged false = refl
  says_off w (n ∷ ns) a f z h = by_value (λ g. says_off w ns (push w n a) f z g) (push w n a).closed refl
    where
      by_value : (is_off ((push w n a).subs d) ≡ off_after f c d z
          → is_off ((says w ns (push w n a)).subs d) ≡ off_after (fate_or (push w n a) (says w ns (push w n a)) f) c d
          z)
          → (t : Bool) → (push w n a).closed ≡ t → is_off ((says w ns (push w n a)).subs d)
          ≡ off_after (fate_or a (says w ns (push w n a)) f) c d z
      by_value rest true is =
          subst (λ (l : SessionState B N). is_off (l.subs d) ≡ off_after (fate_or a l f) c d z)
          (sym (says_shut w ns (push w n a) is)) (push_off w n a f z h)
      by_value rest false is =
          let was : a.closed ≡ false = says_open w (n ∷ []) a is in
          let here : is_off ((push w n a).subs d) ≡ off_after f c d z =
          push_off w n a f z h ∙ ap (λ g. off_after g c d z) (fate_shut f a (push w n a) is) in
          rest here ∙ ap (λ t. off_after (if not t && (says w ns (push w n a)).closed then fate.Closed else f) c d z)
          (is ∙ sym was)

  pub all_said_off : (w : Wording B N) (ns : List N) (refused : Bool) (a b : SessionState B N) (f : Fate) (z : Bool)
      → SaysAll refused w ns a b → is_off (a.subs d) ≡ off_after f c d z
      → is_off (b.subs d) ≡ off_after (fate_or a b f) c d z
  all_said_off w ns refused a b f z (inl e) h =
      subst (λ (l : SessionState B N). is_off (l.subs d) ≡ off_after (fate_or a l f) c d z) (sym e)
      (says_off w ns a f z h)
  all_said_off w ns refused a b f z (inr (_, g)) h =
      closed_by (w.close no_memory) a (says w g.first a) b f z (says_open w g.first a g.was_open) g.closed
    where
      closed_by : (n : N) (a x b : SessionState B N) (f : Fate) (z : Bool) → a.closed ≡ false → b ≡ closes n x
          → is_off (b.subs d) ≡ off_after (fate_or a b f) c d z
      closed_by n a x b f z was e =
          subst (λ (l : SessionState B N). is_off (l.subs d) ≡ off_after (fate_or a l f) c d z) (sym e)
          (subst (λ t. true ≡ off_after (if not t && true then fate.Closed else f) c d z) (sym was) refl)

  -- closing turns all off
  pub closed_now_off : (n : N) (a b : SessionState B N) (f : Fate) → b ≡ closes_now n a
      → is_off (b.subs d) ≡ off_after (fate_or a b fate.Passed) c d (is_off (a.subs d))
  closed_now_off n a b f e =
      subst (λ (l : SessionState B N). is_off (l.subs d) ≡ off_after (fate_or a l fate.Passed) c d (is_off (a.subs d)))
      (sym e) (by_value a.closed refl)
    where
      by_value : (t : Bool) → a.closed ≡ t → is_off ((if t then a else closes n a).subs d)
          ≡ off_after (if not a.closed && (if t then a else closes n a).closed then fate.Closed else fate.Passed) c d
          (is_off (a.subs d))
      by_value true is =
          ap (λ t. off_after (if not t && t then fate.Closed else fate.Passed) c d (is_off (a.subs d))) (sym is)
      by_value false is =
          ap (λ t. off_after (if not t && true then fate.Closed else fate.Passed) c d (is_off (a.subs d))) (sym is)
