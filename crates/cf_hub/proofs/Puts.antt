-- A session's subscriptions, where one of them changes.
use Rattle.std.proofs.Common.{◌≡◌, ◌≢◌, ◌⊎◌, inl, inr, ℕ, ◌&&◌, not, Bool, true, false, cond, if◌then◌else◌, Option}
use Rattle.std.proofs.Common.{Some, None, List, refl, sym, ap, ◌∙◌, option_map}
use Rattle.std.specs.Cmp.Lexicographic.{bytes_decides}
use Rattle.std.specs.Prelude.{OnOk, Result, Ok, Err, ⊤}
use Rattle.std.specs.declared.alloc.AllocError.{AllocError}
use Rattle.std.specs.Str.{bytes_eq}
use Rattle.cf_recovery.specs.ArrivalBuffer.{nothing_kept}
use Rattle.cf_protocol.specs.Datum.{Placed}
use Rattle.cf_protocol.specs.Names.{with}
use Rattle.cf_protocol.specs.Position.{Position}
use Rattle.cf_queue.specs.OutQueue.{OutQueue, Item, Text, Close}
use Rattle.cf_model.specs.Recovery.{Verdict, Drop, Pass, Insufficient, verdict}
use Rattle.cf_recovery.specs.declared.verdict.Verdict.TheVariants as answer
use Rattle.cf_hub.specs.declared.fate.Fate.{Fate}
use Rattle.cf_hub.specs.declared.fate.Fate.TheVariants as fate
use Rattle.cf_hub.specs.declared.subscription.Meets.{Meets}
use Rattle.cf_hub.specs.declared.subscription.Meets.TheVariants as meets
use Rattle.cf_hub.specs.declared.subscription.Met.{Met}
use Rattle.cf_hub.specs.declared.subscription.Progress.{Progress}
use Rattle.cf_hub.specs.declared.subscription.Progress.TheVariants as code
use Rattle.cf_model.specs.Sessions.{Subscription, Off, On, SessionState, begins, put_sub, push, closes, comes, come_at}
use Rattle.cf_model.specs.Sessions.{by_verdict, is_unfinished, no_memory}
use Rattle.cf_hub.specs.WantOfMemory.{Serves, ClosesWith, without_buffer}
use Rattle.cf_hub.specs.Delivery.{fate_of, sub_fate}
use Rattle.cf_hub.specs.Subscriptions.{IsGivenUp, SetsAt, Subscriptions, loses, meeting, progress_at, stands_by, sub_of}
use Rattle.cf_hub.specs.Subscriptions.{takes, verdict_code}
use Rattle.cf_hub.specs.Wordings.{Held, plain, delivering, at_offset, push_text, end_text}
use Rattle.cf_hub.proofs.States.{state_is}
use Rattle.cf_hub.proofs.Notes.{with_queue}

abbrev pub subs_of : Subscriptions → List ℕ → Subscription Held
subs_of m d = sub_of (progress_at m d)

turned : (a b : List ℕ) → bytes_eq a b ≡ bytes_eq b a
turned a b = by_value (bytes_eq a b) (bytes_eq b a) (bytes_decides a b) (bytes_decides b a)
  where
    by_value : (v w : Bool) → (v ≡ true → a ≡ b) × (a ≡ b → v ≡ true) → (w ≡ true → b ≡ a) × (b ≡ a → w ≡ true) → v ≡ w
    by_value true w h k = sym (k.1 (sym (h.0 refl)))
    by_value false true h k = let e = h.1 (sym (k.0 refl)) in absurd (cc)
    by_value false false h k = refl

picked : (b : Bool) (w o : Option Progress) → sub_of (cond b w o) ≡ (if b then sub_of w else sub_of o)
picked true w o = refl
picked false w o = refl

sets_sub : (m n : Subscriptions) (c : List ℕ) (w : Option Progress) → SetsAt m n c w → (q : List ℕ)
    → subs_of n q ≡ with (subs_of m) c (sub_of w) q
sets_sub m n c w h q =
    ap sub_of (h q) ∙ picked (bytes_eq c q) w (progress_at m q)
    ∙ ap (λ b. if b then sub_of w else subs_of m q) (turned c q)

-- one channel is set
pub put_state : (m n : Subscriptions) (c : List ℕ) (w : Option Progress) (q : OutQueue) → SetsAt m n c w
    → with_queue (subs_of n) q ≡ put_sub c (sub_of w) (with_queue (subs_of m) q)
put_state m n c w q h =
    state_is (with_queue (subs_of n) q) (put_sub c (sub_of w) (with_queue (subs_of m) q)) (sets_sub m n c w h) refl refl

-- nothing changes where a channel is set to what it has
pub same_state : (m n : Subscriptions) (c : List ℕ) (q : OutQueue) → SetsAt m n c (progress_at m c)
    → with_queue (subs_of n) q ≡ with_queue (subs_of m) q
same_state m n c q h =
    state_is (with_queue (subs_of n) q) (with_queue (subs_of m) q)
    (λ d. ap sub_of (h d) ∙ by_value d (bytes_eq c d) (bytes_decides c d)) refl refl
  where
    by_value : (d : List ℕ) (t : Bool) → (t ≡ true → c ≡ d) × (c ≡ d → t ≡ true)
        → sub_of (cond t (progress_at m c) (progress_at m d)) ≡ sub_of (progress_at m d)
    by_value d true e = ap (subs_of m) (e.0 refl)
    by_value d false e = refl

-- ---- what a delivery meets

-- the verdict behind what a delivery meets
met_verdict : (v x : Verdict) → meets.On (verdict_code x) ≡ meets.On (verdict_code v) → x ≡ v
met_verdict Drop Drop e = refl
met_verdict Pass Pass e = refl
met_verdict Insufficient Insufficient e = refl
met_verdict Drop Pass e = absurd (cc)
met_verdict Drop Insufficient e = absurd (cc)
met_verdict Pass Drop e = absurd (cc)
met_verdict Pass Insufficient e = absurd (cc)
met_verdict Insufficient Drop e = absurd (cc)
met_verdict Insufficient Pass e = absurd (cc)

fate_met : (q : Position) (o : Option Progress) → meeting q o ≡ meets.Buffer → sub_fate q (sub_of o) ≡ fate.Kept
fate_met q None b = absurd (cc)
fate_met q (Some (code.Asked id since waiting)) b = refl
fate_met q (Some (code.Ready id was recovery waiting)) b = refl
fate_met q (Some (code.On at behind_at)) b = absurd (cc)

not_both : (t : Bool) (f : Fate) → (if not t && t then fate.Closed else f) ≡ f
not_both true f = refl
not_both false f = refl

pub fate_kept : (c : List ℕ) (q : Position) (o : Option Progress) (a b : SessionState Held Item)
    → meeting q o ≡ meets.Buffer → a.subs c ≡ sub_of o → b.closed ≡ a.closed → fate.Kept ≡ fate_of c q a b
fate_kept c q o a b h s e =
    sym (ap (λ t. if not a.closed && t then fate.Closed else sub_fate q (a.subs c)) e
    ∙ not_both a.closed (sub_fate q (a.subs c)) ∙ ap (sub_fate q) s ∙ fate_met q o h)

-- what is said after a subscription changed
spoken : (refused : Bool) (p : Placed) (c : List ℕ) (q : Position) (s : Subscription Held) (n : Item)
    (a mid b : SessionState Held Item)
    → comes (delivering p) c q a ≡ push (delivering p) n (put_sub c s a) → mid ≡ put_sub c s a
    → (b ≡ push (delivering p) n mid) ⊎ ((refused ≡ true) × ClosesWith (Close no_memory) mid b)
    → Serves refused (delivering p) c (comes (delivering p) c q) a b
spoken refused p c q s n a mid b moves is (inl h) = inl (h ∙ ap (push (delivering p) n) is ∙ sym moves)
spoken refused p c q s n a mid b moves is (inr h) =
    inr (
      h.0,
      inl (record {
        was_open = ap (λ (l : SessionState Held Item). l.closed) (sym is) ∙ h.1.was_open;
        closed = h.1.closed ∙ ap (closes (Close no_memory)) is;
      }),
    )

-- nothing was given up by what isn't kept
pub not_given_up : {A B : Type 0} (r : Met) (x : Meets) → r.meets ≡ x → x ≢ meets.Buffer → A ⊎ (IsGivenUp r × B) → A
not_given_up r x e k (inl h) = h
not_given_up r x e k (inr h) = absurd (k (sym e ∙ h.0.0))

module _ (m n : Subscriptions) (c : List ℕ) (q : OutQueue) (e : List ℕ) (p : Placed) where
  taken_at : (o : Option Progress) → meeting (at_offset e p) o ≡ meets.Buffer → SetsAt m n c (option_map (takes e p) o)
      → with_queue (subs_of n) q ≡ come_at (delivering p) c (at_offset e p) (sub_of o) (with_queue (subs_of m) q)
  taken_at None b h = absurd (cc)
  taken_at (Some (code.Asked id since waiting)) b h =
      put_state m n c (Some (takes e p (code.Asked id since waiting))) q h
  taken_at (Some (code.Ready id was recovery waiting)) b h =
      put_state m n c (Some (takes e p (code.Ready id was recovery waiting))) q h
  taken_at (Some (code.On at behind_at)) b h = absurd (cc)

  lost_at : (o : Option Progress) → meeting (at_offset e p) o ≡ meets.Buffer → SetsAt m n c (option_map loses o)
      → with_queue (subs_of n) q ≡ put_sub c (without_buffer (delivering p) (sub_of o)) (with_queue (subs_of m) q)
  lost_at None b h = absurd (cc)
  lost_at (Some (code.Asked id since waiting)) b h = put_state m n c (Some (loses (code.Asked id since waiting))) q h
  lost_at (Some (code.Ready id was recovery waiting)) b h =
      put_state m n c (Some (loses (code.Ready id was recovery waiting))) q h
  lost_at (Some (code.On at behind_at)) b h = absurd (cc)

  waits_at : (o : Option Progress) → meeting (at_offset e p) o ≡ meets.Buffer → is_unfinished (sub_of o) ≡ true
  waits_at None b = absurd (cc)
  waits_at (Some (code.Asked id since waiting)) b = refl
  waits_at (Some (code.Ready id was recovery waiting)) b = refl
  waits_at (Some (code.On at behind_at)) b = absurd (cc)

  -- a publication is kept, or the buffer is given up
  pub kept : (r : Met) → meeting (at_offset e p) (progress_at m c) ≡ meets.Buffer
      → SetsAt m n c (option_map (takes e p) (progress_at m c))
      ⊎ (IsGivenUp r × SetsAt m n c (option_map loses (progress_at m c)))
      → Serves r.refused (delivering p) c (comes (delivering p) c (at_offset e p)) (with_queue (subs_of m) q)
      (with_queue (subs_of n) q)
  kept r b (inl h) = inl (taken_at (progress_at m c) b h)
  kept r b (inr h) =
      inr (h.0.1, inr (record { waits = waits_at (progress_at m c) b; given_up = lost_at (progress_at m c) b h.1 }))

  -- nobody asked for it
  nothing_at : (o : Option Progress) → meeting (at_offset e p) o ≡ meets.Nothing → (option_map (takes e p) o ≡ o)
      × (come_at (delivering p) c (at_offset e p) (sub_of o) (with_queue (subs_of m) q) ≡ with_queue (subs_of m) q)
  nothing_at None b = (refl, refl)
  nothing_at (Some (code.Asked id since waiting)) b = absurd (cc)
  nothing_at (Some (code.Ready id was recovery waiting)) b = absurd (cc)
  nothing_at (Some (code.On at behind_at)) b = absurd (cc)

  -- a finished subscription comes to what its verdict says, and what isn't the next one leaves it where it stands
  record Judged (v : Verdict) (o : Option Progress) : Type 0 where
    pub behind_at : Option ℕ
    pub comes : come_at (delivering p) c (at_offset e p) (sub_of o) (with_queue (subs_of m) q)
        ≡ by_verdict (delivering p) c (at_offset e p) behind_at v (with_queue (subs_of m) q)
    pub passes : v ≡ Pass → option_map (takes e p) o ≡ Some (code.On (at_offset e p) behind_at)
    pub stays : v ≢ Pass → option_map (takes e p) o ≡ o

  judged : (v : Verdict) (o : Option Progress) → meeting (at_offset e p) o ≡ meets.On (verdict_code v) → Judged v o
  judged v None b = absurd (cc)
  judged v (Some (code.Asked id since waiting)) b = absurd (cc)
  judged v (Some (code.Ready id was recovery waiting)) b = absurd (cc)
  judged v (Some (code.On at behind_at)) b =
      let is : verdict at (at_offset e p) ≡ v = met_verdict v (verdict at (at_offset e p)) b in
      record {
        behind_at = behind_at;
        comes = ap (λ x. by_verdict (delivering p) c (at_offset e p) behind_at x (with_queue (subs_of m) q)) is;
        passes = λ y. ap (λ x. Some (code.On (stands_by x at (at_offset e p)) behind_at)) (is ∙ y);
        stays = λ k. ap (λ x. Some (code.On (stands_by x at (at_offset e p)) behind_at)) is
            ∙ ap (λ x. Some (code.On x behind_at)) (stands v k);
      }
    where
      stands : (v : Verdict) → v ≢ Pass → stands_by v at (at_offset e p) ≡ at
      stands Drop k = refl
      stands Pass k = absurd (k refl)
      stands Insufficient k = refl

  as_was : option_map (takes e p) (progress_at m c) ≡ progress_at m c
      → SetsAt m n c (option_map (takes e p) (progress_at m c)) → with_queue (subs_of n) q ≡ with_queue (subs_of m) q
  as_was is h = same_state m n c q (λ d. h d ∙ ap (λ o. cond (bytes_eq c d) o (progress_at m d)) is)

  -- nobody asked for it
  pub unasked : (refused : Bool) → meeting (at_offset e p) (progress_at m c) ≡ meets.Nothing
      → SetsAt m n c (option_map (takes e p) (progress_at m c))
      → Serves refused (delivering p) c (comes (delivering p) c (at_offset e p)) (with_queue (subs_of m) q)
      (with_queue (subs_of n) q)
  unasked refused b h = let at = nothing_at (progress_at m c) b in inl (as_was at.0 h ∙ sym at.1)

  -- it was known
  pub dropped : (refused : Bool) → meeting (at_offset e p) (progress_at m c) ≡ meets.On answer.Drop
      → SetsAt m n c (option_map (takes e p) (progress_at m c))
      → Serves refused (delivering p) c (comes (delivering p) c (at_offset e p)) (with_queue (subs_of m) q)
      (with_queue (subs_of n) q)
  dropped refused b h = let at = judged Drop (progress_at m c) b in
      inl (as_was (at.stays (λ y. absurd (cc))) h ∙ sym at.comes)

  -- it is the next one, and is said
  pub passed : (refused : Bool) (b : SessionState Held Item)
      → meeting (at_offset e p) (progress_at m c) ≡ meets.On answer.Pass
      → SetsAt m n c (option_map (takes e p) (progress_at m c))
      → (b ≡ push (delivering p) (Text (push_text c p)) (with_queue (subs_of n) q))
      ⊎ ((refused ≡ true) × ClosesWith (Close no_memory) (with_queue (subs_of n) q) b)
      → Serves refused (delivering p) c (comes (delivering p) c (at_offset e p)) (with_queue (subs_of m) q) b
  passed refused b is h says =
      let at = judged Pass (progress_at m c) is in
      spoken refused p c (at_offset e p) (On (at_offset e p) at.behind_at) (Text (push_text c p))
      (with_queue (subs_of m) q)
      (with_queue (subs_of n) q) b at.comes
      (put_state m n c (Some (code.On (at_offset e p) at.behind_at)) q
      (λ d. h d ∙ ap (λ o. cond (bytes_eq c d) o (progress_at m d)) (at.passes refl))) says

  -- something before it is missing: the subscription ends, and that is said
  pub ended : (refused : Bool) (l b : SessionState Held Item)
      → meeting (at_offset e p) (progress_at m c) ≡ meets.On answer.Insufficient
      → SetsAt m n c (option_map (takes e p) (progress_at m c))
      → l ≡ put_sub c Off (with_queue (subs_of n) q)
      → (b ≡ push (delivering p) (Text (end_text c)) l) ⊎ ((refused ≡ true) × ClosesWith (Close no_memory) l b)
      → Serves refused (delivering p) c (comes (delivering p) c (at_offset e p)) (with_queue (subs_of m) q) b
  ended refused l b is h left says =
      let at = judged Insufficient (progress_at m c) is in
      spoken refused p c (at_offset e p) Off (Text (end_text c)) (with_queue (subs_of m) q) l b at.comes
      (left ∙ ap (put_sub c Off) (as_was (at.stays (λ y. absurd (cc))) h)) says

-- ---- a subscription begins

pub put_begun : (r : Result ⊤ AllocError) (m n : Subscriptions) (c : List ℕ) (id : ℕ) (since : Option Position)
    (q : OutQueue)
    → OnOk r (SetsAt m n c (Some (code.Asked id since nothing_kept)))
    → OnOk r (with_queue (subs_of n) q ≡ begins plain c id since (with_queue (subs_of m) q))
put_begun (Ok x) m n c id since q h = put_state m n c (Some (code.Asked id since nothing_kept)) q h
put_begun (Err x) m n c id since q h = tt
