-- A delivery on its way along the sessions of its channel.
use Rattle.std.proofs.Common.{◌≡◌, ◌≢◌, ◌⊎◌, inl, inr, ℕ, ◌+◌, ◌==◌, ◌≤◌, ◌<◌, not, Bool, true, false, if◌then◌else◌}
use Rattle.std.proofs.Common.{Option, Some, None, List, [], ◌∷◌, ◌++◌, length, arith, refl, sym, ap, ◌∙◌, subst}
use Rattle.std.proofs.Common.{is_some}
use Rattle.std.proofs.lemmas.Bool.Decides.{Decides-eqb, nat_tests}
use Rattle.std.proofs.lemmas.List.{length-append}
use Rattle.cf_protocol.specs.Datum.{Placed}
use Rattle.cf_protocol.specs.Position.{Position}
use Rattle.cf_subscribers.specs.Follows.{AreFollows, follows, sessions_of}
use Rattle.cf_queue.specs.OutQueue.{Item}
use Rattle.cf_hub.specs.declared.fate.Fate.{Fate}
use Rattle.cf_hub.specs.declared.fate.Fate.TheVariants as fate
use Rattle.cf_hub.specs.declared.delivered.Delivered.{Delivered}
use Rattle.cf_hub.specs.Delivery.{fate_at, none, one_more, tally, total}
use Rattle.cf_hub.specs.Hub.{AreNumbered, Node, Brings, Delivers, attached_at, counted, is_in, one_if}
use Rattle.cf_model.specs.Streams.{largest}
use Rattle.cf_hub.specs.Rows.{AgreedBefore, Agrees, off_after, rows_after, sub_in}
use Rattle.cf_hub.specs.Session.{Attached}
use Rattle.cf_model.specs.Sessions.{Subscription, Off, Asked, Ready, On, SessionState, come_at, is_off}
use Rattle.cf_hub.specs.Turns.{Turns, get_turns, gets_turn}
use Rattle.cf_hub.specs.WantOfMemory.{Both}
use Rattle.cf_hub.specs.Wordings.{Held, at_offset, delivering}
use Rattle.cf_hub.proofs.Rows.{has, Once, follows_has, once_sessions, few_sessions}
use Rattle.cf_hub.proofs.Walks.{has_append, middle, off_at, once_before, still_agrees, tally_snoc, tally_same}
use Rattle.cf_hub.proofs.Walks.{total_more, twice}
use Rattle.cf_hub.proofs.Hubs.{counted_both}

abbrev Sessions : Type 0
Sessions = ℕ → Option Attached

-- the sessions that were passed were served, each once, and all others are as they were; the rows stay, and while
-- nothing ended
-- they agree
pub record IsOnItsWay (p : Placed) (c e : List ℕ) (old : Node) (now : Sessions) (refused : ℕ) (pending : Turns)
    (counts : Delivered) (done todo : List ℕ) : Type 0 where
  pub hit : List ℕ
  pub requests : ℕ
  pub few_hit : length hit ≤ requests
  pub hit_met : (k : ℕ) → is_in k hit ≡ true → has k done ≡ true
  pub count : refused ≡ counted requests old.refused
  pub all : sessions_of old.rows c ≡ done ++ todo
  pub untouched : (k : ℕ) → has k done ≡ false → now k ≡ attached_at old k
  pub served : (k : ℕ) → has k done ≡ true → Both (Brings (is_in k hit) c e p) (attached_at old k) (now k)
  pub counted : counts ≡ tally (λ k. fate_at c (at_offset e p) (attached_at old k) (now k)) done none
  pub so_many : total counts ≡ length done
  pub turns : pending ≡ get_turns done old.turns
  pub quiet : counts.ended + counts.closed ≡ 0 → Agrees now old.rows

-- ---- at first

on_none : (p : Placed) (c : List ℕ) (q : Position) (s : Subscription Held) (l : SessionState Held Item) → l.subs c ≡ s
    → is_off s ≡ true → l ≡ come_at (delivering p) c q (l.subs c) l
on_none p c q Off l e h = sym (ap (λ s. come_at (delivering p) c q s l) e)
on_none p c q (Asked id since b) l e h = absurd (cc)
on_none p c q (Ready id was r b) l e h = absurd (cc)
on_none p c q (On at behind_at) l e h = absurd (cc)

-- who does not follow the channel is served by doing nothing
no_subscriber : (refused : Bool) (p : Placed) (c e : List ℕ) (o : Option Attached) → is_off (sub_in o c) ≡ true
    → Both (Brings refused c e p) o o
no_subscriber refused p c e None h = tt
no_subscriber refused p c e (Some a) h = (inl (on_none p c (at_offset e p) (a.state.subs c) a.state refl h), refl)

is_not : (b : Bool) → not b ≡ true → b ≡ false
is_not true h = absurd (cc)
is_not false h = refl

un_not : (b : Bool) → not b ≡ false → b ≡ true
un_not true h = refl
un_not false h = absurd (cc)

within : (n : ℕ) → n ≤ 18446744073709551615 → n ≡ counted 0 n
within n h = omega (arith, h)

pub starts : (p : Placed) (c e : List ℕ) (old : Node) (now : Sessions) (refused : ℕ) (pending : Turns)
    → attached_at old ≡ now → refused ≡ old.refused → pending ≡ old.turns → Agrees now old.rows → refused ≤ largest
    → IsOnItsWay p c e old now refused pending none [] (sessions_of old.rows c)
starts p c e old now refused pending is was had agrees small =
    record {
      hit = [];
      requests = 0;
      few_hit = omega arith;
      hit_met = λ k m. absurd (cc);
      count = within refused small ∙ ap (counted 0) was;
      all = refl;
      untouched = λ k m. ap (λ (g : Sessions). g k) (sym is);
      served = λ k m. absurd (cc);
      counted = refl;
      so_many = refl;
      turns = had;
      quiet = λ _. agrees;
    }

-- ---- one step

pub turns_snoc : (k : ℕ) (ks : List ℕ) (t : Turns) → get_turns (ks ++ k ∷ []) t ≡ gets_turn k (get_turns ks t)
turns_snoc k [] t = refl
turns_snoc k (j ∷ ks) t = turns_snoc k ks (gets_turn j t)

-- the sessions for which memory was refused, with one more if so
abbrev pub hit_more : Bool → ℕ → List ℕ → List ℕ
hit_more refused k hit = if refused then k ∷ hit else hit

pub hit_here : (r : Bool) (k : ℕ) (hit : List ℕ) → r ≡ true → is_in k (hit_more r k hit) ≡ true
hit_here true k hit e = grind (arith, nat_tests)
hit_here false k hit e = absurd (cc)

pub hit_still : (r : Bool) (k j : ℕ) (hit : List ℕ) → is_in j hit ≡ true → is_in j (hit_more r k hit) ≡ true
hit_still true k j hit e = grind (arith, e)
hit_still false k j hit e = e

pub hit_few : (r : Bool) (k : ℕ) (hit : List ℕ) (n : ℕ) → length hit ≤ n → length (hit_more r k hit) ≤ n + one_if r
hit_few true k hit n h = omega (arith, h)
hit_few false k hit n h = omega (arith, h)

pub hit_before : (r : Bool) (k j : ℕ) (hit : List ℕ) → is_in j (hit_more r k hit) ≡ true → (j == k) ≡ false
    → is_in j hit ≡ true
hit_before true k j hit m e = grind (arith, nat_tests, m, e)
hit_before false k j hit m e = m

pub wider : (p : Placed) (c e : List ℕ) (s t : Bool) → (s ≡ true → t ≡ true) → (a b : Option Attached)
    → Both (Brings s c e p) a b → Both (Brings t c e p) a b
wider p c e s t w None None h = tt
wider p c e s t w None (Some b) h = absurd h
wider p c e s t w (Some a) None h = absurd h
wider p c e s t w (Some a) (Some b) (inl h, g) = (inl h, g)
wider p c e s t w (Some a) (Some b) (inr h, g) = (inr (w h.0, h.1), g)

-- whether nothing ended so far
quiet_before : (f : Fate) (d : Delivered) → (one_more f d).ended + (one_more f d).closed ≡ 0 → (d.ended + d.closed ≡ 0)
    × ((f ≡ fate.Passed) ⊎ ((f ≡ fate.Kept) ⊎ (f ≡ fate.Dropped)))
quiet_before fate.Passed d h = (h, inl refl)
quiet_before fate.Kept d h = (h, inr (inl refl))
quiet_before fate.Dropped d h = (h, inr (inr refl))
quiet_before fate.Ended d h = absurd (omega (arith, h))
quiet_before fate.Closed d h = absurd (omega (arith, h))

in_more : (j k : ℕ) (ks : List ℕ) → (j == k) ≡ false → has j (ks ++ k ∷ []) ≡ has j ks
in_more j k ks e = let joined = has_append j ks (k ∷ []) in grind (arith, nat_tests, joined, e)

is_last : (j k : ℕ) (ks : List ℕ) → (j == k) ≡ true → has j (ks ++ k ∷ []) ≡ true
is_last j k ks e = let joined = has_append j ks (k ∷ []) in grind (arith, nat_tests, joined, e)

not_last : (j k : ℕ) (ks : List ℕ) → has j (ks ++ k ∷ []) ≡ false → (j == k) ≡ false
not_last j k ks h = let joined = has_append j ks (k ∷ []) in grind (arith, nat_tests, joined, h)

apart : (j k : ℕ) (ks : List ℕ) → has j ks ≡ true → has k ks ≡ false → (j == k) ≡ false
apart j k ks h g = by_value (j == k) (Decides-eqb j k)
  where
    by_value : (t : Bool) → (t ≡ true → j ≡ k) × (j ≡ k → t ≡ true) → t ≡ false
    by_value true e = absurd (let no = subst (λ l. has l ks ≡ true) (e.0 refl) h in cc)
    by_value false e = refl

snoc_length : (j : ℕ) (ks : List ℕ) → length (ks ++ j ∷ []) ≡ length ks + 1
snoc_length j ks = omega (arith, length-append ks (j ∷ []))

module _ (p : Placed) (c e : List ℕ) (old : Node) (now new : Sessions) (k : ℕ) (hit : Bool) (f : Fate)
    (here : Both (Brings hit c e p) (now k) (new k)) (others : (j : ℕ) → j ≢ k → new j ≡ now j)
    (fate_is : f ≡ fate_at c (at_offset e p) (now k) (new k)) where
  other : (j : ℕ) → (j == k) ≡ false → j ≢ k
  other j h g = let i = (Decides-eqb j k).1 g in absurd (cc)

  still_quiet : Agrees now old.rows → (g : Fate) → f ≡ g → Agrees new (rows_after g c k old.rows)
  still_quiet agrees g is =
      subst (λ i. Agrees new (rows_after i c k old.rows)) (sym fate_is ∙ is)
      (still_agrees c e k hit p now new old.rows agrees here others)

  stays_quiet : Agrees now old.rows → ((f ≡ fate.Passed) ⊎ ((f ≡ fate.Kept) ⊎ (f ≡ fate.Dropped))) → Agrees new old.rows
  stays_quiet agrees (inl is) = still_quiet agrees fate.Passed is
  stays_quiet agrees (inr (inl is)) = still_quiet agrees fate.Kept is
  stays_quiet agrees (inr (inr is)) = still_quiet agrees fate.Dropped is

  pub steps : {refused more : ℕ} {pending turned : Turns} (counts : Delivered) (done rest : List ℕ)
      → AreFollows old.rows → IsOnItsWay p c e old now refused pending counts done (k ∷ rest)
      → more ≡ counted (one_if hit) refused → turned ≡ gets_turn k pending
      → IsOnItsWay p c e old new more turned (one_more f counts) (done ++ k ∷ []) rest
  steps {refused} {more} {pending} {turned} counts done rest rows w count turns =
      let once : Once (done ++ k ∷ rest) = subst Once w.all (once_sessions old.rows c rows.once) in
      let passed : has k done ≡ false = once_before k done rest once in
      let was : now k ≡ attached_at old k = w.untouched k passed in
      record {
        hit = hit_more hit k w.hit;
        requests = w.requests + one_if hit;
        few_hit = hit_few hit k w.hit w.requests w.few_hit;
        hit_met = λ j m. meet w j m (j == k) refl;
        count = count ∙ ap (counted (one_if hit)) w.count ∙ counted_both w.requests (one_if hit) old.refused;
        all = w.all ∙ sym (middle k done rest);
        untouched = λ j m. let apart_from = not_last j k done m in
            others j (other j apart_from) ∙ w.untouched j (sym (in_more j k done apart_from) ∙ m);
        served = λ j m. serve w was j m (j == k) refl;
        counted = sym (tally_snoc (λ j. fate_at c (at_offset e p) (attached_at old j) (new j)) done k none
            ∙ ap (λ g. one_more g (tally (λ j. fate_at c (at_offset e p) (attached_at old j) (new j)) done none))
            (sym (fate_is ∙ ap (λ o. fate_at c (at_offset e p) o (new k)) was))
            ∙ ap (one_more f) (sym (w.counted ∙ tally_same (λ j. fate_at c (at_offset e p) (attached_at old j) (now j))
            (λ j. fate_at c (at_offset e p) (attached_at old j) (new j)) done none
            (λ j m. ap (fate_at c (at_offset e p) (attached_at old j))
            (sym (others j (other j (apart j k done m passed))))))));
        so_many = total_more f counts ∙ ap (λ n. n + 1) w.so_many ∙ sym (snoc_length k done);
        turns = turns ∙ ap (gets_turn k) w.turns ∙ sym (turns_snoc k done old.turns);
        quiet = λ h. let q = quiet_before f counts h in stays_quiet (w.quiet q.0) q.1;
      }
    where
      meet : (w : IsOnItsWay p c e old now refused pending counts done (k ∷ rest)) → (j : ℕ)
          → is_in j (hit_more hit k w.hit) ≡ true → (t : Bool) → (j == k) ≡ t → has j (done ++ k ∷ []) ≡ true
      meet w j m true same = is_last j k done same
      meet w j m false same = in_more j k done same ∙ w.hit_met j (hit_before hit k j w.hit m same)

      serve : (w : IsOnItsWay p c e old now refused pending counts done (k ∷ rest)) → now k ≡ attached_at old k
          → (j : ℕ) → has j (done ++ k ∷ []) ≡ true → (t : Bool) → (j == k) ≡ t
          → Both (Brings (is_in j (hit_more hit k w.hit)) c e p) (attached_at old j) (new j)
      serve w was j m true same =
          subst (λ i. Both (Brings (is_in i (hit_more hit k w.hit)) c e p) (attached_at old i) (new i))
          (sym ((Decides-eqb j k).0 same))
          (subst (λ o. Both (Brings (is_in k (hit_more hit k w.hit)) c e p) o (new k)) was
          (wider p c e hit (is_in k (hit_more hit k w.hit)) (hit_here hit k w.hit) (now k) (new k) here))
      serve w was j m false same =
          subst (λ o. Both (Brings (is_in j (hit_more hit k w.hit)) c e p) (attached_at old j) o)
          (sym (others j (other j same)))
          (wider p c e (is_in j w.hit) (is_in j (hit_more hit k w.hit)) (hit_still hit k j w.hit) (attached_at old j)
          (now j) (w.served j (sym (in_more j k done same) ∙ m)))

pub goes_on : (p : Placed) (c e : List ℕ) (old : Node) (now : Sessions) (refused : ℕ) (pending : Turns)
    (counts : Delivered) (done : List ℕ) (k : ℕ) (rest : List ℕ) → AreFollows old.rows
    → IsOnItsWay p c e old now refused pending counts done (k ∷ rest) → total counts < 65536
goes_on p c e old now refused pending counts done k rest rows w =
    let few = few_sessions old.rows c rows.few in let all = ap length w.all in let so_many = w.so_many in
    omega (arith, few, all, so_many, length-append done (k ∷ rest))

-- ---- the end

all_done : (ks : List ℕ) → ks ++ [] ≡ ks
all_done [] = refl
all_done (k ∷ ks) = ap (λ js. k ∷ js) (all_done ks)

module _ (p : Placed) (c e : List ℕ) (old : Node) (now : Sessions) (refused : ℕ) (pending : Turns) (counts : Delivered)
    (done : List ℕ) (agrees : Agrees (attached_at old) old.rows)
    (w : IsOnItsWay p c e old now refused pending counts done []) where
  ends_all : sessions_of old.rows c ≡ done
  ends_all = w.all ∙ all_done done

  follows_done : (k : ℕ) → follows old.rows c k ≡ has k done
  follows_done k = follows_has old.rows c k ∙ ap (has k) ends_all

  served_each : (k : ℕ) → (t : Bool) → has k done ≡ t → Both (Brings (is_in k w.hit) c e p) (attached_at old k) (now k)
  served_each k true m = w.served k m
  served_each k false m =
      subst (λ o. Both (Brings (is_in k w.hit) c e p) (attached_at old k) o) (sym (w.untouched k m))
      (no_subscriber (is_in k w.hit) p c e (attached_at old k)
      (un_not (is_off (sub_in (attached_at old k) c)) (sym (agrees c k) ∙ follows_done k ∙ m)))

  pub ends_served : (new : Node) → attached_at new ≡ now → new.refused ≡ refused → Delivers c e p old new
  ends_served new is count =
      record {
        hit = w.hit;
        hit_follow =
            λ k m. is_not (is_off (sub_in (attached_at old k) c)) (sym (agrees c k) ∙ follows_done k ∙ w.hit_met k m);
        each = λ k. subst (λ (g : Sessions). Both (Brings (is_in k w.hit) c e p) (attached_at old k) (g k)) (sym is)
            (served_each k (has k done) refl);
        requests = w.requests;
        few_hit = w.few_hit;
        count = count ∙ w.count;
      }

  pub ends_counted : (new : Sessions) → new ≡ now
      → counts ≡ tally (λ k. fate_at c (at_offset e p) (attached_at old k) (new k)) (sessions_of old.rows c) none
  ends_counted new is =
      w.counted ∙ ap (λ ks. tally (λ k. fate_at c (at_offset e p) (attached_at old k) (now k)) ks none) (sym ends_all)
      ∙ ap (λ (g : Sessions). tally (λ k. fate_at c (at_offset e p) (attached_at old k) (g k)) (sessions_of old.rows c)
      none) (sym is)

  pub ends_so_many : total counts ≡ length (sessions_of old.rows c)
  ends_so_many = w.so_many ∙ ap length (sym ends_all)

  pub ends_turns : pending ≡ get_turns (sessions_of old.rows c) old.turns
  ends_turns = w.turns ∙ ap (λ ks. get_turns ks old.turns) (sym ends_all)

  -- whose rows may have to go
  pub ends_before : AgreedBefore c now old.rows
  ends_before =
      record {
        met = λ k on. (
          fate_at c (at_offset e p) (attached_at old k) (now k),
          λ d. off_at c d e (is_in k w.hit) p (attached_at old k) (now k) (served_each k (has k done) refl)
              ∙ ap (off_after (fate_at c (at_offset e p) (attached_at old k) (now k)) c d)
              (twice (is_off (sub_in (attached_at old k) d)) ∙ ap not (sym (agrees d k))),
        );
        others = λ k off d. agrees d k ∙ ap (λ o. not (is_off (sub_in o d)))
            (sym (w.untouched k (sym (follows_done k) ∙ off)));
      }

  -- each number has a session where it had one
  pub ends_numbered : (from : ℕ) → AreNumbered from (attached_at old) → AreNumbered from now
  ends_numbered from few =
      record {
        below = λ k h. still_none (now k) (same k ∙ ap is_some (few.below k h));
        taken = λ k h. same k ∙ few.taken k h;
      }
    where
      both : (R : Attached → Attached → Type 0) (o q : Option Attached) → Both R o q → is_some q ≡ is_some o
      both R None None h = refl
      both R None (Some a) h = absurd h
      both R (Some a) None h = absurd h
      both R (Some a) (Some b) h = refl

      same : (k : ℕ) → is_some (now k) ≡ is_some (attached_at old k)
      same k = both (Brings (is_in k w.hit) c e p) (attached_at old k) (now k) (served_each k (has k done) refl)

      still_none : (o : Option Attached) → is_some o ≡ false → o ≡ None
      still_none None h = refl
      still_none (Some a) h = absurd (cc)

-- a refused request before the first session
pub refusal_counted : (p : Placed) (c e : List ℕ) (n : ℕ) (old mid new : Node)
    → mid ≡ record old { refused = counted n old.refused } → Delivers c e p mid new → Delivers c e p old new
refusal_counted p c e n old mid new is d =
    record {
      hit = d.hit;
      hit_follow = λ k m. subst (λ (h : Node). is_off (sub_in (attached_at h k) c) ≡ false) is (d.hit_follow k m);
      each = λ k. subst (λ (h : Node). Both (Brings (is_in k d.hit) c e p) (attached_at h k) (attached_at new k)) is
          (d.each k);
      requests = n + d.requests;
      few_hit = omega (arith, d.few_hit);
      count = d.count ∙ ap (λ (h : Node). counted d.requests h.refused) is ∙ counted_both n d.requests old.refused;
    }
