-- Turns by cost: what each step keeps, and what follows for whole runs.
use Rattle.std.proofs.Common.{◌≡◌, ◌≢◌, ◌≤◌, ◌<◌, ◌==◌, ◌||◌, ◌+◌, ◌-◌, ◌⊎◌, inl, inr, ℕ, Bool, true, false}
use Rattle.std.proofs.Common.{if◌then◌else◌, Option, Some, None, List, [], ◌∷◌, refl, sym, ap, subst, ◌∙◌, arith}
use Rattle.std.proofs.Common.{MatchOption, IfSome, slice_get}
use Rattle.std.specs.declared.cmp.Ordering.{Ordering}
use Rattle.std.specs.declared.cmp.Ordering.TheVariants.{Less, Equal, Greater}
use Rattle.std.specs.Ordering.{is_gt, is_le, match_ordering, ordering_reverse}
use Rattle.cf_fair.specs.Lane.{AreOnce, IsFirst, Ticket, is_there, ticket_cmp, with_ticket, without}
use Rattle.cf_fair.specs.Fair.{Adds, AllWaitBriefly, AreOnTime, Charges, Comes, Ends, Fair, Goes, IsOnce, IsSame}
use Rattle.cf_fair.specs.Fair.{IsTimed, Joins, Leaves, LightTurns, NobodySavesUp, NobodyWaitsTwice, Pays, Step, Stepped}
use Rattle.cf_fair.specs.Fair.{Steps, TicketsStayTrue, Turns, TurnsAreCovered, WaitsBriefly, WaitsByExcess, account_at}
use Rattle.cf_fair.specs.Fair.{cost_at, due_at, expected, has_ended, has_light_turn, has_turn, is_end, is_light_turn}
use Rattle.cf_fair.specs.Fair.{is_turn, most, spent, spent_lately, start_at, ticket_at, time_at, up, waits}
use Rattle.cf_fair.proofs.Lanes.{first_before, itself, once_with, once_without, same, starts, there_with, there_without}
use Rattle.cf_fair.proofs.Lanes.{there_without_other, tickets_total}

-- ---- the first of two lanes

pub by_first : (o : Option Ticket) (old new others : List Ticket) (one other : Ticket)
    → MatchOption o ((old ≡ []) × (new ≡ [])) (λ t. old ≡ t ∷ new) → slice_get old 0 ≡ Some one
    → is_gt (ticket_cmp one other) ≡ false → IsFirst other others → IfSome o (λ t. IsFirst t others)
by_first None old new others one other m f e h = tt
by_first (Some t) old new others one other m f e h =
    let head : Some t ≡ Some one = sym (ap (λ (ts : List Ticket). slice_get ts 0) m) ∙ f in
    let is : t ≡ one = cc in
    subst (λ (u : Ticket). IsFirst u others) (sym is) (first_before one other others e h)

pub not_after : (o : Ordering) → is_le o ≡ true → is_gt o ≡ false
not_after Less e = refl
not_after Equal e = refl
not_after Greater e = absurd (cc)

pub not_before : (t u : Ticket) → is_le (ticket_cmp t u) ≡ false → is_gt (ticket_cmp u t) ≡ false
not_before t u e = by_order (ticket_cmp u t) (tickets_total.antisymm t u) e
  where
    by_order : (o : Ordering) → ticket_cmp t u ≡ ordering_reverse o → is_le (ticket_cmp t u) ≡ false → is_gt o ≡ false
    by_order Less e h = refl
    by_order Equal e h = refl
    by_order Greater e h = absurd (let f : is_le (ticket_cmp t u) ≡ true = ap is_le e in cc)

-- ---- tests

neither : (s t : Bool) → (s || t) ≡ false → (s ≡ false) × (t ≡ false)
neither true t e = absurd (cc)
neither false t e = (refl, e)

second : (s t : Bool) → s ≡ false → (s || t) ≡ true → t ≡ true
second true t e f = absurd (cc)
second false t e f = f

either : (s t : Bool) → (s || t) ≡ true → (s ≡ true) ⊎ (t ≡ true)
either true t e = inl refl
either false t e = inr e

left : (s t : Bool) → s ≡ true → (s || t) ≡ true
left s t e = ap (λ v. v || t) e

right : (s t : Bool) → t ≡ true → (s || t) ≡ true
right true t e = refl
right false t e = e

apart : (j k : ℕ) → j ≢ k → (j == k) ≡ false
apart j k n = by_value (j == k) refl
  where
    by_value : (b : Bool) → (j == k) ≡ b → b ≡ false
    by_value true f = absurd (n (same j k f))
    by_value false f = refl

other_in : (j k : ℕ) (ts : List Ticket) → is_there k ts ≡ false → is_there j ts ≡ true → (k == j) ≡ false
other_in j k ts h e = by_value (k == j) refl
  where
    by_value : (b : Bool) → (k == j) ≡ b → b ≡ false
    by_value true f =
        absurd (let g : is_there j ts ≡ false = subst (λ (i : ℕ). is_there i ts ≡ false) (same k j f) h in cc)
    by_value false f = refl

other_waits : (j k : ℕ) (f : Fair) → waits k f ≡ false → waits j f ≡ true → (k == j) ≡ false
other_waits j k f h e = by_value (k == j) refl
  where
    by_value : (b : Bool) → (k == j) ≡ b → b ≡ false
    by_value true g = absurd (let i : waits j f ≡ false = subst (λ (i : ℕ). waits i f ≡ false) (same k j g) h in cc)
    by_value false g = refl

-- ---- nobody waits twice

once_moved : (old new : Fair) → IsOnce old → new.light ≡ old.light → new.held ≡ old.held → IsOnce new
once_moved old new o l h =
    record {
      light = subst AreOnce (sym l) o.light;
      held = subst AreOnce (sym h) o.held;
      apart = λ k e. ap (is_there k) h ∙ o.apart k (sym (ap (is_there k) l) ∙ e);
    }

once_joins : (k : ℕ) (h : Bool) (old new : Fair) → waits k old ≡ false → IsOnce old → Joins k h old new → IsOnce new
once_joins k true old new w o s =
    let n = neither (is_there k old.light) (is_there k old.held) w in
    record {
      light = subst AreOnce (sym s.light) o.light;
      held = subst AreOnce (sym s.held) (once_with (ticket_at old k) old.held n.1 o.held);
      apart = λ j e.
          let there : is_there j old.light ≡ true = sym (ap (is_there j) s.light) ∙ e in
          let a = other_in j k old.light n.0 there in
          ap (is_there j) s.held ∙ there_with j (ticket_at old k) old.held ∙ ap (λ v. v || is_there j old.held) a
          ∙ o.apart j there;
    }
once_joins k false old new w o s =
    let n = neither (is_there k old.light) (is_there k old.held) w in
    record {
      light = subst AreOnce (sym s.light) (once_with (ticket_at old k) old.light n.0 o.light);
      held = subst AreOnce (sym s.held) o.held;
      apart = λ j e.
          let there : ((k == j) || is_there j old.light) ≡ true =
          sym (ap (is_there j) s.light ∙ there_with j (ticket_at old k) old.light) ∙ e in
          ap (is_there j) s.held ∙ by_value j (k == j) refl there n.1 o;
    }
  where
    by_value : (j : ℕ) (b : Bool) → (k == j) ≡ b → (b || is_there j old.light) ≡ true → is_there k old.held ≡ false
        → IsOnce old → is_there j old.held ≡ false
    by_value j true f t h o = subst (λ (i : ℕ). is_there i old.held ≡ false) (same k j f) h
    by_value j false f t h o = o.apart j t

once_comes : (b : Bool) (k : ℕ) (h : Bool) (old new : Fair) → waits k old ≡ b → IsOnce old → Comes b k h old new
    → IsOnce new
once_comes true k h old new w o s = once_moved old new o s.light s.held
once_comes false k h old new w o s = once_joins k h old new w o s

once_leaves : (t : Ticket) (old new : Fair) → IsOnce old → Leaves t old new → IsOnce new
once_leaves t old new o s = by_case s.lanes
  where
    by_case : ((old.light ≡ t ∷ new.light) × (new.held ≡ old.held))
        ⊎ ((new.light ≡ old.light) × (old.held ≡ t ∷ new.held)) → IsOnce new
    by_case (inl l) =
        let rest : AreOnce (t ∷ new.light) = subst AreOnce l.0 o.light in
        record {
          light = rest.1;
          held = subst AreOnce (sym l.1) o.held;
          apart = λ k e. ap (is_there k) l.1 ∙ o.apart k
              (ap (is_there k) l.0 ∙ right (t.2 == k) (is_there k new.light) e);
        }
    by_case (inr r) =
        let rest : AreOnce (t ∷ new.held) = subst AreOnce r.1 o.held in
        record {
          light = subst AreOnce (sym r.0) o.light;
          held = rest.1;
          apart = λ k e. (neither (t.2 == k) (is_there k new.held)
              (sym (ap (is_there k) r.1) ∙ o.apart k (sym (ap (is_there k) r.0) ∙ e))).1;
        }

once_goes : (k : ℕ) (old new : Fair) → IsOnce old → Goes k old new → IsOnce new
once_goes k old new o s =
    record {
      light = subst AreOnce (sym s.light) (once_without k old.light o.light);
      held = subst AreOnce (sym s.held) (once_without k old.held o.held);
      apart = λ j e. ap (is_there j) s.held ∙ by_value j (k == j) refl (sym (ap (is_there j) s.light) ∙ e);
    }
  where
    by_value : (j : ℕ) (b : Bool) → (k == j) ≡ b → is_there j (without k old.light) ≡ true
        → is_there j (without k old.held) ≡ false
    by_value j true f t =
        subst (λ (i : ℕ). is_there i (without k old.held) ≡ false) (same k j f) (there_without k old.held o.held)
    by_value j false f t =
        there_without_other j k old.held f ∙ o.apart j (sym (there_without_other j k old.light f) ∙ t)

once_on : (step : Step) (old new : Fair) → IsOnce old → Steps step old new → IsOnce new
once_on (Adds k h) old new o s = once_comes (waits k old) k h old new refl o s
once_on (Turns k) old new o s = once_leaves s.ticket old new o s.leaves
once_on (LightTurns k) old new o s = once_leaves s.ticket old new o s.leaves
once_on (Charges k c n) old new o s = once_moved old new o s.1.light s.1.held
once_on (Ends k) old new o s = once_goes k old new o s

pub nobody_twice : NobodyWaitsTwice
nobody_twice [] old new o r = subst IsOnce (sym r) o
nobody_twice (step ∷ before) old new o r = once_on step r.0 new (nobody_twice before old r.0 o r.1) r.2

-- ---- who waits is due when its ticket says

abbrev due_of : ℕ × ℕ → ℕ
due_of a = up a.0 a.1

abbrev time_of : ℕ × ℕ → ℕ
time_of a = a.0

ontime_moves : (f g : Fair) (ts : List Ticket) → ((j : ℕ) → is_there j ts ≡ true → account_at g j ≡ account_at f j)
    → AreOnTime f ts → AreOnTime g ts
ontime_moves f g [] m a = tt
ontime_moves f g (t ∷ ts) m a = (
  a.0 ∙ sym (ap due_of (m t.2 (left (t.2 == t.2) (is_there t.2 ts) (itself t.2)))),
  ontime_moves f g ts (λ j e. m j (right (t.2 == j) (is_there j ts) e)) a.1,
)

ontime_with : (f : Fair) (t : Ticket) (ts : List Ticket) → t.0 ≡ due_at f t.2 → AreOnTime f ts
    → AreOnTime f (with_ticket t ts)
ontime_with f t [] e a = (e, tt)
ontime_with f t (x ∷ xs) e a = by_order (ticket_cmp t x) (ontime_with f t xs e a.1)
  where
    by_order : (o : Ordering) → AreOnTime f (with_ticket t xs)
        → AreOnTime f (match_ordering o (t ∷ x ∷ xs) (x ∷ xs) (x ∷ with_ticket t xs))
    by_order Less r = (e, a)
    by_order Equal r = a
    by_order Greater r = (a.0, r)

ontime_without : (f : Fair) (k : ℕ) (ts : List Ticket) → AreOnTime f ts → AreOnTime f (without k ts)
ontime_without f k [] a = tt
ontime_without f k (x ∷ xs) a = by_value (x.2 == k) (ontime_without f k xs a.1)
  where
    by_value : (b : Bool) → AreOnTime f (without k xs) → AreOnTime f (if b then xs else x ∷ without k xs)
    by_value true r = a.1
    by_value false r = (a.0, r)

first_starts : (f : Fair) (t : Ticket) (ts : List Ticket) (p : ℕ) → IsFirst t ts → AreOnTime f ts → is_there p ts ≡ true
    → t.0 ≤ due_at f p
first_starts f t [] p i a e = absurd (cc)
first_starts f t (x ∷ xs) p i a e = by_value (x.2 == p) refl e (first_starts f t xs p i.1 a.1)
  where
    by_value : (b : Bool) → (x.2 == p) ≡ b → (b || is_there p xs) ≡ true → (is_there p xs ≡ true → t.0 ≤ due_at f p)
        → t.0 ≤ due_at f p
    by_value true g h r =
        subst (λ (j : ℕ). t.0 ≤ due_at f j) (same x.2 p g) (subst (λ (n : ℕ). t.0 ≤ n) a.0 (starts t x i.0))
    by_value false g h r = r h

timed_moves : (f g : Fair) → g.light ≡ f.light → g.held ≡ f.held
    → ((j : ℕ) → waits j f ≡ true → account_at g j ≡ account_at f j) → IsTimed f → IsTimed g
timed_moves f g l h m a =
    record {
      light = subst (AreOnTime g) (sym l) (ontime_moves f g f.light
          (λ j e. m j (left (is_there j f.light) (is_there j f.held) e)) a.light);
      held = subst (AreOnTime g) (sym h) (ontime_moves f g f.held
          (λ j e. m j (right (is_there j f.light) (is_there j f.held) e)) a.held);
    }

other : (k j : ℕ) (x y : ℕ × ℕ) → (k == j) ≡ false → (if k == j then x else y) ≡ y
other k j x y e = ap (λ (v : Bool). if v then x else y) e

alike : (k j : ℕ) (x y : ℕ × ℕ) → (k == j) ≡ true → (if k == j then x else y) ≡ x
alike k j x y e = ap (λ (v : Bool). if v then x else y) e

-- the accounts after a step that changes k's alone
unmoved : (k j : ℕ) (x : ℕ × ℕ) (old new : Fair) → account_at new j ≡ (if k == j then x else account_at old j)
    → (k == j) ≡ false → account_at new j ≡ account_at old j
unmoved k j x old new s e = s ∙ other k j x (account_at old j) e

set : (k j : ℕ) (x : ℕ × ℕ) (old new : Fair) → account_at new j ≡ (if k == j then x else account_at old j)
    → (k == j) ≡ true → account_at new j ≡ x
set k j x old new s e = s ∙ alike k j x (account_at old j) e

abbrev start_account : Fair → ℕ → ℕ × ℕ
start_account f k = (start_at f k, cost_at f k)

timed_joins : (k : ℕ) (h : Bool) (old new : Fair) → waits k old ≡ false → IsTimed old → Joins k h old new → IsTimed new
timed_joins k true old new w a s =
    let mine : (ticket_at old k).0 ≡ due_at new k =
    sym (ap due_of (set k k (start_account old k) old new (s.accounts k) (itself k))) in
    let m : (j : ℕ) → waits j old ≡ true → account_at new j ≡ account_at old j =
    λ j e. unmoved k j (start_account old k) old new (s.accounts j) (other_waits j k old w e) in
    record {
      light = subst (AreOnTime new) (sym s.light) (ontime_moves old new old.light
          (λ j e. m j (left (is_there j old.light) (is_there j old.held) e)) a.light);
      held = subst (AreOnTime new) (sym s.held) (ontime_with new (ticket_at old k) old.held mine
          (ontime_moves old new old.held (λ j e. m j (right (is_there j old.light) (is_there j old.held) e)) a.held));
    }
timed_joins k false old new w a s =
    let mine : (ticket_at old k).0 ≡ due_at new k =
    sym (ap due_of (set k k (start_account old k) old new (s.accounts k) (itself k))) in
    let m : (j : ℕ) → waits j old ≡ true → account_at new j ≡ account_at old j =
    λ j e. unmoved k j (start_account old k) old new (s.accounts j) (other_waits j k old w e) in
    record {
      light = subst (AreOnTime new) (sym s.light) (ontime_with new (ticket_at old k) old.light mine
          (ontime_moves old new old.light (λ j e. m j (left (is_there j old.light) (is_there j old.held) e)) a.light));
      held = subst (AreOnTime new) (sym s.held) (ontime_moves old new old.held
          (λ j e. m j (right (is_there j old.light) (is_there j old.held) e)) a.held);
    }

-- what is left of both lanes, by the accounts before
record Left (t : Ticket) (old new : Fair) : Type 0 where
  light : AreOnTime old new.light
  held : AreOnTime old new.held
  start : t.0 ≡ due_at old t.2

left_on_time : (t : Ticket) (old new : Fair) → IsTimed old → Leaves t old new → Left t old new
left_on_time t old new a s = by_case s.lanes
  where
    by_case : ((old.light ≡ t ∷ new.light) × (new.held ≡ old.held))
        ⊎ ((new.light ≡ old.light) × (old.held ≡ t ∷ new.held)) → Left t old new
    by_case (inl l) =
        let rest : AreOnTime old (t ∷ new.light) = subst (AreOnTime old) l.0 a.light in
        record { light = rest.1; held = subst (AreOnTime old) (sym l.1) a.held; start = rest.0 }
    by_case (inr r) =
        let rest : AreOnTime old (t ∷ new.held) = subst (AreOnTime old) r.1 a.held in
        record { light = subst (AreOnTime old) (sym r.0) a.light; held = rest.1; start = rest.0 }

timed_leaves : (t : Ticket) (old new : Fair) → IsTimed old → Leaves t old new → IsTimed new
timed_leaves t old new a s =
    let l = left_on_time t old new a s in
    record {
      light = ontime_moves old new new.light (λ j e. s.accounts j) l.light;
      held = ontime_moves old new new.held (λ j e. s.accounts j) l.held;
    }

not_gone : (j k : ℕ) (ts : List Ticket) → AreOnce ts → is_there j (without k ts) ≡ true → (k == j) ≡ false
not_gone j k ts o e = other_in j k (without k ts) (there_without k ts o) e

timed_goes : (k : ℕ) (old new : Fair) → IsOnce old → IsTimed old → Goes k old new → IsTimed new
timed_goes k old new o a s =
    record {
      light = subst (AreOnTime new) (sym s.light) (ontime_moves old new (without k old.light)
          (λ j e. unmoved k j (0, 0) old new (s.accounts j) (not_gone j k old.light o.light e))
          (ontime_without old k old.light a.light));
      held = subst (AreOnTime new) (sym s.held) (ontime_moves old new (without k old.held)
          (λ j e. unmoved k j (0, 0) old new (s.accounts j) (not_gone j k old.held o.held e))
          (ontime_without old k old.held a.held));
    }

timed_on : (step : Step) (old new : Fair) → IsOnce old → IsTimed old → Steps step old new → IsTimed new
timed_on (Adds k h) old new o a s = timed_comes (waits k old) k h old new refl a s
  where
    timed_comes : (b : Bool) (k : ℕ) (h : Bool) (old new : Fair) → waits k old ≡ b → IsTimed old → Comes b k h old new
        → IsTimed new
    timed_comes true k h old new w a s = timed_moves old new s.light s.held (λ j e. s.accounts j) a
    timed_comes false k h old new w a s = timed_joins k h old new w a s
timed_on (Turns k) old new o a s = timed_leaves s.ticket old new a s.leaves
timed_on (LightTurns k) old new o a s = timed_leaves s.ticket old new a s.leaves
timed_on (Charges k c n) old new o a s =
    timed_moves old new s.1.light s.1.held (λ j e. unmoved k j (up (time_at old k) c, expected old k c) old new
    (s.1.accounts j) (other_waits j k old s.0 e)) a
timed_on (Ends k) old new o a s = timed_goes k old new o a s

pub tickets_stay_true : TicketsStayTrue
tickets_stay_true [] old new o a r = subst IsTimed (sym r) a
tickets_stay_true (step ∷ before) old new o a r =
    timed_on step r.0 new (nobody_twice before old r.0 o r.1) (tickets_stay_true before old r.0 o a r.1) r.2

-- ---- bounded waiting

-- p waits where every turn is given, or only some
abbrev serves : Bool → ℕ → Fair → Bool
serves true p f = waits p f
serves false p f = is_there p f.light

serves_waits : (b : Bool) (p : ℕ) (f : Fair) → serves b p f ≡ true → waits p f ≡ true
serves_waits true p f e = e
serves_waits false p f e = left (is_there p f.light) (is_there p f.held) e

record Run (b : Bool) (p q : ℕ) (before : List Step) (old new : Fair) : Type 0 where
  once : IsOnce new
  timed : IsTimed new
  there : serves b p new ≡ true
  account : account_at new p ≡ account_at old p
  low : up (time_at old q) (spent q before) ≤ time_at new q
  bound : spent q before ≤ (due_at old p - time_at old q) + spent_lately q before

serves_moved : (b : Bool) (p : ℕ) (old new : Fair) → new.light ≡ old.light → new.held ≡ old.held → serves b p old ≡ true
    → serves b p new ≡ true
serves_moved true p old new l h e =
    ap (λ (ts : List Ticket). is_there p ts || is_there p new.held) l
    ∙ ap (λ (ts : List Ticket). is_there p old.light || is_there p ts) h ∙ e
serves_moved false p old new l h e = ap (is_there p) l ∙ e

there_more : (p : ℕ) (t : Ticket) (ts : List Ticket) → is_there p ts ≡ true → is_there p (with_ticket t ts) ≡ true
there_more p t ts e = there_with p t ts ∙ right (t.2 == p) (is_there p ts) e

serves_joins : (b : Bool) (p k : ℕ) (h : Bool) (old new : Fair) → Joins k h old new → serves b p old ≡ true
    → serves b p new ≡ true
serves_joins true p k true old new s e = by_case (either (is_there p old.light) (is_there p old.held) e)
  where
    by_case : (is_there p old.light ≡ true) ⊎ (is_there p old.held ≡ true)
        → (is_there p new.light || is_there p new.held) ≡ true
    by_case (inl l) = left (is_there p new.light) (is_there p new.held) (ap (is_there p) s.light ∙ l)
    by_case (inr r) =
        right (is_there p new.light) (is_there p new.held)
        (ap (is_there p) s.held ∙ there_more p (ticket_at old k) old.held r)
serves_joins true p k false old new s e = by_case (either (is_there p old.light) (is_there p old.held) e)
  where
    by_case : (is_there p old.light ≡ true) ⊎ (is_there p old.held ≡ true)
        → (is_there p new.light || is_there p new.held) ≡ true
    by_case (inl l) =
        left (is_there p new.light) (is_there p new.held)
        (ap (is_there p) s.light ∙ there_more p (ticket_at old k) old.light l)
    by_case (inr r) = right (is_there p new.light) (is_there p new.held) (ap (is_there p) s.held ∙ r)
serves_joins false p k true old new s e = ap (is_there p) s.light ∙ e
serves_joins false p k false old new s e = ap (is_there p) s.light ∙ there_more p (ticket_at old k) old.light e

-- who doesn't have the turn stays in its lane
stays_light : (t : Ticket) (p : ℕ) (old new : Fair) → Leaves t old new → (t.2 == p) ≡ false
    → is_there p old.light ≡ true → is_there p new.light ≡ true
stays_light t p old new s n e = by_case s.lanes
  where
    by_case : ((old.light ≡ t ∷ new.light) × (new.held ≡ old.held))
        ⊎ ((new.light ≡ old.light) × (old.held ≡ t ∷ new.held)) → is_there p new.light ≡ true
    by_case (inl l) = second (t.2 == p) (is_there p new.light) n (sym (ap (is_there p) l.0) ∙ e)
    by_case (inr r) = ap (is_there p) r.0 ∙ e

stays_held : (t : Ticket) (p : ℕ) (old new : Fair) → Leaves t old new → (t.2 == p) ≡ false → is_there p old.held ≡ true
    → is_there p new.held ≡ true
stays_held t p old new s n e = by_case s.lanes
  where
    by_case : ((old.light ≡ t ∷ new.light) × (new.held ≡ old.held))
        ⊎ ((new.light ≡ old.light) × (old.held ≡ t ∷ new.held)) → is_there p new.held ≡ true
    by_case (inl l) = ap (is_there p) l.1 ∙ e
    by_case (inr r) = second (t.2 == p) (is_there p new.held) n (sym (ap (is_there p) r.1) ∙ e)

-- the turn of another: p stays, and isn't due before it
record Passed (b : Bool) (p : ℕ) (t : Ticket) (old new : Fair) : Type 0 where
  there : serves b p new ≡ true
  later : t.0 ≤ due_at old p

passed_light : (b : Bool) (p : ℕ) (t : Ticket) (old new : Fair) → IsTimed old → Leaves t old new → (t.2 == p) ≡ false
    → IsFirst t new.light → is_there p old.light ≡ true → Passed b p t old new
passed_light b p t old new a s n f e =
    let stays = stays_light t p old new s n e in
    record {
      there = by_class b stays;
      later = first_starts old t new.light p f (left_on_time t old new a s).light stays;
    }
  where
    by_class : (c : Bool) → is_there p new.light ≡ true → serves c p new ≡ true
    by_class true e = left (is_there p new.light) (is_there p new.held) e
    by_class false e = e

passed : (b : Bool) (p : ℕ) (t : Ticket) (old new : Fair) → IsTimed old → Leaves t old new → (t.2 == p) ≡ false
    → IsFirst t new.light → IsFirst t new.held → serves b p old ≡ true → Passed b p t old new
passed false p t old new a s n f g e = passed_light false p t old new a s n f e
passed true p t old new a s n f g e = by_case (either (is_there p old.light) (is_there p old.held) e)
  where
    by_case : (is_there p old.light ≡ true) ⊎ (is_there p old.held ≡ true) → Passed true p t old new
    by_case (inl l) = passed_light true p t old new a s n f l
    by_case (inr r) =
        let stays = stays_held t p old new s n r in
        record {
          there = right (is_there p new.light) (is_there p new.held) stays;
          later = first_starts old t new.held p g (left_on_time t old new a s).held stays;
        }

run_same : (b : Bool) (p q k : ℕ) (h : Bool) (before : List Step) (old mid new : Fair) → Run b p q before old mid
    → IsSame mid new → Run b p q (Adds k h ∷ before) old new
run_same b p q k h before old mid new r s =
    record {
      once = once_moved mid new r.once s.light s.held;
      timed = timed_moves mid new s.light s.held (λ j e. s.accounts j) r.timed;
      there = serves_moved b p mid new s.light s.held r.there;
      account = s.accounts p ∙ r.account;
      low = omega (arith, r.low, ap time_of (s.accounts q));
      bound = omega (arith, r.bound);
    }

later_time : (k q : ℕ) (mid new : Fair) (h : Bool) → Joins k h mid new → time_at mid q ≤ time_at new q
later_time k q mid new h s = by_value (k == q) refl
  where
    by_value : (b : Bool) → (k == q) ≡ b → time_at mid q ≤ time_at new q
    by_value true e =
        let t = ap time_of (set k q (start_account mid k) mid new (s.accounts q) e) in
        let u : time_at mid k ≡ time_at mid q = ap (time_at mid) (same k q e) in
        omega (arith, t, u)
    by_value false e =
        let t = ap time_of (unmoved k q (start_account mid k) mid new (s.accounts q) e) in
        omega (arith, t)

run_joins : (b : Bool) (p q k : ℕ) (h : Bool) (before : List Step) (old mid new : Fair) → waits k mid ≡ false
    → Run b p q before old mid → Joins k h mid new → Run b p q (Adds k h ∷ before) old new
run_joins b p q k h before old mid new w r s =
    record {
      once = once_joins k h mid new w r.once s;
      timed = timed_joins k h mid new w r.timed s;
      there = serves_joins b p k h mid new s r.there;
      account = unmoved k p (start_account mid k) mid new (s.accounts p)
          (other_waits p k mid w (serves_waits b p mid r.there)) ∙ r.account;
      low = omega (arith, r.low, later_time k q mid new h s);
      bound = omega (arith, r.bound);
    }

run_comes : (w b : Bool) (p q k : ℕ) (h : Bool) (before : List Step) (old mid new : Fair) → waits k mid ≡ w
    → Run b p q before old mid → Comes w k h mid new → Run b p q (Adds k h ∷ before) old new
run_comes true b p q k h before old mid new w r s = run_same b p q k h before old mid new r s
run_comes false b p q k h before old mid new w r s = run_joins b p q k h before old mid new w r s

-- a turn of q is covered by what is left until p is due
covered : (b : Bool) (p q : ℕ) (t : Ticket) (before : List Step) (old mid : Fair) → Run b p q before old mid
    → due_at old p < most → t.2 ≡ q → t.0 ≡ due_at mid t.2 → t.0 ≤ due_at mid p
    → time_at old q + spent q before + cost_at mid q ≤ due_at old p
covered b p q t before old mid r m e s l =
    let u : due_at mid t.2 ≡ due_at mid q = ap (due_at mid) e in
    let v : due_at mid p ≡ due_at old p = ap due_of r.account in
    let low : up (time_at old q) (spent q before) ≤ time_at mid q = r.low in
    numbers (time_at old q) (spent q before) (time_at mid q) (cost_at mid q) (due_at old p) low
    (omega (arith, u, v, s, l)) m
  where
    numbers : (told sum tmid cost due : ℕ) → up told sum ≤ tmid → up tmid cost ≤ due → due < most
        → told + sum + cost ≤ due
    numbers told sum tmid cost due low l m = omega (arith, low, l, m)

-- after a turn of q nothing is charged to it since
caught_up : (b : Bool) (p q k : ℕ) (t : Ticket) (before : List Step) (old mid new : Fair) → Run b p q before old mid
    → due_at old p < most → t.2 ≡ k → t.0 ≡ due_at mid t.2 → t.0 ≤ due_at mid p
    → spent q before ≤ (due_at old p - time_at old q) + (if k == q then 0 else 0 + spent_lately q before)
caught_up b p q k t before old mid new r m e s l = by_value (k == q) refl
  where
    by_value : (c : Bool) → (k == q) ≡ c → spent q before ≤ (due_at old p - time_at old q)
        + (if c then 0 else 0 + spent_lately q before)
    by_value true f =
        let u = covered b p q t before old mid r m (e ∙ same k q f) s l in
        omega (arith, u)
    by_value false f = omega (arith, r.bound)

run_turn : (b : Bool) (p q k : ℕ) (t : Ticket) (before : List Step) (old mid new : Fair) → Run b p q before old mid
    → due_at old p < most → t.2 ≡ k → Leaves t mid new → Passed b p t mid new → Run b p q (Turns k ∷ before) old new
run_turn b p q k t before old mid new r m e s d =
    let c = caught_up b p q k t before old mid new r m e (left_on_time t mid new r.timed s).start d.later in
    record {
      once = once_leaves t mid new r.once s;
      timed = timed_leaves t mid new r.timed s;
      there = d.there;
      account = s.accounts p ∙ r.account;
      low = omega (arith, r.low, ap time_of (s.accounts q));
      bound = omega (arith, c);
    }

run_light_turn : (b : Bool) (p q k : ℕ) (t : Ticket) (before : List Step) (old mid new : Fair)
    → Run b p q before old mid → due_at old p < most → t.2 ≡ k → Leaves t mid new → Passed b p t mid new
    → Run b p q (LightTurns k ∷ before) old new
run_light_turn b p q k t before old mid new r m e s d =
    let c = caught_up b p q k t before old mid new r m e (left_on_time t mid new r.timed s).start d.later in
    record {
      once = once_leaves t mid new r.once s;
      timed = timed_leaves t mid new r.timed s;
      there = d.there;
      account = s.accounts p ∙ r.account;
      low = omega (arith, r.low, ap time_of (s.accounts q));
      bound = omega (arith, c);
    }

charged_low : (q k c m sum told : ℕ) (mid new : Fair) → Pays k c m mid new → up told sum ≤ time_at mid q
    → up told ((if k == q then c else 0) + sum) ≤ time_at new q
charged_low q k c m sum told mid new s l = by_value (k == q) refl
  where
    by_value : (b : Bool) → (k == q) ≡ b → up told ((if b then c else 0) + sum) ≤ time_at new q
    by_value true e =
        let t = ap time_of (set k q (up (time_at mid k) c, expected mid k c) mid new (s.accounts q) e) in
        let u : time_at mid k ≡ time_at mid q = ap (time_at mid) (same k q e) in
        omega (arith, t, u, l)
    by_value false e =
        let t = ap time_of (unmoved k q (up (time_at mid k) c, expected mid k c) mid new (s.accounts q) e) in
        omega (arith, t, l)

run_charged : (b : Bool) (p q k c n : ℕ) (before : List Step) (old mid new : Fair) → Run b p q before old mid
    → waits k mid ≡ false → Pays k c n mid new → Run b p q (Charges k c n ∷ before) old new
run_charged b p q k c n before old mid new r w s =
    record {
      once = once_moved mid new r.once s.light s.held;
      timed = timed_moves mid new s.light s.held (λ j e. unmoved k j (up (time_at mid k) c, expected mid k c) mid new
          (s.accounts j) (other_waits j k mid w e)) r.timed;
      there = serves_moved b p mid new s.light s.held r.there;
      account = unmoved k p (up (time_at mid k) c, expected mid k c) mid new (s.accounts p)
          (other_waits p k mid w (serves_waits b p mid r.there)) ∙ r.account;
      low = charged_low q k c n (spent q before) (time_at old q) mid new s r.low;
      bound = omega (arith, r.bound);
    }

serves_goes : (b : Bool) (p k : ℕ) (old new : Fair) → (k == p) ≡ false → Goes k old new → serves b p old ≡ true
    → serves b p new ≡ true
serves_goes true p k old new n s e =
    let l : is_there p new.light ≡ is_there p old.light =
    ap (is_there p) s.light ∙ there_without_other p k old.light n in
    let h : is_there p new.held ≡ is_there p old.held = ap (is_there p) s.held ∙ there_without_other p k old.held n in
    ap (λ (v : Bool). v || is_there p new.held) l ∙ ap (λ (v : Bool). is_there p old.light || v) h ∙ e
serves_goes false p k old new n s e = ap (is_there p) s.light ∙ there_without_other p k old.light n ∙ e

run_ended : (b : Bool) (p q k : ℕ) (before : List Step) (old mid new : Fair) → Run b p q before old mid
    → (k == p) ≡ false → (k == q) ≡ false → Goes k mid new → Run b p q (Ends k ∷ before) old new
run_ended b p q k before old mid new r n m s =
    record {
      once = once_goes k mid new r.once s;
      timed = timed_goes k mid new r.once r.timed s;
      there = serves_goes b p k mid new n s r.there;
      account = unmoved k p (0, 0) mid new (s.accounts p) n ∙ r.account;
      low = omega (arith, r.low, ap time_of (unmoved k q (0, 0) mid new (s.accounts q) m));
      bound = omega (arith, r.bound);
    }

not_that : (t : Ticket) (k p : ℕ) → t.2 ≡ k → (k == p) ≡ false → (t.2 == p) ≡ false
not_that t k p e n = ap (λ (i : ℕ). i == p) e ∙ n

light_passed : (b : Bool) (p k : ℕ) (t : Ticket) (mid new : Fair) → (b ≡ true → ⊥) → IsTimed mid → Leaves t mid new
    → (t.2 == p) ≡ false → IsFirst t new.light → serves b p mid ≡ true → Passed b p t mid new
light_passed true p k t mid new n a s d f e = absurd (n refl)
light_passed false p k t mid new n a s d f e = passed_light false p t mid new a s d f e

run_on : (b : Bool) (p q : ℕ) (step : Step) (before : List Step) (old mid new : Fair) → Run b p q before old mid
    → due_at old p < most
    → is_turn p step ≡ false → is_end p step ≡ false → is_end q step ≡ false → (b ≡ true → is_light_turn step ≡ false)
    → Steps step mid new → Run b p q (step ∷ before) old new
run_on b p q (Adds k h) before old mid new r m t e f l s = run_comes (waits k mid) b p q k h before old mid new refl r s
run_on b p q (Turns k) before old mid new r m t e f l s =
    let d = passed b p s.ticket mid new r.timed s.leaves (not_that s.ticket k p s.slot t) s.first s.first_of_all
    r.there in
    run_turn b p q k s.ticket before old mid new r m s.slot s.leaves d
run_on b p q (LightTurns k) before old mid new r m t e f l s =
    let d = light_passed b p k s.ticket mid new (λ g. let x : true ≡ false = l g in absurd (cc)) r.timed s.leaves
    (not_that s.ticket k p s.slot t) s.first r.there in
    run_light_turn b p q k s.ticket before old mid new r m s.slot s.leaves d
run_on b p q (Charges k c n) before old mid new r m t e f l s = run_charged b p q k c n before old mid new r s.0 s.1
run_on b p q (Ends k) before old mid new r m t e f l s = run_ended b p q k before old mid new r e f s

run_through : (b : Bool) (p q : ℕ) (during : List Step) (old new : Fair) → IsOnce old → IsTimed old
    → serves b p old ≡ true → due_at old p < most
    → has_turn p during ≡ false → has_ended p during ≡ false → has_ended q during ≡ false
    → (b ≡ true → has_light_turn during ≡ false) → Stepped during old new → Run b p q during old new
run_through b p q [] old new o a w m h e f l r =
    subst (Run b p q [] old) (sym r) (record {
      once = o;
      timed = a;
      there = w;
      account = refl;
      low = omega arith;
      bound = omega arith;
    })
run_through b p q (step ∷ before) old new o a w m h e f l r =
    let h2 = neither (is_turn p step) (has_turn p before) h in
    let e2 = neither (is_end p step) (has_ended p before) e in
    let f2 = neither (is_end q step) (has_ended q before) f in
    let so_far =
    run_through b p q before old r.0 o a w m h2.1 e2.1 f2.1
    (λ g. (neither (is_light_turn step) (has_light_turn before) (l g)).1) r.1 in
    run_on b p q step before old r.0 new so_far m h2.0 e2.0 f2.0
    (λ g. (neither (is_light_turn step) (has_light_turn before) (l g)).0) r.2

light_run : (p q due : ℕ) (during : List Step) (old new : Fair) → IsOnce old → IsTimed old → is_there p old.light ≡ true
    → due_at old p ≡ due → due < most
    → has_turn p during ≡ false → has_ended p during ≡ false → has_ended q during ≡ false → Stepped during old new
    → Run false p q during old new
light_run p q due during old new o a w t m h e f r =
    run_through false p q during old new o a w (subst (λ (n : ℕ). n < most) (sym t) m) h e f
    (λ g. absurd (let x : false ≡ true = g in cc)) r

pub turns_are_covered : TurnsAreCovered
turns_are_covered p q due during old mid new o a w d m h e f n r (inl s) =
    let so_far = light_run p q due during old mid o a w d m h e f r in
    let x = passed_light false p s.ticket mid new so_far.timed s.leaves (not_that s.ticket q p s.slot (apart q p n))
    s.first so_far.there in
    let y = covered false p q s.ticket during old mid so_far (subst (λ (i : ℕ). i < most) (sym d) m) s.slot
    (left_on_time s.ticket mid new so_far.timed s.leaves).start x.later in
    omega (arith, y, d)
turns_are_covered p q due during old mid new o a w d m h e f n r (inr s) =
    let so_far = light_run p q due during old mid o a w d m h e f r in
    let x = passed_light false p s.ticket mid new so_far.timed s.leaves (not_that s.ticket q p s.slot (apart q p n))
    s.first so_far.there in
    let y = covered false p q s.ticket during old mid so_far (subst (λ (i : ℕ). i < most) (sym d) m) s.slot
    (left_on_time s.ticket mid new so_far.timed s.leaves).start x.later in
    omega (arith, y, d)

pub waits_briefly : WaitsBriefly
waits_briefly p q due during old new o a w t m h e f r =
    let z = (light_run p q due during old new o a w t m h e f r).bound in
    subst (λ (n : ℕ). spent q during ≤ (n - time_at old q) + spent_lately q during) t z

pub all_wait_briefly : AllWaitBriefly
all_wait_briefly p q due during old new o a w t m h e f l r =
    let z = (run_through true p q during old new o a w (subst (λ (n : ℕ). n < most) (sym t) m) h e f (λ g. l)
    r).bound in
    subst (λ (n : ℕ). spent q during ≤ (n - time_at old q) + spent_lately q during) t z

pub nobody_saves_up : NobodySavesUp
nobody_saves_up k h old new s =
    let t = ap time_of (set k k (start_account old k) old new (s.accounts k) (itself k)) in
    omega (arith, t, s.clock)

waits_now : (p : ℕ) (before old : Fair) → Joins p false before old → is_there p old.light ≡ true
waits_now p before old s =
    ap (is_there p) s.light ∙ there_with p (ticket_at before p) before.light
    ∙ left (p == p) (is_there p before.light) (itself p)

pub waits_by_excess : WaitsByExcess
waits_by_excess p q during before old new o a w s m u h e f r =
    let x = set p p (start_account before p) before old (s.accounts p) (itself p) in
    let t : due_at old p ≡ (ticket_at before p).0 = ap due_of x in
    let z = waits_briefly p q (ticket_at before p).0 during old new (once_joins p false before old w o s)
    (timed_joins p false before old w a s) (waits_now p before old s) t m h e f r in
    by_value (p == q) refl z u (ap time_of x)
  where
    by_value : (b : Bool) → (p == q) ≡ b → spent q during ≤ ((ticket_at before p).0 - time_at old q)
        + spent_lately q during → before.clock ≤ time_at before q → time_at old p ≡ start_at before p
        → spent q during ≤ (time_at before p - before.clock) + cost_at before p + spent_lately q during
    by_value true g z u t =
        let v : time_at old p ≡ time_at old q = ap (time_at old) (same p q g) in
        omega (arith, v, z, t)
    by_value false g z u t =
        let v = ap time_of (unmoved p q (start_account before p) before old (s.accounts q) g) in
        omega (arith, v, z, u)
