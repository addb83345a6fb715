-- What is seen of a log is sound, if an epoch of a channel has one list there, which is short, and all can be said. So it
-- is of a log that was gained entry by entry.
use Rattle.std.proofs.Common.{◌≡◌, ◌≤◌, ℕ, zero, suc, ◌&&◌, ◌||◌, not, Bool, true, false, if◌then◌else◌, Option, Some}
use Rattle.std.proofs.Common.{None, List, [], ◌∷◌, ◌++◌, length, slice_get, append-nil, append_assoc, refl, sym, ap}
use Rattle.std.proofs.Common.{subst, arith}
use Rattle.std.specs.Prelude.{IfSome, fold, option_map}
use Rattle.std.specs.List.{AllByRecursion, cons_option}
use Rattle.std.specs.Str.{bytes_eq}
use Rattle.std.proofs.lemmas.Bool.{and_parts}
use Rattle.std.proofs.lemmas.List.Elements.{All-from_recursion}
use Rattle.std.proofs.lemmas.Slice.Eq.{bytes_eq-Decides}
use mathlib.Core.List.{IsPrefix}
use Rattle.cf_protocol.specs.Datum.{Datum, Placed}
use Rattle.cf_protocol.specs.Epoch.{IsEpoch}
use Rattle.cf_protocol.specs.Fields.{max_u64}
use Rattle.cf_protocol.specs.LogEntry.{Entry}
use Rattle.cf_protocol.specs.LogEntry.Entry.{Open, Publish, Trim, Forget, Size}
use Rattle.cf_protocol.specs.Names.{is_among}
use Rattle.cf_protocol.specs.Note.{placed_at}
use Rattle.cf_protocol.specs.Regular.{IsBody, IsPlaced, IsPosition}
use Rattle.cf_model.specs.Streams.{Life}
use Rattle.cf_model.specs.Streams.{last_offset}
use Rattle.cf_stream.specs.LogState.{epoch_in, holding_in, keys_in, life_in, list_in}
use Rattle.cf_machine.specs.Config.{Config}
use Rattle.cf_machine.specs.ReadBack.{IsDatum}
use Rattle.cf_machine.proofs.Readings.{regular-placed}
use Rattle.cf_order.specs.Passes.{PassState}
use Rattle.cf_running.specs.Server.{may_gain}
use Rattle.cf_running.specs.ShardLogs.{epochs_in}
use Rattle.cf_running.proofs.Gaining.{WasOpened, was_opened}
use Rattle.cf_node_hub.specs.Seen.{IsSound, Turn, listed_in, log_at, no_turn, turn_after}
use Rattle.cf_node_hub.proofs.Sound.{OpensFresh, once_of}
use Rattle.cf_running_ties.specs.Seen.{CanBeSaid, IsGood}
use Rattle.cf_running_ties.specs.ShardCalls.{MayAll}
use Rattle.cf_running_ties.proofs.Gained.{fits}
use Rattle.cf_running_ties.proofs.Growing.{all-append}

-- ---- what can be said

all-front : {A : Type 0} (P : A → Type 0) (xs ys : List A) → AllByRecursion P (xs ++ ys) → AllByRecursion P xs
all-front P [] ys h = tt
all-front P (x ∷ xs) ys h = (h.0, all-front P xs ys h.1)

either-first : (a b : Bool) → (a || b) ≡ false → a ≡ false
either-first true b h = absurd (cc)
either-first false b h = refl

either-second : (a b : Bool) → (a || b) ≡ false → b ≡ false
either-second true b h = absurd (cc)
either-second false b h = h

is-not : (b : Bool) → not b ≡ true → b ≡ false
is-not true h = absurd (cc)
is-not false h = refl

-- all that a log lists can be read back
listed-said : (c e : List ℕ) (es : List Entry) (t : Turn) → AllByRecursion CanBeSaid es → AllByRecursion IsDatum t.list
    → AllByRecursion IsDatum (fold (turn_after c e) t es).list
listed-said c e [] t h k = k
listed-said c e (Open q y ∷ es) t h k = listed-said c e es (turn_after c e t (Open q y)) h.1 k
listed-said c e (Publish q key d ∷ es) t h k =
    listed-said c e es (turn_after c e t (Publish q key d)) h.1 (by_bool (bytes_eq q c && t.stands))
  where
    by_bool : (b : Bool) → AllByRecursion IsDatum (if b then t.list ++ d ∷ [] else t.list)
    by_bool true = all-append IsDatum t.list (d ∷ []) k (h.0, tt)
    by_bool false = k
listed-said c e (Trim q n ∷ es) t h k = listed-said c e es t h.1 k
listed-said c e (Forget q ∷ es) t h k = listed-said c e es (turn_after c e t (Forget q)) h.1 k
listed-said c e (Size name n ∷ es) t h k = listed-said c e es t h.1 k

-- each epoch in which a channel opened is one
opened-said : (c : List ℕ) (es : List Entry) → AllByRecursion CanBeSaid es → AllByRecursion IsEpoch (epochs_in es c)
opened-said c [] h = tt
opened-said c (Open q e ∷ es) h = by_bool (bytes_eq q c) (opened-said c es h.1)
  where
    by_bool : (b : Bool) → AllByRecursion IsEpoch (epochs_in es c)
        → AllByRecursion IsEpoch (cons_option (if b then Some e else None) (epochs_in es c))
    by_bool true k = (h.0, k)
    by_bool false k = k
opened-said c (Publish q key d ∷ es) h = opened-said c es h.1
opened-said c (Trim q n ∷ es) h = opened-said c es h.1
opened-said c (Forget q ∷ es) h = opened-said c es h.1
opened-said c (Size name n ∷ es) h = opened-said c es h.1

among-said : (e : List ℕ) (es : List (List ℕ)) → AllByRecursion IsEpoch es → is_among e es ≡ true → IsEpoch e
among-said e [] h k = absurd (cc)
among-said e (x ∷ es) h k = by_bool (bytes_eq x e) refl k (among-said e es h.1)
  where
    by_bool : (b : Bool) → bytes_eq x e ≡ b → (b || is_among e es) ≡ true → (is_among e es ≡ true → IsEpoch e)
        → IsEpoch e
    by_bool true is k rest = subst IsEpoch ((bytes_eq-Decides x e).0 is) h.0
    by_bool false is k rest = rest k

-- a publication of a list is one of its data
got : (ds : List Datum) (o : ℕ) (d : Datum) → AllByRecursion IsDatum ds → slice_get ds o ≡ Some d → IsDatum d
    × (suc o ≤ length ds)
got [] o d h k = absurd (cc)
got (x ∷ ds) zero d h k = let same : x ≡ d = cc (k) in (subst IsDatum same h.0, omega arith)
got (x ∷ ds) (suc o) d h k = let g = got ds o d h.1 k in let below : suc o ≤ length ds = g.1 in (g.0, omega arith)

placed-said : (ds : List Datum) (o : ℕ) (p : Placed) → AllByRecursion IsDatum ds → length ds ≤ max_u64
    → placed_at ds o ≡ Some p → IsPlaced IsBody p
placed-said ds zero p h fits k = absurd (cc)
placed-said ds (suc o) p h fits k = by_datum (slice_get ds o) refl k
  where
    by_datum : (x : Option Datum) → slice_get ds o ≡ x
        → option_map (λ d. record { offset = suc o; datum = d }) x ≡ Some p → IsPlaced IsBody p
    by_datum None is k = absurd (cc)
    by_datum (Some d) is k =
        let g = got ds o d h is in
        let same : record { offset = suc o; datum = d } ≡ p = cc (k) in
        let below : suc o ≤ length ds = g.1 in
        subst (IsPlaced IsBody) same (record { body = g.0.0; info = g.0.1; offset = omega arith })

-- ---- what makes it sound

-- what has to be known of a log, of one channel
pub record IsKnown (c : List ℕ) (log : List Entry) : Type 0 where
  pub once : (e : List ℕ) (before : List Entry) → IsPrefix before log → epoch_in before c ≡ Some e
      → list_in before c ≡ listed_in before c e
  pub said : AllByRecursion CanBeSaid log
  pub short : (e : List ℕ) (before : List Entry) → IsPrefix before log → epoch_in before c ≡ Some e
      → length (list_in before c) ≤ max_u64

module _ (c e : List ℕ) (before log : List Entry) (h : IsKnown c log) (begins : IsPrefix before log)
    (opened : epoch_in before c ≡ Some e) where
  said : AllByRecursion CanBeSaid before
  said = all-front CanBeSaid before begins.0 (subst (AllByRecursion CanBeSaid) (sym begins.1) h.said)

  all : AllByRecursion IsDatum (list_in before c)
  all = subst (AllByRecursion IsDatum) (sym (h.once e before begins opened)) (listed-said c e before no_turn said tt)

  abbrev there : Life
  there = record {
    epoch = e;
    list = list_in before c;
    keys = keys_in before c;
    held = (holding_in [] before c).held;
  }

  is-there : life_in [] before c ≡ Some there
  is-there = ap (option_map (λ (x : List ℕ). record {
    epoch = x;
    list = list_in before c;
    keys = keys_in before c;
    held = (holding_in [] before c).held;
  })) opened

  position : IsPosition (record { epoch = e; offset = length (list_in before c) })
  position = record {
    epoch = among-said e (epochs_in before c) (opened-said c before said)
        (subst (WasOpened before c) is-there (was_opened [] before c));
    offset = h.short e before begins opened;
  }

pub sound-by : (seen : List PassState) → ((c : List ℕ) → IsKnown c (log_at seen c)) → IsSound seen
sound-by seen known = record {
  once = λ c e before h is. (known c).once e before h is;
  regular = λ c e p h.
      placed-said (list_in h.before c) p.offset p (all c e h.before (log_at seen c) (known c) h.begins h.opened)
      ((known c).short e h.before h.begins h.opened) h.placed;
  positions = λ c e before h is. position c e before (log_at seen c) (known c) h is;
  placed = λ c e before low count h is low-fits.
      regular-placed (list_in before c) low count low-fits ((known c).short e before h is)
      (All-from_recursion IsDatum (list_in before c) (all c e before (log_at seen c) (known c) h is));
}

-- ---- no epoch opens again

-- in an epoch in which the channel doesn't open, nothing is listed more
never : (c y : List ℕ) (es : List Entry) (t : Turn) → t.stands ≡ false → t.list ≡ []
    → is_among y (epochs_in es c) ≡ false → (fold (turn_after c y) t es).list ≡ []
never c y [] t s l h = l
never c y (Open q e ∷ es) t s l h =
    never c y es (turn_after c y t (Open q e)) (by_bool (bytes_eq q c) h).0 l (by_bool (bytes_eq q c) h).1
  where
    by_bool : (b : Bool) → is_among y (cons_option (if b then Some e else None) (epochs_in es c)) ≡ false
        → ((if b then bytes_eq e y else t.stands) ≡ false) × (is_among y (epochs_in es c) ≡ false)
    by_bool true k = (
      either-first (bytes_eq e y) (is_among y (epochs_in es c)) k,
      either-second (bytes_eq e y) (is_among y (epochs_in es c)) k,
    )
    by_bool false k = (s, k)
never c y (Publish q key d ∷ es) t s l h =
    never c y es (turn_after c y t (Publish q key d)) s (by_bool (bytes_eq q c) t.stands s) h
  where
    by_bool : (a b : Bool) → b ≡ false → (if a && b then t.list ++ d ∷ [] else t.list) ≡ []
    by_bool true true k = absurd (cc)
    by_bool true false k = l
    by_bool false b k = l
never c y (Trim q n ∷ es) t s l h = never c y es t s l h
never c y (Forget q ∷ es) t s l h = never c y es (turn_after c y t (Forget q)) (by_bool (bytes_eq q c)) l h
  where
    by_bool : (b : Bool) → (if b then false else t.stands) ≡ false
    by_bool true = refl
    by_bool false = s
never c y (Size name n ∷ es) t s l h = never c y es t s l h

module _ (cfg : Config) where
  front : (xs ys a : List Entry) → MayAll cfg a (xs ++ ys) → MayAll cfg a xs
  front [] ys a h = tt
  front (x ∷ xs) ys a h = (h.0, front xs ys (a ++ x ∷ []) h.1)

  back : (xs ys a : List Entry) → MayAll cfg a (xs ++ ys) → MayAll cfg (a ++ xs) ys
  back [] ys a h = subst (λ (l : List Entry). MayAll cfg l ys) (sym (append-nil a)) h
  back (x ∷ xs) ys a h =
      subst (λ (l : List Entry). MayAll cfg l ys) (append_assoc a (x ∷ []) xs) (back xs ys (a ++ x ∷ []) h.1)

  drawn : (before : List Entry) (q y : List ℕ) → may_gain cfg before (Open q y) ≡ true
      → is_among y (epochs_in before q) ≡ false
  drawn before q y h = is-not (is_among y (epochs_in before q)) (and_parts _ _ (and_parts _ _ h).1).1

  opens-fresh : (c : List ℕ) (log : List Entry) → MayAll cfg [] log → OpensFresh c log
  opens-fresh c log h = λ before after q y is about.
      let may = back before (Open q y ∷ after) [] (subst (MayAll cfg []) is h) in
      never c y before no_turn refl refl
      (subst (λ (z : List ℕ). is_among y (epochs_in before z) ≡ false) ((bytes_eq-Decides q c).0 about)
      (drawn before q y may.0))

  -- ---- at a point of a log that was gained entry by entry

  module _ (c e : List ℕ) (before log : List Entry) (h : IsGood cfg log) (begins : IsPrefix before log)
      (opened : epoch_in before c ≡ Some e) where
    gained : MayAll cfg [] before
    gained = front before begins.0 [] (subst (MayAll cfg []) (sym begins.1) h.gained)

    abbrev life : Life
    life = record {
      epoch = e;
      list = list_in before c;
      keys = keys_in before c;
      held = (holding_in cfg.namespaces before c).held;
    }

    lives : life_in cfg.namespaces before c ≡ Some life
    lives = ap (option_map (λ (x : List ℕ). record {
      epoch = x;
      list = list_in before c;
      keys = keys_in before c;
      held = (holding_in cfg.namespaces before c).held;
    })) opened

    short : length (list_in before c) ≤ max_u64
    short =
        let within : length (list_in before c) ≤ last_offset =
        subst (λ (o : Option Life). IfSome o (λ l. length l.list ≤ last_offset)) lives (fits cfg before gained c) in
        omega arith

  known : (c : List ℕ) (log : List Entry) → IsGood cfg log → IsKnown c log
  known c log h = record {
    once = λ e before begins opened. once_of c e before log (opens-fresh c log h.gained) begins opened;
    said = h.said;
    short = λ e before begins opened. short c e before log h begins opened;
  }

  pub sound : (seen : List PassState) → ((c : List ℕ) → IsGood cfg (log_at seen c)) → IsSound seen
  sound seen good = sound-by seen (λ c. known c (log_at seen c) (good c))
