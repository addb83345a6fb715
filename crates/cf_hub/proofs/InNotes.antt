-- What the code says and keeps is what the notes and positions are.
use Rattle.std.proofs.Common.{◌≡◌, inl, inr, ℕ, suc, zero, ◌+◌, ◌-◌, ◌≤◌, ◌||◌, Bool, true, false, if◌then◌else◌}
use Rattle.std.proofs.Common.{Option, Some, None, List, [], ◌∷◌, ◌++◌, length, map, take, drop, option_map, slice_get}
use Rattle.std.proofs.Common.{arith, refl, sym, ap, ◌∙◌, subst, append_assoc, append-nil}
use Rattle.std.specs.List.{All, AllByRecursion, AllZip, Contains}
use Rattle.std.proofs.lemmas.Bool.{cases_lt}
use Rattle.std.proofs.lemmas.List.{drop-append-le, length-drop, take-append-le}
use Rattle.std.proofs.lemmas.List.Elements.{All-cons, All-contains, All-from_recursion, All-nil, recursion_from_All}
use Rattle.cf_protocol.specs.Datum.{Datum, Placed, numbered}
use Rattle.cf_protocol.specs.Note.{Lists, Note, Reading, Reply, Pub, End, PingDue, insufficient, outgoing_of, placed_at}
use Rattle.cf_protocol.specs.Note.{placed_from}
use Rattle.cf_protocol.specs.Outgoing.{Ping, Answer, Subscribed, Push, Publication, Unsubscribe}
use Rattle.cf_protocol.specs.Position.{Position}
use Rattle.cf_protocol.specs.Regular.{IsCode}
use Rattle.cf_protocol.specs.Written.{text_or_none}
use Rattle.cf_queue.specs.OutQueue.{Item, Text, Close}
use Rattle.cf_model.specs.Recovery.{arrives, has, overfull}
use Rattle.cf_recovery.specs.ArrivalBuffer.{Arrival, IsRun, IsWithin, ArrivalBuffer, StandsFor, arrival, given_up}
use Rattle.cf_recovery.specs.ArrivalBuffer.{nothing_kept, places, with_arrival}
use Rattle.cf_model.specs.Recovery.{falls_short, run_length}
use Rattle.cf_model.specs.Recovery.{next}
use Rattle.cf_hub.specs.Alike.{AlikeSub}
use Rattle.cf_hub.specs.Finish.{Finishes, FinishesAt}
use Rattle.cf_hub.specs.InNotes.{AreMissed, Grown, IsKept, IsListed, IsSaid, MissedBy, SaysNote, SaysSession, placed_of}
use Rattle.cf_model.specs.Sessions.{Subscription, Off, Asked, Ready, On, SessionState, finish_at, finish_notes}
use Rattle.cf_model.specs.Sessions.{finished, finishes, put_sub, says}
use Rattle.cf_model.specs.Sessions.{note_length, pushes, spoken}
use Rattle.cf_hub.specs.Wordings.{Held, at_offset, end_text, held, item_weight, ping_text, push_text, releasing}
use Rattle.cf_hub.specs.Wordings.{reply_text}
use Rattle.cf_hub.proofs.Alikes.{put_alike, says_alike, zip_both}

-- ---- the lists only grow

pub grown_same : (lists : Lists) → Grown lists lists
grown_same lists = record { later = λ c e. ([], sym (append-nil (lists c e))) }

pub grown_then : {k l m : Lists} → Grown k l → Grown l m → Grown k m
grown_then {k = k} {l = l} {m = m} g h = record {
  later = λ c e.
      let d = g.later c e in
      let f = h.later c e in
      (d.0 ++ f.0, f.1 ∙ ap (λ ds. ds ++ f.0) d.1 ∙ append_assoc (k c e) d.0 f.0);
}

get_more : (ds es : List Datum) (i : ℕ) (d : Datum) → slice_get ds i ≡ Some d → slice_get (ds ++ es) i ≡ Some d
get_more [] es i d h = absurd (cc)
get_more (x ∷ ds) es zero d h = h
get_more (x ∷ ds) es (suc i) d h = get_more ds es i d h

abbrev placed : ℕ → Datum → Placed
placed o d = record { offset = o; datum = d }

placed_more : (ds es : List Datum) (o : ℕ) (p : Placed) → placed_at ds o ≡ Some p → placed_at (ds ++ es) o ≡ Some p
placed_more ds es zero p h = absurd (cc)
placed_more ds es (suc o) p h = some_more (slice_get ds o) (slice_get (ds ++ es) o) (get_more ds es o) h
  where
    some_more : (x y : Option Datum) → ((d : Datum) → x ≡ Some d → y ≡ Some d) → option_map (placed (suc o)) x ≡ Some p
        → option_map (placed (suc o)) y ≡ Some p
    some_more None y g k = absurd (cc)
    some_more (Some d) y g k = ap (option_map (placed (suc o))) (g d refl) ∙ k

All-each : {X : Type 0} (P Q : X → Type 0) (xs : List X) → ((x : X) → P x → Q x) → All P xs → All Q xs
All-each {X = X} P Q xs f h = All-from_recursion Q xs (each xs (recursion_from_All P xs h))
  where
    each : (ys : List X) → AllByRecursion P ys → AllByRecursion Q ys
    each [] k = tt
    each (y ∷ ys) k = (f y k.0, each ys k.1)

-- what is listed stays so
pub listed_stays : (lists : Lists) (c e : List ℕ) (p : Placed) → placed_at (lists c e) p.offset ≡ Some p
    → (later : Lists) → Grown lists later → placed_at (later c e) p.offset ≡ Some p
listed_stays lists c e p h later g =
    let more = g.later c e in
    ap (λ ds. placed_at ds p.offset) more.1 ∙ placed_more (lists c e) more.0 p.offset p h

from_more : (ds es : List Datum) (low top : ℕ) → top ≤ length ds
    → placed_from (ds ++ es) low (top - low) ≡ placed_from ds low (top - low)
from_more ds es low top h = elim (cases_lt top low) [
  | inl l ↦ let none : top - low ≡ 0 = omega arith in
      ap (λ n. placed_from (ds ++ es) low n) none ∙ sym (ap (λ n. placed_from ds low n) none)
  | inr l ↦
      let long = length-drop low ds in
      let within : low ≤ length ds = omega (arith, l, h) in
      let few : top - low ≤ length (drop low ds) = omega (arith, long, l, h) in
      ap (λ xs. numbered low (take (top - low) xs)) (drop-append-le low ds es within)
      ∙ ap (numbered low) (take-append-le (top - low) (drop low ds) es few)
]

-- what a reading has stays so
pub read_stays : (lists : Lists) (c : List ℕ) (r : Reading) → r.top ≤ length (lists c r.epoch) → (later : Lists)
    → Grown lists later
    → placed_from (later c r.epoch) r.low (r.top - r.low) ≡ placed_from (lists c r.epoch) r.low (r.top - r.low)
read_stays lists c r h later g =
    let more = g.later c r.epoch in
    ap (λ ds. placed_from ds r.low (r.top - r.low)) more.1 ∙ from_more (lists c r.epoch) more.0 r.low r.top h

module _ {lists more : Lists} (g : Grown lists more) where
  said_grows : (i : Item) (n : Note) → SaysNote lists i n → SaysNote more i n
  said_grows (Text t) n s =
      record { said = s.said; stays = λ later h. s.stays later (grown_then g h); regular = s.regular; text = s.text }
  said_grows (Close code) n s = s

  notes_grow : (is : List Item) (ns : List Note) → AllZip (SaysNote lists) is ns → AllZip (SaysNote more) is ns
  notes_grow [] [] h = tt
  notes_grow [] (n ∷ ns) h = absurd h
  notes_grow (i ∷ is) [] h = absurd h
  notes_grow (i ∷ is) (n ∷ ns) h = (said_grows i n h.0, notes_grow is ns h.1)

  listed_grows : (c e : List ℕ) (p : Placed) → IsListed lists c e p → IsListed more c e p
  listed_grows c e p h = record { stands = λ later k. h.stands later (grown_then g k); regular = h.regular }

  missed_grows : (c : List ℕ) (x : Option Reading) (ps : List Placed) → MissedBy lists c x ps → MissedBy more c x ps
  missed_grows c None ps h = h
  missed_grows c (Some r) ps h =
      record { listed = λ later k. h.listed later (grown_then g k); regular = h.regular; position = h.position }

  kept_grows : (c : List ℕ) (id : ℕ) (x : Option Reading) (h : Held) (arrived : List Position)
      → IsKept lists c id x h arrived → IsKept more c id x h arrived
  kept_grows c id x h arrived k = record {
    is_code = k.is_code;
    within = k.within;
    stands = k.stands;
    whole = k.whole;
    listed = All-each (λ a. IsListed lists c a.at.epoch (placed_of a)) (λ a. IsListed more c a.at.epoch (placed_of a))
        h.kept.arrived (λ a l. listed_grows c a.at.epoch (placed_of a) l) k.listed;
    missed = missed_grows c x h.missed k.missed;
  }

  sub_grows : (c : List ℕ) (s : Subscription Held) (s' : Subscription (List Position)) → AlikeSub (IsKept lists c) s s'
      → AlikeSub (IsKept more c) s s'
  sub_grows c Off Off e = tt
  sub_grows c (Asked id since k) (Asked id' since' k') e = (e.0, e.1, kept_grows c id None k k' e.2)
  sub_grows c (Ready id was x k) (Ready id' was' x' k') e = (e.0, e.1, e.2, kept_grows c id (Some x) k k' e.3)
  sub_grows c (On p behind_at) (On p' behind_at') e = e
  sub_grows c Off (Asked id since k) e = absurd e
  sub_grows c Off (Ready id was x k) e = absurd e
  sub_grows c Off (On p behind_at) e = absurd e
  sub_grows c (Asked id since k) Off e = absurd e
  sub_grows c (Asked id since k) (Ready id' was x k') e = absurd e
  sub_grows c (Asked id since k) (On p behind_at) e = absurd e
  sub_grows c (Ready id was x k) Off e = absurd e
  sub_grows c (Ready id was x k) (Asked id' since k') e = absurd e
  sub_grows c (Ready id was x k) (On p behind_at) e = absurd e
  sub_grows c (On p behind_at) Off e = absurd e
  sub_grows c (On p behind_at) (Asked id since k) e = absurd e
  sub_grows c (On p behind_at) (Ready id was x k) e = absurd e

  pub session_grows : (a : SessionState Held Item) (b : SessionState (List Position) Note) → SaysSession lists a b
      → SaysSession more a b
  session_grows a b h =
      record {
        subs = λ c. sub_grows c (a.subs c) (b.subs c) (h.subs c);
        notes = notes_grow a.notes b.notes h.notes;
        closed = h.closed;
      }

-- ---- what is said

text_is : (lists : Lists) (t : List ℕ) (n : Note) → IsSaid lists t n → t ≡ text_or_none (outgoing_of lists n)
text_is lists t n s = s.text ∙ sym (ap text_or_none (s.stays lists (grown_same lists)))

pub weighs : (lists : Lists) (i : Item) (n : Note) → SaysNote lists i n → item_weight i ≡ note_length lists n
unfolding note_length
weighs lists (Text t) n s = ap length (text_is lists t n s)
weighs lists (Close code) n s = subst (λ (m : Note). 0 ≡ length (text_or_none (outgoing_of lists m))) (sym s) refl

pub says_end : (lists : Lists) (c : List ℕ) → SaysNote lists (Text (end_text c)) (End c)
says_end lists c =
    record {
      said = Push c (Unsubscribe insufficient);
      stays = λ later g. refl;
      regular = (omega arith, omega arith);
      text = refl;
    }

pub says_ping : (lists : Lists) → SaysNote lists (Text ping_text) PingDue
says_ping lists = record { said = Ping; stays = λ later g. refl; regular = tt; text = refl }

pub says_place : (lists : Lists) (c e : List ℕ) (p : Placed) → IsListed lists c e p
    → SaysNote lists (Text (push_text c p)) (Pub c (at_offset e p))
says_place lists c e p h =
    record {
      said = Push c (Publication p);
      stays = λ later g. ap (option_map (λ d. Push c (Publication d)))
          (h.stands later g);
      regular = h.regular;
      text = refl;
    }

pub says_reply : (lists : Lists) (c : List ℕ) (id : ℕ) (was : Bool) (r : Reading) (ps : List Placed) → IsCode id
    → AreMissed lists c r ps → SaysNote lists (Text (reply_text id was r ps)) (Reply c id was r)
says_reply lists c id was r ps code h = record {
  said = Answer id (Subscribed (record { epoch = r.epoch; offset = r.top }) ps r.recovered was);
  stays = λ later g. ap (λ xs. Some (Answer id (Subscribed (record { epoch = r.epoch; offset = r.top }) xs r.recovered
      was))) (h.listed later g);
  regular = (code, (h.position, h.regular));
  text = refl;
}

-- ---- what is kept

pub keeps_nothing : (lists : Lists) (c : List ℕ) (id : ℕ) → IsCode id → IsKept lists c id None (held nothing_kept []) []
keeps_nothing lists c id code = record {
  is_code = code;
  within = record { once = tt; few = refl; nothing = λ h. absurd (cc); cause = λ h. absurd (cc) };
  stands = record { all = λ h. refl; more = λ h s. absurd (cc) };
  whole = refl;
  listed = All-nil (λ a. IsListed lists c a.at.epoch (placed_of a));
  missed = tt;
}

pub keeps_read : (lists : Lists) (c : List ℕ) (r : Reading) (missed : List Placed) → AreMissed lists c r missed
    → (id : ℕ) (k : Held) (arrived : List Position) → IsKept lists c id None k arrived
    → IsKept lists c id (Some r) (record k { missed = missed }) arrived
keeps_read lists c r missed m id k arrived h =
    record { is_code = h.is_code; within = h.within; stands = h.stands; whole = h.whole; listed = h.listed; missed = m }

module _ (within : (a : Arrival) (k : ArrivalBuffer) → IsWithin k → IsWithin (with_arrival a k))
    (stands : (a : Arrival) (k : ArrivalBuffer) (arrived : List Position) → StandsFor k arrived
    → StandsFor (with_arrival a k) (arrives a.at arrived)) where
  listed_more : (P : Arrival → Type 0) (a : Arrival) (k : ArrivalBuffer) → P a → All P k.arrived
      → All P (with_arrival a k).arrived
  listed_more P a k p h =
      by_test (k.overflow || has (places k.arrived) a.at.epoch a.at.offset) (overfull (a.at ∷ places k.arrived))
    where
      by_test : (known many : Bool) → All P (if known then k else if many then given_up k.short
          else record k { arrived = a ∷ k.arrived }).arrived
      by_test true many = h
      by_test false true = All-nil P
      by_test false false = All-cons P a k.arrived p h

  same_short : (a : Arrival) (k : ArrivalBuffer) → (with_arrival a k).short ≡ k.short
  same_short a k =
      by_test (k.overflow || has (places k.arrived) a.at.epoch a.at.offset) (overfull (a.at ∷ places k.arrived))
    where
      by_test : (known many : Bool) → (if known then k else if many then given_up k.short
          else record k { arrived = a ∷ k.arrived }).short ≡ k.short
      by_test true many = refl
      by_test false true = refl
      by_test false false = refl

  pub keeps_one : (lists : Lists) (c e : List ℕ) (p : Placed) → IsListed lists c e p
      → (id : ℕ) (x : Option Reading) (k : Held) (arrived : List Position) → IsKept lists c id x k arrived
      → IsKept lists c id x (record k { kept = with_arrival (arrival e p) k.kept }) (arrives (at_offset e p) arrived)
  keeps_one lists c e p l id x k arrived h = record {
    is_code = h.is_code;
    within = within (arrival e p) k.kept h.within;
    stands = stands (arrival e p) k.kept arrived h.stands;
    whole = same_short (arrival e p) k.kept ∙ h.whole;
    listed = listed_more (λ a. IsListed lists c a.at.epoch (placed_of a)) (arrival e p) k.kept l h.listed;
    missed = h.missed;
  }

-- ---- a reply, and what follows it

head_is : (x y : Placed) (xs ys : List Placed) → ◌≡◌ {A = List Placed} (x ∷ xs) (y ∷ ys) → x ≡ y
head_is x y xs ys h = cc

tail_is : (x y : Placed) (xs ys : List Placed) → ◌≡◌ {A = List Placed} (x ∷ xs) (y ∷ ys) → xs ≡ ys
tail_is x y xs ys h = cc

says_run : (lists : Lists) (c : List ℕ) (run : List Placed) (p : Position) (n : ℕ) → length run ≡ n
    → run ≡ numbered p.offset (map (λ x. x.datum) run) → AllByRecursion (IsListed lists c p.epoch) run
    → AllZip (SaysNote lists) (map (λ x. Text (push_text c x)) run) (pushes c p n)
says_run lists c [] p zero e at l = tt
says_run lists c [] p (suc n) e at l = absurd (omega arith)
says_run lists c (x ∷ run) p zero e at l = absurd (omega arith)
says_run lists c (x ∷ run) p (suc n) e at l =
    let here : x.offset ≡ p.offset + 1 = ap (λ (y : Placed). y.offset) (head_is x _ run _ at) in (
      subst (λ (o : ℕ). SaysNote lists (Text (push_text c x)) (Pub c (record { epoch = p.epoch; offset = o }))) here
          (says_place lists c p.epoch x l.0),
      says_run lists c run (next p) n (omega arith) (tail_is x _ run _ at) l.1,
    )

module _
    (counted : (k : ArrivalBuffer) (arrived : List Position) (r : Reading) → IsWithin k → StandsFor k arrived
    → k.short ≡ false → run_length (places k.arrived) r ≡ run_length arrived r)
    (short : (k : ArrivalBuffer) (arrived : List Position) (r : Reading) → IsWithin k → StandsFor k arrived
    → k.short ≡ false → (k.overflow || falls_short (places k.arrived) r) ≡ falls_short arrived r)
    (lists : Lists) (c : List ℕ) where
  abbrev at : List ℕ → ℕ → Position
  at e o = record { epoch = e; offset = o }

  abbrev tail : {N : Type 0} → Bool → N → List N
  tail t n = if t then n ∷ [] else []

  module _ (id : ℕ) (was : Bool) (r : Reading) (h : Held) (arrived : List Position)
      (kept : IsKept lists c id (Some r) h arrived) (run : List Placed)
      (is_run : IsRun h.kept (record { epoch = r.epoch; offset = r.top }) run) where
    pub many : length run ≡ run_length arrived r
    many = is_run.counted ∙ counted h.kept arrived r kept.within kept.stands kept.whole

    pub falls : (h.kept.overflow || falls_short (places h.kept.arrived) r) ≡ falls_short arrived r
    falls = short h.kept arrived r kept.within kept.stands kept.whole

    all_listed : AllByRecursion (IsListed lists c r.epoch) run
    all_listed = recursion_from_All (IsListed lists c r.epoch) run
        (All-each (λ x. Contains h.kept.arrived (arrival r.epoch x)) (IsListed lists c r.epoch) run
        (λ x k. All-contains (λ a. IsListed lists c a.at.epoch (placed_of a)) h.kept.arrived (arrival r.epoch x)
        kept.listed k) is_run.kept)

    tails : (t u : Bool) → t ≡ u → AllZip (SaysNote lists) (tail t (Text (end_text c))) (tail u (End c))
    tails true true e = (says_end lists c, tt)
    tails false false e = tt
    tails true false e = absurd (cc)
    tails false true e = absurd (cc)

    pub all_said : AllZip (SaysNote lists) (finish_notes (releasing run) c id was r h)
        (finish_notes (spoken lists) c id was r arrived)
    all_said = (
      says_reply lists c id was r h.missed kept.is_code kept.missed,
      zip_both (IsKept lists) (SaysNote lists) (map (λ x. Text (push_text c x)) run)
          (pushes c (record { epoch = r.epoch; offset = r.top }) (run_length arrived r))
          (tail (h.kept.overflow || falls_short (places h.kept.arrived) r) (Text (end_text c)))
          (tail (falls_short arrived r) (End c))
          (says_run lists c run (record { epoch = r.epoch; offset = r.top }) (run_length arrived r) many
          is_run.at_offsets all_listed)
          (tails (h.kept.overflow || falls_short (places h.kept.arrived) r) (falls_short arrived r) falls),
    )

    stand_by : (t u : Bool) (m n : ℕ) → t ≡ u → m ≡ n
        → AlikeSub (IsKept lists c) (if t then Off else On (record { epoch = r.epoch; offset = r.top + m }) None)
        (if u then Off else On (record { epoch = r.epoch; offset = r.top + n }) None)
    stand_by true true m n e f = tt
    stand_by false false m n e f = (ap (λ (o : ℕ). at r.epoch (r.top + o)) f, refl)
    stand_by true false m n e f = absurd (cc)
    stand_by false true m n e f = absurd (cc)

    stands : AlikeSub (IsKept lists c) (finished (releasing run) r h) (finished (spoken lists) r arrived)
    stands = stand_by (h.kept.overflow || falls_short (places h.kept.arrived) r) (falls_short arrived r) (length run)
        (run_length arrived r) falls many

  stays : (a new : SessionState Held Item) (b : SessionState (List Position) Note) → new ≡ a → SaysSession lists a b
      → SaysSession lists new b
  stays a new b f h = subst (λ (s : SessionState Held Item). SaysSession lists s b) (sym f) h

  finishes_so : (id : ℕ) (was : Bool) (r : Reading) (k : Held) (arrived : List Position)
      → IsKept lists c id (Some r) k arrived → (a new : SessionState Held Item) (b : SessionState (List Position) Note)
      → Finishes false c id was r k a new
      → SaysSession lists a b → SaysSession lists new
      (says (spoken lists) (finish_notes (spoken lists) c id was r arrived)
      (put_sub c (finished (spoken lists) r arrived) b))
  finishes_so id was r k arrived kept a new b f h = elim f.said [
    | inl e ↦
        stays (says (releasing f.run) (finish_notes (releasing f.run) c id was r k)
        (put_sub c (finished (releasing f.run) r k) a)) new
        (says (spoken lists) (finish_notes (spoken lists) c id was r arrived)
        (put_sub c (finished (spoken lists) r arrived) b)) e
        (says_alike (IsKept lists) (SaysNote lists) (releasing f.run) (spoken lists) (weighs lists) refl
        (finish_notes (releasing f.run) c id was r k) (finish_notes (spoken lists) c id was r arrived)
        (put_sub c (finished (releasing f.run) r k) a) (put_sub c (finished (spoken lists) r arrived) b)
        (all_said id was r k arrived kept f.run f.is_run)
        (put_alike (IsKept lists) (SaysNote lists) c (finished (releasing f.run) r k)
        (finished (spoken lists) r arrived) a b (stands id was r k arrived kept f.run f.is_run) h))
    | inr x ↦ let no : false ≡ true = x.0 in absurd (cc)
  ]

  finish_by : (s : Subscription Held) (s' : Subscription (List Position)) (a new : SessionState Held Item)
      (b : SessionState (List Position) Note) → AlikeSub (IsKept lists c) s s' → FinishesAt false c s a new
      → SaysSession lists a b → SaysSession lists new (finish_at (spoken lists) c s' b)
  finish_by Off Off a new b e f h = stays a new b f h
  finish_by (Asked id since k) (Asked id' since' k') a new b e f h = stays a new b f h
  finish_by (On p behind_at) (On p' behind_at') a new b e f h = stays a new b f h
  finish_by (Ready id was r k) (Ready id' was' r' k') a new b e f h =
      subst (λ (i : ℕ). SaysSession lists new (says (spoken lists) (finish_notes (spoken lists) c i was' r' k')
      (put_sub c (finished (spoken lists) r' k') b))) e.0
      (subst (λ (t : Bool). SaysSession lists new (says (spoken lists) (finish_notes (spoken lists) c id t r' k')
      (put_sub c (finished (spoken lists) r' k') b))) e.1
      (subst (λ (x : Reading). SaysSession lists new
      (says (spoken lists) (finish_notes (spoken lists) c id was x k')
      (put_sub c (finished (spoken lists) x k') b))) e.2
      (finishes_so id was r k k' e.3 a new b f h)))
  finish_by Off (Asked id' since' k') a new b e f h = absurd e
  finish_by Off (Ready id' was' x' k') a new b e f h = absurd e
  finish_by Off (On p' behind_at') a new b e f h = absurd e
  finish_by (Asked id since k) Off a new b e f h = absurd e
  finish_by (Asked id since k) (Ready id' was' x' k') a new b e f h = absurd e
  finish_by (Asked id since k) (On p' behind_at') a new b e f h = absurd e
  finish_by (Ready id was x k) Off a new b e f h = absurd e
  finish_by (Ready id was x k) (Asked id' since' k') a new b e f h = absurd e
  finish_by (Ready id was x k) (On p' behind_at') a new b e f h = absurd e
  finish_by (On p behind_at) Off a new b e f h = absurd e
  finish_by (On p behind_at) (Asked id' since' k') a new b e f h = absurd e
  finish_by (On p behind_at) (Ready id' was' x' k') a new b e f h = absurd e

  pub finish_alike : (a new : SessionState Held Item) (b : SessionState (List Position) Note)
      → FinishesAt false c (a.subs c) a new → SaysSession lists a b
      → SaysSession lists new (finishes (spoken lists) c b)
  finish_alike a new b f h = finish_by (a.subs c) (b.subs c) a new b (h.subs c) f h
