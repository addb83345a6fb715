-- A schedule that is read line by line.
use Rattle.std.proofs.Common.{◌≡◌, ℕ, ◌+◌, ◌<◌, zero, suc, Bool, true, false, ◌||◌, Option, Some, None, Result, Ok, Err}
use Rattle.std.proofs.Common.{IfErr, List, [], ◌∷◌, ◌++◌, length, map, flat_map, take, drop, get_or, slice_get, refl}
use Rattle.std.proofs.Common.{sym, ap, subst, ◌∙◌, arith}
use Rattle.std.specs.List.{AllZip}
use Rattle.std.specs.Prelude.{option_to_list}
use Rattle.std.specs.Str.{bytes_eq}
use Rattle.std.specs.BTreeSet.{contains_text}
use Rattle.std.specs.Prelude.{MatchOption}
use Rattle.std.specs.Borrow.{Bor}
use Rattle.std.proofs.Math.Seq.{drop-cons}
use Rattle.std.proofs.lemmas.Bool.{false≢true, or_parts}
use Rattle.std.proofs.lemmas.List.{append-nil, map-append, take_more, take-append-drop}
use Rattle.std.proofs.lemmas.Grind.{flat_map-append}
use Rattle.std.proofs.lemmas.Slice.Zip.{all_zipped_more}
use Rattle.std.proofs.lemmas.Slice.Eq.{bytes_eq-Decides}
use Rattle.cf_protocol.specs.Names.{is_among}
use Rattle.cf_machine.specs.Event.{Event, Epoch}
use Rattle.cf_schedule.specs.Seen.{seen}
use Rattle.cf_schedule.specs.ScheduleLine.{Says, IsPassedOver}
use Rattle.cf_machine.specs.FreshEpochs.{AreDistinct}
use Rattle.cf_schedule.specs.declared.event.Event as declared
use Rattle.cf_simulate.specs.ScheduleText.{lines_of, Gives, events_of, epochs_by, epochs_of}
use Rattle.cf_simulate.specs.ScheduleRead.{HasLines, IsLineOf, IsReadTo, KeepsEpoch, RefusesLine, RefusesText, Epochs}
use Rattle.cf_simulate.specs.declared.error.SimulateError.{SimulateError}
use Rattle.cf_simulate.specs.declared.error.SimulateError.TheVariants.{Unreadable, UsedTwice, NotUtf8, Memory}
use Rattle.cf_simulate.specs.declared.error.SimulateError.TheVariants.{InputOutput}
use Rattle.cf_simulate.specs.declared.schedule.Line.{Line}
use Rattle.cf_simulate.specs.declared.schedule.Schedule.{Schedule}

-- ---- names among others

apart : (a b : List ℕ) → bytes_eq a b ≡ false → bytes_eq b a ≡ false
apart a b h = by_value (bytes_eq b a) (bytes_eq-Decides b a)
  where
    by_value : (v : Bool) → (v ≡ true → b ≡ a) × (b ≡ a → v ≡ true) → v ≡ false
    by_value false d = refl
    by_value true d = let e = (bytes_eq-Decides a b).1 (sym (d.0 refl)) in absurd (cc)

or_turns : (a b c d : Bool) → c ≡ d → (a || c) ≡ (d || (a || false))
or_turns false false c d e = e ∙ or_none d
  where
    or_none : (d : Bool) → d ≡ (d || false)
    or_none true = refl
    or_none false = refl
or_turns a b c true e = or_true a c e
  where
    or_true : (a c : Bool) → c ≡ true → (a || c) ≡ true
    or_true true c e = refl
    or_true false c e = e
or_turns true b c false e = refl
or_turns false b c false e = e

among_more : (q : List ℕ) (xs ys : List (List ℕ)) → is_among q (xs ++ ys) ≡ (is_among q xs || is_among q ys)
among_more q [] ys = refl
among_more q (x ∷ xs) ys =
    or_goes (bytes_eq x q) (is_among q (xs ++ ys)) (is_among q xs) (is_among q ys) (among_more q xs ys)
  where
    or_goes : (a b c d : Bool) → b ≡ (c || d) → (a || b) ≡ ((a || c) || d)
    or_goes true b c d e = refl
    or_goes false b c d e = e

distinct_more : (xs : List (List ℕ)) (e : List ℕ) → AreDistinct xs → is_among e xs ≡ false → AreDistinct (xs ++ e ∷ [])
distinct_more [] e h n = (refl, tt)
distinct_more (x ∷ xs) e h n =
    let parts = or_parts (bytes_eq x e) (is_among e xs) n in (
      among_more x xs (e ∷ []) ∙ neither (is_among x xs) (bytes_eq e x) h.0 (apart x e parts.0),
      distinct_more xs e h.1 parts.1,
    )
  where
    neither : (a b : Bool) → a ≡ false → b ≡ false → (a || (b || false)) ≡ false
    neither false false h k = refl
    neither false true h k = absurd (false≢true (sym k))
    neither true b h k = absurd (false≢true (sym h))

-- ---- what lines give

events_none : (given : List (Option Event)) → events_of (given ++ None ∷ []) ≡ events_of given
events_none given = flat_map-append option_to_list given (None ∷ []) ∙ append-nil (events_of given)

events_some : (given : List (Option Event)) (e : Event) → events_of (given ++ Some e ∷ []) ≡ events_of given ++ e ∷ []
events_some given e = flat_map-append option_to_list given (Some e ∷ [])

epochs_some : (given : List (Option Event)) (e : Event)
    → epochs_of (given ++ Some e ∷ []) ≡ epochs_of given ++ epochs_by e
epochs_some given e =
    ap (λ es. flat_map epochs_by es) (events_some given e)
    ∙ flat_map-append epochs_by (events_of given) (e ∷ [])
    ∙ ap (λ t. epochs_of given ++ t) (append-nil (epochs_by e))

abbrev Noted : List (List ℕ) → Epochs → List (List ℕ) → Type 0
Noted xs new more = AreDistinct (xs ++ more) × ((q : List ℕ) → contains_text new q ≡ is_among q (xs ++ more))

none_kept : (xs : List (List ℕ)) (old new : Epochs) → ((q : List ℕ) → contains_text old q ≡ is_among q xs)
    → AreDistinct xs
    → ((q : List ℕ) → contains_text new q ≡ contains_text old q) → Noted xs new []
none_kept xs old new h d n =
    (subst AreDistinct (sym (append-nil xs)) d, λ q. n q ∙ h q ∙ ap (is_among q) (sym (append-nil xs)))

kept : (xs : List (List ℕ)) (old new : Epochs) (event : Event) → ((q : List ℕ) → contains_text old q ≡ is_among q xs)
    → AreDistinct xs
    → KeepsEpoch old event new → Noted xs new (epochs_by event)
kept xs old new (Epoch e) h d n = (
  distinct_more xs e d (sym (h e) ∙ n.0),
  λ q. n.1 q ∙ or_turns (bytes_eq e q) false (contains_text old q) (is_among q xs) (h q)
      ∙ sym (among_more q xs (e ∷ [])),
)
kept xs old new event h d n = none_kept xs old new h d n

-- ---- lines that are read

pub none_read : (nodes : ℕ) (s : Schedule) → s.events.items ≡ [] → ((e : List ℕ) → contains_text s.epochs e ≡ false)
    → IsReadTo nodes [] s
none_read nodes s h k =
    record { given = []; give = record { each = tt; once = tt }; events = ap (map seen) h; epochs = k }

pub one_passed : (nodes : ℕ) (before : List (List ℕ)) (line : List ℕ) (s : Schedule) → IsPassedOver line
    → IsReadTo nodes before s → IsReadTo nodes (before ++ line ∷ []) s
one_passed nodes before line s p read = record {
  given = read.given ++ None ∷ [];
  give = record {
    each = all_zipped_more (Gives nodes) before read.given line None read.give.each p;
    once = subst (λ es. AreDistinct (flat_map epochs_by es)) (sym (events_none read.given)) read.give.once;
  };
  events = read.events ∙ sym (events_none read.given);
  epochs = λ e. read.epochs e ∙ ap (λ es. is_among e (flat_map epochs_by es)) (sym (events_none read.given));
}

pub one_more : (nodes : ℕ) (before : List (List ℕ)) (line : List ℕ) (old new : Schedule) (event : declared.Event)
    → Says nodes line (seen event)
    → KeepsEpoch old.epochs (seen event) new.epochs → new.events.items ≡ old.events.items ++ event ∷ []
    → IsReadTo nodes before old → IsReadTo nodes (before ++ line ∷ []) new
one_more nodes before line old new event says notes items read =
    let n = kept (epochs_of read.given) old.epochs new.epochs (seen event) read.epochs read.give.once notes in
    record {
      given = read.given ++ Some (seen event) ∷ [];
      give = record {
        each = all_zipped_more (Gives nodes) before read.given line (Some (seen event)) read.give.each says;
        once = subst AreDistinct (sym (epochs_some read.given (seen event))) n.0;
      };
      events = ap (map seen) items ∙ map-append seen old.events.items (event ∷ [])
          ∙ ap (λ t. t ++ seen event ∷ []) read.events ∙ sym (events_some read.given (seen event));
      epochs = λ e. n.1 e ∙ ap (is_among e) (sym (epochs_some read.given (seen event)));
    }

-- ---- the lines of the events

still_at : (xs : List (List ℕ)) (y : List ℕ) (i : ℕ) (x : List ℕ) → slice_get xs i ≡ Some x
    → slice_get (xs ++ y ∷ []) i ≡ Some x
still_at [] y i x h = absurd (cc)
still_at (z ∷ xs) y zero x h = h
still_at (z ∷ xs) y (suc i) x h = still_at xs y i x h

last_at : (xs : List (List ℕ)) (y : List ℕ) → slice_get (xs ++ y ∷ []) (length xs) ≡ Some y
last_at [] y = refl
last_at (x ∷ xs) y = last_at xs y

still_lines : (nodes : ℕ) (before : List (List ℕ)) (line : List ℕ) (ls : List Line) (es : List Event)
    → AllZip (IsLineOf nodes before) ls es → AllZip (IsLineOf nodes (before ++ line ∷ [])) ls es
still_lines nodes before line [] [] h = tt
still_lines nodes before line [] (e ∷ es) h = absurd h
still_lines nodes before line (l ∷ ls) [] h = absurd h
still_lines nodes before line (l ∷ ls) (e ∷ es) h =
    let is : IsLineOf nodes before l e = h.0 in (
      record {
        before = is.before;
        number = is.number;
        stands = still_at before line is.before l.text.now is.stands;
        says = is.says;
      },
      still_lines nodes before line ls es h.1,
    )

pub no_lines : (nodes : ℕ) (lines : List Line) (events : List declared.Event) → lines ≡ [] → events ≡ []
    → AllZip (IsLineOf nodes []) lines (map seen events)
no_lines nodes lines events h k = rw (h, k) tt

pub lines_passed : (nodes : ℕ) (before : List (List ℕ)) (line : List ℕ) (s : Schedule) → HasLines nodes before s
    → HasLines nodes (before ++ line ∷ []) s
lines_passed nodes before line s h = still_lines nodes before line s.lines.items (map seen s.events.items) h

pub line_added : (nodes : ℕ) (before : List (List ℕ)) (line : Line) (event : declared.Event)
    (lines more_lines : List Line) (events more_events : List declared.Event)
    → more_lines ≡ lines ++ line ∷ [] → more_events ≡ events ++ event ∷ []
    → line.number ≡ length before + 1 → Says nodes line.text.now (seen event)
    → AllZip (IsLineOf nodes before) lines (map seen events)
    → AllZip (IsLineOf nodes (before ++ line.text.now ∷ [])) more_lines (map seen more_events)
line_added nodes before line event lines more_lines events more_events is are number says h =
    let now : List (List ℕ) = before ++ line.text.now ∷ [] in
    let seen_are : map seen more_events ≡ map seen events ++ seen event ∷ [] =
    ap (map seen) are ∙ map-append seen events (event ∷ []) in
    subst (λ (ls : List Line). AllZip (IsLineOf nodes now) ls (map seen more_events)) (sym is)
    (subst (λ (es : List Event). AllZip (IsLineOf nodes now) (lines ++ line ∷ []) es) (sym seen_are)
    (all_zipped_more (IsLineOf nodes now) lines (map seen events) line (seen event)
    (still_lines nodes before line.text.now lines (map seen events) h)
    (record { before = length before; number = number; stands = last_at before line.text.now; says = says })))

-- ---- where reading stands

pub none_given : {X : Type 0} (P : Type 0) (Q : X → Type 0) (o : Option X) → o ≡ None → MatchOption o P Q → P
none_given P Q o e h = subst (λ p. MatchOption p P Q) e h

pub some_given : {X : Type 0} (P : Type 0) (Q : X → Type 0) (o : Option X) (x : X) → o ≡ Some x → MatchOption o P Q
    → Q x
some_given P Q o x e h = subst (λ p. MatchOption p P Q) e h

pub if_err : {T E : Type 0} (P Q : E → Type 0) (r : Result T E) → ((f : E) → P f → Q f) → IfErr r P → IfErr r Q
if_err P Q (Ok x) h k = tt
if_err P Q (Err e) h k = h e k

abbrev pub texts : List (Bor (List ℕ)) → List (List ℕ)
texts lines = map (λ line. line.now) lines

pub lines_more : (lines : List (Bor (List ℕ))) (i : ℕ) (x : Bor (List ℕ)) → i < length lines → x ≡ get_or lines i x
    → texts (take (i + 1) lines) ≡ texts (take i lines) ++ x.now ∷ []
lines_more lines i x low is =
    ap (map (λ line. line.now)) (take_more lines i x low ∙ ap (λ y. take i lines ++ y ∷ []) (sym is))
    ∙ map-append (λ line. line.now) (take i lines) (x ∷ [])

pub lines_cut : (lines : List (Bor (List ℕ))) (i : ℕ) (x : Bor (List ℕ)) → i < length lines → x ≡ get_or lines i x
    → texts lines ≡ texts (take i lines) ++ x.now ∷ texts (drop (suc i) lines)
lines_cut lines i x low is =
    ap (map (λ line. line.now)) (sym (take-append-drop i lines)
    ∙ ap (λ t. take i lines ++ t) (drop-cons lines i x low ∙ ap (λ y. y ∷ drop (suc i) lines) (sym is)))
    ∙ map-append (λ line. line.now) (take i lines) (x ∷ drop (suc i) lines)

-- ---- what is refused

pub count_before : (lines : List (Bor (List ℕ))) (i : ℕ) → i < length lines → length (texts (take i lines)) ≡ i
count_before [] i h = absurd (omega arith)
count_before (x ∷ xs) zero h = refl
count_before (x ∷ xs) (suc i) h = ap suc (count_before xs i (omega arith))

pub refused_text : (nodes : ℕ) (text : List ℕ) (before : List (List ℕ)) (line : List ℕ) (after : List (List ℕ)) (n : ℕ)
    (s : Schedule) (f : SimulateError)
    → lines_of text ≡ before ++ line ∷ after → n ≡ length before + 1 → (read : IsReadTo nodes before s)
    → RefusesLine nodes line n read.given f
    → RefusesText nodes text f
refused_text nodes text before line after n s (Unreadable m) cut number read h = record {
  before = before;
  line = line;
  after = after;
  cut = cut;
  number = h.0 ∙ number;
  given = read.given;
  give = read.give;
  why = h.1;
}
refused_text nodes text before line after n s (UsedTwice m e) cut number read h = record {
  before = before;
  line = line;
  after = after;
  cut = cut;
  number = h.0 ∙ number;
  given = read.given;
  give = read.give;
  why = (h.1, h.2);
}
refused_text nodes text before line after n s Memory cut number read h = tt
refused_text nodes text before line after n s NotUtf8 cut number read h = absurd h
refused_text nodes text before line after n s InputOutput cut number read h = absurd h
