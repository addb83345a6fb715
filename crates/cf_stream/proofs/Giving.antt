-- What a publish, a recovery and a history give, and that a stream keeps within its bounds.
use Rattle.std.proofs.Common.{◌≡◌, ◌↔◌, ℕ, ◌+◌, ◌-◌, ◌<◌, min, Bool, List, [], ◌∷◌, ◌++◌, length, length-append, true}
use Rattle.std.proofs.Common.{false, cond, Option, Some, None, refl, sym, ap, ◌∙◌, subst, arith}
use Rattle.std.specs.Prelude.{◌≢◌, is_some, IsSomeAnd, SomeIff, IsTrue, Result, Ok, Err, IsErr, IsErrAnd, IsErrOf}
use Rattle.std.proofs.lemmas.List.{length-map}
use Rattle.cf_protocol.specs.Datum.{Datum, Placed}
use Rattle.cf_protocol.specs.declared.position.Position.{Position}
use Rattle.cf_model.specs.Keys.{KeyAt}
use Rattle.cf_model.specs.Streams.{last_offset}
use Rattle.cf_stream.specs.Calls.{RefusalsOfOne}
use Rattle.cf_stream.specs.Ring.{IsRing}
use Rattle.cf_stream.specs.Stream.{Shown, IsWithin, RecoversFrom, stream_after, answer_by, answer_to, after_publish}
use Rattle.cf_stream.specs.Stream.{is_over, pushed, repeated_by, start_of, ticked, used_at}
use Rattle.cf_stream.specs.declared.answer.History.{History}
use Rattle.cf_stream.specs.declared.answer.Published.{Published}
use Rattle.cf_stream.specs.declared.refusal.StreamRefusal.{StreamRefusal}
use Rattle.cf_stream.specs.declared.refusal.StreamRefusal.TheVariants.{AtLastOffset, WrongEpoch, Memory}
use Rattle.cf_stream.proofs.Placing.{data_of, length-newest}
use Rattle.cf_stream.proofs.Remembering.{few-and_key}

-- ---- the bounds of a stream

pub IsWithin-ring : (e : List ℕ) (size top : ℕ) (items : List Placed) (keys : List KeyAt) (published used : ℕ)
    → IsRing size top items keys
    → IsWithin (record {
      epoch = e;
      size = size;
      top = top;
      held = data_of items;
      recent = keys;
      published = published;
      used = used;
    })
IsWithin-ring e size top items keys published used h =
    let many = length-map items (λ (p : Placed). p.datum) in
    record {
      sized = h.sized;
      few = omega (arith, h.few, many);
      counted = omega (arith, h.placed.below, many);
      top_fits = h.top_fits;
      few_keys = h.few_keys;
    }

pub IsWithin-used : (s new : Shown) (now : ℕ) → new ≡ used_at s now → IsWithin s → IsWithin new
IsWithin-used s new now is h =
    subst IsWithin (sym is) (record {
      sized = h.sized;
      few = h.few;
      counted = h.counted;
      top_fits = h.top_fits;
      few_keys = h.few_keys;
    })

-- ---- a publish that repeats one

-- the key is looked for by its text
pub repeats_by : (s : Shown) (text key : List ℕ) (o : Option ℕ) → text ≡ key → o ≡ repeated_by s text
    → repeated_by s key ≡ o
repeats_by s text key o same is = ap (repeated_by s) (sym same) ∙ sym is

pub given_repeat : (s : Shown) (key : List ℕ) (d : Datum) (now o : ℕ) → repeated_by s key ≡ Some o
    → used_at s now ≡ after_publish s key d now
given_repeat s key d now o is = sym (ap (λ x. cond (is_some x) (used_at s now) (pushed s key d now)) is)

pub answer_repeat : (s : Shown) (key e : List ℕ) (o : ℕ) → repeated_by s key ≡ Some o → e ≡ s.epoch
    → ◌≡◌ {A = Published} (record { position = record { epoch = e; offset = o }; repeated = true }) (answer_to s key)
answer_repeat s key e o is at =
    ap (λ (x : List ℕ). answer_by (Some o) x s.top) at ∙ sym (ap (λ x. answer_by x s.epoch s.top) is)

abbrev answered : Published → Result Published StreamRefusal
answered p = Ok p

pub refusals_repeat : (s : Shown) (key : List ℕ) (o : ℕ) (p : Published) → repeated_by s key ≡ Some o
    → p ≡ answer_to s key → RefusalsOfOne s key (Ok p)
refusals_repeat s key o p is answer =
    record {
      repeat = λ o' again. ap answered answer;
      last = (λ e. absurd (cc), λ stuck. absurd (let both = stuck.0 in cc));
      else_memory = tt;
    }

-- ---- a publish that repeats none

pub given_new : (s : Shown) (key : List ℕ) (d : Datum) (now : ℕ) → repeated_by s key ≡ None
    → pushed s key d now ≡ after_publish s key d now
given_new s key d now none = sym (ap (λ x. cond (is_some x) (used_at s now) (pushed s key d now)) none)

pub answer_new : (s new : Shown) (key : List ℕ) (d : Datum) (now : ℕ) (p : Position) → repeated_by s key ≡ None
    → new ≡ pushed s key d now → p ≡ record { epoch = new.epoch; offset = new.top }
    → ◌≡◌ {A = Published} (record { position = p; repeated = false }) (answer_to s key)
answer_new s new key d now p none is at =
    ap (λ (x : Position). let r : Published = record { position = x; repeated = false } in r)
    (at ∙ ap (λ (x : Shown). let q : Position = record { epoch = x.epoch; offset = x.top } in q) is)
    ∙ sym (ap (λ x. answer_by x s.epoch s.top) none)

pub refusals_new : (s : Shown) (key : List ℕ) (p : Published) → repeated_by s key ≡ None → s.top ≢ last_offset
    → RefusalsOfOne s key (Ok p)
refusals_new s key p none below =
    record {
      repeat = λ o again. absurd (cc);
      last = (λ e. absurd (cc), λ stuck. absurd (below stuck.1));
      else_memory = tt;
    }

pub refusals_last : (s : Shown) (key : List ℕ) → repeated_by s key ≡ None → s.top ≡ last_offset
    → RefusalsOfOne s key (Err AtLastOffset)
refusals_last s key none at =
    record {
      repeat = λ o again. absurd (cc);
      last = (λ e. (none, at), λ stuck. refl);
      else_memory = λ other. absurd (other refl);
    }

pub refusals_memory : (s : Shown) (key : List ℕ) (r : Result Published StreamRefusal) → repeated_by s key ≡ None
    → s.top ≢ last_offset → IsErr r × IsErrAnd r (λ e. e ≡ Memory)
    → RefusalsOfOne s key r
refusals_memory s key (Ok p) none below is = absurd (let no = is.0 in cc)
refusals_memory s key (Err e) none below is =
    let memory : e ≡ Memory = is.1 in
    record {
      repeat = λ o again. absurd (cc);
      last = (λ i. absurd (cc), λ stuck. absurd (below stuck.1));
      else_memory = λ other. memory;
    }

pub IsWithin-pushed : (s new : Shown) (key : List ℕ) (d : Datum) (now : ℕ) → new ≡ pushed s key d now
    → s.top ≢ last_offset → IsWithin s → IsWithin new
IsWithin-pushed s new key d now is below h =
    let less = length-newest s.size (s.held ++ d ∷ []) in
    let long : length (s.held ++ d ∷ []) ≡ length s.held + 1 = length-append s.held (d ∷ []) in
    subst IsWithin (sym is) (record {
      sized = h.sized;
      few = less.0;
      counted = omega (arith, h.counted);
      top_fits = omega (arith, h.top_fits);
      few_keys = few-and_key s.recent key (s.top + 1) h.few_keys;
    })

-- ---- how many came after a position

pub other_none : (s : Shown) (since : Option Position) → since ≡ None
    → (true ≡ false → IsSomeAnd since (λ p. p.epoch ≢ s.epoch))
    × (IsSomeAnd since (λ p. p.epoch ≢ s.epoch) → true ≡ false)
other_none s since is = rw is (λ e. absurd (cc), λ other. absurd other)

pub other_here : (s : Shown) (since : Option Position) (p : Position) → since ≡ Some p → p.epoch ≡ s.epoch
    → (true ≡ false → IsSomeAnd since (λ p. p.epoch ≢ s.epoch))
    × (IsSomeAnd since (λ p. p.epoch ≢ s.epoch) → true ≡ false)
other_here s since p is here = rw is (λ e. absurd (cc), λ other. absurd (other here))

pub other_there : (s : Shown) (since : Option Position) (p : Position) → since ≡ Some p → p.epoch ≢ s.epoch
    → (false ≡ false → IsSomeAnd since (λ p. p.epoch ≢ s.epoch))
    × (IsSomeAnd since (λ p. p.epoch ≢ s.epoch) → false ≡ false)
other_there s since p is there = rw is (λ e. there, λ other. refl)

pub newer_from_floor : (s : Shown) (since : Option Position) (n : ℕ) → since ≡ None → n ≡ length s.held
    → stream_after s (s.top - n) ≡ stream_after s (start_of s since)
newer_from_floor s since n is all = rw is (ap (λ k. stream_after s (s.top - k)) all)

-- too many came after it
pub missed_many : (s : Shown) (since : Option Position) (p : Position) (n : ℕ) → since ≡ Some p
    → n ≡ min (length s.held) 300 → n < s.top - p.offset → RecoversFrom s since → ⊥
missed_many s since p n is most many recovers =
    let all = subst (RecoversFrom s) is recovers in omega (arith, all.2)

-- ---- what a recovery and a history answer

pub exact_by : (missed : Option ℕ) (recovered : Bool) (A : Type 0) (n : ℕ) → SomeIff missed A n
    → recovered ≡ is_some missed → IsTrue recovered ↔ A
exact_by None recovered A n h is = (λ t. absurd (cc), λ a. absurd (h a))
exact_by (Some m) recovered A n h is = (λ t. h.0, λ a. is)

pub wrong_epoch_not : (A : Type 0) (r : Result History StreamRefusal) → (A → true ≡ false) → IsErr r
    × IsErrAnd r (λ e. e ≡ Memory) → (IsErrOf r WrongEpoch → A) × (A → IsErrOf r WrongEpoch)
wrong_epoch_not A (Ok h) here is = absurd (let none = is.0 in cc)
wrong_epoch_not A (Err e) here is =
    let memory : e ≡ Memory = is.1 in (λ i. absurd (cc), λ a. absurd (let never = here a in cc))

pub wrong_epoch_none : (A : Type 0) (h : History) → (A → true ≡ false)
    → (IsErrOf {T = History} {E = StreamRefusal} (Ok h) WrongEpoch → A)
    × (A → IsErrOf {T = History} {E = StreamRefusal} (Ok h) WrongEpoch)
wrong_epoch_none A h here = (λ i. absurd (cc), λ a. absurd (let never = here a in cc))

-- ---- what a tick leaves

pub ticked_over : (s : Shown) (now seconds : ℕ) → is_over s.published seconds now ≡ true
    → record s { held = [] } ≡ ticked now seconds s
ticked_over s now seconds over = sym (ap (λ b. cond b (record s { held = [] }) s) over)

pub ticked_early : (s : Shown) (now seconds : ℕ) → is_over s.published seconds now ≡ false → s ≡ ticked now seconds s
ticked_early s now seconds early = sym (ap (λ b. cond b (record s { held = [] }) s) early)
