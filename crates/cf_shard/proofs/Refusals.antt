-- Why a publish or a history is refused, and what it leaves then.
use Rattle.std.proofs.Common.{◌≡◌, ◌≢◌, ◌↔◌, ℕ, ◌+◌, ◌<◌, ◌^◌, List, [], ◌∷◌, length, Option, Some, None, Result, Ok}
use Rattle.std.proofs.Common.{Err, refl, sym, ap, ◌∙◌, subst, arith}
use Rattle.std.specs.Prelude.{IsErrOf, IfErr, IfOk, IsErrAnd, MatchResult}
use Rattle.std.specs.Option.{option_map}
use mathlib.Core.List.{IsPrefix}
use Rattle.cf_protocol.specs.Datum.{Datum}
use Rattle.cf_protocol.specs.LogEntry.{Entry}
use Rattle.cf_protocol.specs.LogEntry.Entry.{Publish}
use Rattle.cf_model.specs.Streams.{last_offset}
use Rattle.cf_protocol.specs.declared.position.Position.{Position}
use Rattle.cf_stream.specs.declared.answer.History.{History}
use Rattle.cf_stream.specs.declared.answer.Published.{Published}
use Rattle.cf_stream.specs.declared.refusal.StreamRefusal.{StreamRefusal}
use Rattle.cf_stream.specs.declared.refusal.StreamRefusal.TheVariants as stream
use Rattle.cf_stream.specs.Calls.{DrawsToOpen, RefusalsOfHistory as HistoryRefuses, RefusalsOfPublish as StreamRefuses}
use Rattle.cf_stream.specs.LogState.{opening}
use Rattle.cf_stream.specs.Stream.{Shown, IsAtLast, position_of, repeated_by}
use Rattle.cf_stream.specs.Streams.{repeat_at, stream_of}
use Rattle.cf_order.specs.Passes.{PassState, caught_up}
use Rattle.cf_shard.specs.Calls.{Leaves, LeavesAll, RefusalsOfHistory, RefusalsOfPublish}
use Rattle.cf_shard.specs.Shard.{Draw, Lent, refused_of}
use Rattle.cf_shard.specs.ShardLog.{to_open}
use Rattle.cf_shard.specs.declared.refusal.Refused.{Refused}
use Rattle.cf_shard.specs.declared.refusal.Refused.TheVariants.{AtLastOffset, WrongEpoch, NoEpoch, AtLastCount}
use Rattle.cf_shard.proofs.Calls.{followed, none_mapped}

module _ {E : Type 0} (draws : Draw E) (c key : List ℕ) (d : Datum) (old new : Lent E) where
  -- the streams refused it
  refused_as : (x : StreamRefusal) → StreamRefuses (stream_of old.streams c) key (Err x)
      → DrawsToOpen {X = Published} draws (stream_of old.streams c) old.epochs new.epochs (Err x)
      (λ p. p.position.epoch)
      → RefusalsOfPublish draws c key d old new (Err (refused_of x))
  refused_as stream.AtLastOffset refuses draw = record {
    repeat = λ p is. absurd (cc (refuses.repeat p is));
    last = (λ _. refuses.last.0 refl, λ _. refl);
    no_epoch = λ is. absurd (cc (is));
    count = λ is. absurd (cc (is));
    never = λ is. absurd (cc (is));
  }
  refused_as stream.WrongEpoch refuses draw = absurd (refuses.never refl)
  refused_as stream.NoEpoch refuses draw = record {
    repeat = λ p is. absurd (cc (refuses.repeat p is));
    last = (λ is. absurd (cc (is)), λ at. absurd (cc (refuses.last.1 at)));
    no_epoch = λ _. draw.no_epoch refl;
    count = λ is. absurd (cc (is));
    never = λ is. absurd (cc (is));
  }
  refused_as stream.Memory refuses draw = record {
    repeat = λ p is. absurd (cc (refuses.repeat p is));
    last = (λ is. absurd (cc (is)), λ at. absurd (cc (refuses.last.1 at)));
    no_epoch = λ is. absurd (cc (is));
    count = λ is. absurd (cc (is));
    never = λ is. absurd (cc (is));
  }

  pub refused_by : (mid : Lent E) (from : E) (x : StreamRefusal) (e : Refused) (r : Result Published Refused)
      → mid ≡ old → from ≡ mid.epochs → r ≡ Err e → e ≡ refused_of x
      → StreamRefuses (stream_of mid.streams c) key (Err x)
      → DrawsToOpen {X = Published} draws (stream_of mid.streams c) from new.epochs (Err x) (λ p. p.position.epoch)
      → RefusalsOfPublish draws c key d old new r
  refused_by mid from x e r same at is named refuses draw =
      let to : Err (refused_of x) ≡ r = sym (is ∙ ap Err named) in
      subst (RefusalsOfPublish draws c key d old new) to
      (refused_as x (subst (λ (l : Lent E). StreamRefuses (stream_of l.streams c) key (Err x)) same refuses)
      (subst (λ (l : Lent E). DrawsToOpen {X = Published} draws (stream_of l.streams c) l.epochs new.epochs (Err x)
      (λ p. p.position.epoch)) same
      (subst (λ (l : E). DrawsToOpen {X = Published} draws (stream_of mid.streams c) l new.epochs (Err x)
      (λ p. p.position.epoch)) at draw)))

  -- the streams accepted it
  pub refused_none : (mid : Lent E) (p : Published) → mid ≡ old → StreamRefuses (stream_of mid.streams c) key (Ok p)
      → RefusalsOfPublish draws c key d old new (Ok p)
  refused_none mid p same refuses =
      subst (λ (l : Lent E). RefusalsOfPublish draws c key d l new (Ok p)) same (record {
        repeat = λ q is. let again = refuses.repeat q is in cc (again);
        last = (λ is. absurd (cc (is)), λ at. absurd (cc (refuses.last.1 at)));
        no_epoch = λ is. absurd (cc (is));
        count = λ is. absurd (cc (is));
        never = tt;
      })

module _ {E : Type 0} (draws : Draw E) (c : List ℕ) (since : Option Position) (old new : Lent E) where
  -- the streams refused a history
  history_refused_as : (x : StreamRefusal) → HistoryRefuses (stream_of old.streams c) since (Err x)
      → DrawsToOpen {X = History} draws (stream_of old.streams c) old.epochs new.epochs (Err x) (λ h. h.position.epoch)
      → RefusalsOfHistory {X = History} draws c since old new (Err (refused_of x))
  history_refused_as stream.AtLastOffset refuses draw = absurd (refuses.never refl)
  history_refused_as stream.WrongEpoch refuses draw = record {
    wrong_epoch = (λ _. refuses.wrong_epoch.0 refl, λ _. refl);
    no_epoch = λ is. absurd (cc (is));
    count = λ is. absurd (cc (is));
    never = λ is. absurd (cc (is));
  }
  history_refused_as stream.NoEpoch refuses draw = record {
    wrong_epoch = (λ is. absurd (cc (is)), λ at. absurd (cc (refuses.wrong_epoch.1 at)));
    no_epoch = λ _. draw.no_epoch refl;
    count = λ is. absurd (cc (is));
    never = λ is. absurd (cc (is));
  }
  history_refused_as stream.Memory refuses draw = record {
    wrong_epoch = (λ is. absurd (cc (is)), λ at. absurd (cc (refuses.wrong_epoch.1 at)));
    no_epoch = λ is. absurd (cc (is));
    count = λ is. absurd (cc (is));
    never = λ is. absurd (cc (is));
  }

  pub history_refused_by : (mid : Lent E) (from : E) (x : StreamRefusal) (e : Refused) (r : Result History Refused)
      → mid ≡ old → from ≡ mid.epochs → r ≡ Err e → e ≡ refused_of x
      → HistoryRefuses (stream_of mid.streams c) since (Err x)
      → DrawsToOpen {X = History} draws (stream_of mid.streams c) from new.epochs (Err x) (λ h. h.position.epoch)
      → RefusalsOfHistory draws c since old new r
  history_refused_by mid from x e r same at is named refuses draw =
      let to : Err (refused_of x) ≡ r = sym (is ∙ ap Err named) in
      subst (RefusalsOfHistory draws c since old new) to
      (history_refused_as x (subst (λ (l : Lent E). HistoryRefuses (stream_of l.streams c) since (Err x)) same refuses)
      (subst (λ (l : Lent E). DrawsToOpen {X = History} draws (stream_of l.streams c) l.epochs new.epochs (Err x)
      (λ h. h.position.epoch)) same
      (subst (λ (l : E). DrawsToOpen {X = History} draws (stream_of mid.streams c) l new.epochs (Err x)
      (λ h. h.position.epoch)) at draw)))

-- what a refused read or history leaves
pub left_by : {E X : Type 0} (mid old new : Lent E) (x : StreamRefusal) (e : Refused) (r : Result X Refused) → mid ≡ old
    → r ≡ Err e → e ≡ refused_of x
    → new.streams ≡ mid.streams → new.log ≡ mid.log → (x ≢ stream.NoEpoch → new.epochs ≡ mid.epochs)
    → IfErr r (Leaves old new)
left_by {E} {X} mid old new x e r same is named streams log epochs =
    let to : Err (refused_of x) ≡ r = sym (is ∙ ap Err named) in
    let all : Leaves mid new (refused_of x) =
    record { streams = streams; log = log; undrawn = λ other. epochs (λ none. other (ap refused_of none)) } in
    subst (λ r. IfErr r (Leaves old new)) to (subst (λ (l : Lent E). Leaves l new (refused_of x)) same all)

-- what a refused call leaves
pub left_all : {E L : Type 0} (mid old new : Lent E) (links : L) (p q : PassState) (x : StreamRefusal) (e : Refused)
    (r : Result Published Refused) → mid ≡ old → r ≡ Err e → e ≡ refused_of x
    → new.streams ≡ mid.streams → new.log ≡ mid.log → (x ≢ stream.NoEpoch → new.epochs ≡ mid.epochs)
    → IsPrefix p.log mid.log → q ≡ caught_up p mid.log → IfErr r (LeavesAll old new links links p q)
left_all {E} {L} mid old new links p q x e r same is named streams log epochs seen at =
    let to : Err (refused_of x) ≡ r = sym (is ∙ ap Err named) in
    let all : LeavesAll mid new links links p q (refused_of x) = record {
      lent = record { streams = streams; log = log; undrawn = λ other. epochs (λ none. other (ap refused_of none)) };
      links = refl;
      seen = followed p q mid.log seen at;
    } in
    subst (λ r. IfErr r (LeavesAll old new links links p q)) to
    (subst (λ (l : Lent E). LeavesAll l new links links p q (refused_of x)) same all)

-- what a call leaves that was refused before it asked the streams
pub left_early : {E L : Type 0} (mid old new : Lent E) (links : L) (p q : PassState) (e : Refused)
    (r : Result Published Refused) → mid ≡ old → r ≡ Err e
    → new.streams ≡ mid.streams → new.log ≡ mid.log → new.epochs ≡ mid.epochs → IsPrefix p.log mid.log
    → q ≡ caught_up p mid.log → IfErr r (LeavesAll old new links links p q)
left_early {E} {L} mid old new links p q e r same is streams log epochs seen at =
    let all : LeavesAll mid new links links p q e = record {
      lent = record { streams = streams; log = log; undrawn = λ other. epochs };
      links = refl;
      seen = followed p q mid.log seen at;
    } in
    subst (λ r. IfErr r (LeavesAll old new links links p q)) (sym is)
    (subst (λ (l : Lent E). LeavesAll l new links links p q e) same all)

-- a publish that repeats nothing is at the last offset where its stream is
at_last : (o : Option Shown) (key : List ℕ) → repeat_at o key ≡ None
    → (option_map (λ (p : Position). p.offset) (option_map position_of o) ≡ Some last_offset) ↔ IsAtLast o key
at_last None key new = (λ e. absurd (cc (e)), λ h. absurd h)
at_last (Some s) key new = (λ e. (none_mapped _ (repeated_by s key) new, cc (e)), λ h. ap Some h.1)

opens_as : (o : Option Shown) → to_open (option_map (λ (p : Position). p.offset) (option_map position_of o)) ≡ to_open o
opens_as None = refl
opens_as (Some s) = refl

length_opening : (o : Option Shown) (c e : List ℕ) (x : Entry) → length (opening o c e (x ∷ [])) ≡ to_open o + 1
length_opening None c e x = refl
length_opening (Some s) c e x = refl

-- before the streams were asked it was refused: a copy wasn't made, or the log has no room
pub refused_early : {E T : Type 0} (draws : Draw E) (c key : List ℕ) (d : Datum) (mid old new : Lent E) (x : Refused)
    (r : Result Published Refused) (count : ℕ) (position : Option Position) (stood : Option ℕ)
    → mid ≡ old → r ≡ Err x → repeat_at (stream_of mid.streams c) key ≡ None
    → position ≡ option_map position_of (stream_of mid.streams c)
    → stood ≡ option_map (λ (p : Position). p.offset) position → count ≡ length mid.log
    → IsErrOf {T = T} (Err x) AtLastOffset ↔ (stood ≡ Some last_offset)
    → (IsErrOf {T = T} (Err x) AtLastCount → 2 ^ 62 < count + to_open stood + 1)
    → (x ≢ WrongEpoch) × (x ≢ NoEpoch) → RefusalsOfPublish draws c key d old new r
refused_early {E} {T} draws c key d mid old new x r count position stood same is fresh from at counted last full other =
    let o : Option Shown = stream_of mid.streams c in
    let stands : stood ≡ option_map (λ (p : Position). p.offset) (option_map position_of o) =
    at ∙ ap (option_map (λ (p : Position). p.offset)) from in
    let alike = at_last o key fresh in
    let early : (y : Refused) → x ≡ y → IsErrOf {T = T} (Err x) y = λ y is. ap Err is in
    let named : (y : Refused) → IsErrOf {T = Published} (Err x) y → x ≡ y = λ y is. cc (is) in
    let named_early : (y : Refused) → IsErrOf {T = T} (Err x) y → x ≡ y = λ y is. cc (is) in
    let here : RefusalsOfPublish draws c key d mid new (Err x) = record {
      repeat = λ p is. absurd (cc (fresh, is));
      last = (
        λ is. alike.0 (sym stands ∙ last.0 (early _ (named _ is))),
        λ is. ap Err (named_early _ (last.1 (stands ∙ alike.1 is))),
      );
      no_epoch = λ is. absurd (other.1 (named _ is));
      count = λ is. omega (
        arith,
        full (early _ (named _ is)),
        counted,
        ap to_open stands,
        opens_as o,
        length_opening o c [] (Publish c key d),
      );
      never = other.0;
    } in
    subst (λ (l : Lent E). RefusalsOfPublish draws c key d l new r) same
    (subst (RefusalsOfPublish draws c key d mid new) (sym is) here)

-- what an answer says is kept where its refusal is named anew
pub named_ok : {T D E : Type 0} (r : Result T E) (s : Result T D) (Named : E → D → Type 0) (P Q : T → Type 0)
    → MatchResult r (λ x. s ≡ Ok x) (λ e. IsErrAnd s (Named e)) → ((x : T) → P x → Q x) → IfOk r P → IfOk s Q
named_ok (Ok x) s Named P Q is f h = subst (λ s. IfOk s Q) (sym is) (f x h)
named_ok (Err e) (Ok y) Named P Q is f h = absurd is
named_ok (Err e) (Err d) Named P Q is f h = tt
