-- Why a call is refused, read off the shard's log.
use Rattle.std.proofs.Common.{◌≡◌, ℕ, List, [], ◌∷◌, length, Option, Some, None, refl, sym, ap, ◌∙◌, subst}
use Rattle.std.specs.Prelude.{◌↔◌, Result, Ok, Err, IfErr, IsErrOf, IsSomeAnd}
use Rattle.cf_protocol.specs.declared.position.Position.{Position}
use Rattle.cf_protocol.specs.Datum.{Datum}
use Rattle.cf_protocol.specs.LogEntry.{Entry}
use Rattle.cf_protocol.specs.LogEntry.Entry.{Publish}
use Rattle.cf_protocol.specs.Settings.{NamespaceTable}
use Rattle.cf_order.specs.Passes.{PassState}
use Rattle.cf_stream.specs.ChannelLists.{ShowsAt}
use Rattle.cf_stream.specs.LogState.{life_in, opening, if_stands}
use Rattle.cf_model.specs.Streams.{Life}
use Rattle.cf_stream.specs.Stream.{Shown, repeated_by, IsAtLast as IsStreamAtLast}
use Rattle.cf_stream.specs.declared.answer.Published.{Published}
use Rattle.cf_stream.proofs.ChannelChanges.{RepeatsAt-from}
use Rattle.std.specs.Option.{option_map}
use Rattle.cf_model.specs.Streams.{last_offset}
use Rattle.cf_stream.specs.Streams.{IsOfAnother, repeat_at, size_at, stream_of}
use Rattle.cf_shard.specs.LogAnswer.{HasNoRoom, HasNone, IsAtLast, IsNew, IsOutside, RefusesEntry, RefusesHistory}
use Rattle.cf_shard.specs.LogAnswer.{RefusesPublish, RefusesRead}
use Rattle.cf_shard.specs.Calls.{Leaves, LeavesAll, RefusalsOfHistory, RefusalsOfPublish, RefusalsOfRead, Stays}
use Rattle.cf_shard.specs.Shard.{Draw, IsFull, LacksRoom, Lent}
use Rattle.cf_shard.specs.declared.refusal.Refused.{Refused}

-- a map of nothing is of nothing
none_mapped : {X Y : Type 0} (f : X → Y) (o : Option X) → option_map f o ≡ None → o ≡ None
none_mapped f None e = refl
none_mapped f (Some x) e = absurd (cc (e))

none_shown : (size : ℕ) (s : Option Shown) (l : Option Life) → ShowsAt size s l → s ≡ None → l ≡ None
none_shown size None None h e = refl
none_shown size (Some s) l h e = absurd (cc)
none_shown size None (Some l) h e = absurd h

-- a stream that stands at its last offset, where the key repeats nothing
last_shown : (size : ℕ) (s : Option Shown) (l : Option Life) (key : List ℕ) → ShowsAt size s l → repeat_at s key ≡ None
    → IsStreamAtLast s key ↔ IsSomeAnd l (λ l. length l.list ≡ last_offset)
last_shown size None None key h new = (λ e. e, λ e. e)
last_shown size (Some s) (Some l) key h new =
    (λ e. sym h.0.top ∙ e.1, λ e. (none_mapped _ (repeated_by s key) new, h.0.top ∙ e))
last_shown size (Some s) None key h new = absurd h
last_shown size None (Some l) key h new = absurd h

outside_shown : (size : ℕ) (s : Option Shown) (l : Option Life) (since : Option Position) → ShowsAt size s l
    → IsOfAnother s since ↔ IsOutside l since
outside_shown size s l None h = (λ e. e, λ e. e)
outside_shown size None None (Some p) h = (λ e. e, λ e. e)
outside_shown size (Some s) (Some l) (Some p) h = (λ e f. e (f ∙ sym h.0.epoch), λ e f. e (f ∙ h.0.epoch))
outside_shown size (Some s) None (Some p) h = absurd h
outside_shown size None (Some l) (Some p) h = absurd h

-- entries that begin with an opening, or that stand where a stream does, have as much room by the log
full_shown : (size : ℕ) (s : Option Shown) (l : Option Life) (log : List Entry) (c : List ℕ) (es : List Entry)
    → ShowsAt size s l → IsFull log (opening s c [] es) → IsFull log (opening l c [] es)
full_shown size None None log c es h full = full
full_shown size (Some s) (Some l) log c es h full = full
full_shown size None (Some l) log c es h full = absurd h
full_shown size (Some s) None log c es h full = absurd h

full_entry_shown : (size : ℕ) (s : Option Shown) (l : Option Life) (log : List Entry) (x : Entry) → ShowsAt size s l
    → IsFull log (if_stands s x) → IsFull log (if_stands l x)
full_entry_shown size None None log x h full = full
full_entry_shown size (Some s) (Some l) log x h full = full
full_entry_shown size None (Some l) log x h full = absurd h
full_entry_shown size (Some s) None log x h full = absurd h

-- what is no value is none
none_of : {X : Type 0} (o : Option X) → ((x : X) → o ≡ Some x → ⊥) → o ≡ None
none_of None h = refl
none_of (Some x) h = absurd (h x refl)

-- one error of two
err_same : {X : Type 0} {a b : Refused} → IsErrOf {T = X} (Err a) b → a ≡ b
err_same e = cc (e)

-- a lent shard before and after a call, and the caller's pass, which has then seen the log
module _ {E : Type 0} (t : NamespaceTable) (old new : Lent E) (pass : PassState) (c : List ℕ)
    (stays : Stays t old new pass) where
  shows : ShowsAt (size_at old.streams.namespaces c) (stream_of old.streams c) (life_in t old.log c)
  shows = stays.state.lists.at c

  none_by_log : pass.log ≡ old.log → stream_of old.streams c ≡ None → HasNone t pass.log c
  none_by_log is e = subst (λ (l : List Entry). HasNone t l c) (sym is) (none_shown _ _ _ shows e)

  full_by_log : (es : List Entry) → pass.log ≡ old.log → IsFull old.log (opening (stream_of old.streams c) c [] es)
      → HasNoRoom t pass.log c es
  full_by_log es is e =
      subst (λ (l : List Entry). HasNoRoom t l c es) (sym is)
      (full_shown (size_at old.streams.namespaces c) (stream_of old.streams c) (life_in t old.log c) old.log c es shows
      e)

  at_last_by_log : (key : List ℕ) → repeat_at (stream_of old.streams c) key ≡ None → pass.log ≡ old.log
      → IsStreamAtLast (stream_of old.streams c) key ↔ IsAtLast t pass.log c
  at_last_by_log key new is =
      subst (λ (l : List Entry). IsStreamAtLast (stream_of old.streams c) key ↔ IsAtLast t l c) (sym is)
      (last_shown _ _ _ key shows new)

  new_by_log : (key : List ℕ) → repeat_at (stream_of old.streams c) key ≡ None → pass.log ≡ old.log
      → IsNew t pass.log c key
  new_by_log key new is =
      subst (λ (l : List Entry). IsNew t l c key) (sym is)
      (sym ((RepeatsAt-from old.streams c key (repeat_at (stream_of old.streams c) key) refl).off
      (life_in t old.log) stays.state.lists) ∙ new)

  outside_by_log : (since : Option Position) → pass.log ≡ old.log
      → IsOfAnother (stream_of old.streams c) since ↔ IsOutside (life_in t pass.log c) since
  outside_by_log since is =
      subst (λ (l : List Entry). IsOfAnother (stream_of old.streams c) since ↔ IsOutside (life_in t l c) since) (sym is)
      (outside_shown _ _ _ since shows)

  -- the refusals of a call, as the lent shard has them
  pub publish_by_log : {draws : Draw E} {L : Type 0} (before after : L) (was : PassState) (key : List ℕ) (d : Datum)
      (r : Result Published Refused) → RefusalsOfPublish draws c key d old new r
      → IfErr r (LeavesAll old new before after was pass) → IfErr r (RefusesPublish t pass.log c key d)
  publish_by_log before after was key d (Ok x) why err = tt
  publish_by_log before after was key d (Err e) why err =
      let is = stays.whole ∙ err.lent.log in
      let is_new : repeat_at (stream_of old.streams c) key ≡ None =
      none_of (repeat_at (stream_of old.streams c) key) (λ p at. let no = why.repeat p at in absurd (cc (no))) in
      let at = at_last_by_log key is_new is in record {
        is_new = new_by_log key is_new is;
        last = (λ same. at.0 (why.last.0 (ap Err same)), λ l. err_same (why.last.1 (at.1 l)));
        epoch = λ same. none_by_log is (why.no_epoch (ap Err same)).0;
        count = λ same. full_by_log (Publish c key d ∷ []) is (why.count (ap Err same));
        other = why.never;
      }

  pub read_by_log : {draws : Draw E} {X : Type 0} (r : Result X Refused) → RefusalsOfRead draws c old new r
      → IfErr r (Leaves old new) → IfErr r (RefusesRead t pass.log c)
  read_by_log (Ok x) why err = tt
  read_by_log (Err e) why err =
      let is = stays.whole ∙ err.log in record {
        epoch = λ same. none_by_log is (why.no_epoch (ap Err same)).0;
        count = λ same. full_by_log [] is (why.count (ap Err same));
        others = why.never;
      }

  pub history_by_log : {draws : Draw E} {X : Type 0} (since : Option Position) (r : Result X Refused)
      → RefusalsOfHistory draws c since old new r → IfErr r (Leaves old new)
      → IfErr r (RefusesHistory t pass.log c since)
  history_by_log since (Ok x) why err = tt
  history_by_log since (Err e) why err =
      let is = stays.whole ∙ err.log in
      let by = outside_by_log since is in record {
        outside = (λ same. by.0 (why.wrong_epoch.0 (ap Err same)), λ o. err_same (why.wrong_epoch.1 (by.1 o)));
        epoch = λ same. none_by_log is (why.no_epoch (ap Err same)).0;
        count = λ same. full_by_log [] is (why.count (ap Err same));
        other = why.never;
      }

  pub entry_by_log : {X : Type 0} (x : Entry) (r : Result X Refused)
      → IfErr r (λ e. LacksRoom (if_stands (stream_of old.streams c) x) e old new)
      → IfErr r (RefusesEntry t pass.log c x)
  entry_by_log x (Ok y) err = tt
  entry_by_log x (Err e) err =
      let is : pass.log ≡ old.log = stays.whole ∙ ap (λ (s : Lent E). s.log) err.1 in (
        err.0,
        subst (λ (l : List Entry). IsFull l (if_stands (life_in t l c) x)) (sym is)
            (full_entry_shown (size_at old.streams.namespaces c) (stream_of old.streams c) (life_in t old.log c) old.log
            x shows err.2),
      )
