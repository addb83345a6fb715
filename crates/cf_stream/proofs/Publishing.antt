-- What a publish makes of a map's streams, where the channel's stream stood and where it opens.
use Rattle.std.proofs.Common.{◌≡◌, ℕ, List, true, false, cond, Option, Some, None, refl, sym, ap, ◌∙◌, subst, BTreeMap}
use Rattle.std.proofs.Common.{String, Global}
use Rattle.std.specs.Prelude.{◌≢◌, is_some, Result, Ok, Err, IfOk, IfErr, OnOk, OnErr}
use Rattle.std.specs.BTreeMap.{get_by_text}
use Rattle.std.specs.Option.{option_map}
use Rattle.std.proofs.lemmas.Result.{IfOk-weaker, on_err_weaker}
use Rattle.cf_protocol.specs.declared.position.Position.{Position}
use Rattle.cf_protocol.specs.Datum.{Datum}
use Rattle.cf_protocol.specs.Settings.{NamespaceTable}
use Rattle.cf_stream.specs.Calls.{DrawsToOpen, ListsOfPublish, RefusalsOfOne, RefusalsOfPublish}
use Rattle.cf_stream.specs.FreshEpochs.{DrawsEpoch, DrawsNone}
use Rattle.cf_model.specs.Keys.{is_no_key}
use Rattle.cf_stream.specs.Stream.{Shown, answer_by, answer_to, first_pushed, after_publish, newest_of, pushed}
use Rattle.cf_stream.specs.Stream.{repeated_by, started, used_at}
use Rattle.cf_stream.specs.LogState.{Adds, publishing}
use Rattle.cf_stream.specs.Streams.{StreamMap, SetsAt, by_channel, newest_at, put_at, repeat_at, size_at, stood_or}
use Rattle.cf_stream.specs.Streams.{stood_or_opened, stream_of}
use Rattle.cf_stream.specs.declared.answer.Published.{Published}
use Rattle.cf_stream.proofs.Channels.{get-by_channel, kept_by, kept_same}
use Rattle.cf_stream.proofs.ChannelChanges.{ChangesAt-publish, IfOk-both, PublishesAt-from, newest_set}
use Rattle.cf_stream.proofs.LogSteps.{Adds-publish}
use Rattle.cf_stream.proofs.Standing.{set_same}
use Rattle.cf_stream.specs.declared.refusal.StreamRefusal.{StreamRefusal}
use Rattle.cf_stream.specs.declared.refusal.StreamRefusal.TheVariants.{AtLastOffset, WrongEpoch, NoEpoch, Memory}

-- a publish to a channel of a map, in which this stream stood, or none
pub record Publishes {E : Type 0} (draws : E → Option (List ℕ) → E → Type 0) (m n : BTreeMap (String Global) Shown)
    (stood : Option Shown)
    (c : List ℕ) (size : ℕ) (key : List ℕ) (d : Datum) (now : ℕ) (old new : E)
    (r : Result Published StreamRefusal) : Type 0 where
  pub sets : IfOk r (λ p. SetsAt m n c (Some (after_publish (stood_or stood p.position.epoch size) key d now)))
  pub answer : IfOk r (λ p. p ≡ answer_to (stood_or stood p.position.epoch size) key)
  pub newest : IfOk r (λ p. p.repeated ≡ false → newest_of
      (after_publish (stood_or stood p.position.epoch size) key d now)
      ≡ Some (record { offset = p.position.offset; datum = d }))
  pub epochs : DrawsToOpen draws stood old new r (λ p. p.position.epoch)
  pub refusals : RefusalsOfPublish stood key r
  pub same : OnErr r ((q : List ℕ) → get_by_text n q ≡ get_by_text m q)

-- ---- where it stood

answer_epoch : (o : Option ℕ) (e : List ℕ) (top : ℕ) → (answer_by o e top).position.epoch ≡ e
answer_epoch None e top = refl
answer_epoch (Some o) e top = refl

abbrev answered : Published → Result Published StreamRefusal
answered p = Ok p

-- a repeat's answer, by its position
repeat_by : (s : Shown) (key : List ℕ) (r : Result Published StreamRefusal)
    → ((o : ℕ) → repeated_by s key ≡ Some o → r ≡ Ok (answer_to s key))
    → (p : Position) → repeat_at (Some s) key ≡ Some p → r ≡ Ok (record { position = p; repeated = true })
repeat_by s key r h p is =
    let cases : (x : Option ℕ) → repeated_by s key ≡ x
    → option_map (λ (o : ℕ). let q : Position = record { epoch = s.epoch; offset = o } in q) x ≡ Some p
    → r ≡ Ok (record { position = p; repeated = true }) =
    λ x. elim x as (λ x. repeated_by s key ≡ x → option_map
    (λ (o : ℕ). let q : Position = record { epoch = s.epoch; offset = o } in q) x ≡ Some p
    → r ≡ Ok (record { position = p; repeated = true })) [
      | None ↦ λ e i. absurd (cc)
      | Some o ↦ λ e i.
          let at : ◌≡◌ {A = Position} (record { epoch = s.epoch; offset = o }) p = cc in
          h o e ∙ (ap (λ (y : Option ℕ). answered (answer_by y s.epoch s.top)) e
          ∙ ap (λ (q : Position). answered (record { position = q; repeated = true })) at)
    ] in
    cases (repeated_by s key) refl is

-- a refusal that is memory, unless the stream is at its last offset
memory_or_last : (e : StreamRefusal) → (e ≢ AtLastOffset → e ≡ Memory) → (e ≢ NoEpoch) × (e ≢ WrongEpoch)
memory_or_last AtLastOffset h = (λ i. cc, λ i. cc)
memory_or_last WrongEpoch h = absurd (let is = h (λ i. cc) in cc)
memory_or_last NoEpoch h = absurd (let is = h (λ i. cc) in cc)
memory_or_last Memory h = (λ i. cc, λ i. cc)

module _ {E : Type 0} (draws : E → Option (List ℕ) → E → Type 0) (m n : BTreeMap (String Global) Shown) (c : List ℕ)
    (size : ℕ) (key : List ℕ) (d : Datum) (now : ℕ) (old new : E) where
  at_stream : (s s' : Shown) (r : Result Published StreamRefusal) → get_by_text m c ≡ Some s → SetsAt m n c (Some s')
      → new ≡ old
      → OnOk r (s' ≡ after_publish s key d now) → IfOk r (λ p. p ≡ answer_to s key)
      → IfOk r (λ p. p.repeated ≡ false → newest_of s' ≡ Some (record { offset = p.position.offset; datum = d }))
      → RefusalsOfOne s key r → OnErr r (s' ≡ s) → Publishes draws m n (Some s) c size key d now old new r
  at_stream s s' (Ok p) at sets undrawn makes answer newest refusals err = record {
    sets = subst (λ (x : Shown). SetsAt m n c (Some x)) makes sets;
    answer = answer;
    newest = λ fresh. ap newest_of (sym makes) ∙ newest fresh;
    epochs = record {
      drawn = (
        ap (λ (x : Published). x.position.epoch) answer ∙ answer_epoch (repeated_by s key) s.epoch s.top,
        undrawn,
      );
      no_epoch = λ is. absurd (cc);
      undrawn = tt;
    };
    refusals = record { repeat = repeat_by s key (Ok p) refusals.repeat; last = refusals.last; never = tt };
    same = tt;
  }
  at_stream s s' (Err e) at sets undrawn makes answer newest refusals err = record {
    sets = tt;
    answer = tt;
    newest = tt;
    epochs = record {
      drawn = tt;
      no_epoch = λ is. absurd ((memory_or_last e refusals.else_memory).0 (let same : e ≡ NoEpoch = cc in same));
      undrawn = λ other. undrawn;
    };
    refusals = record {
      repeat = repeat_by s key (Err e) refusals.repeat;
      last = refusals.last;
      never = (memory_or_last e refusals.else_memory).1;
    };
    same = set_same m n c s s' at sets err;
  }

  pub publishes_stood : (s s' : Shown) (r : Result Published StreamRefusal) → get_by_text m c ≡ Some s
      → SetsAt m n c (Some s') → new ≡ old
      → OnOk r (s' ≡ after_publish s key d now) → IfOk r (λ p. p ≡ answer_to s key)
      → IfOk r (λ p. p.repeated ≡ false → newest_of s' ≡ Some (record { offset = p.position.offset; datum = d }))
      → RefusalsOfOne s key r → OnErr r (s' ≡ s) → Publishes draws m n (get_by_text m c) c size key d now old new r
  publishes_stood s s' r at sets undrawn makes answer newest refusals err =
      subst (λ o. Publishes draws m n o c size key d now old new r) (sym at)
      (at_stream s s' r at sets undrawn makes answer newest refusals err)

-- ---- where it opens

-- a stream that opens remembers no key
opened_new : (e : List ℕ) (size : ℕ) (key : List ℕ) → repeated_by (started e size 0) key ≡ None
opened_new e size key =
    elim (is_no_key key) as (λ b. cond {A = Option ℕ} b None None ≡ None) [ true ↦ refl | false ↦ refl ]

given_first : (e : List ℕ) (size : ℕ) (key : List ℕ) (d : Datum) (now : ℕ)
    → first_pushed e size key d now ≡ after_publish (started e size 0) key d now
given_first e size key d now =
    sym (ap (λ (o : Option ℕ). cond (is_some o) (used_at (started e size 0) now) (pushed (started e size 0) key d now))
    (opened_new e size key))

answer_first : (size : ℕ) (key : List ℕ) (p : Published) → p.position.offset ≡ 1 → p.repeated ≡ false
    → p ≡ answer_to (started p.position.epoch size 0) key
answer_first size key p at fresh =
    let first : p ≡ answer_by None p.position.epoch 0 =
    λ i. record { position = record { epoch = p.position.epoch; offset = at i }; repeated = fresh i } in
    first ∙ sym (ap (λ (o : Option ℕ). answer_by o p.position.epoch 0) (opened_new p.position.epoch size key))

-- a refusal that is memory, unless no epoch was drawn
memory_or_none : (e : StreamRefusal) → (e ≢ NoEpoch → e ≡ Memory) → (e ≢ AtLastOffset) × (e ≢ WrongEpoch)
memory_or_none AtLastOffset h = absurd (let is = h (λ i. cc) in cc)
memory_or_none WrongEpoch h = absurd (let is = h (λ i. cc) in cc)
memory_or_none NoEpoch h = (λ i. cc, λ i. cc)
memory_or_none Memory h = (λ i. cc, λ i. cc)

module _ {E : Type 0} (draws : E → Option (List ℕ) → E → Type 0) (m n : BTreeMap (String Global) Shown) (c : List ℕ)
    (size : ℕ) (key : List ℕ) (d : Datum) (now : ℕ) (old new : E) where
  at_none : (r : Result Published StreamRefusal)
      → IfOk r (λ p. SetsAt m n c (Some (first_pushed p.position.epoch size key d now)))
      → IfOk r (λ p. (p.position.offset ≡ 1) × (p.repeated ≡ false))
      → IfOk r (λ p. newest_of (first_pushed p.position.epoch size key d now) ≡ Some (record { offset = 1; datum = d }))
      → IfOk r (λ p. DrawsEpoch draws p.position.epoch old new)
      → (r ≡ Err NoEpoch → DrawsNone draws old new) → IfErr r (λ e. e ≢ NoEpoch → (e ≡ Memory) × (new ≡ old))
      → OnErr r ((q : List ℕ) → get_by_text n q ≡ get_by_text m q)
      → Publishes draws m n None c size key d now old new r
  at_none (Ok p) ok answer newest drawn no_epoch memory err = record {
    sets = subst (λ (x : Shown). SetsAt m n c (Some x)) (given_first p.position.epoch size key d now) ok;
    answer = answer_first size key p answer.0 answer.1;
    newest = λ fresh. ap newest_of (sym (given_first p.position.epoch size key d now))
        ∙ (newest ∙ sym (ap (λ o. Some (record { offset = o; datum = d })) answer.0));
    epochs = record { drawn = drawn; no_epoch = λ is. absurd (cc); undrawn = tt };
    refusals = record { repeat = λ p is. absurd (cc); last = (λ is. absurd (cc), λ last. absurd last); never = tt };
    same = tt;
  }
  at_none (Err e) ok answer newest drawn no_epoch memory err =
      let other = memory_or_none e (λ ne. (memory ne).0) in record {
        sets = tt;
        answer = tt;
        newest = tt;
        epochs = record { drawn = tt; no_epoch = λ is. (refl, no_epoch is); undrawn = λ ne. (memory ne).1 };
        refusals = record {
          repeat = λ p is. absurd (cc);
          last = (λ is. absurd (other.0 (let same : e ≡ AtLastOffset = cc in same)), λ last. absurd last);
          never = other.1;
        };
        same = err;
      }

  pub publishes_new : (r : Result Published StreamRefusal) → get_by_text m c ≡ None
      → IfOk r (λ p. SetsAt m n c (Some (first_pushed p.position.epoch size key d now)))
      → IfOk r (λ p. (p.position.offset ≡ 1) × (p.repeated ≡ false))
      → IfOk r (λ p. newest_of (first_pushed p.position.epoch size key d now) ≡ Some (record { offset = 1; datum = d }))
      → IfOk r (λ p. DrawsEpoch draws p.position.epoch old new)
      → (r ≡ Err NoEpoch → DrawsNone draws old new) → IfErr r (λ e. e ≢ NoEpoch → (e ≡ Memory) × (new ≡ old))
      → OnErr r ((q : List ℕ) → get_by_text n q ≡ get_by_text m q)
      → Publishes draws m n (get_by_text m c) c size key d now old new r
  publishes_new r none ok answer newest drawn no_epoch memory err =
      subst (λ o. Publishes draws m n o c size key d now old new r) (sym none)
      (at_none r ok answer newest drawn no_epoch memory err)

-- ---- the same in the words of `StreamMap`

-- what the clauses of a publish say
pub record Said {E : Type 0} (draws : E → Option (List ℕ) → E → Type 0) (k k' : StreamMap) (c key : List ℕ) (d : Datum)
    (now : ℕ) (old new : E)
    (r : Result Published StreamRefusal) : Type 0 where
  pub makes : IfOk r (λ p. k' ≡ put_at k c (Some (after_publish (stood_or_opened k c p.position.epoch) key d now)))
  pub answer : IfOk r (λ p. p ≡ answer_to (stood_or_opened k c p.position.epoch) key)
  pub newest : IfOk r (λ p. p.repeated ≡ false → newest_at k' c
      ≡ Some (record { offset = p.position.offset; datum = d }))
  pub epochs : DrawsToOpen draws (stream_of k c) old new r (λ p. p.position.epoch)
  pub refusals : RefusalsOfPublish (stream_of k c) key r
  pub err : OnErr r (k' ≡ k)
  pub log : IfOk r (λ p. Adds k k' (publishing p.repeated (stream_of k c) c p.position.epoch key d))
  pub lists : IfOk r (ListsOfPublish c key d k k')

pub said : {E : Type 0} (draws : E → Option (List ℕ) → E → Type 0) (t : NamespaceTable)
    (m n : BTreeMap (String Global) Shown) (c key : List ℕ) (d : Datum) (now : ℕ) (old new : E)
    (r : Result Published StreamRefusal) → Publishes draws m n (get_by_text m c) c (size_at t c) key d now old new r
    → Said draws (record { namespaces = t; streams = by_channel m }) (record { namespaces = t; streams = by_channel n })
    c key d now old new r
said draws t m n c key d now old new r from =
    let k : StreamMap = record { namespaces = t; streams = by_channel m } in
    let k' : StreamMap = record { namespaces = t; streams = by_channel n } in
    let h : Publishes draws m n (stream_of k c) c (size_at t c) key d now old new r =
    subst (λ o. Publishes draws m n o c (size_at t c) key d now old new r) (sym (get-by_channel m c)) from in
    let makes : IfOk r (λ p. k' ≡ put_at k c (Some (after_publish (stood_or_opened k c p.position.epoch) key d now))) =
    IfOk-weaker r _ _ (λ (p : Published) sets. kept_by t m n c _ sets) h.sets in
    record {
      makes = makes;
      answer = h.answer;
      newest = IfOk-both r _ _ _ (λ (p : Published) sets is fresh. newest_set t m n c _ _ sets (is fresh)) h.sets
          h.newest;
      epochs = h.epochs;
      refusals = h.refusals;
      err = on_err_weaker r (λ same. kept_same t m n same) h.same;
      log = IfOk-both r _ _ _ (λ (p : Published) is answer. subst
          (λ (x : StreamMap). Adds k x (publishing p.repeated (stream_of k c) c p.position.epoch key d)) (sym is)
          (Adds-publish k c key d now p answer)) makes h.answer;
      lists = IfOk-both r _ _ _ (λ (p : Published) is answer. subst (λ (x : StreamMap). ListsOfPublish c key d k x p)
          (sym is) (record {
            answer = PublishesAt-from k c key p answer;
            changes = ChangesAt-publish k c p.position.epoch key d now;
          })) makes h.answer;
    }
