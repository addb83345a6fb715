-- What a call makes of a shard's log and of the caller's pass.
use Rattle.std.proofs.Common.{◌≡◌, ℕ, ◌+◌, List, [], ◌∷◌, ◌++◌, Option, Some, None, refl, sym, ap, ◌∙◌, subst}
use Rattle.std.proofs.Common.{append_assoc, append-nil, arith}
use Rattle.std.specs.Prelude.{ℤ, Bool, true, false, is_some}
use Rattle.std.proofs.Common.{cond}
use Rattle.std.proofs.lemmas.Slice.Eq.{bytes_eq-Decides}
use Rattle.cf_stream.specs.declared.answer.Published.{Published}
use Rattle.cf_stream.proofs.Channels.{stream_of-put_at}
use Rattle.cf_stream.proofs.ChannelChanges.{StandsAt-from}
use Rattle.std.specs.Option.{option_map}
use mathlib.Core.List.{IsPrefix}
use Rattle.atomic_table.specs.Seated.{TableId}
use Rattle.cf_protocol.specs.declared.position.Position.{Position}
use Rattle.cf_protocol.specs.Datum.{Datum, Placed}
use Rattle.cf_protocol.specs.LogEntry.{Entry}
use Rattle.cf_protocol.specs.LogEntry.Entry.{Publish}
use Rattle.cf_protocol.specs.Settings.{NamespaceTable}
use Rattle.cf_order.specs.Passes.{OwnerState, PassState, caught_up, publishes}
use Rattle.cf_stream.specs.Stream.{position_of, Shown, answer_by, answer_to, after_publish, pushed, repeated_by}
use Rattle.cf_stream.specs.Stream.{used_at}
use Rattle.cf_model.specs.Keys.{is_no_key}
use Rattle.cf_stream.specs.Streams.{StreamMap, repeat_at, stream_of, size_at, stood_or, stood_or_opened}
use Rattle.cf_model.specs.Streams.{Life}
use Rattle.cf_stream.specs.ChannelLists.{ShowsAt, StandsAt, PublishesAt, ReadsAt, ListsAt}
use Rattle.cf_stream.specs.LogState.{IsState, Adds, life_in, opening, publishing, if_stands}
use Rattle.cf_shard.specs.Shard.{IsShard, streams_after_publish}
use Rattle.cf_shard.specs.ShardLog.{HasWhole, KeepsShare}
use Rattle.cf_shard.specs.LogAnswer.{Follows, IsCall, IsPosition, IsPublished, IsReadAnswer, IsHistoryAnswer}

pub opening_map : {X Y : Type 0} (f : X → Y) (o : Option X) (c e : List ℕ) (es : List Entry)
    → opening (option_map f o) c e es ≡ opening o c e es
opening_map f None c e es = refl
opening_map f (Some x) c e es = refl

pub if_stands_map : {X Y : Type 0} (f : X → Y) (o : Option X) (x : Entry) → if_stands (option_map f o) x ≡ if_stands o x
if_stands_map f None x = refl
if_stands_map f (Some s) x = refl

pub opening_more : {X : Type 0} (o : Option X) (c e : List ℕ) (es : List Entry)
    → opening o c e [] ++ es ≡ opening o c e es
opening_more None c e es = refl
opening_more (Some x) c e es = refl

pub opening_alike : (size : ℕ) (s : Option Shown) (l : Option Life) (c e : List ℕ) (es : List Entry) → ShowsAt size s l
    → opening s c e es ≡ opening l c e es
opening_alike size None None c e es h = refl
opening_alike size (Some s) (Some l) c e es h = refl
opening_alike size None (Some l) c e es h = absurd h
opening_alike size (Some s) None c e es h = absurd h

pub if_stands_alike : (size : ℕ) (s : Option Shown) (l : Option Life) (x : Entry) → ShowsAt size s l
    → if_stands s x ≡ if_stands l x
if_stands_alike size None None x h = refl
if_stands_alike size (Some s) (Some l) x h = refl
if_stands_alike size None (Some l) x h = absurd h
if_stands_alike size (Some s) None x h = absurd h

-- a stream stands exactly where the log says so
pub opening_by_log : (t : NamespaceTable) (w : TableId) (k : StreamMap) (o : OwnerState) (c e : List ℕ)
    (es : List Entry) → IsShard t w k o → opening (stream_of k c) c e es ≡ opening (life_in t o.log c) c e es
opening_by_log t w k o c e es h =
    opening_alike (size_at k.namespaces c) (stream_of k c) (life_in t o.log c) c e es (h.state.lists.at c)

pub if_stands_by_log : (t : NamespaceTable) (w : TableId) (k : StreamMap) (o : OwnerState) (c : List ℕ) (x : Entry)
    → IsShard t w k o → if_stands (stream_of k c) x ≡ if_stands (life_in t o.log c) x
if_stands_by_log t w k o c x h =
    if_stands_alike (size_at k.namespaces c) (stream_of k c) (life_in t o.log c) x (h.state.lists.at c)

-- the entries by what was asked of the streams
pub opening_stood : (k : StreamMap) (c : List ℕ) (position : Option Position) (stood : Option ℕ) (e : List ℕ)
    (es : List Entry) → position ≡ option_map position_of (stream_of k c)
    → stood ≡ option_map (λ (p : Position). p.offset) position
    → opening stood c e es ≡ opening (stream_of k c) c e es
opening_stood k c position stood e es at is =
    ap (λ (o : Option ℕ). opening o c e es) is ∙ opening_map (λ (p : Position). p.offset) position c e es
    ∙ ap (λ (o : Option Position). opening o c e es) at ∙ opening_map position_of (stream_of k c) c e es

pub if_stands_stood : (k : StreamMap) (c : List ℕ) (position : Option Position) (stood : Option ℕ) (x : Entry)
    → position ≡ option_map position_of (stream_of k c) → stood ≡ option_map (λ (p : Position). p.offset) position
    → if_stands stood x ≡ if_stands (stream_of k c) x
if_stands_stood k c position stood x at is =
    ap (λ (o : Option ℕ). if_stands o x) is ∙ if_stands_map (λ (p : Position). p.offset) position x
    ∙ ap (λ (o : Option Position). if_stands o x) at ∙ if_stands_map position_of (stream_of k c) x

-- the streams stay the state of the log
pub kept : (t : NamespaceTable) (w : TableId) (old new : StreamMap) (o o' : OwnerState) (es : List Entry)
    → IsShard t w old o → Adds old new es → o'.word ≡ o.word
    → o'.log ≡ o.log ++ es → IsShard t w new o'
kept t w old new o o' es h adds word log =
    record { named = word ∙ h.named; state = subst (IsState t new) (sym log) (adds.state t o.log h.state) }

-- and as they are if neither changed
pub still : (t : NamespaceTable) (w : TableId) (old new : StreamMap) (o o' : OwnerState) → IsShard t w old o → new ≡ old
    → o' ≡ o → IsShard t w new o'
still t w old new o o' h same is =
    subst (λ (k : StreamMap). IsShard t w k o') (sym same) (subst (λ (x : OwnerState). IsShard t w old x) (sym is) h)

-- where a channel's stream stands, read off the log
pub position_by_log : (t : NamespaceTable) (w : TableId) (k : StreamMap) (o : OwnerState) (c : List ℕ)
    (p : Option Position) → IsShard t w k o → StandsAt k c p → IsPosition t o.log c p
position_by_log t w k o c p h s = s.off (life_in t o.log) h.state.lists

-- where a stream stands after a publish that is no repeat
pub stands_after : (k : StreamMap) (c key : List ℕ) (d : Datum) (now : ℕ) (p : Published)
    → p ≡ answer_to (stood_or_opened k c p.position.epoch) key → p.repeated ≡ false
    → StandsAt (streams_after_publish k c p.position.epoch key d now) c (Some p.position)
stands_after k c key d now p is fresh =
    let s : Shown = stood_or_opened k c p.position.epoch in
    let cases : (r : Option ℕ) → p ≡ answer_by r s.epoch s.top
    → p.position ≡ position_of (cond (is_some r) (used_at s now) (pushed s key d now)) =
    λ r. elim r as (λ r. p ≡ answer_by r s.epoch s.top
    → p.position ≡ position_of (cond (is_some r) (used_at s now) (pushed s key d now))) [
      | None ↦ λ e. ap (λ (x : Published). x.position) e
      | Some o ↦ λ e. absurd (let yes : p.repeated ≡ true = ap (λ (x : Published). x.repeated) e in cc)
    ] in
    StandsAt-from (streams_after_publish k c p.position.epoch key d now) c (Some p.position)
    (ap Some (cases (repeated_by s key) is)
    ∙ ap (option_map position_of) (sym (stream_of-put_at k c (Some (after_publish s key d now)) c
    ∙ ap (λ b. cond b (Some (after_publish s key d now)) (stream_of k c)) ((bytes_eq-Decides c c).1 refl))))

-- each call at the point of the log that the owner has
pub published_by_log : (t : NamespaceTable) (w : TableId) (k new : StreamMap) (o o' : OwnerState) (c key : List ℕ)
    (d : Datum) (p : Published) (seen after : List Entry) → IsShard t w k o → IsShard t w new o'
    → PublishesAt k c key p.position p.repeated → (p.repeated ≡ false → StandsAt new c (Some p.position))
    → IsPrefix seen o.log
    → o'.log ≡ o.log ++ publishing p.repeated (stream_of k c) c p.position.epoch key d → after ≡ o'.log
    → IsPublished t seen after c key d p
published_by_log t w k new o o' c key d p seen after h h' answers stands begins log is = record {
  before = o.log;
  begins = begins;
  gained =
      is
      ∙ (log
      ∙ ap (λ (es : List Entry). o.log ++ cond p.repeated [] es)
      (opening_by_log t w k o c p.position.epoch (Publish c key d ∷ []) h));
  answered = record {
    is = answers.off (life_in t o.log) h.state.lists;
    stands = λ fresh. subst (λ (l : List Entry). IsPosition t l c (Some p.position)) (sym is)
        (position_by_log t w new o' c (Some p.position) h' (stands fresh));
  };
}

pub read_by_log : (t : NamespaceTable) (w : TableId) (k : StreamMap) (o : OwnerState) (c : List ℕ)
    (since : Option Position) (p : Position) (recovered : Bool) (items : List Placed) (seen after : List Entry)
    → IsShard t w k o → ReadsAt k c since p recovered items → IsPrefix seen o.log
    → after ≡ o.log ++ opening (stream_of k c) c p.epoch [] → IsReadAnswer t seen after c since p recovered items
read_by_log t w k o c since p recovered items seen after h reads begins log = record {
  before = o.log;
  begins = begins;
  gained = log ∙ ap (λ (es : List Entry). o.log ++ es) (opening_by_log t w k o c p.epoch [] h);
  answered = reads.off (life_in t o.log) h.state.lists;
}

pub history_by_log : (t : NamespaceTable) (w : TableId) (k : StreamMap) (o : OwnerState) (c : List ℕ)
    (since : Option Position) (limit : ℤ) (p : Position) (items : List Placed) (seen after : List Entry)
    → IsShard t w k o → ListsAt k c since limit p items → IsPrefix seen o.log
    → after ≡ o.log ++ opening (stream_of k c) c p.epoch [] → IsHistoryAnswer t seen after c since limit p items
history_by_log t w k o c since limit p items seen after h lists begins log = record {
  before = o.log;
  begins = begins;
  gained = log ∙ ap (λ (es : List Entry). o.log ++ es) (opening_by_log t w k o c p.epoch [] h);
  answered = lists.off (life_in t o.log) h.state.lists;
}

pub one_by_log : (t : NamespaceTable) (w : TableId) (k : StreamMap) (o : OwnerState) (c : List ℕ) (x : Entry)
    (seen after : List Entry) → IsShard t w k o → IsPrefix seen o.log → after ≡ o.log ++ if_stands (stream_of k c) x
    → IsCall seen after (λ log. if_stands (life_in t log c) x) (λ log. Unit {0})
one_by_log t w k o c x seen after h begins log = record {
  before = o.log;
  begins = begins;
  gained = log ∙ ap (λ (es : List Entry). o.log ++ es) (if_stands_by_log t w k o c x h);
  answered = tt;
}

-- a channel without a stream has no entry, and stays without one
pub none_logged : (k : StreamMap) (c : List ℕ) (x : Entry) (log after : List Entry) → stream_of k c ≡ None → after ≡ log
    → after ≡ log ++ if_stands (stream_of k c) x
none_logged k c x log after none is =
    is ∙ (sym (append-nil log) ∙ ap (λ (o : Option Shown). log ++ if_stands o x) (sym none))

-- the owner after a call's entries
pub logged : (o o1 o2 : OwnerState) (es es' : List Entry) → o1 ≡ o → o2 ≡ record o1 { log = o1.log ++ es } → es ≡ es'
    → (o2.word ≡ o.word) × (o2.log ≡ o.log ++ es')
logged o o1 o2 es es' at is same = (
  ap (λ (x : OwnerState). x.word) is ∙ ap (λ (x : OwnerState). x.word) at,
  ap (λ (x : OwnerState). x.log) is ∙ (λ i. (at i).log ++ same i),
)

-- the pass after an entry
pub passed : (mid new : PassState) (log : List Entry) (x : Entry)
    → new ≡ record (caught_up mid log) { share = mid.share + publishes x } → HasWhole new log
    × KeepsShare mid new (publishes x)
passed mid new log x is = (
  (ap (λ (p : PassState). p.log) is, ap (λ (p : PassState). p.found) is),
  (ap (λ (p : PassState). p.word) is, ap (λ (p : PassState). p.looks) is, ap (λ (p : PassState). p.share) is),
)

-- the pass after a call
pub follows : (old mid new : PassState) (log es after : List Entry) (own : ℕ) → IsPrefix old.log log
    → mid ≡ caught_up old log → after ≡ log ++ es → HasWhole new after → KeepsShare mid new own → Follows old new own
follows old mid new log es after own seen is gained whole keeps = record {
  begins = (
    seen.0 ++ es,
    sym (append_assoc old.log seen.0 es)
        ∙ (ap (λ (l : List Entry). l ++ es) seen.1 ∙ (sym gained ∙ sym whole.0)),
  );
  found = whole.1 ∙ sym whole.0;
  word = keeps.0 ∙ ap (λ (p : PassState). p.word) is;
  looks = keeps.1 ∙ ap (λ (p : PassState). p.looks) is;
  share = keeps.2 ∙ ap (λ (p : PassState). p.share + own) is;
}

-- the pass after a look at the log alone
pub followed : (old new : PassState) (log : List Entry) → IsPrefix old.log log → new ≡ caught_up old log
    → Follows old new 0
followed old new log seen is =
    let whole : new.log ≡ log = ap (λ (p : PassState). p.log) is in record {
      begins = (seen.0, seen.1 ∙ sym whole);
      found = ap (λ (p : PassState). p.found) is ∙ sym whole;
      word = ap (λ (p : PassState). p.word) is;
      looks = ap (λ (p : PassState). p.looks) is;
      share = omega (arith, ap (λ (p : PassState). p.share) is);
    }

-- where a map is none
pub none_mapped : {X Y : Type 0} (f : X → Y) (o : Option X) → option_map f o ≡ None → o ≡ None
none_mapped f None e = refl
none_mapped f (Some x) e = absurd (cc (e))

-- what a publish repeats is asked by the text of its key
pub none_asked : (k : StreamMap) (c text key : List ℕ) (o : Option Position) (b : Bool) → text ≡ key
    → o ≡ repeat_at (stream_of k c) text → b ≡ is_some o → b ≡ false
    → repeat_at (stream_of k c) key ≡ None
none_asked k c text key None b same is asked found = ap (repeat_at (stream_of k c)) (sym same) ∙ sym is
none_asked k c text key (Some p) b same is asked found = absurd (cc (asked, found))

pub some_asked : (k : StreamMap) (c text key : List ℕ) (o : Option Position) (b : Bool) → text ≡ key
    → o ≡ repeat_at (stream_of k c) text → b ≡ is_some o → b ≡ true
    → is_some (repeat_at (stream_of k c) key) ≡ true
some_asked k c text key o b same is asked found =
    ap (λ t. is_some (repeat_at (stream_of k c) t)) (sym same) ∙ (ap is_some (sym is) ∙ (sym asked ∙ found))

-- a stream that opens remembers nothing
opened_new : (o : Option Shown) (e key : List ℕ) (size : ℕ) → repeat_at o key ≡ None
    → repeated_by (stood_or o e size) key ≡ None
opened_new None e key size new =
    elim (is_no_key key) as (λ b. cond {A = Option ℕ} b None None ≡ None) [ true ↦ refl | false ↦ refl ]
opened_new (Some s) e key size new = none_mapped _ (repeated_by s key) new

-- a publish that repeats nothing is no repeat
pub is_fresh : (k : StreamMap) (c key : List ℕ) (p : Published)
    → p ≡ answer_to (stood_or_opened k c p.position.epoch) key → repeat_at (stream_of k c) key ≡ None
    → p.repeated ≡ false
is_fresh k c key p is new =
    let s : Shown = stood_or_opened k c p.position.epoch in
    ap (λ (x : Published). x.repeated) is ∙ ap (λ (r : Option ℕ). (answer_by r s.epoch s.top).repeated)
    (opened_new (stream_of k c) p.position.epoch key (size_at k.namespaces c) new)

-- the owner after a publish that repeats nothing, whose entries were made by what was asked of the streams, and under a
-- copy of its key
pub publish_logged : (k : StreamMap) (o o1 o2 : OwnerState) (c lent key : List ℕ) (d : Datum)
    (position : Option Position) (stood : Option ℕ) (p : Published) → o1 ≡ o
    → (p.repeated ≡ false → o2 ≡ record o1 { log = o1.log ++ opening stood c p.position.epoch (Publish c lent d ∷ []) })
    → position ≡ option_map position_of (stream_of k c)
    → stood ≡ option_map (λ (p : Position). p.offset) position
    → p ≡ answer_to (stood_or_opened k c p.position.epoch) key → repeat_at (stream_of k c) key ≡ None → lent ≡ key
    → (p.repeated ≡ false) × (o2.word ≡ o.word) × (o2.log ≡ o.log
    ++ publishing p.repeated (stream_of k c) c p.position.epoch key d)
publish_logged k o o1 o2 c lent key d position stood p at made from is answer new same =
    let fresh : p.repeated ≡ false = is_fresh k c key p answer new in
    let es : List Entry = opening (stream_of k c) c p.position.epoch (Publish c key d ∷ []) in
    let entries : opening stood c p.position.epoch (Publish c lent d ∷ [])
    ≡ publishing p.repeated (stream_of k c) c p.position.epoch key d =
    ap (λ x. opening stood c p.position.epoch (Publish c x d ∷ [])) same
    ∙ (opening_stood k c position stood p.position.epoch (Publish c key d ∷ []) from is
    ∙ ap (λ b. cond b [] es) (sym fresh)) in
    let owner = logged o o1 o2 _ _ at (made fresh) entries in
    (fresh, owner.0, owner.1)

-- where a map is some
some_mapped : {X Y : Type 0} (f : X → Y) (o : Option X) → is_some (option_map f o) ≡ true → is_some o ≡ true
some_mapped f None e = e
some_mapped f (Some x) e = refl

repeats_by : (r : Option ℕ) (e : List ℕ) (top : ℕ) → (answer_by r e top).repeated ≡ is_some r
repeats_by None e top = refl
repeats_by (Some o) e top = refl

again_in : (o : Option Shown) (e key : List ℕ) (size : ℕ) → is_some (repeat_at o key) ≡ true
    → is_some (repeated_by (stood_or o e size) key) ≡ true
again_in None e key size is = absurd (cc (is))
again_in (Some s) e key size is = some_mapped _ (repeated_by s key) is

-- a publish that repeats something is a repeat
pub is_repeat : (k : StreamMap) (c key : List ℕ) (p : Published)
    → p ≡ answer_to (stood_or_opened k c p.position.epoch) key → is_some (repeat_at (stream_of k c) key) ≡ true
    → p.repeated ≡ true
is_repeat k c key p is again =
    let s : Shown = stood_or_opened k c p.position.epoch in
    ap (λ (x : Published). x.repeated) is ∙ repeats_by (repeated_by s key) s.epoch s.top
    ∙ again_in (stream_of k c) p.position.epoch key (size_at k.namespaces c) again

-- the owner after a repeat
pub repeat_logged : (o o1 : OwnerState) (repeated : Bool) (es : List Entry) → o1 ≡ o → repeated ≡ true
    → (o1.word ≡ o.word) × (o1.log ≡ o.log ++ cond repeated [] es)
repeat_logged o o1 repeated es at is = (
  ap (λ (x : OwnerState). x.word) at,
  ap (λ (x : OwnerState). x.log) at ∙ (sym (append-nil o.log) ∙ ap (λ b. o.log ++ cond b [] es) (sym is)),
)
