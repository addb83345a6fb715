-- The streams got copies of the same texts (`changes_by`), so they show the machine's publish, repeat or refusal.
use Rattle.std.proofs.Common.{◌≡◌, ◌∙◌, ap, ℕ, List, Option, Some, Ok, rules, refl, sym, subst}
use Rattle.std.specs.String.{string_bytes}
use Rattle.std.specs.Result.{IsErrOf}
use Rattle.cf_protocol.specs.Datum.{Datum, Placed, Who}
use Rattle.cf_stream.specs.Stream.{IsAtLast, answer_to}
use Rattle.cf_stream.specs.Streams.{StreamMap, newest_at, size_at, stood_or_opened, stream_of}
use Rattle.cf_stream.specs.ChannelLists.{ChangesAt, life_with}
use Rattle.cf_stream.specs.declared.answer.Published.{Published}
use Rattle.cf_stream.specs.declared.refusal.StreamRefusal.{StreamRefusal}
use Rattle.cf_world.specs.BrokerTie.{who_by}
use Rattle.cf_world.proofs.BoardPublishes.{published_shows, repeated_shows, no_epoch_shows}
use Rattle.cf_world.proofs.broker.WorldBroker.publish.Goals as goal

not_refused : {T E : Type 0} (x : T) (e : E) → IsErrOf (Ok x) e → ⊥
not_refused x e h = cc

same-placed : (a b : Placed) → Some a ≡ Some b → a ≡ b
same-placed a b h = cc

-- the lists change by the texts that the copies were made of
changes_by : (old new : StreamMap) (c under key sent body : List ℕ) (info who : Option Who) (e : List ℕ) → under ≡ key
    → sent ≡ body → info ≡ who
    → ChangesAt old new c (life_with (size_at old.namespaces c) under (record { body = sent; info = info }) e)
    → ChangesAt old new c (life_with (size_at old.namespaces c) key (record { body = body; info = who }) e)
changes_by old new c under key sent body info who e k s i h =
    subst (λ (ks : List ℕ). ChangesAt old new c (life_with (size_at old.namespaces c) ks
    (record { body = body; info = who }) e)) k
    (subst (λ (d : Datum). ChangesAt old new c (life_with (size_at old.namespaces c) under d e))
    (λ j. record { body = s j; info = i j }) h)

pub returns-then-published : goal.returns-then-published
returns-then-published c = λ table m fresh is-datum h.
    let channel : List ℕ = c.args.channel.now in
    let key : List ℕ = c.args.key.now in
    let d : Datum = record { body = c.args.body.now; info = who_by _ } in
    let p : Published = c.in-Ok.published in
    let old : StreamMap = c.args.self.now.streams in
    let under : string_bytes c.in_ok-under.under ≡ key = c.in_ok-under.ensures.ok in
    let sent : string_bytes c.in_ok-sent.sent ≡ c.args.body.now = c.in_ok-sent.ensures.ok in
    let changes =
    changes_by old c.publish.new.self channel _ key _ c.args.body.now _ _ p.position.epoch under sent
    c.in_ok-info.ensures c.in-Ok.ensures.lists.changes in
    let answer =
    subst (λ (ks : List ℕ). p ≡ answer_to (stood_or_opened old channel p.position.epoch) ks) under
    c.in-Ok.ensures.answer in
    repeated_shows table m c.args.self.now _ channel key p.position.epoch d p fresh h
    (c.is_set_up.ensures.0 (search rules))
    c.in-Ok.ensures.epochs.drawn (ap (λ (k : StreamMap). k.namespaces) c.in-Ok.ensures.makes) changes answer
    c.if-published.true refl

pub returns : goal.returns
returns c = λ table m fresh is-datum h.
    let channel : List ℕ = c.args.channel.now in
    let key : List ℕ = c.args.key.now in
    let d : Datum = record { body = c.args.body.now; info = who_by _ } in
    let p : Published = c.in-Ok.published in
    let old : StreamMap = c.args.self.now.streams in
    let under : string_bytes c.in_ok-under.under ≡ key = c.in_ok-under.ensures.ok in
    let sent : string_bytes c.in_ok-sent.sent ≡ c.args.body.now = c.in_ok-sent.ensures.ok in
    let changes =
    changes_by old c.publish.new.self channel _ key _ c.args.body.now _ _ p.position.epoch under sent
    c.in_ok-info.ensures c.in-Ok.ensures.lists.changes in
    let answer =
    subst (λ (ks : List ℕ). p ≡ answer_to (stood_or_opened old channel p.position.epoch) ks) under
    c.in-Ok.ensures.answer in
    let newest : Some c.in-Some.newest.now ≡ newest_at c.publish.new.self channel = search rules in
    let is = same-placed c.in-Some.newest.now _ (newest ∙ c.in-Ok.ensures.newest c.if-published.false) in
    published_shows table m c.args.self.now _ channel key p.position.epoch d p fresh h
    (c.is_set_up.ensures.0 (search rules))
    c.in-Ok.ensures.epochs.drawn (ap (λ (k : StreamMap). k.namespaces) c.in-Ok.ensures.makes) changes answer
    c.if-published.false _
    (λ last. not_refused p StreamRefusal.AtLastOffset
    (c.in-Ok.ensures.refusals.last.1 (subst (IsAtLast (stream_of old channel)) (sym under) last)))
    c.in_ok-push.ensures.items c.in_ok-from_str.ensures.ok refl
    (c.in_ok-copied.ensures ∙ is ∙ (λ i. record {
      offset = p.position.offset;
      datum = record { body = sent i; info = c.in_ok-info.ensures i };
    }))
    is-datum.0 is-datum.1

pub returns-in-Err-NoEpoch : goal.returns-in-Err-NoEpoch
returns-in-Err-NoEpoch c = λ table m fresh is-datum h.
    let is : IsErrOf c.publish.result StreamRefusal.NoEpoch = search rules in
    let none = c.publish.ensures.epochs.no_epoch is in
    let n = no_epoch_shows table c.args.self.now _ m c.args.channel.now h fresh none.0 none.1
    c.in-Err-NoEpoch.ensures.err refl in
    (n.none, n.shows)
