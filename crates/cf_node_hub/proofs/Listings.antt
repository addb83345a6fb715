-- The reply to a history says a note whose publications are listed in what is seen.
use Rattle.std.proofs.Common.{◌≡◌, ◌≤◌, ◌⊎◌, inl, inr, ℕ, ◌+◌, ◌-◌, min, max, false, Option, Some, None, List, [], ◌++◌}
use Rattle.std.proofs.Common.{length, refl, sym, ap, ◌∙◌, subst, arith}
use Rattle.std.specs.Prelude.{ℤ}
use Rattle.std.specs.Str.{bytes_eq}
use mathlib.Core.List.{IsPrefix}
use mathlib.Core.Logic.{dite}
use native.Mathlib.Decide.{dec_le}
use Rattle.cf_protocol.specs.Datum.{Datum, Placed}
use Rattle.cf_protocol.specs.LogEntry.{Entry}
use Rattle.cf_protocol.specs.Note.{Listed, Lists, Note, Reading, placed_from}
use Rattle.cf_protocol.specs.Outgoing.{Answer, Past}
use Rattle.cf_protocol.specs.Position.{Position}
use Rattle.cf_protocol.specs.Regular.{ArePlaced, IsBody, IsPosition}
use Rattle.cf_protocol.specs.Settings.{NamespaceTable}
use Rattle.cf_hub.specs.InNotes.{IsSaid}
use Rattle.cf_hub.proofs.InNotes.{read_stays}
use Rattle.cf_machine.proofs.Names.{by_test}
use Rattle.cf_model.specs.Streams.{Life}
use Rattle.cf_model.specs.Streams.{StreamState}
use Rattle.cf_model.specs.Streams.{Listing, allowed_by, history_of, listed_above}
use Rattle.cf_order.specs.Passes.{PassState}
use Rattle.cf_stream.specs.ChannelLists.{life_or}
use Rattle.cf_stream.specs.LogState.{epoch_in, holding_in, keys_in, life_in, list_in}
use Rattle.cf_stream.specs.PublicationList.{IsListed, state_of}
use Rattle.cf_shard.proofs.Standing.{of-life}
use Rattle.cf_hub_moves.proofs.Readings.{life-opened}
use Rattle.cf_node_hub.specs.Histories.{RepliesHistory}
use Rattle.cf_node_hub.specs.Seen.{IsSound, listed_in, log_at, seen_lists}
use Rattle.cf_node_hub.proofs.ReadAnswers.{then-on}
use Rattle.cf_node_hub.proofs.Seen.{listed-on}

-- ---- what a listing brings

-- it stands where the stream does, and what it brings lies within the list, or is nothing
record Brings (s : StreamState) (f : Listing) : Type 0 where
  pub at : f.at ≡ record { epoch = s.epoch; offset = s.top }
  pub within : (f.low + f.count ≤ s.top) ⊎ (f.count ≡ 0)

above : (o top held n : ℕ) → ((max o (top - held) + min n (top - max o (top - held))) ≤ top)
    ⊎ (min n (top - max o (top - held)) ≡ 0)
above o top held n = dite (dec_le o top) (λ h. inl (omega (arith, h))) (λ not. inr (omega (arith, not)))

listing_is : (a b : Listing) → Some a ≡ Some b → a ≡ b
listing_is a b e = cc

brings-above : (o : ℕ) (limit : ℤ) (s : StreamState) (f : Listing) → Some (listed_above o limit s) ≡ Some f → Brings s f
brings-above o limit s f e =
    subst (Brings s) (listing_is (listed_above o limit s) f e)
    (record { at = refl; within = above o s.top s.held (allowed_by limit) })

brings : (since : Option Position) (limit : ℤ) (s : StreamState) (f : Listing) → history_of since limit s ≡ Some f
    → Brings s f
brings None limit s f e = brings-above 0 limit s f e
brings (Some p) limit s f e =
    by_test (λ (o : Option Listing). o ≡ Some f → Brings s f) (bytes_eq p.epoch s.epoch)
    (Some (listed_above p.offset limit s)) None
    (λ is i. brings-above p.offset limit s f i) (λ not i. absurd (cc (i))) e

-- ---- it stays as the list grows

stays : (ds more : List Datum) (f : Listing) → (f.low + f.count ≤ length ds) ⊎ (f.count ≡ 0)
    → placed_from (ds ++ more) f.low f.count ≡ placed_from ds f.low f.count
stays ds more f (inl h) =
    let r : Reading = record { epoch = []; low = f.low; top = f.low + f.count; recovered = false } in
    let same : (f.low + f.count) - f.low ≡ f.count = omega arith in
    let alone : Lists = λ d e. ds in
    ap (λ (n : ℕ). placed_from (ds ++ more) f.low n) (sym same)
    ∙ (read_stays alone [] r h (λ d e. ds ++ more) (record { later = λ d e. (more, refl) })
    ∙ ap (λ (n : ℕ). placed_from ds f.low n) same)
stays ds more f (inr h) =
    ap (λ (n : ℕ). placed_from (ds ++ more) f.low n) h ∙ ap (λ (n : ℕ). placed_from ds f.low n) (sym h)

regular : (ds : List Datum) (f : Listing) → (f.low + f.count ≤ length ds) ⊎ (f.count ≡ 0)
    → (f.low ≤ length ds → ArePlaced IsBody (placed_from ds f.low f.count))
    → ArePlaced IsBody (placed_from ds f.low f.count)
regular ds f (inl h) all = all (omega (arith, h))
regular ds f (inr h) all = subst (λ (n : ℕ). ArePlaced IsBody (placed_from ds f.low n)) (sym h) tt

-- ---- the note

pub says : (t : NamespaceTable) (seen : List PassState) (log : List Entry) (c text : List ℕ) → IsSound seen
    → IsPrefix log (log_at seen c) → RepliesHistory t log c text
    → (n : Note) × IsSaid (seen_lists seen) text n
says t seen log c text sound begins h =
    let p : Position = h.history.position in
    let items : List Placed = h.history.publications.items in
    let answer = h.listed.answered in
    let l : Life = life_or (life_in t answer.before c) p.epoch in
    let life : life_in t log c ≡ Some l =
    ap (λ (z : List Entry). life_in t z c) answer.gained ∙ life-opened t answer.before c p.epoch in
    let of = of-life (epoch_in log c) (list_in log c) (keys_in log c) (holding_in t log c).held l life in
    let a : IsListed l h.listed.since h.listed.limit p items = answer.answered in
    let f : Listing = a.listing in
    let b : Brings (state_of l) f = brings h.listed.since h.listed.limit (state_of l) f a.is in
    let at : p ≡ record { epoch = l.epoch; offset = length l.list } = a.at ∙ b.at in
    let epoch : p.epoch ≡ l.epoch = ap (λ (q : Position). q.epoch) at in
    let once : l.list ≡ listed_in log c l.epoch = sym of.1 ∙ sound.once c l.epoch log begins of.0 in
    let on = listed-on c l.epoch log (log_at seen c) begins in
    let position : IsPosition p =
    subst IsPosition (λ i. record {
      epoch = sym epoch i;
      offset = (ap (λ (ds : List Datum). length ds) of.1 ∙ sym (ap (λ (q : Position). q.offset) at)) i;
    })
    (sound.positions c l.epoch log begins of.0) in
    let placed : ArePlaced IsBody (placed_from l.list f.low f.count) =
    regular l.list f b.within
    (λ low. subst (λ (ds : List Datum). ArePlaced IsBody (placed_from ds f.low f.count)) of.1
    (sound.placed c l.epoch log f.low f.count begins of.0
    (subst (λ (ds : List Datum). f.low ≤ length ds) (sym of.1) low))) in (
      Listed c h.id p f.low f.count,
      record {
        said = Answer h.id (Past p items);
        stays = λ later g.
            let more = g.later c p.epoch in
            let now : seen_lists seen c p.epoch ≡ l.list ++ on.0 =
            ap (λ (e : List ℕ). seen_lists seen c e) epoch
            ∙ (on.1 ∙ ap (λ (ds : List Datum). ds ++ on.0) (sym once)) in
            let then : later c p.epoch ≡ l.list ++ (on.0 ++ more.0) =
            then-on l.list (seen_lists seen c p.epoch) (later c p.epoch) on.0 now more.0 more.1 in
            ap (λ (ps : List Placed). Some (Answer h.id (Past p ps)))
            (ap (λ (ds : List Datum). placed_from ds f.low f.count) then
            ∙ (stays l.list (on.0 ++ more.0) f b.within ∙ sym a.run));
        regular = (h.is_code, (position, subst (ArePlaced IsBody) (sym a.run) placed));
        text = h.says;
      },
    )
