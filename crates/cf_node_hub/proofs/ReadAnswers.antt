-- What a read of a shard answered is listed in what is seen.
use Rattle.std.proofs.Common.{◌≡◌, ◌≤◌, ℕ, ◌-◌, Bool, Option, Some, List, ◌++◌, length, append_assoc, arith, sym, ap}
use Rattle.std.proofs.Common.{◌∙◌, subst}
use mathlib.Core.List.{IsPrefix}
use Rattle.cf_protocol.specs.Datum.{Datum, Placed}
use Rattle.cf_protocol.specs.LogEntry.{Entry}
use Rattle.cf_protocol.specs.Note.{Lists, Reading, placed_from}
use Rattle.cf_protocol.specs.Position.{Position}
use Rattle.cf_protocol.specs.Regular.{ArePlaced, IsBody, IsPosition}
use Rattle.cf_protocol.specs.Settings.{NamespaceTable}
use Rattle.cf_hub.specs.InNotes.{AreMissed}
use Rattle.cf_order.specs.Passes.{PassState}
use Rattle.cf_stream.specs.ChannelLists.{life_or}
use Rattle.cf_stream.specs.LogState.{epoch_in, holding_in, keys_in, life_in, list_in}
use Rattle.cf_stream.specs.PublicationList.{state_of}
use Rattle.cf_model.specs.Streams.{Life}
use Rattle.cf_model.specs.Streams.{read_of}
use Rattle.cf_shard.specs.LogAnswer.{IsReadAnswer}
use Rattle.cf_shard.proofs.Standing.{of-life}
use Rattle.cf_hub_moves.specs.Readings.{answered}
use Rattle.cf_machine.proofs.Readings.{epoch-is, low-below, top-is}
use Rattle.cf_hub_moves.proofs.Readings.{life-opened, reading-is}
use Rattle.cf_node_hub.specs.Seen.{IsSound, listed_in, log_at, seen_lists}
use Rattle.cf_node_hub.proofs.Seen.{listed-on}

pub then-on : {X : Type 0} (xs ys zs : List X) → (a : List X) → ys ≡ xs ++ a → (b : List X) → zs ≡ ys ++ b
    → zs ≡ xs ++ (a ++ b)
then-on xs ys zs a e b f = f ∙ (ap (λ l. l ++ b) e ∙ append_assoc xs a b)

pub missed_of
    : (law : (lists : Lists) (c : List ℕ) (r : Reading) (missed : List Placed) → r.top ≤ length (lists c r.epoch)
    → missed ≡ placed_from (lists c r.epoch) r.low (r.top - r.low) → ArePlaced IsBody missed
    → IsPosition (record { epoch = r.epoch; offset = r.top }) → AreMissed lists c r missed)
    (t : NamespaceTable) (seen : List PassState) (before after : List Entry) (c : List ℕ) (since : Option Position)
    (p : Position) (recovered : Bool) (items : List Placed)
    → IsSound seen → IsPrefix after (log_at seen c) → IsReadAnswer t before after c since p recovered items
    → AreMissed (seen_lists seen) c (answered p recovered items) items
missed_of law t seen before after c since p recovered items sound begins h =
    let l : Life = life_or (life_in t h.before c) p.epoch in
    let life : life_in t after c ≡ Some l =
    ap (λ (z : List Entry). life_in t z c) h.gained ∙ life-opened t h.before c p.epoch in
    let of = of-life (epoch_in after c) (list_in after c) (keys_in after c) (holding_in t after c).held l life in
    let x : Reading = read_of since (state_of l) in
    let top : x.top ≡ length l.list = top-is since (state_of l) in
    let epoch : x.epoch ≡ l.epoch = epoch-is since (state_of l) in
    let once : l.list ≡ listed_in after c l.epoch = sym of.1 ∙ sound.once c l.epoch after begins of.0 in
    let on = listed-on c l.epoch after (log_at seen c) begins in
    let below : x.low ≤ length l.list = low-below since (state_of l) in
    let within : x.low ≤ length (list_in after c) = subst (λ (ds : List Datum). x.low ≤ length ds) (sym of.1) below in
    let alone : Lists = λ d f. l.list in
    let there : AreMissed alone c x items =
    law alone c x items (omega (arith, top)) (h.answered.run
    ∙ ap (λ (n : ℕ). placed_from l.list x.low (n - x.low)) (sym top))
    (subst (ArePlaced IsBody) (sym h.answered.run)
    (subst (λ (ds : List Datum). ArePlaced IsBody (placed_from ds x.low (length l.list - x.low))) of.1
    (sound.placed c l.epoch after x.low (length l.list - x.low) begins of.0 within)))
    (subst IsPosition (λ i. record {
      epoch = sym epoch i;
      offset = (ap (λ (ds : List Datum). length ds) of.1 ∙ sym top) i;
    })
    (sound.positions c l.epoch after begins of.0)) in
    let here : AreMissed (seen_lists seen) c x items = record {
      listed = λ later g.
          let more = g.later c x.epoch in
          let now : seen_lists seen c x.epoch ≡ l.list ++ on.0 =
          ap (λ (e : List ℕ). seen_lists seen c e) epoch
          ∙ (on.1 ∙ ap (λ (ds : List Datum). ds ++ on.0) (sym once)) in
          there.listed (λ d f. later c x.epoch) (record {
            later = λ d f. (
              on.0 ++ more.0,
              then-on l.list (seen_lists seen c x.epoch) (later c x.epoch) on.0 now
                  more.0 more.1,
            );
          });
      regular = there.regular;
      position = there.position;
    } in
    subst (λ (r : Reading). AreMissed (seen_lists seen) c r items)
    (sym (reading-is l since p recovered items h.answered)) here
