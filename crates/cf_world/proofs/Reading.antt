-- A stream is read for a subscription, and the world goes on with the machine.
use Rattle.std.proofs.Common.{◌≡◌, ◌≤◌, ℕ, ◌-◌, Option, List, length, arith, sym, ◌∙◌, subst}
use Rattle.std.specs.List.{All}
use Rattle.cf_protocol.specs.Epoch.{IsEpoch}
use Rattle.cf_protocol.specs.Datum.{Placed}
use Rattle.cf_protocol.specs.Note.{Lists, Reading, placed_from}
use Rattle.cf_protocol.specs.Position.{Position}
use Rattle.cf_protocol.specs.Regular.{ArePlaced, IsBody, IsPosition}
use Rattle.cf_protocol.specs.Settings.{NamespaceTable}
use Rattle.cf_model.specs.Streams.{StreamState, last_offset}
use Rattle.cf_model.specs.Streams.{read_of}
use Rattle.cf_stream.specs.declared.answer.Recovery.{Recovery}
use Rattle.cf_hub.specs.InNotes.{AreMissed}
use Rattle.cf_hub.specs.Subscriptions.{reading_of}
use Rattle.cf_machine.specs.PublicationList.{Broker, opened}
use Rattle.cf_machine.specs.ReadBack.{IsDatum}
use Rattle.cf_machine.proofs.Readings.{epoch-is, low-below, reading-is as answer-is, regular-placed, top-is}
use Rattle.cf_world.specs.BrokerTie.{Brings, Finds, IsStanding}
use Rattle.cf_world.specs.declared.broker.WorldBroker.{WorldBroker as Code}

-- the answer of the code is the machine's reading
pub reading-is : (lists : Lists) (c : List ℕ) (since : Option Position) (s : StreamState) (r : Recovery)
    → Brings lists c since s r → s.top ≡ length (lists c s.epoch)
    → reading_of r ≡ read_of since s
reading-is lists c since s r br top =
    answer-is since s (lists c s.epoch) r.position r.recovered r.publications.items top br.at br.recovered
    br.publications

abbrev pub Missing : Type 0
Missing = (lists : Lists) (c : List ℕ) (r : Reading) (missed : List Placed) → r.top ≤ length (lists c r.epoch)
    → missed ≡ placed_from (lists c r.epoch) r.low (r.top - r.low) → ArePlaced IsBody missed
    → IsPosition (record { epoch = r.epoch; offset = r.top }) → AreMissed lists c r missed

-- and what came with it is what it misses
pub are-missed : Missing → (table : NamespaceTable) (m : Broker) (new : Code) (c : List ℕ) (since : Option Position)
    (r : Recovery) → (f : Finds table m c since new r) → (opened c m).lists ≡ m.lists
    → AreMissed m.lists c (read_of since f.state) r.publications.items
are-missed missing table m new c since r f same =
    let s : StreamState = f.state in
    let x : Reading = read_of since s in
    let stood : IsStanding m.lists c s = subst (λ (l : Lists). IsStanding l c s) same (f.shows.standing c s f.stands) in
    let all : All IsDatum (m.lists c s.epoch) =
    subst (λ (l : Lists). All IsDatum (l c s.epoch)) same (f.shows.regular c s.epoch) in
    let few : length (m.lists c s.epoch) ≤ last_offset =
    subst (λ (l : Lists). length (l c s.epoch) ≤ last_offset) same (f.shows.bounded c s.epoch) in
    let top : s.top ≡ length (m.lists c s.epoch) = stood.top in
    let below : x.low ≤ s.top = low-below since s in
    let brought : r.publications.items ≡ placed_from (m.lists c x.epoch) x.low (x.top - x.low) =
    f.brings.publications ∙ sym ((λ i. placed_from (m.lists c (epoch-is since s i)) x.low
    (top-is since s i - x.low))) in
    missing m.lists c x r.publications.items
    (subst (λ (e : List ℕ). x.top ≤ length (m.lists c e)) (sym (epoch-is since s))
    (let is = top-is since s in omega arith))
    brought
    (subst (ArePlaced IsBody) (sym f.brings.publications)
    (regular-placed (m.lists c s.epoch) x.low (s.top - x.low) (omega arith) (omega (arith, few)) all))
    (record {
      epoch = subst IsEpoch (sym (epoch-is since s)) stood.epoch;
      offset = (let is = top-is since s in let most = stood.within in omega arith);
    })
