-- The texts of answers say the notes that the machine says.
use Rattle.std.proofs.Common.{◌≡◌, ◌≤◌, ℕ, ◌+◌, ◌-◌, true, Option, Some, option_map, List, length, arith, refl, sym, ap}
use Rattle.std.proofs.Common.{◌∙◌, subst}
use Rattle.cf_protocol.specs.Datum.{Placed}
use Rattle.cf_protocol.specs.Note.{Lists, Fails, Put as PutDone, Left, Listed, Reading, placed_from}
use Rattle.cf_protocol.specs.Outgoing.{Answer, Failed, Past, Published as PublishedOutcome, Unsubscribed}
use Rattle.cf_protocol.specs.Position.{Position}
use Rattle.cf_protocol.specs.Regular.{ArePlaced, IsBody, IsCode, IsInfo, IsPosition}
use Rattle.cf_protocol.specs.Settings.{NamespaceTable}
use Rattle.cf_hub.specs.Hub.{Node, attached_at}
use Rattle.cf_hub.specs.InNotes.{AreMissed, IsSaid}
use Rattle.cf_hub.specs.Session.{Attached}
use Rattle.cf_machine.specs.PublicationList.{Broker}
use Rattle.cf_machine.specs.ReadBack.{IsDatum}
use Rattle.cf_world.specs.BrokerTie.{Publishes, datum_from, who_by}
use Rattle.cf_world.specs.Exchange.{PutAnswered, Puts}
use Rattle.cf_session.specs.SessionMachine.{reply_text}
use Rattle.cf_world.specs.HubCalls.{who_in}
use Rattle.cf_world.specs.declared.broker.WorldBroker.{WorldBroker as Code}
use Rattle.cf_world.specs.declared.broker.PublishOutcome.{PublishOutcome}
use Rattle.cf_world.proofs.Reading.{Missing}

module _ (lists : Lists) (id : ℕ) (is-code : IsCode id) where
  pub says_put : IsSaid lists (reply_text id PublishedOutcome) (PutDone id)
  says_put = record { said = Answer id PublishedOutcome; stays = λ later g. refl; regular = (is-code, tt); text = refl }

  pub says_left : IsSaid lists (reply_text id Unsubscribed) (Left id)
  says_left = record { said = Answer id Unsubscribed; stays = λ later g. refl; regular = (is-code, tt); text = refl }

  pub says_fails : (c : List ℕ) (code : ℕ) → IsCode code → IsSaid lists (reply_text id (Failed code)) (Fails c id code)
  says_fails c code h =
      record { said = Answer id (Failed code); stays = λ later g. refl; regular = (is-code, h); text = refl }

  -- publications that are listed, up to where the stream stands
  pub says_listed : Missing → (c : List ℕ) (at : Position) (low count : ℕ) (ps : List Placed) → IsPosition at
      → low + count ≤ at.offset → at.offset ≤ length (lists c at.epoch)
      → ps ≡ placed_from (lists c at.epoch) low count → ArePlaced IsBody ps
      → IsSaid lists (reply_text id (Past at ps)) (Listed c id at low count)
  says_listed missing c at low count ps is-position under within is placed =
      let r : Reading = record { epoch = at.epoch; low = low; top = low + count; recovered = true } in
      let between : r.top - r.low ≡ count = omega arith in
      let missed : AreMissed lists c r ps =
      missing lists c r ps (omega (arith, under, within)) (is ∙ ap (placed_from (lists c at.epoch) low) (sym between))
      placed
      (record { epoch = is-position.epoch; offset = (let most = is-position.offset in omega (arith, under, most)) }) in
      record {
        said = Answer id (Past at ps);
        stays = λ later g. ap (λ (qs : List Placed). Some (Answer id (Past at qs)))
            (ap (placed_from (later c at.epoch) low) (sym between) ∙ missed.listed later g);
        regular = (is-code, (is-position, placed));
        text = refl;
      }

-- what was published by the session's client, and what it was told
pub puts_so : (table : NamespaceTable) (m : Broker) (k : ℕ) (c key body : List ℕ) (id : ℕ) (new : Code) (h g : Node)
    (client : Option (List ℕ)) (r found : PublishOutcome)
    → client ≡ option_map (λ (a : Attached). a.badge.client) (attached_at h k) → r ≡ found
    → (IsDatum (datum_from body client) → Publishes table m c key (datum_from body client) new r) → IsBody body
    → IsInfo (who_in (attached_at h k)) → PutAnswered found k id h g
    → Puts table m k c key body id new h g
puts_so table m k c key body id new h g client r found who is publishes regular named answered = record {
  result = found;
  publishes =
      subst (λ (w : Option (List ℕ)). Publishes table m c key (datum_from body w) new found) who
      (subst (λ (z : PublishOutcome). Publishes table m c key (datum_from body client) new z) is
      (publishes (regular, subst (λ (w : Option (List ℕ)). IsInfo (who_by w)) (sym who) named)));
  answered = answered;
}
