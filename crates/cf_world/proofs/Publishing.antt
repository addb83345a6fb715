-- A publish, a trim, a forget and a change of size go on with the machine.
use Rattle.std.proofs.Common.{◌≡◌, ℕ, ◌&&◌, not, Bool, true, false, Option, Some, None, List, is_some, refl, sym, ap}
use Rattle.std.proofs.Common.{subst, if◌then◌else◌}
use Rattle.cf_protocol.specs.Datum.{Datum}
use Rattle.cf_protocol.specs.Settings.{NamespaceTable, entry_at, settings_of}
use Rattle.cf_model.specs.Streams.{StreamState}
use Rattle.cf_model.specs.Streams.{in_namespace}
use Rattle.cf_hub.specs.Hub.{Node}
use Rattle.cf_machine.specs.Config.{Config}
use Rattle.cf_machine.specs.Event.{Forget, Publish, SetSize, Trim}
use Rattle.cf_machine.specs.IntervalMachine.{allows, happens, size_of}
use Rattle.cf_machine.specs.PublicationList.{Broker, at_last_offset, can_open, forget, publish, set_size, trim, trim_at}
use Rattle.cf_machine.specs.World.{World, broker_with}
use Rattle.cf_world.specs.BrokerTie.{Publishes, ShowsBroker}
use Rattle.cf_world.specs.Tie.{AreTied}
use Rattle.cf_world.specs.declared.broker.WorldBroker.{WorldBroker as Code}
use Rattle.cf_world.specs.declared.broker.PublishOutcome.{PublishOutcome}
use Rattle.cf_world.specs.declared.broker.PublishOutcome.TheVariants as outcome
use Rattle.cf_world.specs.declared.clients.Peer.{Peer}
use Rattle.cf_world.proofs.BoardLists.{grown-refl}
use Rattle.cf_world.proofs.Going.{Stays, broker-goes, broker-may-go, broker-stays, grown-publish, publish-repeat}

three : (a b c : Bool) → a ≡ false → (a && (b && not c)) ≡ false
three a b c h = rw h refl

second : (a b c : Bool) → b ≡ false → (a && (b && not c)) ≡ false
second true b c h = rw h refl
second false b c h = refl

third : (a b c : Bool) → c ≡ true → (a && (b && not c)) ≡ false
third true true c h = rw h refl
third true false c h = refl
third false b c h = refl

module _ {cfg : Config} {table : NamespaceTable} {b : Code} {hubs : ℕ → Option Node} {peers : List ℕ → Option Peer}
    {m : World}
    (t : AreTied cfg table b hubs peers m) (new : Code) (stays : Stays) (c : List ℕ) where
  -- nothing happens
  idle : (key body : List ℕ) → allows cfg m (Publish c key body) ≡ false → ShowsBroker cfg.namespaces new m.broker
      → AreTied cfg table new hubs peers (happens cfg m (Publish c key body))
  idle key body none h = rw none (broker-stays t new h)

  module _ (key body : List ℕ) where
    abbrev d : Datum
    d = record { body = body; info = None }

    abbrev after : Broker
    after = publish (size_of cfg c m.broker) c key d m.broker

    pub publish-goes : (r : PublishOutcome) → Publishes cfg.namespaces m.broker c key
        (record { body = body; info = None }) new r → AreTied cfg table new hubs peers
        (happens cfg m (Publish c key body))
    publish-goes outcome.Accepted h =
        let yes' : allows cfg m (Publish c key body) ≡ true = rw (h.0, h.1, h.3) refl in
        rw yes' (broker-goes t new stays after (grown-publish (size_of cfg c m.broker) c key d m.broker) h.4)
    publish-goes outcome.Repeated h =
        broker-may-go t new stays (allows cfg m (Publish c key body)) after
        (grown-publish (size_of cfg c m.broker) c key d m.broker)
        (λ i. subst (λ (x : Broker). ShowsBroker cfg.namespaces new x)
        (sym (publish-repeat (size_of cfg c m.broker) c key d m.broker h.2)) h.3) (λ i. h.3)
    publish-goes outcome.AtLastOffset h =
        idle key body (third (is_some (settings_of cfg.namespaces c)) (can_open c m.broker) (at_last_offset c m.broker)
        h.2) h.3
    publish-goes outcome.NoEpoch h =
        idle key body (second (is_some (settings_of cfg.namespaces c)) (can_open c m.broker) (at_last_offset c m.broker)
        h.0) h.1
    publish-goes outcome.NotSetUp h =
        idle key body (three (is_some (settings_of cfg.namespaces c)) (can_open c m.broker) (at_last_offset c m.broker)
        (ap is_some h.0)) h.1

  trim-by : (k : ℕ) (o : Option StreamState) → m.broker.streams c ≡ o
      → ShowsBroker cfg.namespaces new (trim_at c k o m.broker)
      → AreTied cfg table new hubs peers (if is_some o then broker_with (trim_at c k o m.broker) m else m)
  trim-by k None e h = broker-stays t new h
  trim-by k (Some s) e h = broker-goes t new stays (trim_at c k (Some s) m.broker) (grown-refl m.broker.lists) h

  pub trim-goes : (k : ℕ) → ShowsBroker cfg.namespaces new (trim c k m.broker)
      → AreTied cfg table new hubs peers (happens cfg m (Trim c k))
  trim-goes k h = trim-by k (m.broker.streams c) refl h

  forget-by : (o : Option StreamState) → ShowsBroker cfg.namespaces new
      (if is_some o then forget c m.broker else m.broker)
      → AreTied cfg table new hubs peers (if is_some o then broker_with (forget c m.broker) m else m)
  forget-by None h = broker-stays t new h
  forget-by (Some s) h = broker-goes t new stays (forget c m.broker) (grown-refl m.broker.lists) h

  pub forget-goes : ShowsBroker cfg.namespaces new
      (if is_some (m.broker.streams c) then forget c m.broker else m.broker)
      → AreTied cfg table new hubs peers (happens cfg m (Forget c))
  forget-goes h = forget-by (m.broker.streams c) h

module _ {cfg : Config} {table : NamespaceTable} {b : Code} {hubs : ℕ → Option Node} {peers : List ℕ → Option Peer}
    {m : World}
    (t : AreTied cfg table b hubs peers m) (new : Code) (stays : Stays) (name : List ℕ) (n : ℕ) where
  abbrev sized : Broker
  sized = set_size (in_namespace name) n m.broker

  size-by : (set : Bool) → ShowsBroker cfg.namespaces new (if set then sized else m.broker)
      → AreTied cfg table new hubs peers (if set then broker_with sized m else m)
  size-by true h = broker-goes t new stays sized (grown-refl m.broker.lists) h
  size-by false h = broker-stays t new h

  pub size-goes : ShowsBroker cfg.namespaces new (if is_some (entry_at cfg.namespaces name) then sized else m.broker)
      → AreTied cfg table new hubs peers (happens cfg m (SetSize name n))
  size-goes h = size-by (is_some (entry_at cfg.namespaces name)) h
