-- The world goes on with the machine: what an event at the broker leaves.
use Rattle.std.proofs.Common.{◌≡◌, ℕ, ◌==◌, ◌&&◌, ◌||◌, not, is_some, Bool, true, false, Option, Some, None, List, []}
use Rattle.std.proofs.Common.{◌∷◌, length, nat_lt, refl, ap, ◌∙◌, if◌then◌else◌}
use Rattle.cf_protocol.specs.Datum.{Datum}
use Rattle.cf_protocol.specs.Names.{is_among}
use Rattle.cf_protocol.specs.Note.{Lists}
use Rattle.cf_protocol.specs.Settings.{NamespaceTable}
use Rattle.cf_model.specs.Keys.{repeat_of}
use Rattle.cf_model.specs.Streams.{StreamState, last_offset}
use Rattle.cf_hub.specs.AlikeMoves.{Notes, Texts}
use Rattle.cf_hub.specs.Hub.{Node}
use Rattle.cf_hub.specs.InNotes.{Grown, SaysSession}
use Rattle.cf_machine.specs.Config.{Config}
use Rattle.cf_machine.specs.PublicationList.{Broker, add_at, epoch_comes, is_repeat, open_at, opened, publish, repeats}
use Rattle.cf_machine.specs.PublicationList.{trim, trim_at}
use Rattle.cf_machine.specs.World.{World, broker_with}
use Rattle.cf_world.specs.BrokerTie.{ShowsBroker}
use Rattle.cf_world.specs.Tie.{AreTied}
use Rattle.cf_world.specs.declared.broker.WorldBroker.{WorldBroker as Code}
use Rattle.cf_world.specs.declared.clients.Peer.{Peer}
use Rattle.cf_world.proofs.BoardLists.{grown-list_with, grown-refl, grown-trans}
use Rattle.cf_machine.proofs.Names.{by_test}
use Rattle.cf_world.proofs.NodesTie.{lists_grow}

-- what is said stays when lists grow
abbrev pub Stays : Type 0
Stays = (old new : Lists) (a : Texts) (b : Notes) → Grown old new → SaysSession old a b → SaysSession new a b

grown-open_at : (c : List ℕ) (s : Option StreamState) (es : List (List ℕ)) (b : Broker)
    → Grown b.lists (open_at c s es b).lists
grown-open_at c (Some s) es b = grown-refl b.lists
grown-open_at c None [] b = grown-refl b.lists
grown-open_at c None (e ∷ es) b = grown-refl b.lists

pub grown-opened : (c : List ℕ) (b : Broker) → Grown b.lists (opened c b).lists
grown-opened c b = grown-open_at c (b.streams c) b.waiting b

grown-add : (size : ℕ) (c key : List ℕ) (d : Datum) (s : Option StreamState) (b : Broker)
    → Grown b.lists (add_at size c key d s b).lists
grown-add size c key d None b = grown-refl b.lists
grown-add size c key d (Some s) b =
    by_test (λ (m : Broker). Grown b.lists m.lists)
    (not (is_some (repeat_of key (b.keys c s.epoch))) && nat_lt s.top last_offset) _ b
    (λ t. grown-list_with b.lists c s.epoch d) (λ t. grown-refl b.lists)

pub grown-publish : (size : ℕ) (c key : List ℕ) (d : Datum) (b : Broker) → Grown b.lists (publish size c key d b).lists
grown-publish size c key d b =
    grown-trans b.lists (opened c b).lists (publish size c key d b).lists (grown-opened c b)
    (grown-add size c key d ((opened c b).streams c) (opened c b))

-- A REPEAT leaves all as it was
given-again : {A : Type 0} (repeated room : Bool) (x y : A) → repeated ≡ true
    → (if not repeated && room then x else y) ≡ y
given-again true room x y h = refl
given-again false room x y h = absurd (cc)

module _ (size : ℕ) (c key : List ℕ) (d : Datum) (b : Broker) where
  repeat-by : (o : Option StreamState) → b.streams c ≡ o → repeats b.keys c key o ≡ true → publish size c key d b ≡ b
  repeat-by None e h = absurd (cc)
  repeat-by (Some s) e h =
      ap (λ (m : Broker). add_at size c key d (m.streams c) m)
      (ap (λ (y : Option StreamState). open_at c y b.waiting b) e)
      ∙ (ap (λ (y : Option StreamState). add_at size c key d y b) e
      ∙ given-again (is_some (repeat_of key (b.keys c s.epoch))) (nat_lt s.top last_offset) _ b h)

  pub publish-repeat : is_repeat c key b ≡ true → publish size c key d b ≡ b
  publish-repeat h = repeat-by (b.streams c) refl h

pub grown-trim : (c : List ℕ) (k : ℕ) (b : Broker) → Grown b.lists (trim c k b).lists
grown-trim c k b = trim_by (b.streams c)
  where
    trim_by : (o : Option StreamState) → Grown b.lists (trim_at c k o b).lists
    trim_by None = grown-refl b.lists
    trim_by (Some s) = grown-refl b.lists

pub grown-epoch : (e : List ℕ) (b : Broker) → Grown b.lists (epoch_comes e b).lists
grown-epoch e b =
    by_test (λ (m : Broker). Grown b.lists m.lists) ((length e == 0) || is_among e b.came) b _ (λ t. grown-refl b.lists)
    (λ t. grown-refl b.lists)

module _ {cfg : Config} {table : NamespaceTable} {b : Code} {hubs : ℕ → Option Node} {peers : List ℕ → Option Peer}
    {m : World}
    (t : AreTied cfg table b hubs peers m) (new : Code) where
  -- the broker goes on, and all else stays
  pub broker-goes : Stays → (s : Broker) → Grown m.broker.lists s.lists → ShowsBroker cfg.namespaces new s
      → AreTied cfg table new hubs peers (broker_with s m)
  broker-goes stays s g h = record {
    namespaces = t.namespaces;
    broker = h;
    nodes = lists_grow t.nodes stays s g;
    clients = t.clients;
  }

  pub broker-stays : ShowsBroker cfg.namespaces new m.broker → AreTied cfg table new hubs peers m
  broker-stays h = record { namespaces = t.namespaces; broker = h; nodes = t.nodes; clients = t.clients }

  -- it goes on where the event is carried out
  pub broker-may-go : Stays → (test : Bool) (s : Broker) → Grown m.broker.lists s.lists
      → (test ≡ true → ShowsBroker cfg.namespaces new s) → (test ≡ false → ShowsBroker cfg.namespaces new m.broker)
      → AreTied cfg table new hubs peers (if test then broker_with s m else m)
  broker-may-go stays true s g yes' no' = broker-goes stays s g (yes' refl)
  broker-may-go stays false s g yes' no' = broker-stays (no' refl)
