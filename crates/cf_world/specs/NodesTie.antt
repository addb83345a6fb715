-- The nodes, and where clients sit at them, beside what the machine has for them.
use Rattle.std.specs.Prelude.{◌≡◌, ◌≤◌, ℕ, nat_lt, true, false}
use Rattle.std.specs.Prelude.{Option, Some, None, is_some, option_map, List, [], length}
use Rattle.cf_protocol.specs.Checks.{checks, first_failed}
use Rattle.cf_protocol.specs.Names.{is_among}
use Rattle.cf_protocol.specs.Note.{Lists}
use Rattle.cf_protocol.specs.Request.{Subscribe}
use Rattle.cf_protocol.specs.Settings.{NamespaceTable}
use Rattle.cf_hub.specs.Hub.{Node, attached_at}
use Rattle.cf_model.specs.Streams.{largest}
use Rattle.cf_hub.specs.InNotes.{SaysAt}
use Rattle.cf_hub.specs.Session.{Attached}
use Rattle.cf_model.specs.Sessions.{is_off, opens}
use Rattle.cf_machine.specs.ClientLink.{ClientLink}
use Rattle.cf_machine.specs.Config.{Config}
use Rattle.cf_machine.specs.FreshEpochs.{AreDistinct}
use Rattle.cf_machine.specs.Session.{Session}
use Rattle.cf_machine.specs.World.{World}
use Rattle.cf_world.specs.declared.clients.SessionAddress.{SessionAddress}

-- the session of an address, if there is one
abbrev pub session_in : Option Node → ℕ → Option Attached
session_in None k = None
session_in (Some h) k = attached_at h k

abbrev pub session_at : (ℕ → Option Node) → SessionAddress → Option Attached
session_at hubs s = session_in (hubs s.node) s.session

abbrev pub name_of : Option Attached → Option (List ℕ)
name_of o = option_map (λ a. a.badge.client) o

-- a session that is closed has no subscription
abbrev pub IsShutOff : Session → Type 0
IsShutOff b = b.closed ≡ true → (c : List ℕ) → is_off (b.subs c) ≡ true

-- a subscribe to the channel passes its checks
abbrev pub MayAsk : NamespaceTable → List ℕ → Type 0
MayAsk table c = first_failed (checks table (Subscribe c None)) ≡ None

-- a client that isn't connected has nothing at a node, and nothing is on its way to or from it
pub record IsAway (l : ClientLink) : Type 0 where
  pub node : l.node ≡ None
  pub session : l.session ≡ opens
  pub channels : l.channels ≡ []
  pub way : l.way ≡ []
  pub up : l.up ≡ []

-- a client that is connected has the session of its address, and an id there; its channels pass the checks, and are
-- listed once
pub record IsAtAddress (table : NamespaceTable) (lists : Lists) (o : Option Attached) (node : ℕ)
    (l : ClientLink) : Type 0 where
  pub at : l.node ≡ Some node
  pub name : name_of o ≡ Some l.name
  pub named : 1 ≤ length l.name
  pub says : SaysAt lists o l.session
  pub way : l.way ≡ []
  pub up : l.up ≡ []
  pub once : AreDistinct l.channels
  pub listed : (c : List ℕ) → is_off (l.session.subs c) ≡ false → is_among c l.channels ≡ true
  pub shut : IsShutOff l.session
  pub served : (c : List ℕ) → is_off (l.session.subs c) ≡ false → MayAsk table c

abbrev pub ShowsLink : NamespaceTable → Lists → (ℕ → Option Node) → Option SessionAddress → ClientLink → Type 0
ShowsLink table lists hubs None l = IsAway l
ShowsLink table lists hubs (Some s) l = IsAtAddress table lists (session_at hubs s) s.node l

-- node n, which never met a refused request for memory
pub record IsNode (n : ℕ) (h : Node) (m : World) : Type 0 where
  pub node : h.node ≡ n
  pub boot : h.boot ≡ m.boots n
  pub used : h.used ≡ m.counters n
  pub few : h.used ≤ largest
  pub refused : h.refused ≡ 0

pub record ShowsNodes (cfg : Config) (hubs : ℕ → Option Node) (addresses : List ℕ → Option SessionAddress)
    (m : World) : Type 0 where
  pub nodes : (n : ℕ) → is_some (hubs n) ≡ nat_lt n cfg.nodes
  pub hub : (n : ℕ) (h : Node) → hubs n ≡ Some h → IsNode n h m
  pub links : (x : List ℕ) → ShowsLink cfg.namespaces m.broker.lists hubs (addresses x) (m.links x)
  -- each session is one client's, and each client is known
  pub apart : (x y : List ℕ) (s : SessionAddress) → addresses x ≡ Some s → addresses y ≡ Some s → x ≡ y
  pub onto : (n k : ℕ) → is_some (session_in (hubs n) k) ≡ true
      → (x : List ℕ) × (addresses x ≡ Some (record { node = n; session = k }))
  pub among : (x : List ℕ) (s : SessionAddress) → addresses x ≡ Some s → is_among x m.clients ≡ true
  pub distinct : AreDistinct m.clients
