-- The hub of a node beside the connections of the running server at that node. (This project's own profile.)
use Rattle.std.specs.Prelude.{◌≡◌, ◌<◌, ⊤, ℕ, Bool, true, Option, Some, None, List, [], ◌∷◌, ◌++◌}
use Rattle.std.specs.List.{AllByRecursion}
use Rattle.cf_protocol.specs.Note.{Lists}
use Rattle.cf_hub.specs.AlikeMoves.{Notes, Texts}
use Rattle.cf_hub.specs.Hub.{Node, attached_at}
use Rattle.cf_hub.specs.Session.{Attached}
use Rattle.cf_running.specs.Server.{Closes, Connection, Pings, Section, Server, Site, change, lists_of, ran}
use Rattle.cf_hub_moves.specs.HubAsides.{SaysAmong}

-- what a session of texts says among such asides are the notes of the other
abbrev pub Says : (List ℕ → Bool) → Lists → Texts → Notes → Type 0
Says is_aside lists a b = SaysAmong (λ t. is_aside t ≡ true) lists a b

-- a session of the hub, and the connection that has it, which is attached at the node
pub record IsConnected (is_aside : List ℕ → Bool) (site : Site) (s : Server) (n k : ℕ)
    (a : Attached) : Type 0 where
  pub known : k < s.count
  pub here : (s.connections k).node ≡ n
  pub attached : (s.connections k).attached ≡ true
  pub says : Says is_aside (lists_of site s) a.state (s.connections k).session

abbrev pub ConnectedBy : (List ℕ → Bool) → Site → Server → ℕ → Option Attached → Option ℕ → Type 0
ConnectedBy is_aside site s n None None = ⊤
ConnectedBy is_aside site s n None (Some k) = ⊥
ConnectedBy is_aside site s n (Some a) None = ⊥
ConnectedBy is_aside site s n (Some a) (Some k) = IsConnected is_aside site s n k a

-- Each session of the hub, by its number there, has a connection, by its number in the server; no two have one; and
-- each connection that is attached at the node has a session.
pub record IsHubOf (is_aside : List ℕ → Bool) (site : Site) (s : Server) (n : ℕ) (numbers : ℕ → Option ℕ)
    (hub : Node) : Type 0 where
  pub each : (j : ℕ) → ConnectedBy is_aside site s n (attached_at hub j) (numbers j)
  pub apart : (i j k : ℕ) → numbers i ≡ Some k → numbers j ≡ Some k → i ≡ j
  pub all : (k : ℕ) → (s.connections k).node ≡ n → (s.connections k).attached ≡ true
      → (j : ℕ) × (numbers j ≡ Some k)

-- ---- the sections of a call that serves all sessions

abbrev pub IsClose : Section → Type 0
IsClose (Closes k code) = ⊤
IsClose other = ⊥

abbrev pub IsCloseOrPing : Section → Type 0
IsCloseOrPing (Closes k code) = ⊤
IsCloseOrPing (Pings k) = ⊤
IsCloseOrPing other = ⊥

-- after some closes, and then this section, the hub is the node's
pub record ClosesAnd (is_aside : List ℕ → Bool) (site : Site) (s : Server) (n : ℕ) (numbers : ℕ → Option ℕ)
    (section : Section) (hub : Node) : Type 0 where
  pub closes : List Section
  pub are : AllByRecursion IsClose closes
  pub is : IsHubOf is_aside site (ran site s (closes ++ section ∷ [])) n numbers hub

-- and after some closes and pings
pub record ClosesAndPings (is_aside : List ℕ → Bool) (site : Site) (s : Server) (n : ℕ)
    (numbers : ℕ → Option ℕ)
    (hub : Node) : Type 0 where
  pub sections : List Section
  pub are : AllByRecursion IsCloseOrPing sections
  pub is : IsHubOf is_aside site (ran site s sections) n numbers hub

-- where a connection is stays, and so its session, if it is at this node
pub record IsUntouched (n : ℕ) (old new : Connection) : Type 0 where
  pub node : new.node ≡ old.node
  pub attached : new.attached ≡ old.attached
  pub session : old.node ≡ n → new.session ≡ old.session

-- ---- the sections of a call for one session

-- what a section makes of a connection is this move of its session, while it is attached; where it is stays
pub record Moves (g : Notes → Notes) (t : Connection → Connection) : Type 0 where
  pub node : (y : Connection) → (t y).node ≡ y.node
  pub attached : (y : Connection) → (t y).attached ≡ y.attached
  pub session : (y : Connection) → y.attached ≡ true → (t y).session ≡ g y.session

-- connection k makes it, perhaps after it was closed, and the hub is the node's
pub record MovesBehindClose (is_aside : List ℕ → Bool) (site : Site) (s : Server) (n k : ℕ)
    (numbers : ℕ → Option ℕ)
    (t : Connection → Connection) (hub : Node) : Type 0 where
  pub closes : List Section
  pub are : AllByRecursion IsClose closes
  pub is : IsHubOf is_aside site (change k t (ran site s closes)) n numbers hub
