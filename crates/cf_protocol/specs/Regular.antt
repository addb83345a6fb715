-- Commands and replies that their texts say again: read, the text of each gives it back.
-- The numbers are within what the protocol carries, and each body is the compact text of a value. `P` is what is said
-- of the bodies.
use Rattle.std.specs.Prelude.{◌≡◌, ◌≤◌, ℕ, IsTrue, List, [], length, Option, Some, None, ⊤}
use Rattle.std.specs.List.{AllByRecursion}
use Rattle.cf_json.specs.Grammar.{Tree, Value, depth}
use Rattle.cf_json.specs.Compact.{compact_text}
use Rattle.cf_protocol.specs.Epoch.{IsEpoch}
use Rattle.cf_protocol.specs.Position.{Position}
use Rattle.cf_protocol.specs.Datum.{Who, Placed}
use Rattle.cf_protocol.specs.Request as request
use Rattle.cf_protocol.specs.Request.{Data, Absent, TooDeep, Body, Request, Command}
use Rattle.cf_protocol.specs.Outgoing.{Outcome, Connected, Subscribed, Unsubscribed, Published, Present, Counted}
use Rattle.cf_protocol.specs.Outgoing.{Past, Pinged, Failed, Pushed, Publication, Unsubscribe, Outgoing, Ping, Answer}
use Rattle.cf_protocol.specs.Outgoing.{Push}
use Rattle.cf_protocol.specs.Fields.{is_limit, max_u32, max_u64}
use Rattle.cf_protocol.specs.Command.{max_data_depth}

-- ---- parts

pub record IsBodyOf (t : Tree) (b : List ℕ) : Type 0 where
  pub value : Value t b []
  pub compact : compact_text t ≡ b
  pub shallow : depth t ≤ max_data_depth

-- the compact text of a value that nests no deeper than data may
abbrev pub IsBody : List ℕ → Type 0
IsBody b = (t : Tree) × IsBodyOf t b

abbrev pub IsData : (List ℕ → Type 0) → Data → Type 0
IsData P Absent = ⊤
IsData P TooDeep = ⊥
IsData P (Body b) = P b

pub record IsPosition (p : Position) : Type 0 where
  pub epoch : IsEpoch p.epoch
  pub offset : p.offset ≤ max_u64

abbrev pub IsFrom : Option Position → Type 0
IsFrom None = ⊤
IsFrom (Some p) = IsPosition p

-- not the empty epoch at 0, whose object would have no members
abbrev pub IsSince : Option Position → Type 0
IsSince None = ⊤
IsSince (Some p) = IsPosition p × (p.epoch ≡ [] → 1 ≤ p.offset)

-- one that a client published names the client
abbrev pub IsInfo : Option Who → Type 0
IsInfo None = ⊤
IsInfo (Some w) = 1 ≤ length w.client

pub record IsPlaced (P : List ℕ → Type 0) (p : Placed) : Type 0 where
  pub body : P p.datum.body
  pub info : IsInfo p.datum.info
  pub offset : p.offset ≤ max_u64

abbrev pub ArePlaced : (List ℕ → Type 0) → List Placed → Type 0
ArePlaced P = AllByRecursion (IsPlaced P)

abbrev pub IsCode : ℕ → Type 0
IsCode n = (1 ≤ n) × (n ≤ max_u32)

-- ---- commands

-- the pong has no id, and a send may have one
abbrev pub IsRegularRequest : (List ℕ → Type 0) → ℕ → Request → Type 0
IsRegularRequest P id request.Pong = id ≡ 0
IsRegularRequest P id (request.Connect token) = IsCode id
IsRegularRequest P id (request.Subscribe channel since) = IsCode id × IsFrom since
IsRegularRequest P id (request.Unsubscribe channel) = IsCode id
IsRegularRequest P id (request.Publish channel key body) = IsCode id × IsData P body
IsRegularRequest P id (request.Presence channel) = IsCode id
IsRegularRequest P id (request.PresenceStats channel) = IsCode id
IsRegularRequest P id (request.History channel limit since reverse) =
    IsCode id × IsTrue (is_limit limit) × IsSince since
IsRegularRequest P id request.Ping = IsCode id
IsRegularRequest P id request.Send = id ≤ max_u32
IsRegularRequest P id request.Other = IsCode id

abbrev pub IsRegularCommand : Command → Type 0
IsRegularCommand c = IsRegularRequest IsBody c.id c.request

-- ---- replies and pushes

abbrev pub IsRegularOutcome : (List ℕ → Type 0) → Outcome → Type 0
IsRegularOutcome P (Connected client) = ⊤
IsRegularOutcome P (Subscribed p ps recovered was) = IsPosition p × ArePlaced P ps
IsRegularOutcome P Unsubscribed = ⊤
IsRegularOutcome P Published = ⊤
IsRegularOutcome P (Present users) = ⊤
IsRegularOutcome P (Counted clients users) = (clients ≤ max_u64) × (users ≤ max_u64)
IsRegularOutcome P (Past p ps) = IsPosition p × ArePlaced P ps
IsRegularOutcome P Pinged = ⊤
IsRegularOutcome P (Failed code) = IsCode code

abbrev pub IsRegularPush : (List ℕ → Type 0) → Pushed → Type 0
IsRegularPush P (Publication p) = IsPlaced P p
IsRegularPush P (Unsubscribe code) = IsCode code

abbrev pub IsRegularOutgoing : (List ℕ → Type 0) → Outgoing → Type 0
IsRegularOutgoing P Ping = ⊤
IsRegularOutgoing P (Answer id result) = IsCode id × IsRegularOutcome P result
IsRegularOutgoing P (Push channel push) = IsRegularPush P push

abbrev pub IsRegular : Outgoing → Type 0
IsRegular = IsRegularOutgoing IsBody
