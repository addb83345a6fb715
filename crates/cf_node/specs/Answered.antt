-- What a node's calls answer a session: that of the channel's shard, at some point of a log. (This project's own
-- profile.)
use Rattle.std.specs.Prelude.{◌≡◌, ℕ, List, length, Option, Some, None}
use Rattle.cf_protocol.specs.Datum.{Who}
use Rattle.cf_protocol.specs.LogEntry.{Entry}
use Rattle.cf_protocol.specs.Position.{Position}
use Rattle.cf_protocol.specs.Settings.{NamespaceTable}
use Rattle.cf_session.specs.Calls.{Answer, Refused, Done, Found, Attached, Call, Attach, Begin, Finish, Leave, Read}
use Rattle.cf_session.specs.Calls.{Publish, History, Presence, Stats}
use Rattle.cf_session.specs.SessionMachine.{Act, Calls, Says, PassesPong, Closes}
use Rattle.cf_shard.specs.LogAnswer.{IsPosition, IsPublished}
use Rattle.cf_stream.specs.declared.answer.Published.{Published}

-- what a publish of this body by this client, under this key, is answered in this channel
abbrev pub WasPublished : NamespaceTable → (channel key body : List ℕ) → Who → Published → Type 0
WasPublished t c key body who p =
    (seen : List Entry) × (after : List Entry)
    × IsPublished t seen after c key (record { body = body; info = Some who }) p

-- where the channel's stream stands after a log, and how long that is
abbrev pub StoodAt : NamespaceTable → (channel : List ℕ) → Option Position × ℕ → Type 0
StoodAt t c at = (log : List Entry) × IsPosition t log c at.0 × (at.1 ≡ length log)

-- a publish that is carried out is one of that channel, key and body
abbrev pub IsAnswer : NamespaceTable → Call → Answer → Type 0
IsAnswer t (Attach user) a = Unit {0}
IsAnswer t (Begin c id since) a = Unit {0}
IsAnswer t (Finish c) a = Unit {0}
IsAnswer t (Leave c) a = Unit {0}
IsAnswer t (Read c since) a = Unit {0}
IsAnswer t (Publish c key body who) (Refused code) = Unit {0}
IsAnswer t (Publish c key body who) Done = Unit {0}
IsAnswer t (Publish c key body who) (Attached client) = Unit {0}
IsAnswer t (Publish c key body who) (Found o) = (p : Published) × WasPublished t c key body who p
IsAnswer t (History c id limit since) a = Unit {0}
IsAnswer t (Presence c) a = Unit {0}
IsAnswer t (Stats c) a = Unit {0}

-- an act is done, with this answer
abbrev pub IsDone : NamespaceTable → Act → Option Answer → Type 0
IsDone t (Calls call) None = Unit {0}
IsDone t (Calls call) (Some a) = IsAnswer t call a
IsDone t (Says text) a = Unit {0}
IsDone t PassesPong a = Unit {0}
IsDone t (Closes code) a = Unit {0}
