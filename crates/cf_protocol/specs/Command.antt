-- The command that a value is. (Centrifugo's client protocol, JSON form: `Command`; the ranges are this project's own
-- profile.)
use Rattle.std.specs.Prelude.{ℕ, ◌==◌, nat_le, List, [], ◌∷◌, Bool, true, false, ◌&&◌, if◌then◌else◌, Option, Some}
use Rattle.std.specs.Prelude.{None}
use Prim.Native.String.{String as Name}
use Rattle.cf_json.specs.Grammar.{Tree, depth}
use Rattle.cf_json.specs.Compact.{compact_text}
use Rattle.cf_json.specs.Members.{Fields}
use Rattle.cf_protocol.specs.Request.{Data, Absent, TooDeep, Body, Request, Pong, Connect, Subscribe, Unsubscribe}
use Rattle.cf_protocol.specs.Request.{Publish, Presence, PresenceStats, History, Ping, Send, Other, Command}
use Rattle.cf_protocol.specs.Fields.{◌>>=◌, member, text, flag, whole, limit, position, object_as, object_or_none}
use Rattle.cf_protocol.specs.Fields.{each_of, the_only, max_u32}

-- ---- requests by their members

-- how deep the data of a publish may nest
abbrev pub max_data_depth : ℕ
max_data_depth = 60

-- the value of `data` may be `null`
abbrev pub data_of : Option Tree → Data
data_of None = Absent
data_of (Some t) = if nat_le (depth t) max_data_depth then Body (compact_text t) else TooDeep

abbrev pub connect : Fields → Option Request
connect r = text r "token" >>= λ token. Some (Connect token)

-- the position counts only if `recover` is true
abbrev pub subscribe : Fields → Option Request
subscribe r =
    flag r "recover" >>= λ recover. position r >>= λ from. text r "channel" >>= λ channel. Some
    (Subscribe channel (if recover then Some from else None))

abbrev pub unsubscribe : Fields → Option Request
unsubscribe r = text r "channel" >>= λ channel. Some (Unsubscribe channel)

abbrev pub publish : Fields → Option Request
publish r =
    text r "channel" >>= λ channel. text r "key" >>= λ key. Some (Publish channel key (data_of (member r "data")))

abbrev pub presence : Fields → Option Request
presence r = text r "channel" >>= λ channel. Some (Presence channel)

abbrev pub presence_stats : Fields → Option Request
presence_stats r = text r "channel" >>= λ channel. Some (PresenceStats channel)

abbrev pub history : Fields → Option Request
history r =
    limit r "limit" >>= λ most. object_or_none position r "since" >>= λ since. flag r "reverse" >>= λ reverse. text r
    "channel" >>= λ channel. Some (History channel most since reverse)

-- whatever members it has, or whatever value it is
abbrev pub always : {A : Type 0} → Request → A → Option Request
always request x = Some request

-- ---- commands

-- the keys of which a command has exactly one, and what their values are read as
abbrev pub requests : List (Name × (Tree → Option Request))
requests =
    ("connect", object_as connect) ∷ ("subscribe", object_as subscribe) ∷ ("unsubscribe", object_as unsubscribe)
    ∷ ("publish", object_as publish)
    ∷ ("presence", object_as presence) ∷ ("presence_stats", object_as presence_stats)
    ∷ ("history", object_as history)
    ∷ ("ping", always Ping) ∷ ("send", always Send)
    ∷ ("rpc", always Other) ∷ ("refresh", always Other) ∷ ("sub_refresh", always Other) ∷ []

abbrev pub needs_id : Request → Bool
needs_id Send = false
needs_id request = true

abbrev pub request_of : Fields → Option Request
request_of r = the_only (each_of requests r)

abbrev pub named_command : Fields → Option Command
named_command r =
    whole max_u32 r "id" >>= λ id. request_of r >>= λ request. if needs_id request && (id == 0) then None
    else Some (record { id = id; request = request })

-- An object without members is the pong.
abbrev pub command_from : Fields → Option Command
command_from [] = Some (record { id = 0; request = Pong })
command_from (f ∷ fs) = named_command (f ∷ fs)

abbrev pub command_of : Tree → Option Command
command_of = object_as command_from
