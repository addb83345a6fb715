-- The reply or push that a value is. (Centrifugo's client protocol, JSON form: `Reply`, its results, and `Push`.)
use Rattle.std.specs.Prelude.{ℕ, List, [], ◌∷◌, map, filter, Bool, is_some, Option, Some, None, option_map}
use Rattle.std.specs.FinMap.{from_entries}
use Prim.Native.String.{String as Name}
use Rattle.cf_json.specs.Grammar.{Tree}
use Rattle.cf_json.specs.Compact.{compact_text}
use Rattle.cf_json.specs.Members.{Fields}
use Rattle.cf_protocol.specs.Datum.{Who, Placed}
use Rattle.cf_protocol.specs.Outgoing.{Outcome, Connected, Subscribed, Unsubscribed, Published, Present, Counted}
use Rattle.cf_protocol.specs.Outgoing.{Past, Pinged, Failed, Pushed, Publication, Unsubscribe, Outgoing, Ping, Answer}
use Rattle.cf_protocol.specs.Outgoing.{Push}
use Rattle.cf_protocol.specs.Fields.{◌>>=◌, read_all, read_or, as_object, object_as, as_whole, unless_null, member}
use Rattle.cf_protocol.specs.Fields.{present, text, flag, whole, position, objects, object_or_none, each_of, the_only}
use Rattle.cf_protocol.specs.Fields.{max_u32, max_u64}

-- ---- results by their members

abbrev pub info : Fields → Option Who
info r = text r "client" >>= λ client. text r "user" >>= λ user. Some (record { user = user; client = client })

-- the value of `data` may be `null`, but it stands
abbrev pub publication : Fields → Option Placed
publication r =
    member r "data" >>= λ t. whole max_u64 r "offset" >>= λ offset. object_or_none info r "info" >>= λ who. Some
    (record { offset = offset; datum = record { body = compact_text t; info = who } })

abbrev pub connected : Fields → Option Outcome
connected r = text r "client" >>= λ client. Some (Connected client)

abbrev pub subscribed : Fields → Option Outcome
subscribed r =
    position r >>= λ at. flag r "recovered" >>= λ recovered. flag r "was_recovering" >>= λ was. objects publication r
    "publications" >>= λ publications. Some (Subscribed at publications recovered was)

-- the user of a client, whose id is the key
abbrev pub user_at : List ℕ × Tree → Option (List ℕ × List ℕ)
user_at f = as_object f.1 >>= λ r. info r >>= λ who. Some (f.0, who.user)

-- a client whose info is `null` counts as absent
abbrev pub is_there : List ℕ × Tree → Bool
is_there f = is_some (unless_null f.1)

abbrev pub users_of : Fields → Option (List (List ℕ × List ℕ))
users_of r = read_all user_at (filter is_there r)

abbrev pub present_users : Fields → Option Outcome
present_users r =
    read_or [] (object_as users_of) (present r "presence") >>= λ users. Some (Present (from_entries users))

abbrev pub counted : Fields → Option Outcome
counted r =
    whole max_u64 r "num_clients" >>= λ clients. whole max_u64 r "num_users" >>= λ users. Some (Counted clients users)

abbrev pub past : Fields → Option Outcome
past r = position r >>= λ at. objects publication r "publications" >>= λ publications. Some (Past at publications)

-- a code is at least 1
abbrev pub code_in : Fields → Option ℕ
code_in r = present r "code" >>= as_whole 1 max_u32

abbrev pub without_members : Outcome → Fields → Option Outcome
without_members result r = Some result

-- the keys of which a reply has exactly one, and what their values are read as
abbrev pub results : List (Name × (Tree → Option Outcome))
results =
    ("error", object_as (λ r. option_map Failed (code_in r))) ∷ ("connect", object_as connected)
    ∷ ("subscribe", object_as subscribed)
    ∷ ("unsubscribe", object_as (without_members Unsubscribed)) ∷ ("publish", object_as (without_members Published))
    ∷ ("presence", object_as present_users)
    ∷ ("presence_stats", object_as counted) ∷ ("history", object_as past)
    ∷ ("ping", object_as (without_members Pinged)) ∷ []

-- ---- replies and pushes

-- A push of another kind is passed over.
abbrev pub pushed : Option Placed → Option ℕ → Option (List Pushed)
pushed None None = Some []
pushed (Some p) None = Some (Publication p ∷ [])
pushed None (Some code) = Some (Unsubscribe code ∷ [])
pushed (Some p) (Some code) = None

-- what is pushed, whatever the channel
abbrev pub pushes_of : Fields → Option (List Pushed)
pushes_of r =
    object_or_none code_in r "unsubscribe" >>= λ end. object_or_none publication r "pub" >>= λ of_pub. pushed of_pub end

abbrev pub push_from : Fields → Option (List Outgoing)
push_from r = text r "channel" >>= λ channel. option_map (map (Push channel)) (pushes_of r)

abbrev pub result_of : Fields → Option Outcome
result_of r = the_only (each_of results r)

abbrev pub answer_from : Fields → Option (List Outgoing)
answer_from r =
    present r "id" >>= λ t. as_whole 1 max_u32 t >>= λ id. result_of r >>= λ result. Some (Answer id result ∷ [])

abbrev pub push_or : Option (List Outgoing) → Option Tree → Option (List Outgoing)
push_or answer None = answer
push_or answer (Some t) = object_as push_from t

-- An object without members is the ping. None: unreadable. A push that is passed over gives nothing.
abbrev pub outgoing_from : Fields → Option (List Outgoing)
outgoing_from [] = Some (Ping ∷ [])
outgoing_from (f ∷ fs) = push_or (answer_from (f ∷ fs)) (present (f ∷ fs) "push")

abbrev pub outgoing_in : Tree → Option (List Outgoing)
outgoing_in = object_as outgoing_from
