-- The one text of a command, and of what goes out. (Centrifugo's client protocol, JSON form.)
-- It is compact, its members stand in byte order of their keys, and those that say nothing are left out.
-- A body stands in it as it is, since a body is a compact text: here it is a leaf of the tree, and `body` is the leaf
-- or tree of each.
use Rattle.std.specs.Prelude.{ℕ, ◌==◌, ℤ, pos, negsuc, List, [], ◌∷◌, ◌++◌, map, Bool, true, if◌then◌else◌, Option}
use Rattle.std.specs.Prelude.{Some, None, codes, decimal}
use Rattle.std.specs.Fmt.{signed_decimal}
use Rattle.std.specs.FinMap.{entries}
use Prim.Native.String.{String as Name}
use Rattle.cf_json.specs.Quoting.{escaped}
use Rattle.cf_json.specs.Grammar.{Tree, boolean, number, text as string, array, object, Parts, no_parts, part}
use Rattle.cf_json.specs.Compact.{compact_text}
use Rattle.cf_protocol.specs.Position.{Position}
use Rattle.cf_protocol.specs.Datum.{Who, Placed}
use Rattle.cf_protocol.specs.Request as request
use Rattle.cf_protocol.specs.Request.{Data, Absent, TooDeep, Body, Request, Command}
use Rattle.cf_protocol.specs.Outgoing.{Users, Outcome, Connected, Subscribed, Unsubscribed, Published, Present}
use Rattle.cf_protocol.specs.Outgoing.{Counted, Past, Pinged, Failed, Pushed, Publication, Unsubscribe, Outgoing}
use Rattle.cf_protocol.specs.Outgoing.{Ping, Answer, Push}
use Rattle.cf_protocol.specs.Note.{Note, Lists, outgoing_of, insufficient}

-- ---- members

-- a key as it is spelled, and its value if the member stands
abbrev pub Member : Type 0
Member = List ℕ × Option Tree

infix 20 ◌⇒◌
abbrev pub ◌⇒◌ : Name → Option Tree → Member
k ⇒ t = (codes k, t)

abbrev pub part_or_none : List ℕ → Option Tree → Parts → Parts
part_or_none k None ps = ps
part_or_none k (Some t) ps = part k t ps

abbrev pub parts_of : List Member → Parts
parts_of [] = no_parts
parts_of (m ∷ ms) = part_or_none m.0 m.1 (parts_of ms)

abbrev pub object_of : List Member → Tree
object_of ms = object (parts_of ms)

abbrev pub items_of : List Tree → Parts
items_of [] = no_parts
items_of (t ∷ ts) = part [] t (items_of ts)

-- what is left out if it is 0, false, an empty text, an empty list or an empty object
abbrev pub whole : ℕ → Option Tree
whole n = if n == 0 then None else Some (number (decimal n))

abbrev pub signed : ℤ → Option Tree
signed (pos n) = whole n
signed (negsuc n) = Some (number (signed_decimal (negsuc n)))

abbrev pub flag : Bool → Option Tree
flag b = if b then Some (boolean true) else None

abbrev pub text : List ℕ → Option Tree
text [] = None
text (x ∷ xs) = Some (string (escaped (x ∷ xs)))

abbrev pub list : List Tree → Option Tree
list [] = None
list (t ∷ ts) = Some (array (items_of (t ∷ ts)))

abbrev pub unless_empty : Parts → Option Tree
unless_empty no_parts = None
unless_empty (part k t ps) = Some (object (part k t ps))

abbrev pub inner : List Member → Option Tree
inner ms = unless_empty (parts_of ms)

-- ---- what several texts have

abbrev pub position : Position → List Member
position p = ("epoch" ⇒ text p.epoch) ∷ ("offset" ⇒ whole p.offset) ∷ []

abbrev pub info : Who → List Member
info w = ("client" ⇒ text w.client) ∷ ("user" ⇒ text w.user) ∷ []

abbrev pub info_or_none : Option Who → Option Tree
info_or_none None = None
info_or_none (Some w) = inner (info w)

abbrev pub publication : (List ℕ → Tree) → Placed → Tree
publication body p =
    object_of
    (("data" ⇒ Some (body p.datum.body)) ∷ ("info" ⇒ info_or_none p.datum.info) ∷ ("offset" ⇒ whole p.offset)
    ∷ [])

abbrev pub publications : (List ℕ → Tree) → List Placed → Option Tree
publications body ps = list (map (publication body) ps)

-- ---- commands

abbrev pub from : Option Position → List Member
from None = []
from (Some p) = position p ++ ("recover" ⇒ flag true) ∷ []

abbrev pub since : Option Position → Option Tree
since None = None
since (Some p) = inner (position p)

abbrev pub body_of : (List ℕ → Tree) → Data → Option Tree
body_of body Absent = None
body_of body TooDeep = None
body_of body (Body b) = Some (body b)

abbrev pub channel_alone : List ℕ → Tree
channel_alone channel = object_of (("channel" ⇒ text channel) ∷ [])

-- the request object stands also if it is empty
abbrev pub command : (List ℕ → Tree) → ℕ → Request → List Member
command body id request.Pong = []
command body id (request.Connect token) =
    ("connect" ⇒ Some (object_of (("token" ⇒ text token) ∷ []))) ∷ ("id" ⇒ whole id) ∷ []
command body id (request.Subscribe channel p) =
    ("id" ⇒ whole id) ∷ ("subscribe" ⇒ Some (object_of (("channel" ⇒ text channel) ∷ from p))) ∷ []
command body id (request.Unsubscribe channel) =
    ("id" ⇒ whole id) ∷ ("unsubscribe" ⇒ Some (channel_alone channel)) ∷ []
command body id (request.Publish channel key d) =
    ("id" ⇒ whole id)
    ∷ ("publish" ⇒ Some
    (object_of (("channel" ⇒ text channel) ∷ ("data" ⇒ body_of body d) ∷ ("key" ⇒ text key) ∷ []))) ∷ []
command body id (request.Presence channel) =
    ("id" ⇒ whole id) ∷ ("presence" ⇒ Some (channel_alone channel)) ∷ []
command body id (request.PresenceStats channel) =
    ("id" ⇒ whole id) ∷ ("presence_stats" ⇒ Some (channel_alone channel)) ∷ []
command body id (request.History channel limit p reverse) =
    ("history" ⇒ Some
    (object_of (("channel" ⇒ text channel) ∷ ("limit" ⇒ signed limit) ∷ ("reverse" ⇒ flag reverse)
    ∷ ("since" ⇒ since p) ∷ []))) ∷ ("id" ⇒ whole id) ∷ []
command body id request.Ping = ("id" ⇒ whole id) ∷ ("ping" ⇒ Some (object_of [])) ∷ []
command body id request.Send = ("id" ⇒ whole id) ∷ ("send" ⇒ Some (object_of [])) ∷ []
command body id request.Other = ("id" ⇒ whole id) ∷ ("rpc" ⇒ Some (object_of [])) ∷ []

-- ---- replies and pushes

-- the message of each error code
abbrev pub message_of : ℕ → List ℕ
message_of code =
    if code == 100 then codes "internal server error" else if code == 102 then codes "unknown channel"
    else if code == 103 then codes "permission denied"
    else if code == 105 then codes "already subscribed" else if code == 106 then codes "limit exceeded"
    else if code == 107 then codes "bad request"
    else if code == 108 then codes "not available" else if code == 112 then codes "unrecoverable position" else []

-- the reason of each unsubscribe code
abbrev pub reason_of : ℕ → List ℕ
reason_of code = if code == insufficient then codes "insufficient state" else []

-- the info of a client under its id, also if it is empty
abbrev pub client : List ℕ × List ℕ → Member
client u = (escaped u.0, Some (object_of (info (record { client = u.0; user = u.1 }))))

abbrev pub presence : Users → List Member
presence users = ("presence" ⇒ inner (map client (entries users))) ∷ []

abbrev pub connected : List ℕ → List Member
connected id =
    ("client" ⇒ text id) ∷ ("ping" ⇒ whole 25) ∷ ("pong" ⇒ flag true) ∷ ("version" ⇒ text (codes "1.0.0"))
    ∷ []

abbrev pub subscribed : (List ℕ → Tree) → Position → List Placed → Bool → Bool → List Member
subscribed body p ps recovered was =
    ("epoch" ⇒ text p.epoch) ∷ ("offset" ⇒ whole p.offset) ∷ ("positioned" ⇒ flag true)
    ∷ ("publications" ⇒ publications body ps)
    ∷ ("recoverable" ⇒ flag true) ∷ ("recovered" ⇒ flag recovered) ∷ ("was_recovering" ⇒ flag was) ∷ []

abbrev pub counted : ℕ → ℕ → List Member
counted clients users = ("num_clients" ⇒ whole clients) ∷ ("num_users" ⇒ whole users) ∷ []

abbrev pub past : (List ℕ → Tree) → Position → List Placed → List Member
past body p ps = position p ++ ("publications" ⇒ publications body ps) ∷ []

abbrev pub error : ℕ → List Member
error code =
    ("code" ⇒ whole code) ∷ ("message" ⇒ text (message_of code)) ∷ ("temporary" ⇒ flag (code == 100)) ∷ []

-- the result object stands also if it is empty
abbrev pub reply : (List ℕ → Tree) → ℕ → Outcome → List Member
reply body id (Connected client) = ("connect" ⇒ Some (object_of (connected client))) ∷ ("id" ⇒ whole id) ∷ []
reply body id (Subscribed p ps recovered was) =
    ("id" ⇒ whole id) ∷ ("subscribe" ⇒ Some (object_of (subscribed body p ps recovered was))) ∷ []
reply body id Unsubscribed = ("id" ⇒ whole id) ∷ ("unsubscribe" ⇒ Some (object_of [])) ∷ []
reply body id Published = ("id" ⇒ whole id) ∷ ("publish" ⇒ Some (object_of [])) ∷ []
reply body id (Present users) = ("id" ⇒ whole id) ∷ ("presence" ⇒ Some (object_of (presence users))) ∷ []
reply body id (Counted clients users) =
    ("id" ⇒ whole id) ∷ ("presence_stats" ⇒ Some (object_of (counted clients users))) ∷ []
reply body id (Past p ps) = ("history" ⇒ Some (object_of (past body p ps))) ∷ ("id" ⇒ whole id) ∷ []
reply body id Pinged = ("id" ⇒ whole id) ∷ ("ping" ⇒ Some (object_of [])) ∷ []
reply body id (Failed code) = ("error" ⇒ inner (error code)) ∷ ("id" ⇒ whole id) ∷ []

abbrev pub unsubscribed : ℕ → List Member
unsubscribed code = ("code" ⇒ whole code) ∷ ("reason" ⇒ text (reason_of code)) ∷ []

abbrev pub pushed : (List ℕ → Tree) → Pushed → Member
pushed body (Publication p) = ("pub" ⇒ Some (publication body p))
pushed body (Unsubscribe code) = ("unsubscribe" ⇒ inner (unsubscribed code))

abbrev pub outgoing : (List ℕ → Tree) → Outgoing → List Member
outgoing body Ping = []
outgoing body (Answer id result) = reply body id result
outgoing body (Push channel push) = ("push" ⇒ inner (("channel" ⇒ text channel) ∷ pushed body push ∷ [])) ∷ []

-- ---- texts

abbrev pub command_tree : (List ℕ → Tree) → Command → Tree
command_tree body c = object_of (command body c.id c.request)

abbrev pub outgoing_tree : (List ℕ → Tree) → Outgoing → Tree
outgoing_tree body o = object_of (outgoing body o)

-- the leaf that is written as this text
abbrev pub as_it_is : List ℕ → Tree
as_it_is = number

unfoldable pub command_text : Command → List ℕ
command_text c = compact_text (command_tree as_it_is c)

unfoldable pub outgoing_text : Outgoing → List ℕ
outgoing_text o = compact_text (outgoing_tree as_it_is o)

abbrev pub text_or_none : Option Outgoing → List ℕ
text_or_none None = []
text_or_none (Some o) = outgoing_text o

-- the text of a note, whose data are those of the lists; that of a close is empty
abbrev pub note_text : Lists → Note → List ℕ
note_text lists n = text_or_none (outgoing_of lists n)

-- the texts of the two pushes, by their parts
abbrev pub publication_text : List ℕ → Placed → List ℕ
publication_text channel p = outgoing_text (Push channel (Publication p))

abbrev pub unsubscribe_text : List ℕ → ℕ → List ℕ
unsubscribe_text channel code = outgoing_text (Push channel (Unsubscribe code))
