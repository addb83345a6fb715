-- What a session does for each command, and for a frame of them: the scripts of its commands, one behind another.
-- (Centrifugo's client protocol: commands, replies, error codes and closes. The order of checks is that of
-- cf_protocol's Checks.)
use Rattle.std.specs.Prelude.{◌≡◌, ◌≤◌, ◌<◌, ◌⊎◌, ℕ, Option, Some, None, List, [], ◌∷◌, length}
use Rattle.cf_protocol.specs.Position.{Position}
use Rattle.cf_protocol.specs.Datum.{Who}
use Rattle.cf_protocol.specs.Request as request
use Rattle.cf_protocol.specs.Request.{Data, Absent, TooDeep, Body, Request, Connect, Subscribe, Unsubscribe}
use Rattle.cf_protocol.specs.Request.{PresenceStats, Ping, Send, Other, Command}
use Rattle.cf_protocol.specs.Outgoing.{Connected, Unsubscribed, Pinged, Failed}
use Rattle.cf_protocol.specs.Frame.{IsCommands}
use Rattle.cf_protocol.specs.Codes.{code_of}
use Rattle.cf_protocol.specs.Checks.{first_failed, checks, longest_text}
use Rattle.cf_protocol.specs.Settings.{NamespaceTable, TokenTable, user_of}
use Rattle.cf_protocol.specs.declared.codes.ErrorCode.{ErrorCode}
use Rattle.cf_protocol.specs.declared.codes.CloseCode.TheVariants as close
use Rattle.cf_session.specs.Calls.{Answer, Refused, Done, Found, Attached, Attach, Begin, Read, Finish, Leave}
use Rattle.cf_session.specs.Calls.{Publish, History, Presence, Stats}
use Rattle.cf_session.specs.Script.{Script, Served, Close, Say, Pong, Ask}

-- what the server is set up with
pub record Tables : Type 0 where
  pub namespaces : NamespaceTable
  pub tokens : TokenTable

-- ---- what comes after each answer

-- the command is refused
abbrev pub refuses : ℕ → ErrorCode → Script → Script
refuses id e after = Say id (Failed (code_of e)) after

-- the reply is what the one call found, or its refusal; nothing is left to say if the node gave it
abbrev pub replies : ℕ → Script → Answer → Script
replies id after (Refused e) = refuses id e after
replies id after (Found outcome) = Say id outcome after
replies id after Done = after
replies id after (Attached client) = after

abbrev pub after_leave : ℕ → Script → Answer → Script
after_leave id after a = Say id Unsubscribed after

-- a subscription whose stream can't be read is left again
abbrev pub after_lost : ℕ → ErrorCode → Script → Answer → Script
after_lost id e after a = refuses id e after

-- the hub gives the reply
abbrev pub after_finish : Script → Answer → Script
after_finish after a = after

-- a subscription that was read is to be finished
abbrev pub to_finish : List ℕ → Script → Script
to_finish c after = Ask (Finish c) (after_finish after)

abbrev pub after_read : ℕ → List ℕ → Script → Answer → Script
after_read id c after (Refused e) = Ask (Leave c) (after_lost id e after)
after_read id c after Done = to_finish c after
after_read id c after (Found outcome) = to_finish c after
after_read id c after (Attached client) = to_finish c after

-- one that was begun is to be read
abbrev pub to_read : ℕ → List ℕ → Option Position → Script → Script
to_read id c since after = Ask (Read c since) (after_read id c after)

abbrev pub after_begin : ℕ → List ℕ → List ℕ → Option Position → Script → Answer → Script
after_begin id read c since after (Refused e) = refuses id e after
after_begin id read c since after Done = Ask (Read read since) (after_read id c after)
after_begin id read c since after (Found outcome) = Ask (Read read since) (after_read id c after)
after_begin id read c since after (Attached client) = Ask (Read read since) (after_read id c after)

-- the client that a session has from its connect on
abbrev pub client_of : List ℕ → List ℕ → Who
client_of user client = record { user = user; client = client }

abbrev pub after_attach : ℕ → List ℕ → (Who → Script) → Answer → Script
after_attach id user after (Attached client) = Say id (Connected client) (after (client_of user client))
after_attach id user after (Refused e) = Close close.InternalError
after_attach id user after Done = Close close.InternalError
after_attach id user after (Found outcome) = Close close.InternalError

-- ---- scripts of commands

abbrev pub body_of : Data → List ℕ
body_of (Body body) = body
body_of Absent = []
body_of TooDeep = []

-- a command that passed its checks
abbrev pub granted : Who → ℕ → Request → Script → Script
granted who id (Subscribe c since) after = Ask (Begin c id since) (after_begin id c c since after)
granted who id (Unsubscribe c) after = Ask (Leave c) (after_leave id after)
granted who id (request.Publish c key d) after = Ask (Publish c key (body_of d) who) (replies id after)
granted who id (request.Presence c) after = Ask (Presence c) (replies id after)
granted who id (PresenceStats c) after = Ask (Stats c) (replies id after)
granted who id (request.History c limit since reverse) after = Ask (History c id limit since) (replies id after)
granted who id Ping after = Say id Pinged after
granted who id request.Pong after = Pong after
granted who id Send after = after
granted who id Other after = after
-- a second connect
granted who id (Connect token) after = Close close.BadRequest

abbrev pub unless_failed : Option ErrorCode → ℕ → Script → Script → Script
unless_failed None id after script = script
unless_failed (Some e) id after script = refuses id e after

abbrev pub command_script : Tables → Who → Command → Script → Script
command_script t who k after =
    unless_failed (first_failed (checks t.namespaces k.request)) k.id after (granted who k.id k.request after)

-- the connect: a token that isn't known closes the session
abbrev pub connect_script : Option (List ℕ) → ℕ → (Who → Script) → Script
connect_script None id after = Close close.InvalidToken
connect_script (Some user) id after = Ask (Attach user) (after_attach id user after)

-- before the connect, any other command closes the session
abbrev pub first_script : Tables → ℕ → Request → (Who → Script) → Script
first_script t id (Connect token) after = connect_script (user_of t.tokens token) id after
first_script t id (Subscribe c since) after = Close close.BadRequest
first_script t id (Unsubscribe c) after = Close close.BadRequest
first_script t id (request.Publish c key d) after = Close close.BadRequest
first_script t id (request.Presence c) after = Close close.BadRequest
first_script t id (PresenceStats c) after = Close close.BadRequest
first_script t id (request.History c limit since reverse) after = Close close.BadRequest
first_script t id Ping after = Close close.BadRequest
first_script t id request.Pong after = Close close.BadRequest
first_script t id Send after = Close close.BadRequest
first_script t id Other after = Close close.BadRequest

abbrev pub next_script : Tables → Option Who → Command → (Option Who → Script) → Script
next_script t None k after = first_script t k.id k.request (λ who. after (Some who))
next_script t (Some who) k after = command_script t who k (after (Some who))

-- ---- frames

abbrev pub frame_script : Tables → List Command → Option Who → Script
frame_script t [] who = Served who
frame_script t (k ∷ ks) who = next_script t who k (frame_script t ks)

abbrev pub IsUnreadable : List ℕ → Type 0
IsUnreadable text = (longest_text < length text) ⊎ ((ks : List Command) → IsCommands text ks → ⊥)

-- what a text brings to a session that is served so far
abbrev pub Brings : Tables → Option Who → List ℕ → Script → Type 0
Brings t who text script =
    ((ks : List Command) × (length text ≤ longest_text) × IsCommands text ks × (script ≡ frame_script t ks who))
    ⊎ (IsUnreadable text × (script ≡ Close close.BadRequest))
