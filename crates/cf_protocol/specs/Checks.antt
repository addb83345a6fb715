-- What is looked at before a command is carried out, in this order, and the error code of each refusal.
-- (Centrifugo's client protocol: error codes. The order and the limits are this project's own profile.)
use Rattle.std.specs.Prelude.{ℕ, ◌==◌, nat_lt, ◌||◌, not, Bool, true, false, if◌then◌else◌, Option, Some, None, List}
use Rattle.std.specs.Prelude.{[], ◌∷◌, length, is_some}
use Rattle.cf_protocol.specs.Request.{Data, Absent, TooDeep, Body, Request, Pong, Connect, Subscribe, Unsubscribe}
use Rattle.cf_protocol.specs.Request.{Publish, Presence, PresenceStats, History, Ping, Send, Other}
use Rattle.cf_protocol.specs.Settings.{NamespaceTable, settings_of}
use Rattle.cf_protocol.specs.declared.settings.Settings.{Settings}
use Rattle.cf_protocol.specs.declared.codes.ErrorCode.{ErrorCode}
use Rattle.cf_protocol.specs.declared.codes.ErrorCode.TheVariants as error

-- ---- limits, in bytes; how deep the data of a publish may nest is max_data_depth, of Command

-- the longest text of a frame
abbrev pub longest_text : ℕ
longest_text = 65536

-- the longest name of a channel
abbrev pub longest_channel : ℕ
longest_channel = 255

-- the longest key of a publish
abbrev pub longest_key : ℕ
longest_key = 64

-- ---- checks: of those that fail the first names the error

-- whether it fails, and with which error
abbrev pub Check : Type 0
Check = Bool × ErrorCode

abbrev pub first_failed : List Check → Option ErrorCode
first_failed [] = None
first_failed (c ∷ cs) = if c.0 then Some c.1 else first_failed cs

-- a name that is empty or too long
abbrev pub is_bad_channel : List ℕ → Bool
is_bad_channel c = (length c == 0) || nat_lt longest_channel (length c)

-- no data, or data that nests too deep
abbrev pub is_bad_data : Data → Bool
is_bad_data Absent = true
is_bad_data TooDeep = true
is_bad_data (Body body) = false

-- a key that is too long; the empty one is none
abbrev pub is_bad_key : List ℕ → Bool
is_bad_key key = nat_lt longest_key (length key)

-- a channel's settings deny this; a channel without settings is unknown, and not denied
abbrev pub denies : (Settings → Bool) → Option Settings → Bool
denies allowed None = false
denies allowed (Some s) = not (allowed s)

module _ (t : NamespaceTable) where
  abbrev pub well_named : List ℕ → Check
  well_named c = (is_bad_channel c, error.BadRequest)

  abbrev pub set_up : List ℕ → Check
  set_up c = (not (is_some (settings_of t c)), error.UnknownChannel)

  abbrev pub may_publish : List ℕ → Check
  may_publish c = (denies (λ s. s.publish) (settings_of t c), error.PermissionDenied)

  abbrev pub may_list : List ℕ → Check
  may_list c = (denies (λ s. s.history) (settings_of t c), error.PermissionDenied)

  abbrev pub keeps_presence : List ℕ → Check
  keeps_presence c = (denies (λ s. s.presence) (settings_of t c), error.NotAvailable)

  -- the checks of each command
  abbrev pub checks : Request → List Check
  checks (Subscribe c since) = well_named c ∷ set_up c ∷ []
  checks (Unsubscribe c) = well_named c ∷ []
  checks (Publish c key d) =
      well_named c ∷ (is_bad_key key || is_bad_data d, error.BadRequest) ∷ set_up c ∷ may_publish c ∷ []
  checks (Presence c) = well_named c ∷ set_up c ∷ keeps_presence c ∷ []
  checks (PresenceStats c) = well_named c ∷ set_up c ∷ keeps_presence c ∷ []
  checks (History c limit since reverse) =
      well_named c ∷ set_up c ∷ may_list c ∷ (reverse, error.NotAvailable) ∷ []
  checks Other = (true, error.NotAvailable) ∷ []
  checks Ping = []
  checks Send = []
  checks Pong = []
  checks (Connect token) = []

-- ---- what passed its checks may still be refused

-- Why hub or broker refuses it. The hub is asked before the broker, and want of memory is the last that is said.
pub data Refusal : Type 0 where
  -- the session has the channel, or is asking for it
  Already : Refusal
  -- the session has as many channels as it may, or the node as many subscriptions
  Full : Refusal
  -- the stream is at its last offset
  AtLastOffset : Refusal
  -- a history since a position of another epoch, or since any if the channel has no stream
  OtherEpoch : Refusal
  -- the session is closed
  NoSession : Refusal
  -- the log of the channel's shard is at its last count
  AtLastCount : Refusal
  -- a stream would open, and no epoch is left
  NoEpoch : Refusal
  NoMemory : Refusal

abbrev pub refusal_code : Refusal → ErrorCode
refusal_code Already = error.AlreadySubscribed
refusal_code Full = error.LimitExceeded
refusal_code AtLastOffset = error.LimitExceeded
refusal_code OtherEpoch = error.UnrecoverablePosition
refusal_code NoSession = error.Internal
refusal_code AtLastCount = error.Internal
refusal_code NoEpoch = error.Internal
refusal_code NoMemory = error.Internal
