-- How a session goes along its script, one act after another, and what becomes of it where memory is refused.
use Rattle.std.specs.Prelude.{◌≡◌, ◌⊎◌, ℕ, List, ◌∷◌, Option, Some, None, Bool, true, false}
use Rattle.cf_protocol.specs.Outgoing as outgoing
use Rattle.cf_protocol.specs.Codes.{code_of}
use Rattle.cf_protocol.specs.Written.{outgoing_text}
use Rattle.cf_protocol.specs.declared.codes.CloseCode.{CloseCode}
use Rattle.cf_protocol.specs.declared.codes.CloseCode.TheVariants as close
use Rattle.cf_protocol.specs.declared.codes.ErrorCode.TheVariants as error
use Rattle.cf_session.specs.Calls.{Call, Answer, Attach, kind_of}
use Rattle.cf_session.specs.Script.{Script, Served, Over, Close, Say, Pong, Ask}
use Rattle.cf_protocol.specs.Datum.{Who}
use Rattle.cf_protocol.specs.Request.{Command}
use Rattle.cf_session.specs.CommandScripts.{Tables, Brings, frame_script}
use Rattle.cf_session.specs.declared.kind.CommandKind.{CommandKind}
use Rattle.cf_session.specs.declared.kind.CommandKind.TheVariants as kind

-- one thing that a session does
pub data Act : Type 0 where
  Calls : (call : Call) → Act
  Says : (text : List ℕ) → Act
  PassesPong : Act
  Closes : (code : CloseCode) → Act

pub data Progress : Type 0 where
  -- this is still to do
  Todo : (script : Script) → Progress
  -- a call of this kind is out, and this comes after its answer
  Out : (kind : CommandKind) → (after : Answer → Script) → Progress

abbrev pub reply_text : ℕ → outgoing.Outcome → List ℕ
reply_text id o = outgoing_text (outgoing.Answer id o)

-- what it does next, if anything, and where that leaves it
abbrev pub first_act : Script → Option Act
first_act (Served who) = None
first_act Over = None
first_act (Close code) = Some (Closes code)
first_act (Say id o after) = Some (Says (reply_text id o))
first_act (Pong after) = Some PassesPong
first_act (Ask call after) = Some (Calls call)

abbrev pub after_act : Script → Progress
after_act (Served who) = Todo (Served who)
after_act Over = Todo Over
after_act (Close code) = Todo Over
after_act (Say id o after) = Todo after
after_act (Pong after) = Todo after
after_act (Ask call after) = Out (kind_of call) after

abbrev pub next_act : Progress → Option Act
next_act (Todo s) = first_act s
next_act (Out kind after) = None

abbrev pub next_progress : Progress → Progress
next_progress (Todo s) = after_act s
next_progress (Out kind after) = Out kind after

-- the session does what is next
pub record Does (old : Progress) (act : Option Act) (new : Progress) : Type 0 where
  pub acts : act ≡ next_act old
  pub goes : new ≡ next_progress old

-- ---- want of memory

abbrev pub failed_text : ℕ → List ℕ
failed_text id = reply_text id (outgoing.Failed (code_of error.Internal))

-- the reply to a connect
abbrev pub is_connected : outgoing.Outcome → Bool
is_connected (outgoing.Connected client) = true
is_connected other = false

-- the command at hand, which is no connect, at its start or at its reply, and what comes after it
pub data AtHand (t : Tables) : ℕ → Script → Script → Type 0 where
  at_start : (who : Who) (k : Command) (ks : List Command)
      → AtHand t k.id (frame_script t (k ∷ ks) (Some who)) (frame_script t ks (Some who))
  at_reply : (id : ℕ) (o : outgoing.Outcome) (after : Script) → is_connected o ≡ false
      → AtHand t id (Say id o after) after

-- the connect is at hand: its attach is next, or its reply
pub data Connects : Script → Type 0 where
  at_attach : (user : List ℕ) (after : Answer → Script) → Connects (Ask (Attach user) after)
  at_connected : (id : ℕ) (client : List ℕ) (after : Script) → Connects (Say id (outgoing.Connected client) after)

-- What is done instead, by how many requests for memory were refused. After the first the command at hand is answered
-- as one that failed within. Where that text finds no memory either, the session is closed. A connect's first closes
-- it. (This project's own profile: error 100 and close 3004.)
pub data GivesUp (t : Tables) : Progress → Option Act → Progress → (refused : ℕ) → Type 0 where
  fails : (id : ℕ) (script after : Script) → AtHand t id script after
      → GivesUp t (Todo script) (Some (Says (failed_text id))) (Todo after) 1
  falls_silent : (id : ℕ) (script after : Script) → AtHand t id script after
      → GivesUp t (Todo script) (Some (Closes close.InternalError)) (Todo Over) 2
  stays_out : (script : Script) → Connects script
      → GivesUp t (Todo script) (Some (Closes close.InternalError)) (Todo Over) 1

-- what is next where no memory was refused
abbrev pub Acts : Tables → Progress → Option Act → Progress → (refused : ℕ) → Type 0
Acts t old act new refused = (Does old act new × (refused ≡ 0)) ⊎ GivesUp t old act new refused

-- ---- answers and texts

-- the kind of the call that is out
abbrev pub awaits : Progress → Option CommandKind
awaits (Todo s) = None
awaits (Out kind after) = Some kind

abbrev pub answered_progress : Answer → Progress → Progress
answered_progress a (Todo s) = Todo s
answered_progress a (Out kind after) = Todo (after a)

-- The one request was refused, in the reading of a text or of the connect's answer: the close is next.
pub record FindsNoMemory (new : Progress) (refused : ℕ) : Type 0 where
  pub once : refused ≡ 1
  pub closes : new ≡ Todo (Close close.InternalError)

-- only the answer to an attach is kept, and takes memory
abbrev pub GoesOn : Answer → Progress → Progress → (refused : ℕ) → Type 0
GoesOn a old new refused =
    ((new ≡ answered_progress a old) × (refused ≡ 0))
    ⊎ ((awaits old ≡ Some kind.Attach) × FindsNoMemory new refused)

-- a text comes to a session that has nothing to do
abbrev pub HearsAt : Tables → Script → List ℕ → Script → Type 0
HearsAt t (Served who) text new = Brings t who text new
HearsAt t Over text new = new ≡ Over
HearsAt t (Close code) text new = ⊥
HearsAt t (Say id o after) text new = ⊥
HearsAt t (Pong after) text new = ⊥
HearsAt t (Ask call after) text new = ⊥

abbrev pub HearsText : Tables → Progress → List ℕ → Progress → Type 0
HearsText t (Todo s) text new = (script : Script) × HearsAt t s text script × (new ≡ Todo script)
HearsText t (Out kind after) text new = ⊥

abbrev pub is_served : Progress → Bool
is_served (Todo (Served who)) = true
is_served other = false

-- a session that is closed reads nothing
abbrev pub Hears : Tables → Progress → List ℕ → Progress → (refused : ℕ) → Type 0
Hears t old text new refused =
    (HearsText t old text new × (refused ≡ 0)) ⊎ ((is_served old ≡ true) × FindsNoMemory new refused)
