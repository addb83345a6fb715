-- What a session is at its node's hub, and what becomes of both by the text of one command.
use Rattle.std.specs.Prelude.{◌≡◌, ◌⊎◌, ⊤, ℕ, suc, zero, Bool, true, false}
use Rattle.std.specs.Prelude.{Option, Some, None, List, [], ◌∷◌}
use Rattle.cf_protocol.specs.Datum.{Who}
use Rattle.cf_protocol.specs.Frame.{IsCommands}
use Rattle.cf_protocol.specs.Request as request
use Rattle.cf_protocol.specs.Request.{Command, Request}
use Rattle.cf_protocol.specs.Settings.{NamespaceTable}
use Rattle.cf_hub.specs.Hub.{Node, OthersStay, attached_at, is_open}
use Rattle.cf_hub.specs.Rows.{sub_in}
use Rattle.cf_hub.specs.Session.{Attached}
use Rattle.cf_model.specs.Sessions.{Subscription, Off, Asked, Ready, On, is_unfinished}
use Rattle.cf_session.specs.CommandScripts.{to_finish, to_read}
use Rattle.cf_session.specs.Script.{Script, Served}
use Rattle.cf_protocol.specs.Outgoing.{Connected}
use Rattle.cf_session.specs.SessionMachine.{Todo, HearsText, reply_text}
use Rattle.cf_session.specs.Standing.{is_idle, progress_of, tables_of}
use Rattle.cf_session.specs.declared.session.Session.{Session}
use Rattle.cf_machine.specs.Refusals.{bad_message}
use Rattle.cf_world.specs.Exchange.{Serves}
use Rattle.cf_world.specs.HubCalls.{Closed, Told, error_text, who_in}
use Rattle.cf_world.specs.Judging as judged
use Rattle.cf_world.specs.Judging.{Judged, Judges}
use Rattle.cf_world.specs.Stepping.{StaysLong, Steps}
use Rattle.cf_world.specs.NodesTie.{session_at}
use Rattle.cf_world.specs.declared.broker.WorldBroker.{WorldBroker as Code}
use Rattle.cf_world.specs.declared.clients.Peer.{Peer}
use Rattle.cf_world.specs.declared.clients.SessionAddress.{SessionAddress}

-- ---- a session beside its hub's

-- what the client's session still does for a channel, once that is all that it has to do: a subscription that was
-- asked for waits for its read, and one that was read for its finish
abbrev pub wait_script : {B : Type 0} → Who → List ℕ → Subscription B → Option Script
wait_script who c Off = None
wait_script who c (Asked id since b) = Some (to_read id c since (Served (Some who)))
wait_script who c (Ready id was r b) = Some (to_finish c (Served (Some who)))
wait_script who c (On p behind_at) = None

pub record Rests (who : Who) (s : Session) : Type 0 where
  pub idle : is_idle s ≡ true
  pub served : progress_of s ≡ Todo (Served (Some who))

-- The session of a client whose connect was heard, beside what its hub has for it: it is idle if no subscription
-- waits for its reply, and else does what is next for the one that does.
pub record IsServed (t : NamespaceTable) (o : Option Attached) (s : Session) : Type 0 where
  pub tables : (tables_of s).namespaces ≡ t
  pub who : Who
  pub named : who_in o ≡ Some who
  pub rests : ((c : List ℕ) → is_unfinished (sub_in o c) ≡ false) → Rests who s
  pub waits : (c : List ℕ) (x : Script) → wait_script who c (sub_in o c) ≡ Some x → progress_of s ≡ Todo x

-- if the hub has not closed it
abbrev pub IsServedAt : NamespaceTable → Option Attached → Session → Type 0
IsServedAt table o s = is_open o ≡ true → IsServed table o s

-- ---- steps, one after another, until there is no more to be done at once; n + 1 at most

abbrev pub Runs : ℕ → ℕ → Session → Session → Code → Code → Node → Node → Type 0
Runs zero k s t old new h g = (more : Bool) × Steps k s t old new h g more
Runs (suc n) k s t old new h g =
    Steps k s t old new h g false
    ⊎ ((u : Session) × (b : Code) × (j : Node) × Steps k s u old b h j true × Runs n k u t b new j g)

-- a text is heard, and then that is done
pub record Plays (k : ℕ) (s t : Session) (text : List ℕ) (old new : Code) (h g : Node) : Type 0 where
  pub heard : Session
  pub hears : HearsText (tables_of s) (progress_of s) text (progress_of heard)
  pub stays : StaysLong s heard
  pub runs : Runs 2 k heard t old new h g

-- ---- a text of one command

-- what a client here sends
abbrev pub IsClients : Request → Type 0
IsClients (request.Subscribe c since) = ⊤
IsClients (request.Unsubscribe c) = ⊤
IsClients (request.Publish c key (request.Body body)) = ⊤
IsClients (request.History c limit None false) = ⊤
IsClients _ = ⊥

abbrev pub ServesAs : ℕ → Judged → Code → Code → Node → Node → Type 0
ServesAs k judged.Unheard old new h g = ⊥
ServesAs k judged.TooLong old new h g = (new ≡ old) × Closed k bad_message h g
ServesAs k judged.Unreadable old new h g = ⊥
ServesAs k (judged.Refused id code) old new h g = (new ≡ old) × Told k (error_text id code) h g
ServesAs k (judged.Granted command) old new h g = Serves command.request command.id k old new h g

-- session k hears the text of one command, and does what it asks for
pub record ServesText (k : ℕ) (table : NamespaceTable) (t : Session) (text : List ℕ) (old new : Code)
    (h g : Node) : Type 0 where
  pub judged : Judged
  pub judges : Judges table false text judged
  pub serves : ServesAs k judged old new h g
  pub others : OthersStay k h g
  pub served : IsServedAt table (attached_at g k) t

-- ---- a connect

-- the connect that a client sends
abbrev pub connects : Command
connects = record { id = 1; request = request.Connect [] }

-- the session of a client that has this id now
pub record Greeted (id : List ℕ) (s t : Session) (reply : List ℕ) : Type 0 where
  pub tables : tables_of t ≡ tables_of s
  pub rests : Rests (record { user = []; client = id }) t
  pub said : reply ≡ reply_text 1 (Connected id)

-- a new session that hears the connect, and is attached under this id
abbrev pub Greets : List ℕ → Session → List ℕ → Session → List ℕ → Type 0
Greets id s text t reply =
    progress_of s ≡ Todo (Served None) → ((ks : List Command) → IsCommands text ks → ks ≡ connects ∷ [])
    → Greeted id s t reply

-- ---- the sessions of all clients

-- each client that has an address has its session there, which its hub's shows if that is open
abbrev pub AreServed : NamespaceTable → (ℕ → Option Node) → (List ℕ → Option Peer) → Type 0
AreServed table hubs peers =
    (x : List ℕ) (p : Peer) (s : SessionAddress) → peers x ≡ Some p → p.address ≡ Some s
    → IsServedAt table (session_at hubs s) p.session
