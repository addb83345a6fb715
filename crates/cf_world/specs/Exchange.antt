-- What becomes of a command that a client sends: at the broker, and at the session that sent it.
use Rattle.std.specs.Prelude.{◌≡◌, ◌&&◌, ⊤, ℕ, ℤ, nat_lt, not, Bool, true, false}
use Rattle.std.specs.Prelude.{Option, Some, None, is_some, IsSome, List, length}
use Rattle.cf_protocol.specs.Checks.{checks, first_failed, longest_text}
use Rattle.cf_protocol.specs.Outgoing.{Past, Published as PutDone}
use Rattle.cf_protocol.specs.Regular.{IsBody, IsInfo}
use Rattle.cf_protocol.specs.Request as request
use Rattle.cf_protocol.specs.Request.{Command, Request}
use Rattle.cf_protocol.specs.Settings.{NamespaceTable, settings_of}
use Rattle.cf_protocol.specs.Written.{command_text}
use Rattle.cf_protocol.specs.declared.codes.ErrorCode.TheVariants as error
use Rattle.cf_client.specs.ClientView.{state_of}
use Rattle.cf_client.specs.OneAnswer.{AreApart}
use Rattle.cf_hub.specs.Hub.{Node, attached_at}
use Rattle.cf_model.specs.Sessions.{is_unfinished}
use Rattle.cf_stream.specs.declared.answer.History.{History}
use Rattle.cf_machine.specs.ClientRequest.{ClientRequest, SentCommand, Subscribe, Unsubscribe, Publish}
use Rattle.cf_machine.specs.ClientRequest.{History as ListHistory, command_of, request_of}
use Rattle.cf_machine.specs.Config.{Config}
use Rattle.cf_machine.specs.IntervalMachine.{command_by, id_left}
use Rattle.cf_machine.specs.FreshEpochs.{AreFresh}
use Rattle.cf_machine.specs.PublicationList.{Broker, can_open}
use Rattle.cf_machine.specs.Weights.{command_length}
use Rattle.cf_machine.specs.World.{World}
use Rattle.cf_world.specs.BrokerTie.{Histories, Publishes, ShowsBroker}
use Rattle.cf_world.specs.ClientTie.{request_by}
use Rattle.cf_session.specs.SessionMachine.{reply_text}
use Rattle.cf_world.specs.HubCalls.{Asks, LeftTold, Told, error_text, who_in}
use Rattle.cf_world.specs.declared.broker.WorldBroker.{WorldBroker as Code}
use Rattle.cf_world.specs.declared.broker.PublishOutcome.{PublishOutcome}
use Rattle.cf_world.specs.declared.broker.PublishOutcome.TheVariants as outcome
use Rattle.cf_world.specs.declared.client_command.ClientCommand.{ClientCommand}
use Rattle.cf_world.specs.declared.clients.Peer.{Peer}

-- ---- before anything is sent

-- the command that is sent, under the next id
abbrev pub sent_by : ClientCommand → Peer → SentCommand
sent_by e p = record { id = (state_of p.client).client.fresh; request = request_by e (state_of p.client).client }

-- its text is not too long, and no check of it fails
abbrev pub passes : NamespaceTable → Command → Bool
passes table k =
    not (is_some (first_failed (checks table k.request))) && not (nat_lt longest_text (length (command_text k)))

-- it asks for a stream that neither stands nor can be opened
abbrev pub asks_too_much : ClientRequest → Broker → Bool
asks_too_much (Subscribe c from) b = false
asks_too_much (Unsubscribe c) b = false
asks_too_much (Publish c key body) b = not (can_open c b)
asks_too_much (ListHistory c limit) b = not (can_open c b)

abbrev pub lacks_by : NamespaceTable → SentCommand → Broker → Bool
lacks_by table k b = asks_too_much k.request b && passes table (command_of k)

-- A client's command was sent if the client could send one and waited for no reply to a subscribe, and passed its
-- checks.
pub record IsGranted (cfg : Config) (m : World) (x : List ℕ) (p : Peer) (e : ClientRequest) : Type 0 where
  pub left : id_left (m.links x) ≡ true
  pub apart : AreApart (state_of p.client).client
  pub quiet : (c : List ℕ) → is_unfinished ((m.links x).session.subs c) ≡ false
  pub opened : (m.links x).session.closed ≡ false
  pub fits : nat_lt longest_text (command_length (command_of (command_by x e m))) ≡ false
  pub checked : first_failed (checks cfg.namespaces (request_of e)) ≡ None

-- ---- once it passed its checks

-- what is said to a publish of session k
abbrev pub PutAnswered : PublishOutcome → ℕ → ℕ → Node → Node → Type 0
PutAnswered outcome.Accepted k id h g = Told k (reply_text id PutDone) h g
PutAnswered outcome.Repeated k id h g = Told k (reply_text id PutDone) h g
PutAnswered outcome.AtLastOffset k id h g = Told k (error_text id error.LimitExceeded) h g
PutAnswered outcome.NoEpoch k id h g = Told k (error_text id error.Internal) h g
PutAnswered outcome.NotSetUp k id h g = Told k (error_text id error.Internal) h g

-- a client's datum, which names it, is published under a key, and the client is answered
pub record Puts (table : NamespaceTable) (m : Broker) (k : ℕ) (c key body : List ℕ) (id : ℕ) (new : Code)
    (h g : Node) : Type 0 where
  pub result : PublishOutcome
  pub publishes : Publishes table m c key (record { body = body; info = who_in (attached_at h k) }) new result
  pub answered : PutAnswered result k id h g

-- what is said to a history of session k
abbrev pub ListAnswered : Option History → ℕ → ℕ → Node → Node → Type 0
ListAnswered (Some r) k id h g = Told k (reply_text id (Past r.position r.publications.items)) h g
ListAnswered None k id h g = Told k (error_text id error.Internal) h g

pub record Lists (table : NamespaceTable) (m : Broker) (k : ℕ) (c : List ℕ) (limit : ℤ) (id : ℕ) (new : Code)
    (h g : Node) : Type 0 where
  pub result : Option History
  pub finds : Histories table m c limit new result
  pub answered : ListAnswered result k id h g

-- what is done of a request of session k that passed its checks; the others are none that a client here sends
abbrev pub Serves : Request → ℕ → ℕ → Code → Code → Node → Node → Type 0
Serves (request.Subscribe c since) id k old new h g = (new ≡ old) × Asks k c id since h g
Serves (request.Unsubscribe c) id k old new h g = (new ≡ old) × LeftTold k c id h g
Serves (request.Publish c key (request.Body body)) id k old new h g =
    (table : NamespaceTable) (m : Broker) → AreFresh m → IsBody body → IsInfo (who_in (attached_at h k))
    → ShowsBroker table old m → Puts table m k c key body id new h g
Serves (request.History c limit since reverse) id k old new h g =
    (table : NamespaceTable) (m : Broker) → AreFresh m → IsSome (settings_of table c)
    → ShowsBroker table old m → Lists table m k c limit id new h g
Serves _ id k old new h g = ⊤
