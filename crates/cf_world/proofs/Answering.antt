-- An exchange by what the node did: it answered, it was left, it began, or it closed the session; or it heard nothing.
use Rattle.std.proofs.Common.{◌≡◌, ◌≢◌, ℕ, true, false, Option, Some, List, refl, ◌∙◌, nat_lt}
use Rattle.std.specs.List.{All}
use Rattle.cf_protocol.specs.Checks.{checks, first_failed, longest_text}
use Rattle.cf_protocol.specs.Codes.{code_of}
use Rattle.cf_protocol.specs.Names.{with, and_also}
use Rattle.cf_protocol.specs.Note.{Lists, Note, Close}
use Rattle.cf_protocol.specs.Position.{Position}
use Rattle.cf_protocol.specs.Settings.{NamespaceTable}
use Rattle.cf_protocol.specs.declared.codes.ErrorCode.{ErrorCode}
use Rattle.cf_client.specs.ClientView.{state_of}
use Rattle.cf_queue.specs.OutQueue.{Text}
use Rattle.cf_hub.specs.AlikeMoves.{CallsAreAlike, MovesAreAlike}
use Rattle.cf_hub.specs.Hub.{Begins, Node, attached_at}
use Rattle.cf_hub.specs.InNotes.{Grown, IsSaid, SaysAt}
use Rattle.cf_model.specs.Sessions.{begins, closes_now, push}
use Rattle.cf_model.specs.Sessions.{spoken}
use Rattle.cf_hub.specs.Wordings.{plain}
use Rattle.cf_machine.specs.ClientLink.{ClientLink}
use Rattle.cf_machine.specs.ClientRequest.{SentCommand, command_of, request_of}
use Rattle.cf_machine.specs.Config.{Config}
use Rattle.cf_machine.specs.PublicationList.{Broker}
use Rattle.cf_machine.specs.Refusals.{Unheard, TooLong, Refused, judged}
use Rattle.cf_machine.specs.Session.{Session}
use Rattle.cf_machine.specs.Weights.{command_length}
use Rattle.cf_machine.specs.World.{World}
use Rattle.cf_world.specs.BrokerTie.{ShowsBroker}
use Rattle.cf_world.specs.ClientTie.{Becomes, IsOwn, sent_state}
use Rattle.cf_world.specs.HubCalls.{AtHub, Closed, Told}
use Rattle.cf_world.specs.NodesTie.{IsAtAddress, MayAsk, session_at}
use Rattle.cf_world.specs.Tie.{AreTied}
use Rattle.cf_world.specs.declared.broker.WorldBroker.{WorldBroker as Code}
use Rattle.cf_world.specs.declared.clients.Peer.{Peer}
use Rattle.cf_world.specs.declared.clients.SessionAddress.{SessionAddress}
use Rattle.cf_world.proofs.Ends.{Keeps, closes_keeps, push_keeps}
use Rattle.cf_world.proofs.Exchanged.{after}
use Rattle.cf_world.proofs.Exchanging.{exchange_goes, sat}
use Rattle.cf_world.proofs.Going.{Stays}
use Rattle.cf_world.proofs.LinksTie.{LinkGoes, link_asks, link_goes, met_name, one_name}
use Rattle.cf_world.proofs.NodesTie.{address_shows}
use Rattle.cf_world.proofs.Owned.{push-own}
use Rattle.cf_world.proofs.SentOwn.{own_sent}
use Rattle.cf_world.proofs.Sitting.{client_here, hub_there}

-- ---- how a command is judged

module _ (cfg : Config) (w : World) (l : ClientLink) (k : SentCommand) where
  pub judged_unheard : l.session.closed ≡ true → judged cfg w l k ≡ Unheard
  judged_unheard h = rw h refl

  pub judged_too_long : l.session.closed ≡ false → nat_lt longest_text (command_length (command_of k)) ≡ true
      → judged cfg w l k ≡ TooLong
  judged_too_long h i = rw h (rw i refl)

  pub judged_by_checks : (e : ErrorCode) → l.session.closed ≡ false
      → nat_lt longest_text (command_length (command_of k)) ≡ false
      → first_failed (checks cfg.namespaces (request_of k.request)) ≡ Some e → judged cfg w l k ≡ Refused (code_of e)
  judged_by_checks e h i f = rw h (rw i (rw f refl))

module _ {cfg : Config} {table : NamespaceTable} {b : Code} {hubs : ℕ → Option Node} {peers : List ℕ → Option Peer}
    {m : World}
    (t : AreTied cfg table b hubs peers m) (x : List ℕ) (s : SessionAddress) (p : Peer) (found : peers x ≡ Some p)
    (sits : p.address ≡ Some s)
    (k : SentCommand) (peers' : List ℕ → Option Peer)
    (becomes : Becomes x p (sent_state k.request (state_of p.client)) peers peers')
    (stays : Stays) (new : Code) (broker : Broker) (grown : Grown m.broker.lists broker.lists)
    (shows : ShowsBroker cfg.namespaces new broker)
    (calls : CallsAreAlike broker.lists) (moves : MovesAreAlike broker.lists) where
  address : IsAtAddress cfg.namespaces m.broker.lists (session_at hubs s) s.node (m.links x)
  address = address_shows t.nodes x s (sat t x s p found sits k peers' becomes)

  own : All (IsOwn (sent_state k.request (state_of p.client))) (m.links x).session.notes
  own = own_sent (state_of p.client) k.request (m.links x).session.notes (client_here t x p found).own

  pub goes_by : (g : Session → Session) → Keeps g
      → LinkGoes cfg.namespaces (m.links x) (after k (g (m.links x).session) (m.links x).channels (m.links x))
  goes_by g keeps =
      link_goes address (after k (g (m.links x).session) (m.links x).channels (m.links x)) refl refl address.way refl
      refl g
      keeps refl

  -- THE NODE ANSWERED
  pub answer_goes : (text : List ℕ) (n : Note) → IsSaid broker.lists text n
      → IsOwn (sent_state k.request (state_of p.client)) n → (hubs' : ℕ → Option Node)
      → AtHub s.node (Told s.session text) hubs hubs'
      → AreTied cfg table new hubs' peers' (record m {
        broker = broker;
        links = with m.links x (after k (push (spoken broker.lists) n (m.links x).session)
            (m.links x).channels (m.links x));
      })
  answer_goes text n said mine hubs' at =
      let there = hub_there t x s (sat t x s p found sits k peers' becomes) in
      let one = at there.0 there.1 in
      exchange_goes t x s p found sits k peers' becomes stays new broker grown shows there.0 one.hub there.1 hubs'
      one.now one.others one.changes.same one.changes.none
      one.changes.does.others (met_name one.changes.does) (push (spoken broker.lists) n (m.links x).session)
      (m.links x).channels
      (goes_by (push (spoken broker.lists) n) (push_keeps (spoken broker.lists) n))
      (push-own broker.lists (sent_state k.request (state_of p.client)) n (m.links x).session mine own)
      (λ d. calls.meets s.session (push plain (Text text)) (push (spoken broker.lists) n) there.0 one.hub
      (moves.says (Text text) n said) one.changes.does one.changes.none (m.links x).session d)

  -- THE TEXT WAS TOO LONG
  pub close_goes : (code : ℕ) → All (IsOwn (sent_state k.request (state_of p.client)))
      (closes_now (Close code) (m.links x).session).notes → (hubs' : ℕ → Option Node)
      → AtHub s.node (Closed s.session code) hubs hubs'
      → AreTied cfg table new hubs' peers' (record m {
        broker = broker;
        links = with m.links x (after k (closes_now (Close code) (m.links x).session)
            (m.links x).channels (m.links x));
      })
  close_goes code mine hubs' at =
      let there = hub_there t x s (sat t x s p found sits k peers' becomes) in
      let one = at there.0 there.1 in
      let rest = one.changes.same in
      exchange_goes t x s p found sits k peers' becomes stays new broker grown shows there.0 one.hub there.1 hubs'
      one.now one.others
      (record { node = rest.node; boot = rest.boot; used = rest.used })
      (rest.refused ∙ (t.nodes.hub s.node there.0 there.1).refused)
      one.changes.does.others (one_name one.changes.does) (closes_now (Close code) (m.links x).session)
      (m.links x).channels
      (goes_by (closes_now (Close code)) (closes_keeps (Close code))) mine
      (λ d. calls.one s.session _ (closes_now (Close code)) there.0 one.hub (moves.closes code) one.changes.does
      (m.links x).session d)

  -- IT BEGAN
  pub begin_goes : (c : List ℕ) (id : ℕ) (since : Option Position) → (h' : Node) (h : Node) → hubs s.node ≡ Some h
      → (hubs' : ℕ → Option Node) → hubs' s.node ≡ Some h' → ((j : ℕ) → j ≢ s.node → hubs' j ≡ hubs j)
      → Begins s.session c id since h h' → ((l : Lists) → SaysAt l (attached_at h s.session) (m.links x).session
      → SaysAt l (attached_at h' s.session) (begins (spoken broker.lists) c id since (m.links x).session))
      → (m.links x).session.closed ≡ false → MayAsk cfg.namespaces c
      → AreTied cfg table new hubs' peers' (record m {
        broker = broker;
        links = with m.links x (after k
            (begins (spoken broker.lists) c id since (m.links x).session) (and_also c (m.links x).channels)
            (m.links x));
      })
  begin_goes c id since h' h was hubs' now others begun says is_open set_up =
      let rest = begun.rest in
      exchange_goes t x s p found sits k peers' becomes stays new broker grown shows h h' was hubs' now others
      (record { node = rest.node; boot = rest.boot; used = rest.used })
      (rest.refused ∙ (t.nodes.hub s.node h was).refused)
      begun.one.others (one_name begun.one) (begins (spoken broker.lists) c id since (m.links x).session)
      (and_also c (m.links x).channels)
      (link_asks address (after k (begins (spoken broker.lists) c id since (m.links x).session)
      (and_also c (m.links x).channels) (m.links x)) refl refl address.way refl (spoken broker.lists) c id since refl
      refl is_open set_up)
      own (says broker.lists)
