-- A client sent a command, and its node's session heard it, or not: the event has happened.
use Rattle.std.proofs.Common.{◌≡◌, ◌∙◌, ℕ, not, Bool, true, false, Option, Some, None, if◌then◌else◌, List, [], ◌∷◌}
use Rattle.std.proofs.Common.{refl, sym, ap, subst}
use Rattle.std.specs.Prelude.{IsTrue}
use Rattle.cf_protocol.specs.Frame.{IsCommands}
use Rattle.cf_protocol.specs.Note.{Lists as PublicationLists}
use Rattle.cf_protocol.specs.Regular.{IsRegularCommand}
use Rattle.cf_protocol.specs.Request.{Command}
use Rattle.cf_protocol.specs.Settings.{NamespaceTable}
use Rattle.cf_protocol.specs.Written.{command_text}
use Rattle.cf_client.specs.ClientCalls.{State, call_fault}
use Rattle.cf_client.specs.ClientView.{state_of}
use Rattle.cf_client.specs.declared.fault.ClientFault.{ClientFault}
use Rattle.cf_client.specs.declared.fault.ClientFault.TheVariants.{NotNow}
use Rattle.cf_model.specs.Clients.{is_idle}
use Rattle.cf_hub.specs.AlikeMoves.{CallsAreAlike, MovesAreAlike}
use Rattle.cf_hub.specs.Counts.{CountsAll, CountsSession}
use Rattle.cf_hub.specs.Hub.{Node, attached_at, is_open}
use Rattle.cf_hub.specs.Session.{Attached}
use Rattle.cf_session.specs.CommandScripts.{Tables}
use Rattle.cf_session.specs.declared.session.Session.{Session}
use Rattle.cf_machine.specs.ClientRequest.{ClientRequest, Subscribe, Unsubscribe, Publish, History, command_of}
use Rattle.cf_machine.specs.ClientRequest.{request_of}
use Rattle.cf_machine.specs.Config.{Config}
use Rattle.cf_machine.specs.FreshEpochs.{AreFresh}
use Rattle.cf_machine.specs.IntervalMachine.{happens}
use Rattle.cf_machine.specs.World.{World}
use Rattle.cf_world.specs.ClientCommands.{IsReadBack, event_by}
use Rattle.cf_world.specs.ClientTie.{request_by, send_fault}
use Rattle.cf_world.specs.Exchange.{sent_by}
use Rattle.cf_world.specs.HubCalls.{Hubs, Moves}
use Rattle.cf_world.specs.Judging as judged
use Rattle.cf_world.specs.Judging.{Judged, Judges}
use Rattle.cf_world.specs.Sending.{Acts, HasSent, IsSent, PeerMoves, SendsAs, left_of}
use Rattle.cf_world.specs.Serving.{AreServed, IsClients, IsServed, IsServedAt, Plays, Rests, ServesAs, ServesText}
use Rattle.cf_world.specs.Tie.{AreTied, addresses_of}
use Rattle.cf_world.specs.declared.broker.WorldBroker.{WorldBroker as Code}
use Rattle.cf_world.specs.declared.client_command.ClientCommand.{ClientCommand}
use Rattle.cf_world.specs.declared.client_command.ClientCommand.TheVariants as client_command
use Rattle.cf_world.specs.declared.clients.Peer.{Peer}
use Rattle.cf_world.specs.declared.clients.SessionAddress.{SessionAddress}
use Rattle.cf_world.proofs.Exchanges.{served}
use Rattle.cf_world.proofs.Going.{Stays}
use Rattle.cf_world.proofs.OneText.{one-text}
use Rattle.cf_world.proofs.Reading.{Missing}
use Rattle.cf_world.proofs.Running.{plays-tables}
use Rattle.cf_world.proofs.Sends.{is_regular}
use Rattle.cf_world.proofs.SentSo.{by-judged}
use Rattle.cf_world.proofs.ServedStill.{session_at-was, served-one}

-- what can be sent at all
may-call : (idle : Bool) (o : Option ClientFault) → (if idle then o else Some NotNow) ≡ None → o ≡ None
may-call true o h = h
may-call false o h = absurd (cc (h))

may-leave : (idle : Bool) (o : Option ClientFault) → (if idle then Some NotNow else o) ≡ None → o ≡ None
may-leave true o h = absurd (cc (h))
may-leave false o h = h

may-be-called : (e : ClientCommand) (s : State) → send_fault e s ≡ None → call_fault s ≡ None
may-be-called (client_command.Ask channel) s h = may-call (is_idle (s.client.modes channel.now)) (call_fault s) h
may-be-called (client_command.AskFrom channel) s h = may-call (is_idle (s.client.modes channel.now)) (call_fault s) h
may-be-called (client_command.Leave channel) s h = may-leave (is_idle (s.client.modes channel.now)) (call_fault s) h
may-be-called (client_command.Put channel key body) s h = h
may-be-called (client_command.List channel limit) s h = h

are-clients : (e : ClientRequest) → IsClients (request_of e)
are-clients (Subscribe c from) = tt
are-clients (Unsubscribe c) = tt
are-clients (Publish c key body) = tt
are-clients (History c limit) = tt

itself-true : IsTrue true
itself-true = refl

module _ {cfg : Config} {table : NamespaceTable} {b : Code} {hubs hubs' : Hubs} {peers peers' : List ℕ → Option Peer}
    {m : World}
    (t : AreTied cfg table b hubs peers m) (are : AreServed cfg.namespaces hubs peers) (x : List ℕ) (e : ClientCommand)
    (s : SessionAddress) {h g : Node} {p q : Peer} (f : Session) (text : List ℕ)
    (u : Moves s.node h g hubs hubs') (pv : PeerMoves x p (record q { session = f }) peers peers')
    (sits : p.address ≡ Some s) (sent : HasSent table b h s.session e p q text)
    (laws : (k : Command) → IsRegularCommand k → IsCommands (command_text k) (k ∷ []))
    (alone : (k : Command) (ks : List Command) → IsRegularCommand k → IsCommands (command_text k) ks → ks ≡ k ∷ [])
    (stays : Stays) (calls : (lists : PublicationLists) → CallsAreAlike lists)
    (moves : (lists : PublicationLists) → MovesAreAlike lists) (back : IsReadBack e) where
  abbrev pub after : World
  after = happens cfg m (event_by e x)

  abbrev pub q' : Peer
  q' = record q { session = f }

  shut : Bool
  shut = not (is_open (attached_at h s.session))

  -- the session that hears it
  pub was-served : is_open (attached_at h s.session) ≡ true
      → IsServed cfg.namespaces (attached_at h s.session) p.session
  was-served =
      subst (λ (o : Option Attached). IsServedAt cfg.namespaces o p.session) (session_at-was s u)
      (are x p s pv.was sits)

  pub it-rests : (up : is_open (attached_at h s.session) ≡ true) → Rests (was-served up).who p.session
  it-rests up = (was-served up).rests sent.settled

  -- what was heard of it speaks against it, or else it is carried out
  by-the : (hubs2 : Hubs) (j2 : Node) → Moves s.node h j2 hubs hubs2 → (j : Judged) (closed : Bool)
      → closed ≡ not (is_open (attached_at h s.session)) → Judges table closed text j → Acts s.session j h j2
      → SendsAs cfg m x e hubs hubs2 peers peers' table b s (left_of j)
  by-the hubs2 j2 u2 j closed is judges acts =
      by-judged t x e s u2 pv sits laws alone stays (calls m.broker.lists) (moves m.broker.lists) back true
      ((λ k. sent.settled), (λ k. refl)) refl sent.lacks (not (is_open (attached_at h s.session)))
      (sent.is_lacks cfg.namespaces m.broker t.broker) refl sent.opens text sent.allowed sent.said sent.address
      sent.state
      sent.apart sent.since j closed is judges acts

  apart : (y z : List ℕ) (w : SessionAddress) → addresses_of peers y ≡ Some w → addresses_of peers z ≡ Some w → y ≡ z
  apart = t.nodes.apart

  sits-now : q'.address ≡ Some s
  sits-now = sent.address ∙ sits

  not-up : (up : Bool) → up ≡ true → false ≡ not up
  not-up true h = refl
  not-up false h = absurd (cc (h))

  looked : Moves s.node h h hubs hubs
  looked = record { was = u.was; now = u.was; others = λ j ne. refl }

  regular : IsRegularCommand (command_of (sent_by e p))
  regular = is_regular e p.client (may-be-called e (state_of p.client) sent.allowed) sent.since back

  -- what is done of it
  pub text-served : is_open (attached_at h s.session) ≡ true → (new : Code) → Plays s.session p.session f text b new h g
      → ServesText s.session cfg.namespaces f text b new h g
  text-served up new plays =
      let w = was-served up in
      one-text s.session cfg.namespaces p.session f text b new h g w.who plays w.tables
      (ap (λ (v : Tables). v.namespaces) (plays-tables plays) ∙ w.tables) (it-rests up).served w.named up
      sent.settled
      (command_of (sent_by e p)) (subst (λ (ts : List ℕ). IsCommands ts (command_of (sent_by e p) ∷ [])) (sym sent.said)
      (laws (command_of (sent_by e p)) regular))
      (λ ks i. alone (command_of (sent_by e p)) ks regular (subst (λ (ts : List ℕ). IsCommands ts ks) sent.said i))
      (are-clients (request_by e (state_of p.client).client))

  module _ (up : is_open (attached_at h s.session) ≡ true) (new : Code) (session : CountsSession) (all : CountsAll)
      (fresh : AreFresh m.broker) (missing : Missing) where
    as-table : (j : Judged) → Judges cfg.namespaces false text j → Judges table false text j
    as-table j judges = subst (λ (n : NamespaceTable). Judges n false text j) (sym t.namespaces) judges

    as-new : (w : World) → new ≡ b → AreTied cfg table b hubs' peers' w → AreTied cfg table new hubs' peers' w
    as-new w same tied = subst (λ (v : Code). AreTied cfg table v hubs' peers' w) (sym same) tied

    by-judgement : (j : Judged) → Judges cfg.namespaces false text j → ServesAs s.session j b new h g
        → AreTied cfg table new hubs' peers' after
    by-judgement judged.Unheard judges serves = absurd serves
    by-judgement judged.Unreadable judges serves = absurd serves
    by-judgement judged.TooLong judges serves =
        as-new after serves.0 (by-the hubs' g u judged.TooLong false (not-up (is_open (attached_at h s.session)) up)
        (as-table judged.TooLong judges) serves.1)
    by-judgement (judged.Refused id code) judges serves =
        as-new after serves.0 (by-the hubs' g u (judged.Refused id code) false
        (not-up (is_open (attached_at h s.session)) up) (as-table (judged.Refused id code) judges) serves.1)
    by-judgement (judged.Granted k) judges serves =
        let on-its-way : IsSent cfg m x e hubs hubs peers peers' s k =
        by-the hubs h looked (judged.Granted k) false (not-up (is_open (attached_at h s.session)) up)
        (as-table (judged.Granted k) judges) refl in
        served t x e hubs peers' s k on-its-way stays calls moves new hubs' h g u serves back session all fresh missing

    pub text-done : Plays s.session p.session f text b new h g → AreTied cfg table new hubs' peers' after
        × AreServed cfg.namespaces hubs' peers'
    text-done plays =
        let st = text-served up new plays in
        (by-judgement st.judged st.judges st.serves, served-one are apart x s u st.others pv sits sits-now st.served)

-- a session that is closed hears nothing
pub text-unheard : {cfg : Config} {table : NamespaceTable} {b : Code} {hubs : Hubs}
    {peers peers' : List ℕ → Option Peer} {m : World}
    (t : AreTied cfg table b hubs peers m) (are : AreServed cfg.namespaces hubs peers) (x : List ℕ) (e : ClientCommand)
    (s : SessionAddress) {h : Node} {p q : Peer} (text : List ℕ)
    (was : hubs s.node ≡ Some h) (pv : PeerMoves x p q peers peers') (sits : p.address ≡ Some s)
    (sent : HasSent table b h s.session e p q text)
    (laws : (k : Command) → IsRegularCommand k → IsCommands (command_text k) (k ∷ []))
    (alone : (k : Command) (ks : List Command) → IsRegularCommand k → IsCommands (command_text k) ks → ks ≡ k ∷ [])
    (stays : Stays) (calls : (lists : PublicationLists) → CallsAreAlike lists)
    (moves : (lists : PublicationLists) → MovesAreAlike lists) (back : IsReadBack e)
    → is_open (attached_at h s.session) ≡ false → AreTied cfg table b hubs peers' (happens cfg m (event_by e x))
    × AreServed cfg.namespaces hubs peers'
text-unheard {hubs = hubs} {peers = peers} t are x e s {h} {p} {q} text was pv sits sent laws alone stays calls moves
    back down =
    let u : Moves s.node h h hubs hubs = record { was = was; now = was; others = λ j ne. refl } in (
      by-the t are x e s q.session text u pv sits sent laws alone stays calls moves back hubs h u judged.Unheard true
          (sym (ap not down)) refl refl,
      served-one are t.nodes.apart x s u (λ j ne. refl) pv sits (sent.address ∙ sits) (λ up. absurd (cc (down, up))),
    )
