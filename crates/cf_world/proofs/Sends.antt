-- What becomes of a command, up to where hub and broker are asked: it is as the machine has it.
use Rattle.std.proofs.Common.{◌≡◌, ◌↔◌, ◌∙◌, ◌&&◌, ℕ, nat_le, nat_lt, not, Bool, true, false, Option, Some, None}
use Rattle.std.proofs.Common.{is_some, List, [], ◌∷◌, length, inr, arith, refl, sym, ap, subst}
use Rattle.std.proofs.Math.Bool.{not-not}
use Rattle.std.proofs.lemmas.Bool.Decides.{nat_tests}
use Rattle.std.specs.Prelude.{IsTrue}
use Rattle.std.specs.List.{All}
use Rattle.cf_protocol.specs.Checks.{checks, first_failed, longest_text}
use Rattle.cf_protocol.specs.Codes.{code_of}
use Rattle.cf_protocol.specs.Frame.{IsCommands}
use Rattle.cf_protocol.specs.Note.{Fails}
use Rattle.cf_protocol.specs.Outgoing.{Failed}
use Rattle.cf_protocol.specs.Regular.{IsCode, IsRegularCommand}
use Rattle.cf_protocol.specs.Request.{Command}
use Rattle.cf_protocol.specs.Settings.{NamespaceTable}
use Rattle.cf_protocol.specs.Written.{command_text}
use Rattle.cf_protocol.specs.declared.codes.ErrorCode.{ErrorCode}
use Rattle.cf_protocol.specs.declared.codes.ErrorCode.TheVariants as error
use Rattle.cf_client.specs.ClientCalls.{State, call_fault}
use Rattle.cf_model.specs.Streams.{last_id}
use Rattle.cf_model.specs.Clients.{Client}
use Rattle.cf_client.specs.ClientView.{ClientView, state_of}
use Rattle.cf_hub.specs.AlikeMoves.{CallsAreAlike, MovesAreAlike}
use Rattle.cf_hub.specs.Hub.{Node, is_open}
use Rattle.cf_hub.specs.Rows.{sub_in}
use Rattle.cf_model.specs.Sessions.{is_unfinished}
use Rattle.cf_machine.specs.ClientLink.{ClientLink}
use Rattle.cf_machine.specs.ClientRequest.{ClientRequest, SentCommand, channel_of, command_of, request_of}
use Rattle.cf_machine.specs.Config.{Config}
use Rattle.cf_machine.specs.IntervalMachine.{command_by, exchange, happens, id_left, judgement, lacks_epoch}
use Rattle.cf_machine.specs.Weights.{command_length}
use Rattle.cf_machine.specs.World.{World}
use Rattle.cf_world.specs.ClientTie.{AsksFrom, IsOwn, NotSent, Sent, ShowsClient, ShowsPeer, request_by, sent_state}
use Rattle.cf_world.specs.ClientCommands.{IsReadBack, event_by}
use Rattle.cf_world.specs.Exchange.{asks_too_much, lacks_by, sent_by}
use Rattle.cf_session.specs.SessionMachine.{reply_text}
use Rattle.cf_world.specs.HubCalls.{AtHub, Told}
use Rattle.cf_world.specs.Judging.{Judges, Passes}
use Rattle.cf_world.specs.NodesTie.{IsAtAddress, ShowsNodes, session_at}
use Rattle.cf_world.specs.Sending.{IsSent}
use Rattle.cf_world.specs.Tie.{AreTied, addresses_of}
use Rattle.cf_world.specs.declared.broker.WorldBroker.{WorldBroker as Code}
use Rattle.cf_world.specs.declared.client_command.ClientCommand.{ClientCommand}
use Rattle.cf_world.specs.declared.client_command.ClientCommand.TheVariants as client_command
use Rattle.cf_world.specs.Judging.{Judged}
use Rattle.cf_world.specs.Judging as judged
use Rattle.cf_world.specs.declared.clients.Peer.{Peer}
use Rattle.cf_world.specs.declared.clients.SessionAddress.{SessionAddress}
use Rattle.cf_world.proofs.AtHubs.{ActsAt, HearsAt}
use Rattle.cf_world.proofs.Breaking.{addresses-with}
use Rattle.cf_world.proofs.Exchanged.{can_send, cannot_away, cannot_unready}
use Rattle.cf_world.proofs.Exchanging.{same-addresses}
use Rattle.cf_world.proofs.Going.{Stays}
use Rattle.cf_world.proofs.Hearing.{refused_goes, too_long_goes, unheard_goes}
use Rattle.cf_world.proofs.Looking.{open_at, waits_at}
use Rattle.cf_machine.proofs.Names.{with-all}
use Rattle.cf_world.proofs.NodesTie.{address_shows}
use Rattle.cf_world.proofs.Passing.{lacks_is, length_is}
use Rattle.cf_world.proofs.Saying.{says_fails}
use Rattle.cf_world.proofs.Sendable.{can_be_sent, fits, exchange_happens, is_settled, isn't_settled, left-of}
use Rattle.cf_world.proofs.Sendable.{not_opened, not_sent, nothing_happens}
use Rattle.cf_world.proofs.SentOwn.{calls-new, new-less, old_of}
use Rattle.cf_world.proofs.Served.{opens-away}
use Rattle.cf_world.proofs.Sitting.{client_here, address_here}

is_code : (code : ErrorCode) → IsCode (code_of code)
is_code error.Internal = (omega arith, omega arith)
is_code error.UnknownChannel = (omega arith, omega arith)
is_code error.PermissionDenied = (omega arith, omega arith)
is_code error.AlreadySubscribed = (omega arith, omega arith)
is_code error.LimitExceeded = (omega arith, omega arith)
is_code error.BadRequest = (omega arith, omega arith)
is_code error.NotAvailable = (omega arith, omega arith)
is_code error.UnrecoverablePosition = (omega arith, omega arith)

-- the command of a command is read back
fresh_code : (v : ClientView) → call_fault (state_of v) ≡ None → IsCode (state_of v).client.fresh
fresh_code v h =
    let left : nat_le (state_of v).client.fresh last_id ≡ true =
    left-of v.connected (nat_le (state_of v).client.fresh last_id) h in
    (omega arith, grind (arith, nat_tests, left))

pub is_regular : (e : ClientCommand) (v : ClientView) → call_fault (state_of v) ≡ None
    → AsksFrom (request_by e (state_of v).client) → IsReadBack e
    → IsRegularCommand (command_of (record {
      id = (state_of v).client.fresh;
      request = request_by e (state_of v).client;
    }))
is_regular (client_command.Ask channel) v left from back = (fresh_code v left, tt)
is_regular (client_command.AskFrom channel) v left from back = (fresh_code v left, from)
is_regular (client_command.Leave channel) v left from back = fresh_code v left
is_regular (client_command.Put channel key body) v left from back = (fresh_code v left, back)
is_regular (client_command.List channel limit) v left from back = (fresh_code v left, back, tt)

-- a command that passes, and lacks no epoch, asks for no more than there is
enough : (much checked fits shut : Bool) → ((much && (checked && fits)) && not shut) ≡ false → checked ≡ true
    → fits ≡ true → shut ≡ false → much ≡ false
enough false checked fits shut h i j k = refl
enough true true true false h i j k = h
enough true true true true h i j k = absurd (cc)
enough true true false shut h i j k = absurd (cc)
enough true false fits shut h i j k = absurd (cc)

first_is : (a b : Command) → a ∷ [] ≡ b ∷ [] → a ≡ b
first_is a b h = cc

-- what is read is not granted
abbrev pub IsAgainst : Judged → Type 0
IsAgainst judged.Unheard = Unit {0}
IsAgainst judged.TooLong = Unit {0}
IsAgainst judged.Unreadable = Unit {0}
IsAgainst (judged.Refused id code) = Unit {0}
IsAgainst (judged.Granted command) = ⊥

pub against_by : (j : Judged) → ((command : Command) → j ≡ judged.Granted command → ⊥) → IsAgainst j
against_by judged.Unheard h = tt
against_by judged.TooLong h = tt
against_by judged.Unreadable h = tt
against_by (judged.Refused id code) h = tt
against_by (judged.Granted command) h = h command refl

module _ {cfg : Config} {table : NamespaceTable} {b : Code} {hubs : ℕ → Option Node} {peers : List ℕ → Option Peer}
    {m : World}
    (t : AreTied cfg table b hubs peers m) (x : List ℕ) (e : ClientCommand) where
  abbrev l : ClientLink
  l = m.links x

  abbrev asked : ClientRequest
  asked = request_by e l.client

  stays_by : happens cfg m (event_by e x) ≡ m → AreTied cfg table b hubs peers (happens cfg m (event_by e x))
  stays_by h = subst (λ (w : World). AreTied cfg table b hubs peers w) (sym h) t

  pub no_address : addresses_of peers x ≡ None → AreTied cfg table b hubs peers (happens cfg m (event_by e x))
  no_address none = stays_by (nothing_happens cfg m x e (inr (cannot_away cfg x asked m (opens-away t x none).node)))

  module _ (s : SessionAddress) (sat : addresses_of peers x ≡ Some s) where
    address : IsAtAddress cfg.namespaces m.broker.lists (session_at hubs s) s.node l
    address = address_shows t.nodes x s sat

    -- whether all subscriptions of the session are finished, as its hub tells
    abbrev pub IsSettled : Bool → Type 0
    IsSettled settled = IsTrue settled ↔ ((c : List ℕ) → is_unfinished (sub_in (session_at hubs s) c) ≡ false)

    waits_here : (c : List ℕ) → is_unfinished (sub_in (session_at hubs s) c) ≡ is_unfinished (l.session.subs c)
    waits_here = waits_at m.broker.lists (session_at hubs s) l.session address.says

    quiet_by : (settled : Bool) → IsSettled settled → settled ≡ true → (c : List ℕ)
        → is_unfinished (l.session.subs c) ≡ false
    quiet_by settled is h c = sym (waits_here c) ∙ is.0 h c

    pub unsettled : (settled : Bool) → IsSettled settled → settled ≡ false
        → AreTied cfg table b hubs peers (happens cfg m (event_by e x))
    unsettled settled is h =
        stays_by (nothing_happens cfg m x e (inr (cannot_unready cfg x asked m
        (isn't_settled l address.listed (λ quiet. by_both settled h (is.1 (λ c. waits_here c ∙ quiet c)))))))
      where
        by_both : (v : Bool) → v ≡ false → IsTrue v → ⊥
        by_both true h k = absurd (cc)
        by_both false h k = absurd (cc)

    closed_here : not (is_open (session_at hubs s)) ≡ l.session.closed
    closed_here = ap not (open_at m.broker.lists (session_at hubs s) l.session address.says) ∙ not-not l.session.closed

    module _ (p : Peer) (found : peers x ≡ Some p) (sits : p.address ≡ Some s) where
      here : ShowsPeer p l
      here = client_here t x p found

      connected : (state_of p.client).connected ≡ true
      connected = here.connected ∙ ap is_some sits

      command_same : sent_by e p ≡ command_by x asked m
      command_same = ap (λ (v : Client). record { id = v.fresh; request = request_by e v }) here.client

      -- whether it lacks an epoch, as the parts tell
      abbrev pub Lacks : Bool → Type 0
      Lacks lacks = call_fault (state_of p.client) ≡ None → lacks ≡ lacks_by table (sent_by e p) m.broker

      lacks_by_parts : (lacks closed : Bool) → Lacks lacks → closed ≡ not (is_open (session_at hubs s))
          → call_fault (state_of p.client) ≡ None
          → (lacks && not closed) ≡ lacks_epoch (judgement cfg x asked m) asked m.broker
      lacks_by_parts lacks closed is shut none =
          (λ i. is none i && not (shut i))
          ∙ (λ i. lacks_by (t.namespaces i) (command_same i) m.broker && not (closed_here i))
          ∙ sym (lacks_is cfg m x asked)

      pub unopened : (lacks closed : Bool) → Lacks lacks → closed ≡ not (is_open (session_at hubs s))
          → (lacks && not closed) ≡ true → AreTied cfg table b hubs peers (happens cfg m (event_by e x))
      unopened lacks closed is shut h =
          stays_by (not_opened cfg m x e (state_of p.client) here.client connected
          (λ none. sym (lacks_by_parts lacks closed is shut none) ∙ h))

      -- a client that stays as it is
      pub unsent : (peers' : List ℕ → Option Peer) → NotSent e x p peers peers'
          → AreTied cfg table b hubs peers' (happens cfg m (event_by e x))
      unsent peers' n =
          subst (λ (w : World). AreTied cfg table b hubs peers' w)
          (sym (not_sent cfg m x e (state_of p.client) here.client connected n.refused)) (record {
            namespaces = t.namespaces;
            broker = t.broker;
            nodes = subst (λ (f : List ℕ → Option SessionAddress). ShowsNodes cfg hubs f m) (λ i y. sym (addresses y) i)
                t.nodes;
            clients = λ y. subst (λ (o : Option Peer). ShowsClient o (m.links y)) (sym (n.becomes.now y))
                (with-all (λ z (o : Option Peer). ShowsClient o (m.links z)) peers x
                (Some (record p { client = n.becomes.client; session = n.becomes.session })) same (λ z ne. t.clients z)
                y);
          })
        where
          addresses : (y : List ℕ) → addresses_of peers' y ≡ addresses_of peers y
          addresses y =
              addresses-with peers peers' x (record p { client = n.becomes.client; session = n.becomes.session })
              n.becomes.now y ∙ same-addresses peers x p.address (address_here peers x p found) y

          same : ShowsPeer (record p { client = n.becomes.client; session = n.becomes.session }) l
          same = record {
            client = ap (λ (v : State). v.client) n.becomes.state_is ∙ here.client;
            connected = ap (λ (v : State). v.connected) n.becomes.state_is ∙ here.connected;
            own = subst (λ (v : State). All (IsOwn v) l.session.notes) (sym n.becomes.state_is) here.own;
          }

      -- ---- it is sent

      module _ (laws : (k : Command) → IsRegularCommand k → IsCommands (command_text k) (k ∷ []))
          (alone : (k : Command) (ks : List Command) → IsRegularCommand k → IsCommands (command_text k) ks
          → ks ≡ k ∷ [])
          (stays : Stays) (calls : CallsAreAlike m.broker.lists) (moves : MovesAreAlike m.broker.lists)
          (back : IsReadBack e)
          (settled : Bool) (is-settled : IsSettled settled) (yes : settled ≡ true)
          (lacks closed : Bool) (is_lacks : Lacks lacks) (is_closed : closed ≡ not (is_open (session_at hubs s)))
          (opens : (lacks && not closed) ≡ false)
          (text : List ℕ) (peers' : List ℕ → Option Peer) (sent : Sent e x text p peers peers') where
        abbrev request : ClientRequest
        request = request_by e (state_of p.client).client

        abbrev k : SentCommand
        k = command_by x request m

        can : (fits e l.client ≡ true) × (id_left l ≡ true) × (call_fault (state_of p.client) ≡ None)
        can = can_be_sent cfg m x e (state_of p.client) here.client sent.allowed

        same_id : (state_of p.client).client.fresh ≡ l.client.fresh
        same_id = ap (λ (v : Client). v.fresh) here.client

        regular : IsRegularCommand (command_of k)
        regular = subst (λ (n : ℕ). IsRegularCommand (command_of (record { id = n; request = request }))) same_id
            (is_regular e p.client can.2 sent.since back)

        text_is : text ≡ command_text (command_of k)
        text_is = sent.said ∙ ap (λ (n : ℕ). command_text (command_of (record { id = n; request = request }))) same_id

        long_is : nat_lt longest_text (length text) ≡ nat_lt longest_text (command_length (command_of k))
        long_is = ap (nat_lt longest_text) (ap length text_is ∙ sym (length_is (command_of k)))

        quiet : (c : List ℕ) → is_unfinished (l.session.subs c) ≡ false
        quiet = quiet_by settled is-settled yes

        happens_is : happens cfg m (event_by e x) ≡ exchange cfg x request m
        happens_is =
            exchange_happens cfg m x e can.0
            (can_send cfg x asked m (is_settled l s.node address.at quiet) can.1 address.up
            (sym (lacks_by_parts lacks closed is_lacks is_closed can.2) ∙ opens))
            ∙ ap (λ (v : Client). exchange cfg x (request_by e v) m) (sym here.client)

        no_lack : lacks_epoch (judgement cfg x request m) request m.broker ≡ false
        no_lack =
            ap (λ (v : Client). lacks_epoch (judgement cfg x (request_by e v) m) (request_by e v) m.broker) here.client
            ∙ (sym (lacks_by_parts lacks closed is_lacks is_closed can.2) ∙ opens)

        -- what is read of the text is the command
        read_is : (c : Command) → IsCommands text (c ∷ []) → c ≡ command_of k
        read_is c said =
            first_is c (command_of k) (alone (command_of k) (c ∷ []) regular
            (subst (λ (ts : List ℕ). IsCommands ts (c ∷ [])) text_is said))

        mine : (code : ℕ) → IsOwn (sent_state request (state_of p.client)) (Fails (channel_of request) k.id code)
        mine code =
            subst (λ (n : ℕ). IsOwn (sent_state request (state_of p.client)) (Fails (channel_of request) n code))
            same_id
            (new-less (state_of p.client) request, calls-new (state_of p.client) request (old_of p.client sent.apart))

        module _ (hubs' : ℕ → Option Node) where
          by_judged : (j : Judged) (shut : Bool) → shut ≡ l.session.closed → Judges table shut text j
              → ActsAt s j hubs hubs' → IsAgainst j → AreTied cfg table b hubs' peers' (exchange cfg x request m)
          by_judged judged.Unheard shut is h acts a =
              unheard_goes t x s p found sits request peers' sent.becomes stays calls moves quiet (sym is ∙ h) hubs'
              acts
          by_judged judged.TooLong shut is h acts a =
              too_long_goes t x s p found sits request peers' sent.becomes stays calls moves quiet (sym is ∙ h.opened)
              (sym long_is ∙ h.long) hubs' acts
          by_judged judged.Unreadable shut is h acts a =
              absurd (h (command_of k) (subst (λ (ts : List ℕ). IsCommands ts (command_of k ∷ [])) (sym text_is)
              (laws (command_of k) regular)))
          by_judged (judged.Refused id code) shut is h acts a =
              let read : h.command ≡ command_of k = read_is h.command h.said in
              let id_is : id ≡ k.id = sym h.is ∙ ap (λ (c : Command). c.id) read in
              let failed : first_failed (checks cfg.namespaces (request_of request)) ≡ Some code =
              sym (λ i. first_failed (checks (t.namespaces i) (read i).request)) ∙ h.first in
              refused_goes t x s p found sits request peers' sent.becomes stays calls moves quiet (sym is ∙ h.opened)
              (sym long_is ∙ h.fits) code failed
              (reply_text k.id (Failed (code_of code))) (says_fails m.broker.lists k.id
              (subst IsCode same_id (fresh_code p.client can.2)) (channel_of request) (code_of code) (is_code code))
              (mine (code_of code))
              hubs' (subst (λ (n : ℕ). AtHub s.node (Told s.session (reply_text n (Failed (code_of code)))) hubs hubs')
              id_is acts)
          by_judged (judged.Granted command) shut is h acts a = absurd a

          pub against : (j : Judged) → HearsAt table s text hubs hubs' j → IsAgainst j
              → AreTied cfg table b hubs' peers' (happens cfg m (event_by e x))
          against j h a =
              subst (λ (w : World). AreTied cfg table b hubs' peers' w) (sym happens_is)
              (by_judged j h.closed (h.is_closed ∙ closed_here) h.judges h.acts a)

          pub granted : (command : Command) → HearsAt table s text hubs hubs' (judged.Granted command)
              → IsSent cfg m x e hubs hubs' peers peers' s command
          granted command h =
              let passes : Passes table h.closed text command = h.judges in
              let read : command ≡ command_of k = read_is command passes.said in
              let opened : l.session.closed ≡ false = sym (h.is_closed ∙ closed_here) ∙ passes.opened in
              let fits : nat_lt longest_text (command_length (command_of k)) ≡ false = sym long_is ∙ passes.fits in
              let checked : first_failed (checks cfg.namespaces (request_of request)) ≡ None =
              sym (λ i. first_failed (checks (t.namespaces i) (read i).request)) ∙ passes.none in
              record {
                peer = p;
                found = found;
                sits = sits;
                becomes = sent.becomes;
                same = h.acts;
                granted = record {
                  left = can.1;
                  apart = sent.apart;
                  quiet = quiet;
                  opened = opened;
                  fits = fits;
                  checked = checked;
                };
                opens = enough (asks_too_much request m.broker)
                    (not (is_some (first_failed (checks cfg.namespaces (request_of request)))))
                    (not (nat_lt longest_text (length (command_text (command_of k))))) l.session.closed
                    (sym (lacks_is cfg m x request) ∙ no_lack) (ap (λ (o : Option ErrorCode). not (is_some o)) checked)
                    (ap (λ (n : ℕ). not (nat_lt longest_text n)) (sym (length_is (command_of k))) ∙ ap not fits) opened;
                is = read;
                happens = happens_is;
              }
