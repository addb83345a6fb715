-- A client sends a command, and its node hears it and does what speaks against it: the world goes on with the machine.
use Rattle.std.proofs.Common.{◌≡◌, ◌∙◌, ℕ, nat_lt, Bool, true, false, if◌then◌else◌, Option, Some, None, List, [], ◌∷◌}
use Rattle.std.proofs.Common.{inl, inr, refl, sym, ap, subst}
use Rattle.std.specs.List.{All}
use Rattle.std.proofs.lemmas.Bool.{true_from_ne_false}
use Rattle.std.proofs.lemmas.List.Elements.{All-append}
use Rattle.cf_protocol.specs.Checks.{checks, first_failed, is_bad_channel, longest_text}
use Rattle.cf_protocol.specs.Codes.{code_of}
use Rattle.cf_protocol.specs.Names.{with}
use Rattle.cf_protocol.specs.Note.{Note, Close, Fails}
use Rattle.cf_protocol.specs.Settings.{NamespaceTable}
use Rattle.cf_protocol.specs.declared.codes.ErrorCode.{ErrorCode}
use Rattle.cf_protocol.specs.declared.codes.ErrorCode.TheVariants as error
use Rattle.cf_client.specs.ClientCalls.{State}
use Rattle.cf_client.specs.ClientView.{state_of}
use Rattle.cf_hub.specs.AlikeMoves.{CallsAreAlike, MovesAreAlike}
use Rattle.cf_hub.specs.Hub.{Node}
use Rattle.cf_hub.specs.InNotes.{IsSaid}
use Rattle.cf_model.specs.Sessions.{Off, closes, closes_now, is_off, is_unfinished, leaves, push}
use Rattle.cf_model.specs.Sessions.{spoken}
use Rattle.cf_machine.specs.ClientLink.{ClientLink}
use Rattle.cf_machine.specs.ClientRequest.{ClientRequest, SentCommand, Subscribe, Unsubscribe, Publish, History}
use Rattle.cf_machine.specs.ClientRequest.{channel_of, command_of, request_of}
use Rattle.cf_machine.specs.Config.{Config}
use Rattle.cf_machine.specs.IntervalMachine.{command_by, exchange}
use Rattle.cf_machine.specs.PublicationList.{Broker}
use Rattle.cf_machine.specs.Refusals.{Unheard, TooLong, Refused, bad_message}
use Rattle.cf_machine.specs.Session.{Session}
use Rattle.cf_machine.specs.Weights.{command_length}
use Rattle.cf_machine.specs.World.{World}
use Rattle.cf_world.specs.ClientTie.{Becomes, IsOwn, sent_state}
use Rattle.cf_world.specs.HubCalls.{AreSame, AtHub, Closed, Told}
use Rattle.cf_world.specs.NodesTie.{IsAtAddress, session_at}
use Rattle.cf_world.specs.Tie.{AreTied}
use Rattle.cf_world.specs.declared.broker.WorldBroker.{WorldBroker as Code}
use Rattle.cf_world.specs.declared.clients.Peer.{Peer}
use Rattle.cf_world.specs.declared.clients.SessionAddress.{SessionAddress}
use Rattle.cf_world.proofs.Answering.{answer_goes, close_goes, goes_by, judged_by_checks, judged_too_long}
use Rattle.cf_world.proofs.Answering.{judged_unheard}
use Rattle.cf_world.proofs.BoardLists.{grown-refl}
use Rattle.cf_world.proofs.Ends.{stays_keeps}
use Rattle.cf_world.proofs.Exchanged.{after, exchange_as, met, met_refused, met_too_long, met_unheard, passed_over}
use Rattle.cf_world.proofs.Exchanging.{exchange_goes, sat}
use Rattle.cf_world.proofs.Going.{Stays}
use Rattle.cf_world.proofs.Looking.{off_is}
use Rattle.cf_world.proofs.Named.{all-one}
use Rattle.cf_machine.proofs.Names.{text_tells}
use Rattle.cf_world.proofs.NodesTie.{address_shows}
use Rattle.cf_world.proofs.SentOwn.{own_sent}
use Rattle.cf_world.proofs.Sitting.{client_here, hub_there}

-- ---- a session that is left, and had no such channel

left_same : (c : List ℕ) (d : Session) → is_off (d.subs c) ≡ true → leaves c d ≡ d
left_same c d h = λ i. record d { subs = λ y. by_name y i }
  where
    by_name : (y : List ℕ) → with d.subs c Off y ≡ d.subs y
    by_name y = elim (text_tells y c) [
      | inl q ↦ rw q.0 (sym (ap d.subs q.1 ∙ off_is (d.subs c) h))
      | inr q ↦ rw q.0 refl
    ]

-- a command that is left undone leaves the session as it is, where a channel that it would leave is off
abbrev pub HasNoChannel : ClientRequest → Session → Type 0
HasNoChannel (Subscribe c from) d = Unit {0}
HasNoChannel (Unsubscribe c) d = is_off (d.subs c) ≡ true
HasNoChannel (Publish c key body) d = Unit {0}
HasNoChannel (History c limit) d = Unit {0}

passed_same : (e : ClientRequest) (d : Session) → HasNoChannel e d → passed_over e d ≡ d
passed_same (Subscribe c from) d h = refl
passed_same (Unsubscribe c) d h = left_same c d h
passed_same (Publish c key body) d h = refl
passed_same (History c limit) d h = refl

closes_same : (n : Note) (e : ClientRequest) (d : Session) → d.closed ≡ false
    → closes_now n (passed_over e d) ≡ closes_now n d
closes_same n (Subscribe c from) d h = refl
closes_same n (Unsubscribe c) d h = rw h refl
closes_same n (Publish c key body) d h = refl
closes_same n (History c limit) d h = refl

closes_own : (s : State) (n : Note) (d : Session) → IsOwn s n → All (IsOwn s) d.notes
    → All (IsOwn s) (closes_now n d).notes
closes_own s n d mine k = by_value d.closed
  where
    by_value : (shut : Bool) → All (IsOwn s) (if shut then d else closes n d).notes
    by_value true = k
    by_value false = All-append (IsOwn s) d.notes (n ∷ []) k (all-one (IsOwn s) n mine)

-- ---- names that are bad

bad_name : (bad : Bool) (e : ErrorCode) → (if bad then Some error.BadRequest else None) ≡ Some e → bad ≡ true
bad_name true e h = refl
bad_name false e h = absurd (cc)

module _ {cfg : Config} {table : NamespaceTable} {b : Code} {hubs : ℕ → Option Node} {peers : List ℕ → Option Peer}
    {m : World}
    (t : AreTied cfg table b hubs peers m) (x : List ℕ) (s : SessionAddress) (p : Peer) (found : peers x ≡ Some p)
    (sits : p.address ≡ Some s)
    (e : ClientRequest) (peers' : List ℕ → Option Peer)
    (becomes : Becomes x p (sent_state e (state_of p.client)) peers peers')
    (stays : Stays) (calls : CallsAreAlike m.broker.lists) (moves : MovesAreAlike m.broker.lists)
    (quiet : (c : List ℕ) → is_unfinished ((m.links x).session.subs c) ≡ false) where
  abbrev k : SentCommand
  k = command_by x e m

  address : IsAtAddress cfg.namespaces m.broker.lists (session_at hubs s) s.node (m.links x)
  address = address_shows t.nodes x s (sat t x s p found sits k peers' becomes)

  own : All (IsOwn (sent_state e (state_of p.client))) (m.links x).session.notes
  own = own_sent (state_of p.client) e (m.links x).session.notes (client_here t x p found).own

  -- the world after it, with this broker and this session
  abbrev turned : Broker → Session → World
  turned broker d = record m { broker = broker; links = with m.links x (after k d (m.links x).channels (m.links x)) }

  with_link : (l l' : ClientLink) → l ≡ l' → ◌≡◌ {A = World} (record m { links = with m.links x l })
      (record m { links = with m.links x l' })
  with_link l l' is = ap (λ (v : ClientLink). record m { links = with m.links x v }) is

  -- the session stays as it is
  rests : (hubs' : ℕ → Option Node) → AreSame hubs hubs'
      → AreTied cfg table b hubs' peers' (turned m.broker (m.links x).session)
  rests hubs' same =
      let there = hub_there t x s (sat t x s p found sits k peers' becomes) in
      let node = t.nodes.hub s.node there.0 there.1 in
      exchange_goes t x s p found sits k peers' becomes stays b m.broker (grown-refl m.broker.lists) t.broker
      there.0 there.0 there.1 hubs' (same s.node ∙ there.1) (λ j ne. same j)
      (record { node = refl; boot = refl; used = refl }) node.refused (λ j ne. refl) refl (m.links x).session
      (m.links x).channels
      (goes_by t x s p found sits k peers' becomes stays b m.broker (grown-refl m.broker.lists) t.broker calls moves
      (λ d. d) stays_keeps)
      own (λ says. says)

  -- THE SESSION IS CLOSED
  shut_off : (e : ClientRequest) → (m.links x).session.closed ≡ true → HasNoChannel e (m.links x).session
  shut_off (Subscribe c from) h = tt
  shut_off (Unsubscribe c) h = address.shut h c
  shut_off (Publish c key body) h = tt
  shut_off (History c limit) h = tt

  pub unheard_goes : (m.links x).session.closed ≡ true → (hubs' : ℕ → Option Node) → AreSame hubs hubs'
      → AreTied cfg table b hubs' peers' (exchange cfg x e m)
  unheard_goes closed hubs' same =
      let l : ClientLink = m.links x in
      let is = met_unheard m.broker.lists m.broker k.id l e (quiet (channel_of e))
      ∙ ap (λ (d : Session). after k d l.channels l) (passed_same e l.session (shut_off e closed)) in
      subst (λ (w : World). AreTied cfg table b hubs' peers' w)
      (sym (exchange_as cfg x e m Unheard (judged_unheard cfg m l k closed)
      ∙ with_link (met m.broker.lists m.broker k Unheard l) (after k l.session l.channels l) is))
      (rests hubs' same)

  module _ (opened : (m.links x).session.closed ≡ false) where
    -- THE TEXT IS TOO LONG
    pub too_long_goes : nat_lt longest_text (command_length (command_of k)) ≡ true → (hubs' : ℕ → Option Node)
        → AtHub s.node (Closed s.session bad_message) hubs hubs' → AreTied cfg table b hubs' peers' (exchange cfg x e m)
    too_long_goes long hubs' at =
        let l : ClientLink = m.links x in
        let is = met_too_long m.broker.lists m.broker k.id l e (quiet (channel_of e))
        ∙ ap (λ (d : Session). after k d l.channels l) (closes_same (Close bad_message) e l.session opened) in
        subst (λ (w : World). AreTied cfg table b hubs' peers' w)
        (sym (exchange_as cfg x e m TooLong (judged_too_long cfg m l k opened long)
        ∙ with_link (met m.broker.lists m.broker k TooLong l)
        (after k (closes_now (Close bad_message) l.session) l.channels l) is))
        (close_goes t x s p found sits k peers' becomes stays b m.broker (grown-refl m.broker.lists) t.broker calls
        moves bad_message
        (closes_own (sent_state e (state_of p.client)) (Close bad_message) l.session tt own) hubs' at)

    -- A CHECK FAILED
    no_channel : (e : ClientRequest) (code : ErrorCode)
        → first_failed (checks cfg.namespaces (request_of e)) ≡ Some code → HasNoChannel e (m.links x).session
    no_channel (Subscribe c from) code h = tt
    no_channel (Unsubscribe c) code h =
        true_from_ne_false (is_off ((m.links x).session.subs c))
        (λ on. let served = address.served c on in let bad = bad_name (is_bad_channel c) code h in not_both
        (is_bad_channel c) _ bad served)
      where
        not_both : (bad : Bool) (rest : Option ErrorCode) → bad ≡ true
            → (if bad then Some error.BadRequest else rest) ≡ None → ⊥
        not_both true rest h k = absurd (cc)
        not_both false rest h k = absurd (cc)
    no_channel (Publish c key body) code h = tt
    no_channel (History c limit) code h = tt

    pub refused_goes : nat_lt longest_text (command_length (command_of k)) ≡ false → (code : ErrorCode)
        → first_failed (checks cfg.namespaces (request_of e)) ≡ Some code
        → (text : List ℕ) → IsSaid m.broker.lists text (Fails (channel_of e) k.id (code_of code))
        → IsOwn (sent_state e (state_of p.client)) (Fails (channel_of e) k.id (code_of code))
        → (hubs' : ℕ → Option Node) → AtHub s.node (Told s.session text) hubs hubs'
        → AreTied cfg table b hubs' peers' (exchange cfg x e m)
    refused_goes fits code failed text said mine hubs' at =
        let l : ClientLink = m.links x in
        let n : Note = Fails (channel_of e) k.id (code_of code) in
        let is = met_refused m.broker.lists m.broker k.id l e (code_of code) (quiet (channel_of e))
        ∙ ap (λ (d : Session). after k (push (spoken m.broker.lists) n d) l.channels l)
        (passed_same e l.session (no_channel e code failed)) in
        subst (λ (w : World). AreTied cfg table b hubs' peers' w)
        (sym (exchange_as cfg x e m (Refused (code_of code)) (judged_by_checks cfg m l k code opened fits failed)
        ∙ with_link (met m.broker.lists m.broker k (Refused (code_of code)) l)
        (after k (push (spoken m.broker.lists) n l.session) l.channels l) is))
        (answer_goes t x s p found sits k peers' becomes stays b m.broker (grown-refl m.broker.lists) t.broker calls
        moves text n said mine hubs' at)
