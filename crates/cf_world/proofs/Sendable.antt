-- Whether a client can carry out a command, by its own fault, by its session, and by the machine's condition.
use Rattle.std.proofs.Common.{◌≡◌, ◌≢◌, ◌⊎◌, inl, inr, ◌∙◌, ◌&&◌, ◌||◌, ℕ, not, Bool, true, false, if◌then◌else◌}
use Rattle.std.proofs.Common.{Option, Some, None, is_some, List, [], ◌∷◌, nat_le, refl, sym, ap, subst}
use Rattle.std.proofs.lemmas.Bool.{and_left, and_right}
use Rattle.cf_protocol.specs.Names.{is_among}
use Rattle.cf_client.specs.ClientCalls.{State, call_fault}
use Rattle.cf_model.specs.Streams.{last_id}
use Rattle.cf_model.specs.Clients.{Client, is_idle}
use Rattle.cf_client.specs.declared.fault.ClientFault.{ClientFault}
use Rattle.cf_client.specs.declared.fault.ClientFault.TheVariants.{NotNow, AtLastId}
use Rattle.cf_model.specs.Sessions.{Off, Asked, Ready, On, is_off, is_unfinished}
use Rattle.cf_machine.specs.ClientLink.{ClientLink}
use Rattle.cf_machine.specs.ClientRequest.{ClientRequest}
use Rattle.cf_machine.specs.Config.{Config}
use Rattle.cf_machine.specs.IntervalMachine.{allows, can_command, effect, exchange, happens, id_left, judgement}
use Rattle.cf_machine.specs.IntervalMachine.{lacks_epoch}
use Rattle.cf_machine.specs.Session.{Sub}
use Rattle.cf_machine.specs.World.{World, any_unfinished, is_ready}
use Rattle.cf_world.specs.ClientTie.{request_by, send_fault}
use Rattle.cf_world.specs.ClientCommands.{event_by}
use Rattle.cf_world.specs.declared.client_command.ClientCommand.{ClientCommand}
use Rattle.cf_world.specs.declared.client_command.ClientCommand.TheVariants as client_command
use Rattle.cf_world.proofs.Exchanged.{cannot_by_epoch, cannot_by_id}
use Rattle.cf_machine.proofs.Names.{text_tells}

-- whether the channel's mode is one in which the command can be carried out
abbrev pub fits : ClientCommand → Client → Bool
fits (client_command.Ask channel) v = is_idle (v.modes channel.now)
fits (client_command.AskFrom channel) v = is_idle (v.modes channel.now)
fits (client_command.Leave channel) v = not (is_idle (v.modes channel.now))
fits (client_command.Put channel key body) v = true
fits (client_command.List channel limit) v = true

abbrev fault_by : Bool → Option ClientFault → Option ClientFault
fault_by mode rest = if mode then rest else Some NotNow

turned : (idle : Bool) (rest : Option ClientFault) → (if idle then Some NotNow else rest) ≡ fault_by (not idle) rest
turned true rest = refl
turned false rest = refl

fault_is : (e : ClientCommand) (s : State) → send_fault e s ≡ fault_by (fits e s.client) (call_fault s)
fault_is (client_command.Ask channel) s = refl
fault_is (client_command.AskFrom channel) s = refl
fault_is (client_command.Leave channel) s = turned (is_idle (s.client.modes channel.now)) (call_fault s)
fault_is (client_command.Put channel key body) s = refl
fault_is (client_command.List channel limit) s = refl

none_by : (mode : Bool) (rest : Option ClientFault) → fault_by mode rest ≡ None → (mode ≡ true) × (rest ≡ None)
none_by true rest h = (refl, h)
none_by false rest h = absurd (cc)

some_by : (mode : Bool) (rest : Option ClientFault) → fault_by mode rest ≢ None → (mode ≡ false) ⊎ (rest ≢ None)
some_by true rest h = inr h
some_by false rest h = inl refl

pub left-of : (connected left : Bool) → (if not connected then Some NotNow else if left then None else Some AtLastId)
    ≡ None → left ≡ true
left-of true true h = refl
left-of true false h = absurd (cc)
left-of false left h = absurd (cc)

lacks-of : (connected left : Bool) → connected ≡ true
    → (if not connected then Some NotNow else if left then None else Some AtLastId) ≢ None → left ≡ false
lacks-of true true c h = absurd (h refl)
lacks-of true false c h = refl
lacks-of false left c h = absurd (cc)

-- ---- the machine's event of a command

module _ (cfg : Config) (m : World) (x : List ℕ) (e : ClientCommand) where
  abbrev asked : ClientRequest
  asked = request_by e (m.links x).client

  allows_is : allows cfg m (event_by e x) ≡ (fits e (m.links x).client && can_command cfg x asked m)
  allows_is = by_command e
    where
      by_command : (v : ClientCommand) → allows cfg m (event_by v x)
          ≡ (fits v (m.links x).client && can_command cfg x (request_by v (m.links x).client) m)
      by_command (client_command.Ask channel) = refl
      by_command (client_command.AskFrom channel) = refl
      by_command (client_command.Leave channel) = refl
      by_command (client_command.Put channel key body) = refl
      by_command (client_command.List channel limit) = refl

  effect_is : (v : ClientCommand) → effect cfg m (event_by v x) ≡ exchange cfg x (request_by v (m.links x).client) m
  effect_is (client_command.Ask channel) = refl
  effect_is (client_command.AskFrom channel) = refl
  effect_is (client_command.Leave channel) = refl
  effect_is (client_command.Put channel key body) = refl
  effect_is (client_command.List channel limit) = refl

  -- the command can't be sent, or its mode doesn't fit
  pub nothing_happens : (fits e (m.links x).client ≡ false) ⊎ (can_command cfg x asked m ≡ false)
      → happens cfg m (event_by e x) ≡ m
  nothing_happens (inl h) =
      ap (λ (v : Bool). if v then effect cfg m (event_by e x) else m)
      (allows_is ∙ and_left (fits e (m.links x).client) (can_command cfg x asked m) h)
  nothing_happens (inr h) =
      ap (λ (v : Bool). if v then effect cfg m (event_by e x) else m)
      (allows_is ∙ and_right (fits e (m.links x).client) (can_command cfg x asked m) h)

  pub exchange_happens : fits e (m.links x).client ≡ true → can_command cfg x asked m ≡ true
      → happens cfg m (event_by e x) ≡ exchange cfg x asked m
  exchange_happens f g =
      ap (λ (v : Bool). if v then effect cfg m (event_by e x) else m)
      (allows_is ∙ (λ i. f i && can_command cfg x asked m) ∙ g)
      ∙ effect_is e

  module _ (s : State) (same : s.client ≡ (m.links x).client) where
    left_same : nat_le s.client.fresh last_id ≡ id_left (m.links x)
    left_same = ap (λ (v : Client). nat_le v.fresh last_id) same

    -- what a client that could send it has
    pub can_be_sent : send_fault e s ≡ None → (fits e (m.links x).client ≡ true) × (id_left (m.links x) ≡ true)
        × (call_fault s ≡ None)
    can_be_sent h =
        let both = none_by (fits e s.client) (call_fault s) (sym (fault_is e s) ∙ h) in (
          ap (fits e) (sym same) ∙ both.0,
          sym left_same ∙ left-of s.connected (nat_le s.client.fresh last_id) both.1,
          both.1,
        )

    -- and where it couldn't
    pub not_sent : s.connected ≡ true → send_fault e s ≢ None → happens cfg m (event_by e x) ≡ m
    not_sent connected h = elim (some_by (fits e s.client) (call_fault s) (λ none. h (fault_is e s ∙ none))) [
      | inl f ↦ nothing_happens (inl (ap (fits e) (sym same) ∙ f))
      | inr f ↦ nothing_happens (inr (cannot_by_id cfg x asked m
          (sym left_same ∙ lacks-of s.connected (nat_le s.client.fresh last_id) connected f)))
    ]

    -- no id is left, or a stream would have to be opened
    pub not_opened : s.connected ≡ true → (call_fault s ≡ None
        → lacks_epoch (judgement cfg x asked m) asked m.broker ≡ true) → happens cfg m (event_by e x) ≡ m
    not_opened connected h = nothing_happens (inr (by_fault (call_fault s) refl))
      where
        by_fault : (o : Option ClientFault) → call_fault s ≡ o → can_command cfg x asked m ≡ false
        by_fault None f = cannot_by_epoch cfg x asked m (h f)
        by_fault (Some fault) f =
            cannot_by_id cfg x asked m (sym left_same ∙ lacks-of s.connected (nat_le s.client.fresh last_id) connected
            (λ none. let no' : Some fault ≡ None = sym f ∙ none in absurd (cc)))

-- ---- a session of which no channel waits for its reply

unasked : (v : Sub) → is_off v ≡ true → is_unfinished v ≡ false
unasked Off h = refl
unasked (Asked id since b) h = absurd (cc)
unasked (Ready id was r b) h = absurd (cc)
unasked (On p behind_at) h = refl

module _ (l : ClientLink) where
  none_waits : ((c : List ℕ) → is_unfinished (l.session.subs c) ≡ false) → (cs : List (List ℕ))
      → any_unfinished l.session.subs cs ≡ false
  none_waits quiet [] = refl
  none_waits quiet (c ∷ cs) = rw (quiet c) (none_waits quiet cs)

  pub is_settled : (n : ℕ) → l.node ≡ Some n → ((c : List ℕ) → is_unfinished (l.session.subs c) ≡ false)
      → is_ready l ≡ true
  is_settled n at quiet = rw at (ap not (none_waits quiet l.channels))

  or_both : (a b : Bool) → (a || b) ≡ false → (a ≡ false) × (b ≡ false)
  or_both true b h = absurd (cc)
  or_both false b h = (refl, h)

  waits_among : (cs : List (List ℕ)) → any_unfinished l.session.subs cs ≡ false → (c : List ℕ) → is_among c cs ≡ true
      → is_unfinished (l.session.subs c) ≡ false
  waits_among [] h c among = absurd (cc)
  waits_among (d ∷ cs) h c among =
      let both = or_both (is_unfinished (l.session.subs d)) (any_unfinished l.session.subs cs) h in
      elim (text_tells d c) [
        | inl q ↦ subst (λ (y : List ℕ). is_unfinished (l.session.subs y) ≡ false) q.1 both.0
        | inr q ↦ waits_among cs both.1 c (rw q.0 at among)
      ]

  pub isn't_settled : ((c : List ℕ) → is_off (l.session.subs c) ≡ false → is_among c l.channels ≡ true)
      → (((c : List ℕ) → is_unfinished (l.session.subs c) ≡ false) → ⊥) → is_ready l ≡ false
  isn't_settled listed waits = by_value (is_some l.node) (any_unfinished l.session.subs l.channels) refl
    where
      finished : any_unfinished l.session.subs l.channels ≡ false → (c : List ℕ) → (off : Bool)
          → is_off (l.session.subs c) ≡ off → is_unfinished (l.session.subs c) ≡ false
      finished h c true e = unasked (l.session.subs c) e
      finished h c false e = waits_among l.channels h c (listed c e)

      by_value : (node any : Bool) → any_unfinished l.session.subs l.channels ≡ any → (node && not any) ≡ false
      by_value true true h = refl
      by_value true false h = absurd (waits (λ c. finished h c (is_off (l.session.subs c)) refl))
      by_value false any h = refl
