-- What a command has that passes its checks, and whether it would open a stream while no epoch waits.
use Rattle.std.proofs.Common.{◌≡◌, ℕ, ℤ, ◌&&◌, ◌||◌, not, nat_lt, Bool, true, false, if◌then◌else◌, is_some, IsSome}
use Rattle.std.proofs.Common.{Option, Some, None, option_map, List, [], ◌∷◌, refl, sym, ap, ◌∙◌, length}
use Rattle.std.proofs.Math.Bool.{and-false, and-true}
use Rattle.std.proofs.lemmas.Bool.{and_right, not-false, not-true}
use Rattle.cf_protocol.specs.Checks.{Check, Refusal, AtLastOffset, checks, first_failed, is_bad_channel, is_bad_data}
use Rattle.cf_protocol.specs.Checks.{is_bad_key, longest_text, refusal_code, set_up, well_named}
use Rattle.cf_protocol.specs.Request as request
use Rattle.cf_protocol.specs.Request.{Command}
use Rattle.cf_protocol.specs.Settings.{NamespaceTable, settings_of}
use Rattle.cf_protocol.specs.Written.{command_text}
use Rattle.cf_protocol.specs.declared.codes.ErrorCode.{ErrorCode}
use Rattle.cf_model.specs.Clients.{Client}
use Rattle.cf_client.specs.ClientView.{state_of}
use Rattle.cf_model.specs.Streams.{StreamState}
use Rattle.cf_machine.specs.ClientLink.{ClientLink}
use Rattle.cf_machine.specs.ClientRequest.{ClientRequest, SentCommand, Subscribe, Unsubscribe, Publish, History}
use Rattle.cf_machine.specs.ClientRequest.{command_of, request_of}
use Rattle.cf_machine.specs.Config.{Config}
use Rattle.cf_machine.specs.IntervalMachine.{command_by, judgement, lacks_epoch}
use Rattle.cf_machine.specs.PublicationList.{Broker, at_last_offset, can_open, is_full, is_repeat, stands_or_opens}
use Rattle.cf_machine.specs.Refusals.{Accepted, TooLong, Unheard, refusal_of, refused_with}
use Rattle.cf_machine.specs.Weights.{command_length}
use Rattle.cf_machine.specs.World.{World}
use Rattle.cf_world.specs.ClientTie.{request_by}
use Rattle.cf_world.specs.Exchange.{asks_too_much, lacks_by, passes, sent_by}
use Rattle.cf_world.specs.NodesTie.{MayAsk}
use Rattle.cf_world.specs.declared.client_command.ClientCommand.{ClientCommand}
use Rattle.cf_world.specs.declared.clients.Peer.{Peer}

pub length_is : (k : Command) → command_length k ≡ length (command_text k)
unfolding command_length
length_is k = refl

-- ---- no check fails

first-passes : (b : Bool) (e : ErrorCode) (rest : Option ErrorCode) → (if b then Some e else rest) ≡ None → (b ≡ false)
    × (rest ≡ None)
first-passes true e rest h = absurd (cc)
first-passes false e rest h = (refl, h)

passed : (c : Check) (cs : List Check) → (if c.0 then Some c.1 else first_failed cs) ≡ None → (c.0 ≡ false)
    × (first_failed cs ≡ None)
passed c cs h = first-passes c.0 c.1 (first_failed cs) h

module _ (table : NamespaceTable) (c : List ℕ) where
  pub well-named : MayAsk table c → is_bad_channel c ≡ false
  well-named h = (passed (well_named table c) (set_up table c ∷ []) h).0

  pub set-up : MayAsk table c → IsSome (settings_of table c)
  set-up h = not-false (is_some (settings_of table c))
      (passed (set_up table c) [] (passed (well_named table c) (set_up table c ∷ []) h).1).0

asks-too : (a b : Bool) (e f : ErrorCode) (rest : Option ErrorCode)
    → (if a then Some e else if b then Some f else rest) ≡ None
    → (if a then Some e else if b then Some f else None) ≡ None
asks-too true b e f rest h = absurd (cc)
asks-too false true e f rest h = absurd (cc)
asks-too false false e f rest h = refl

-- a history or a publish that passes its checks has settings
pub list-set-up : (table : NamespaceTable) (c : List ℕ) (limit : ℤ)
    → first_failed (checks table (request_of (History c limit))) ≡ None → IsSome (settings_of table c)
list-set-up table c limit h = set-up table c (asks-too (is_bad_channel c) (not (is_some (settings_of table c))) _ _ _ h)

pub publish-set-up : (table : NamespaceTable) (c key body : List ℕ)
    → first_failed (checks table (request_of (Publish c key body))) ≡ None → IsSome (settings_of table c)
publish-set-up table c key body h =
    let named = first-passes (is_bad_channel c) _ _ h in
    let short = first-passes (is_bad_key key || is_bad_data (request.Body body)) _ _ named.1 in
    not-false (is_some (settings_of table c)) (first-passes (not (is_some (settings_of table c))) _ _ short.1).0

-- ---- it would open a stream while no epoch waits

-- a stream that can't be opened isn't full
unopened : (o : Option StreamState) (es : List (List ℕ)) → stands_or_opens o es ≡ false → is_full o ≡ false
unopened None es h = refl
unopened (Some s) es h = absurd (cc)

module _ (l : ClientLink) (w : World) where
  -- hub and broker refuse no such command
  unrefused : (e : ClientRequest) → asks_too_much e w.broker ≡ true → refusal_of e l w ≡ None
  unrefused (Subscribe c from) h = absurd (cc)
  unrefused (Unsubscribe c) h = absurd (cc)
  unrefused (Publish c key body) h =
      ap (λ (b : Bool). if b then Some AtLastOffset else None)
      (and_right (not (is_repeat c key w.broker)) (at_last_offset c w.broker)
      (unopened (w.broker.streams c) w.broker.waiting (not-true (can_open c w.broker) h)))
  unrefused (History c limit) h = refl

accepted-lacks : (e : ClientRequest) (b : Broker) → lacks_epoch Accepted e b ≡ asks_too_much e b
accepted-lacks (Subscribe c from) b = refl
accepted-lacks (Unsubscribe c) b = refl
accepted-lacks (Publish c key body) b = refl
accepted-lacks (History c limit) b = refl

module _ (e : ClientRequest) (b : Broker) where
  by_checks : (first : Option ErrorCode) (mine : Option Refusal) → (asks_too_much e b ≡ true → mine ≡ None)
      → lacks_epoch (refused_with first (refused_with (option_map refusal_code mine) Accepted)) e b
      ≡ (asks_too_much e b && (not (is_some first) && true))
  by_checks (Some f) mine h = sym (and-false (asks_too_much e b))
  by_checks None None h = accepted-lacks e b ∙ sym (and-true (asks_too_much e b))
  by_checks None (Some r) h = by_value (asks_too_much e b) refl
    where
      by_value : (t : Bool) → asks_too_much e b ≡ t → false ≡ (t && true)
      by_value true i = absurd (let none = h i in cc)
      by_value false i = refl

  by_judgement : (closed long : Bool) (first : Option ErrorCode) (mine : Option Refusal)
      → (asks_too_much e b ≡ true → mine ≡ None)
      → lacks_epoch (if closed then Unheard else if long then TooLong
      else refused_with first (refused_with (option_map refusal_code mine) Accepted)) e b
      ≡ ((asks_too_much e b && (not (is_some first) && not long)) && not closed)
  by_judgement true long first mine h = sym (and-false (asks_too_much e b && (not (is_some first) && not long)))
  by_judgement false true first mine h =
      sym (and-true (asks_too_much e b && (not (is_some first) && false))
      ∙ and_right (asks_too_much e b) (not (is_some first) && false) (and-false (not (is_some first))))
  by_judgement false false first mine h =
      by_checks first mine h ∙ sym (and-true (asks_too_much e b && (not (is_some first) && true)))

-- what is found before anything is sent is what the machine says
pub lacks_is : (cfg : Config) (m : World) (x : List ℕ) (e : ClientRequest)
    → lacks_epoch (judgement cfg x e m) e m.broker
    ≡ (lacks_by cfg.namespaces (command_by x e m) m.broker && not (m.links x).session.closed)
lacks_is cfg m x e =
    let k : SentCommand = command_by x e m in
    by_judgement e m.broker (m.links x).session.closed (nat_lt longest_text (command_length (command_of k)))
    (first_failed (checks cfg.namespaces (request_of e))) (refusal_of e (m.links x) m) (unrefused (m.links x) m e)
    ∙ ap (λ (n : ℕ). (asks_too_much e m.broker && (not (is_some (first_failed (checks cfg.namespaces (request_of e))))
    && not (nat_lt longest_text n))) && not (m.links x).session.closed) (length_is (command_of k))

-- whether a command passes is asked under the id that it would have
pub passes-by-id : (table : NamespaceTable) (r : request.Request) (n k : ℕ) → n ≡ k → (b : Bool)
    → b ≡ passes table (record { id = n; request = r }) → b ≡ passes table (record { id = k; request = r })
passes-by-id table r n k same b is = is ∙ ap (λ (i : ℕ). passes table (record { id = i; request = r })) same

-- ---- the same of a command, by the request that it would be

module _ (table : NamespaceTable) (command : ClientCommand) (p : Peer) (m : Broker) (c : List ℕ) where
  abbrev client : Client
  client = (state_of p.client).client

  -- it would open a stream
  unopened-lacks : (e : ClientRequest) → request_by command client ≡ e → asks_too_much e m ≡ true
      → passes table (command_of (record { id = client.fresh; request = e })) ≡ lacks_by table (sent_by command p) m
  unopened-lacks e is lacks =
      ap (λ (t : Bool). t && passes table (command_of (record { id = client.fresh; request = e }))) (sym lacks)
      ∙ ap (λ (r : ClientRequest). asks_too_much r m
      && passes table (command_of (record { id = client.fresh; request = r }))) (sym is)

  pub put-lacks : (key body channel under text : List ℕ) → request_by command client ≡ Publish c key body → channel ≡ c
      → under ≡ key → text ≡ body → can_open c m ≡ false
      → passes table (record { id = client.fresh; request = request.Publish channel under (request.Body text) })
      ≡ lacks_by table (sent_by command p) m
  put-lacks key body channel under text is e g f none =
      (λ i. passes table (record { id = client.fresh; request = request.Publish (e i) (g i) (request.Body (f i)) }))
      ∙ unopened-lacks (Publish c key body) is (ap not none)

  pub list-lacks : (limit most : ℤ) (channel : List ℕ) → request_by command client ≡ History c limit → channel ≡ c
      → most ≡ limit → can_open c m ≡ false
      → passes table (record { id = client.fresh; request = request.History channel most None false })
      ≡ lacks_by table (sent_by command p) m
  list-lacks limit most channel is e f none =
      (λ i. passes table (record { id = client.fresh; request = request.History (e i) (f i) None false }))
      ∙ unopened-lacks (History c limit) is (ap not none)
