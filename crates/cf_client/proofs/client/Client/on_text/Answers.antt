-- The invariant is carried by `texts_apart`, over what `draft_of` and `carry_out` promise, and the events are those of
-- the
-- definition.
use Rattle.std.proofs.Common.{map, sym, subst}
use Rattle.cf_protocol.specs.Shown.{shown_outgoing}
use Rattle.cf_client.specs.ClientCalls.{State, TakesAll}
use Rattle.cf_client.specs.OneAnswer.{AreApart}
use Rattle.cf_client.specs.Draft.{drafted}
use Rattle.cf_client.specs.Shown.{known_state, shown_item}
use Rattle.cf_client.proofs.Apart.{texts_apart}
use Rattle.cf_client.proofs.client.Client.on_text.Goals as goal

pub invariant_of-self : goal.invariant_of-self
invariant_of-self c =
    let k = c.self.inside.known in
    subst (λ (s : State). AreApart s.client) (sym c.carry_out-events.ensures.state)
    (texts_apart (map shown_outgoing c.in-Ok.outgoings.items) (known_state k) (drafted k c.in_ok-draft.draft)
    (map shown_item c.in_ok-draft.draft.events.items) c.self.invariant c.in_ok-draft.ensures)

pub returns-clause-takes : goal.returns-clause-takes
returns-clause-takes c = λ os reads.
    let k = c.self.inside.known in
    let told = map shown_item c.in_ok-draft.draft.events.items in
    rw (← c.self.view_is, c.carry_out-events.ensures.events)
    (subst (λ xs. TakesAll xs (known_state k) (known_state c.carry_out-events.new.known) told)
    (sym (c.in-Ok.ensures.only os reads))
    (subst (λ s. TakesAll (map shown_outgoing c.in-Ok.outgoings.items) (known_state k) s told)
    (sym c.carry_out-events.ensures.state) c.in_ok-draft.ensures))

pub returns-in-Err-Bad-clause-refused : goal.returns-in-Err-Bad-clause-refused
returns-in-Err-Bad-clause-refused c = c.in-Err-Bad.ensures.bad c.in-Err-Bad.field-0-is
