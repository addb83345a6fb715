-- The lemma that the state behind a leave stays apart, and for each early end the refusal that the definition names
-- there.
use Rattle.std.proofs.Common.{refl, sym, subst, ◌∙◌}
use Rattle.std.specs.Prelude.{Err}
use Rattle.cf_client.specs.ClientView.{state_of}
use Rattle.cf_client.specs.declared.fault.ClientFault.TheVariants.{NotNow}
use Rattle.cf_client.proofs.Refusing.{refused_as, refused_memory, refused_not, leaves_busy, leaves_idle}
use Rattle.cf_protocol.specs.Request as request
use Rattle.cf_protocol.specs.Written.{command_text}
use Rattle.cf_client.specs.ClientCalls.{State}
use Rattle.cf_client.specs.OneAnswer.{AreApart}
use Rattle.cf_client.specs.Shown.{known_state}
use Rattle.cf_client.proofs.Apart.{left_apart}
use Rattle.cf_client.proofs.Drafting.{left_path}
use Rattle.cf_client.proofs.client.Client.leave.Goals as goal

pub invariant_of-self : goal.invariant_of-self
invariant_of-self c =
    let k = c.self.inside.known in
    let next = rw (← c.self.view_is) at c.in_ok-id.ensures.ok in
    let busy = rw (← c.self.view_is) at (sym c.is_idle.ensures ∙ c.if-is_idle.false) in
    let had = rw (← c.self.view_is) at c.position-last.ensures.last in
    let goes = left_path k c.set_mode.new.channels c.args.channel.now c.in_ok-id.id c.position-last.result next
    c.set_mode.ensures.sets busy had in
    subst (λ (s : State). AreApart s.client) (sym goes) (left_apart c.args.channel.now (known_state k) c.self.invariant)

pub returns-clause-ok : goal.returns-clause-ok
returns-clause-ok c =
    let next = rw (← c.self.view_is) at c.in_ok-id.ensures.ok in
    let busy = rw (← c.self.view_is) at (sym c.is_idle.ensures ∙ c.if-is_idle.false) in
    let had = rw (← c.self.view_is) at c.position-last.ensures.last in
    rw (← c.self.view_is)
    (left_path c.self.inside.known c.set_mode.new.channels c.args.channel.now c.in_ok-id.id c.position-last.result next
    c.set_mode.ensures.sets busy had)

pub returns-clause-text : goal.returns-clause-text
returns-clause-text c =
    c.in_ok-text.ensures
    ∙ (λ i. command_text (record {
      id = c.in_ok-id.ensures.ok i;
      request = request.Unsubscribe (c.in_ok-name.ensures.ok i);
    }))

pub returns-then-is_idle-clause-refused : goal.returns-then-is_idle-clause-refused
returns-then-is_idle-clause-refused c =
    let is = sym c.is_idle.ensures ∙ c.if-is_idle.true in
    refused_as _ (Err NotNow) NotNow (leaves_idle c.args.channel.now (state_of c.args.self.now) is) refl

pub returns-in_err-id-clause-refused : goal.returns-in_err-id-clause-refused
returns-in_err-id-clause-refused c =
    let is = sym c.is_idle.ensures ∙ c.if-is_idle.false in
    refused_as _ c.from_residual.result c.in_err-id.field-0.0
    (leaves_busy c.args.channel.now (state_of c.args.self.now) is ∙ c.in_err-id.ensures.err)
    c.from_residual.ensures.1

pub returns-in_err-name-clause-refused : goal.returns-in_err-name-clause-refused
returns-in_err-name-clause-refused c =
    let is = sym c.is_idle.ensures ∙ c.if-is_idle.false in
    refused_memory _ c.from_residual-in_err-name.result
    (leaves_busy c.args.channel.now (state_of c.args.self.now) is ∙ c.in_ok-id.ensures.may)
    c.from_residual-in_err-name.ensures.1

pub returns-in_err-text-clause-refused : goal.returns-in_err-text-clause-refused
returns-in_err-text-clause-refused c =
    let is = sym c.is_idle.ensures ∙ c.if-is_idle.false in
    refused_memory _ c.from_residual-in_err-text.result
    (leaves_busy c.args.channel.now (state_of c.args.self.now) is ∙ c.in_ok-id.ensures.may)
    c.from_residual-in_err-text.ensures.1

pub returns-clause-refused : goal.returns-clause-refused
returns-clause-refused c =
    let is = sym c.is_idle.ensures ∙ c.if-is_idle.false in
    refused_not _ c.in_ok-text.text (leaves_busy c.args.channel.now (state_of c.args.self.now) is
    ∙ c.in_ok-id.ensures.may)
