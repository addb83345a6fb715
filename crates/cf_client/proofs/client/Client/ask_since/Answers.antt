-- The lemma `asked_path` has the state behind an ask; each early end says which refusal it is, or that memory was
-- short.
use Rattle.std.proofs.Common.{◌≡◌, true, false, refl, sym, ap, subst, ◌∙◌}
use Rattle.std.specs.Prelude.{Err}
use Rattle.cf_model.specs.Clients.{is_idle, last_of}
use Rattle.cf_client.specs.ClientView.{state_of}
use Rattle.cf_client.specs.declared.fault.ClientFault.TheVariants.{NotNow}
use Rattle.cf_client.proofs.Refusing.{refused_as, refused_memory, refused_not, asks_busy, asks_idle, not_idle}
use Rattle.cf_protocol.specs.Request as request
use Rattle.cf_protocol.specs.Written.{command_text}
use Rattle.cf_client.specs.ClientCalls.{State}
use Rattle.cf_client.specs.OneAnswer.{AreApart}
use Rattle.cf_client.specs.Shown.{known_state, shown_mode}
use Rattle.cf_client.proofs.Apart.{asked_apart}
use Rattle.cf_client.proofs.Drafting.{asked_path}
use Rattle.cf_client.proofs.client.Client.ask_since.Goals as goal

pub invariant_of-self-2 : goal.invariant_of-self-2
invariant_of-self-2 c =
    let k = c.self.inside.known in
    let next = rw (← c.self.view_is) at c.in_ok-id.ensures.ok in
    let had = ap last_of (ap shown_mode (sym c.in-Idle.is) ∙ c.mode_at.ensures) in
    let goes = asked_path k c.put_mode.new.channels c.args.channel.now c.in_ok-id.id c.args.from.now c.in-Idle.last next
    c.in_ok-put_mode.ensures.puts had in
    subst (λ (s : State). AreApart s.client) (sym goes)
    (asked_apart c.args.channel.now c.args.from.now (known_state k) c.self.invariant)

pub returns-clause-ok : goal.returns-clause-ok
returns-clause-ok c =
    let next = rw (← c.self.view_is) at c.in_ok-id.ensures.ok in
    let had = ap last_of (ap shown_mode (sym c.in-Idle.is) ∙ c.mode_at.ensures) in
    rw (← c.self.view_is)
    (asked_path c.self.inside.known c.put_mode.new.channels c.args.channel.now c.in_ok-id.id c.args.from.now
    c.in-Idle.last next c.in_ok-put_mode.ensures.puts had)

pub returns-clause-text : goal.returns-clause-text
returns-clause-text c =
    c.in_ok-text.ensures
    ∙ (λ i. command_text (record {
      id = c.in_ok-id.ensures.ok i;
      request = request.Subscribe (c.in_ok-name.ensures.ok i) c.args.from.now;
    }))

pub returns-in_default-clause-refused : goal.returns-in_default-clause-refused
returns-in_default-clause-refused c =
    let is : is_idle ((state_of c.args.self.now).client.modes c.args.channel.now) ≡ false =
    rw (← c.self.view_is) (ap is_idle (sym c.mode_at.ensures) ∙ not_idle c.mode_at.result c.in_default.not-Idle) in
    refused_as _ (Err NotNow) NotNow (asks_busy c.args.channel.now (state_of c.args.self.now) is) refl

pub returns-in_err-id-clause-refused : goal.returns-in_err-id-clause-refused
returns-in_err-id-clause-refused c =
    let is : is_idle ((state_of c.args.self.now).client.modes c.args.channel.now) ≡ true =
    rw (← c.self.view_is) (ap is_idle (sym c.mode_at.ensures ∙ ap shown_mode c.in-Idle.is)) in
    refused_as _ c.from_residual.result c.in_err-id.field-0.0
    (asks_idle c.args.channel.now (state_of c.args.self.now) is ∙ c.in_err-id.ensures.err) c.from_residual.ensures.1

pub returns-in_err-name-clause-refused : goal.returns-in_err-name-clause-refused
returns-in_err-name-clause-refused c =
    let is : is_idle ((state_of c.args.self.now).client.modes c.args.channel.now) ≡ true =
    rw (← c.self.view_is) (ap is_idle (sym c.mode_at.ensures ∙ ap shown_mode c.in-Idle.is)) in
    refused_memory _ c.from_residual-in_err-name.result
    (asks_idle c.args.channel.now (state_of c.args.self.now) is ∙ c.in_ok-id.ensures.may)
    c.from_residual-in_err-name.ensures.1

pub returns-in_err-text-clause-refused : goal.returns-in_err-text-clause-refused
returns-in_err-text-clause-refused c =
    let is : is_idle ((state_of c.args.self.now).client.modes c.args.channel.now) ≡ true =
    rw (← c.self.view_is) (ap is_idle (sym c.mode_at.ensures ∙ ap shown_mode c.in-Idle.is)) in
    refused_memory _ c.from_residual-in_err-text.result
    (asks_idle c.args.channel.now (state_of c.args.self.now) is ∙ c.in_ok-id.ensures.may)
    c.from_residual-in_err-text.ensures.1

pub returns-in_err-put_mode-clause-refused : goal.returns-in_err-put_mode-clause-refused
returns-in_err-put_mode-clause-refused c =
    let is : is_idle ((state_of c.args.self.now).client.modes c.args.channel.now) ≡ true =
    rw (← c.self.view_is) (ap is_idle (sym c.mode_at.ensures ∙ ap shown_mode c.in-Idle.is)) in
    refused_memory _ c.from_residual-in_err-put_mode.result
    (asks_idle c.args.channel.now (state_of c.args.self.now) is ∙ c.in_ok-id.ensures.may)
    c.from_residual-in_err-put_mode.ensures.1

pub returns-clause-refused : goal.returns-clause-refused
returns-clause-refused c =
    let is : is_idle ((state_of c.args.self.now).client.modes c.args.channel.now) ≡ true =
    rw (← c.self.view_is) (ap is_idle (sym c.mode_at.ensures ∙ ap shown_mode c.in-Idle.is)) in
    refused_not _ c.in_ok-text.text (asks_idle c.args.channel.now (state_of c.args.self.now) is
    ∙ c.in_ok-id.ensures.may)
