-- The text is put together from those of its parts; each early end is told by the call that ended it.
use Rattle.std.proofs.Common.{◌∙◌}
use Rattle.cf_protocol.specs.Request as request
use Rattle.cf_protocol.specs.Written.{command_text}
use Rattle.cf_client.proofs.Refusing.{refused_as, refused_memory, refused_not}
use Rattle.cf_client.proofs.client.Client.put_key.Goals as goal

pub returns-clause-text : goal.returns-clause-text
returns-clause-text c =
    c.in_ok-text.ensures.text
    ∙ (λ i. command_text (record {
      id = c.in_ok-id.ensures.ok i;
      request = request.Publish (c.in_ok-name.ensures.ok i) (c.in_ok-key.ensures.ok i)
          (request.Body (c.in_ok-body.ensures.ok i));
    }))

pub returns-in_err-id-clause-refused : goal.returns-in_err-id-clause-refused
returns-in_err-id-clause-refused c =
    refused_as _ c.from_residual.result c.in_err-id.field-0.0 c.in_err-id.ensures.err c.from_residual.ensures.1

pub returns-in_err-text-clause-refused : goal.returns-in_err-text-clause-refused
returns-in_err-text-clause-refused c =
    refused_memory _ c.from_residual-in_err-text.result c.in_ok-id.ensures.may c.from_residual-in_err-text.ensures.1

pub returns-clause-refused : goal.returns-clause-refused
returns-clause-refused c = refused_not _ c.in_ok-text.text c.in_ok-id.ensures.may
