-- What was read is the event, and why nothing could be read is why there is none.
use Rattle.std.proofs.Common.{ℕ, List}
use Rattle.cf_schedule.specs.LineRead.{IsPublication}
use Rattle.cf_schedule.specs.Seen.{key_of}
use Rattle.cf_schedule.proofs.Lines.{no_publication, publish_said}
use Rattle.cf_schedule.proofs.Refusals.{refused_so}
use Rattle.cf_schedule.proofs.event.publish.Goals as goal

pub returns-in-Ok : goal.returns-in-Ok
returns-in-Ok c = λ nodes.
    publish_said nodes c.args.is_keyed c.args.text.now c.in-Ok.channel (key_of c.in-Ok.key) c.in-Ok.body
    c.in-Ok.ensures.ok

pub returns-in-Err : goal.returns-in-Err
returns-in-Err c = λ nodes.
    refused_so _ ((d k body : List ℕ) → IsPublication c.args.is_keyed d k body c.args.text.now → ⊥) _
    (λ none. no_publication nodes c.args.is_keyed c.args.text.now none) c.in-Err.ensures.err
