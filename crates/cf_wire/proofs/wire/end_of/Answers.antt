-- By the error, and then by its kind: each but want of memory is a fault of the stream in the definition too.
use Rattle.std.proofs.Common.{◌≡◌, ◌∙◌, refl, sym, ap}
use Rattle.std.specs.declared.io.ErrorKind.{ErrorKind}
use Rattle.std.specs.declared.io.ErrorKind.TheVariants as kind
use Rattle.cf_wire.specs.Stages.{end_by, end_by_kind}
use Rattle.cf_wire.specs.declared.end.WireEnd.TheVariants as wire
use Rattle.cf_wire.proofs.wire.end_of.Goals as goal

of_stream : (k : ErrorKind) → (k ≡ kind.OutOfMemory → ⊥) → wire.StreamFault ≡ end_by_kind k
of_stream kind.OutOfMemory h = absurd (h refl)
of_stream _ h = refl

pub returns-in_default-kind : goal.returns-in_default-kind
returns-in_default-kind c =
    of_stream c.kind.result c.in_default-kind.not-OutOfMemory ∙ ap end_by_kind c.kind.ensures
    ∙ ap end_by (sym c.in-Io.is)
