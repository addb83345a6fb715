-- By the kind: each but want of memory is a fault of the stream in the definition too.
use Rattle.std.proofs.Common.{◌≡◌, refl}
use Rattle.std.specs.declared.io.ErrorKind.{ErrorKind}
use Rattle.std.specs.declared.io.ErrorKind.TheVariants as kind
use Rattle.cf_wire.specs.Refused.{fault_by_kind}
use Rattle.cf_wire.specs.declared.accept.WireFault.TheVariants.{StreamFault}
use Rattle.cf_wire.proofs.accept.fault_of_kind.Goals as goal

of_stream : (k : ErrorKind) → (k ≡ kind.OutOfMemory → ⊥) → StreamFault ≡ fault_by_kind k
of_stream kind.OutOfMemory h = absurd (h refl)
of_stream _ h = refl

pub returns-in_default : goal.returns-in_default
returns-in_default c = record { kind = of_stream c.args.kind c.in_default.not-OutOfMemory; outside = tt }
