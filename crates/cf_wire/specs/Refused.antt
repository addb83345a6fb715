-- Why there is no wire, by the error of the stream. This project's own profile: refused memory is told as memory; any
-- other fault of the stream, and its end, as a failure of the stream.
use Rattle.std.specs.Prelude.{⊤}
use Rattle.std.specs.IoError.{error_kind}
use Rattle.std.specs.declared.io.Error.{Error}
use Rattle.std.specs.declared.io.ErrorKind.{ErrorKind}
use Rattle.std.specs.declared.io.ErrorKind.TheVariants as kind
use Rattle.cf_wire.specs.declared.accept.WireFault.{WireFault}
use Rattle.cf_wire.specs.declared.accept.WireFault.TheVariants.{Handshake, Health, StreamFault, Memory}

abbrev pub fault_by_kind : ErrorKind → WireFault
fault_by_kind kind.OutOfMemory = Memory
fault_by_kind _ = StreamFault

abbrev pub fault_by : Error → WireFault
fault_by e = fault_by_kind (error_kind e)

-- the stream failed, or memory was refused
abbrev pub IsOutside : WireFault → Type 0
IsOutside Handshake = ⊥
IsOutside Health = ⊥
IsOutside StreamFault = ⊤
IsOutside Memory = ⊤
