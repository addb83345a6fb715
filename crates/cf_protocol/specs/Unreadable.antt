-- Why a text was not read, by why its JSON was not.
use Rattle.cf_json.specs.declared.fault.Fault.{Fault}
use Rattle.cf_json.specs.declared.fault.Fault.TheVariants as json
use Rattle.cf_protocol.specs.declared.fault.ReadFault.{ReadFault}
use Rattle.cf_protocol.specs.declared.fault.ReadFault.TheVariants.{Bad, Memory}

abbrev pub fault_of : Fault → ReadFault
fault_of (json.NotJson p) = Bad
fault_of (json.TooDeep p) = Bad
fault_of json.Memory = Memory
