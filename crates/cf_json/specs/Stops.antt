-- Where a reading stopped, as a place of the whole text.
use Rattle.std.specs.Prelude.{ℕ, ◌-◌}
use Rattle.cf_json.specs.declared.stop.Stop.{Stop}
use Rattle.cf_json.specs.declared.fault.Fault.{Fault}

abbrev pub fault_of : ℕ → Stop → Fault
fault_of length (Stop.NotJson left) = Fault.NotJson (length - left)
fault_of length (Stop.TooDeep left) = Fault.TooDeep (length - left)
