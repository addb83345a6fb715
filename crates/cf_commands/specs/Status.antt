-- How the program ends (this project's own profile).
use Rattle.std.specs.Prelude.{◌≡◌, ◌⊎◌, ℕ}
use Rattle.cf_protocol.specs.declared.fault.ReadFault.{ReadFault}
use Rattle.cf_protocol.specs.declared.fault.ReadFault.TheVariants as read
use Rattle.cf_simulate.specs.Status.{status_of as simulation_status}
use Rattle.cf_commands.specs.declared.error.CommandError.{CommandError}
use Rattle.cf_commands.specs.declared.error.CommandError.TheVariants as fault
use Rattle.cf_commands.specs.declared.error.Setting.{Setting}

-- 2: the words or the input can't be used; 3: no memory was left; 4: a read or a write failed, or a node can't serve
abbrev pub status_of : CommandError → ℕ
status_of (fault.Simulation cause) = simulation_status cause
status_of fault.NotUtf8 = 2
status_of (fault.Setting setting) = 2
status_of (fault.Entry option number entry rule) = 2
status_of (fault.Unreadable line why) = 2
status_of fault.Memory = 3
status_of fault.InputOutput = 4
status_of (fault.Listen node address) = 4
status_of (fault.NotStarted node) = 4
status_of (fault.Ended node) = 4

-- a setting whose text has another form, or for which memory was refused
abbrev pub fault_of_text : Setting → ReadFault → CommandError
fault_of_text setting read.Bad = fault.Setting setting
fault_of_text setting read.Memory = fault.Memory

-- memory was refused, or a read failed
abbrev pub IsOutside : CommandError → Type 0
IsOutside f = (f ≡ fault.Memory) ⊎ (f ≡ fault.InputOutput)
