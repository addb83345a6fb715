-- How the program ends if a simulation doesn't succeed (this project's own profile).
use Rattle.std.specs.Prelude.{ℕ}
use Rattle.cf_simulate.specs.declared.error.SimulateError.{SimulateError}
use Rattle.cf_simulate.specs.declared.error.SimulateError.TheVariants.{Unreadable, UsedTwice, NotUtf8, Memory}
use Rattle.cf_simulate.specs.declared.error.SimulateError.TheVariants.{InputOutput}

-- 2: the input can't be used; 3: no memory was left; 4: a read or a write failed
abbrev pub status_of : SimulateError → ℕ
status_of (Unreadable _) = 2
status_of (UsedTwice _ _) = 2
status_of NotUtf8 = 2
status_of Memory = 3
status_of InputOutput = 4
