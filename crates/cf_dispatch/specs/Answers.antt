-- What a session is told of the broker's answers, and what becomes of a subscription after a check. (This project's
-- own profile.)
use Rattle.std.specs.Prelude.{ℕ, Bool, true, false, Option, Some, None, List}
use Rattle.cf_protocol.specs.Checks.{Refusal, AtLastOffset, OtherEpoch, NoEpoch, NoMemory, AtLastCount}
use Rattle.cf_protocol.specs.Settings.{NamespaceTable, settings_of}
use Rattle.cf_protocol.specs.declared.settings.Settings.{Settings}
use Rattle.cf_hub.specs.declared.checked.Checked.{Checked}
use Rattle.cf_hub.specs.declared.checked.Checked.TheVariants as checked
use Rattle.cf_shard.specs.declared.refusal.Refused.{Refused}
use Rattle.cf_shard.specs.declared.refusal.Refused.TheVariants as refused

-- why the broker refused
abbrev pub of_broker : Refused → Refusal
of_broker refused.AtLastOffset = AtLastOffset
of_broker refused.WrongEpoch = OtherEpoch
of_broker refused.NoEpoch = NoEpoch
of_broker refused.Memory = NoMemory
of_broker refused.AtLastCount = AtLastCount

-- A subscription whose position was checked goes on, unless there is none, or it ended by the check.
abbrev pub goes_on : Checked → Bool
goes_on checked.Fine = true
goes_on checked.Behind = true
goes_on checked.Nothing = false
goes_on checked.Ended = false

-- Only a check that was fine is one that a quiet shard spares the next one.
abbrev pub mark_after : Checked → ℕ → Option ℕ
mark_after checked.Fine mark = Some mark
mark_after checked.Behind mark = None
mark_after checked.Nothing mark = None
mark_after checked.Ended mark = None

-- the settings keep presence; where there are none nothing is kept
abbrev pub has_presence : Option Settings → Bool
has_presence None = false
has_presence (Some s) = s.presence

abbrev pub keeps_presence : NamespaceTable → List ℕ → Bool
keeps_presence t channel = has_presence (settings_of t channel)
