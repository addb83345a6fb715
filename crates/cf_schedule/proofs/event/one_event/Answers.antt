-- Two laws of the theory: each line says one event, and each event is said by a line.
use Rattle.cf_schedule.proofs.Data.{one_data}
use Rattle.cf_schedule.proofs.Events as events
use Rattle.cf_schedule.proofs.event.one_event.Goals as goal

pub returns : goal.returns
returns c = record { one = events.one_event (one_data c.one_value.ensures); none = events.says_something }
