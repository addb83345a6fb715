-- Each clause is an example that was reckoned out, cited by name.
use Rattle.cf_machine.proofs.Refused.{event_zero, past_the_end, out_of_order, before_published, other_body, two_data}
use Rattle.cf_machine.proofs.Refused.{gap, repeat, before_subscribed, after_end, short_run, false_recovered, false_lost}
use Rattle.cf_machine.proofs.Refused.{read_before_ask, two_on_one_read, without_read, after_break, never_connected}
use Rattle.cf_machine.proofs.Refused.{read_after_leaving}
use Rattle.cf_machine.proofs.examples.unsafe_traces.Goals as goal

pub returns-clause-event_zero : goal.returns-clause-event_zero
returns-clause-event_zero c = event_zero

pub returns-clause-past_the_end : goal.returns-clause-past_the_end
returns-clause-past_the_end c = past_the_end

pub returns-clause-out_of_order : goal.returns-clause-out_of_order
returns-clause-out_of_order c = out_of_order

pub returns-clause-before_published : goal.returns-clause-before_published
returns-clause-before_published c = before_published

pub returns-clause-other_body : goal.returns-clause-other_body
returns-clause-other_body c = other_body

pub returns-clause-two_data : goal.returns-clause-two_data
returns-clause-two_data c = two_data

pub returns-clause-gap : goal.returns-clause-gap
returns-clause-gap c = gap

pub returns-clause-repeat : goal.returns-clause-repeat
returns-clause-repeat c = repeat

pub returns-clause-before_subscribed : goal.returns-clause-before_subscribed
returns-clause-before_subscribed c = before_subscribed

pub returns-clause-after_end : goal.returns-clause-after_end
returns-clause-after_end c = after_end

pub returns-clause-short_run : goal.returns-clause-short_run
returns-clause-short_run c = short_run

pub returns-clause-false_recovered : goal.returns-clause-false_recovered
returns-clause-false_recovered c = false_recovered

pub returns-clause-false_lost : goal.returns-clause-false_lost
returns-clause-false_lost c = false_lost

pub returns-clause-read_before_ask : goal.returns-clause-read_before_ask
returns-clause-read_before_ask c = read_before_ask

pub returns-clause-two_on_one_read : goal.returns-clause-two_on_one_read
returns-clause-two_on_one_read c = two_on_one_read

pub returns-clause-without_read : goal.returns-clause-without_read
returns-clause-without_read c = without_read

pub returns-clause-after_break : goal.returns-clause-after_break
returns-clause-after_break c = after_break

pub returns-clause-never_connected : goal.returns-clause-never_connected
returns-clause-never_connected c = never_connected

pub returns-clause-read_after_leaving : goal.returns-clause-read_after_leaving
returns-clause-read_after_leaving c = read_after_leaving
