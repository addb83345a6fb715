-- Each clause is an example that was reckoned out, cited by name.
use Rattle.cf_machine.proofs.KeysRefused.{second_place, one_more, second_data, dropped, dropped_before, held_by_then}
use Rattle.cf_machine.proofs.keyed.unsafe_keys_and_sizes.Goals as goal

pub returns-clause-second_place : goal.returns-clause-second_place
returns-clause-second_place c = second_place

pub returns-clause-one_more : goal.returns-clause-one_more
returns-clause-one_more c = one_more

pub returns-clause-second_data : goal.returns-clause-second_data
returns-clause-second_data c = second_data

pub returns-clause-dropped : goal.returns-clause-dropped
returns-clause-dropped c = dropped

pub returns-clause-dropped_before : goal.returns-clause-dropped_before
returns-clause-dropped_before c = dropped_before

pub returns-clause-held_by_then : goal.returns-clause-held_by_then
returns-clause-held_by_then c = held_by_then
