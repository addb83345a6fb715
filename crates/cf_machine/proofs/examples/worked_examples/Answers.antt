-- Each clause is an example that was reckoned out, cited by name.
use Rattle.cf_machine.proofs.Scripts.{first_publication_row, recovered_row, lost_row, buffered_reordering_row}
use Rattle.cf_machine.proofs.Scripts.{buffered_gap_row, gap_ends_subscription_row, two_breaks_row, three_ignored_row}
use Rattle.cf_machine.proofs.Scripts.{leave_and_return_row, new_epoch_after_restart_row}
use Rattle.cf_machine.proofs.Scripts.{delivery_after_node_restart_row, position_check_row, late_but_there_row}
use Rattle.cf_machine.proofs.Scripts.{no_epoch_yet_row, lists_and_refusals_row}
use Rattle.cf_machine.proofs.Slow.{slow_consumer_row, too_much_row}
use Rattle.cf_machine.proofs.examples.worked_examples.Goals as goal

pub returns-clause-first_publication : goal.returns-clause-first_publication
returns-clause-first_publication c = first_publication_row

pub returns-clause-recovered : goal.returns-clause-recovered
returns-clause-recovered c = recovered_row

pub returns-clause-lost : goal.returns-clause-lost
returns-clause-lost c = lost_row

pub returns-clause-buffered_reordering : goal.returns-clause-buffered_reordering
returns-clause-buffered_reordering c = buffered_reordering_row

pub returns-clause-buffered_gap : goal.returns-clause-buffered_gap
returns-clause-buffered_gap c = buffered_gap_row

pub returns-clause-gap_ends_subscription : goal.returns-clause-gap_ends_subscription
returns-clause-gap_ends_subscription c = gap_ends_subscription_row

pub returns-clause-two_breaks : goal.returns-clause-two_breaks
returns-clause-two_breaks c = two_breaks_row

pub returns-clause-three_ignored : goal.returns-clause-three_ignored
returns-clause-three_ignored c = three_ignored_row

pub returns-clause-leave_and_return : goal.returns-clause-leave_and_return
returns-clause-leave_and_return c = leave_and_return_row

pub returns-clause-new_epoch_after_restart : goal.returns-clause-new_epoch_after_restart
returns-clause-new_epoch_after_restart c = new_epoch_after_restart_row

pub returns-clause-delivery_after_node_restart : goal.returns-clause-delivery_after_node_restart
returns-clause-delivery_after_node_restart c = delivery_after_node_restart_row

pub returns-clause-position_check : goal.returns-clause-position_check
returns-clause-position_check c = position_check_row

pub returns-clause-late_but_there : goal.returns-clause-late_but_there
returns-clause-late_but_there c = late_but_there_row

pub returns-clause-no_epoch_yet : goal.returns-clause-no_epoch_yet
returns-clause-no_epoch_yet c = no_epoch_yet_row

pub returns-clause-lists_and_refusals : goal.returns-clause-lists_and_refusals
returns-clause-lists_and_refusals c = lists_and_refusals_row

pub returns-clause-slow_consumer : goal.returns-clause-slow_consumer
returns-clause-slow_consumer c = slow_consumer_row c.push_length.ensures

pub returns-clause-too_much : goal.returns-clause-too_much
returns-clause-too_much c = too_much_row c.push_length.ensures
