-- Each clause is an example that was reckoned out, cited by name.
use Rattle.cf_machine.proofs.RuleScripts.{epoch_before_read_row, epoch_after_read_row, epoch_while_live_row}
use Rattle.cf_machine.proofs.RuleScripts.{known_while_buffered_row, check_without_stream_row}
use Rattle.cf_machine.proofs.RuleScripts.{check_of_another_epoch_row, check_after_delivery_row}
use Rattle.cf_machine.proofs.RuleScripts.{delivery_to_one_node_row, restart_of_one_node_row, node_that_is_not_there_row}
use Rattle.cf_machine.proofs.RuleScripts.{first_colon_row, list_after_trim_row, trim_above_row, put_opens_row}
use Rattle.cf_machine.proofs.RuleScripts.{list_opens_row, epochs_in_order_row, not_ready_row, leaves_refused_row}
use Rattle.cf_machine.proofs.RuleScripts.{leaves_waiting_row, forget_before_recovery_row, fresh_again_row}
use Rattle.cf_machine.proofs.RuleScripts.{no_such_publication_row, publish_elsewhere_row, missed_300_row}
use Rattle.cf_machine.proofs.RuleScripts.{missed_301_row, missed_none_row, missed_beyond_row, arrivals_1000_row}
use Rattle.cf_machine.proofs.RuleScripts.{arrivals_1000_suffice_row, arrivals_1001_row, arrivals_1001_fall_short_row}
use Rattle.cf_machine.proofs.RuleScripts.{put_without_epoch_row}
use Rattle.cf_machine.proofs.rules.rule_examples.Goals as goal

pub returns-clause-epoch_before_read : goal.returns-clause-epoch_before_read
returns-clause-epoch_before_read c = epoch_before_read_row

pub returns-clause-epoch_after_read : goal.returns-clause-epoch_after_read
returns-clause-epoch_after_read c = epoch_after_read_row

pub returns-clause-epoch_while_live : goal.returns-clause-epoch_while_live
returns-clause-epoch_while_live c = epoch_while_live_row

pub returns-clause-known_while_buffered : goal.returns-clause-known_while_buffered
returns-clause-known_while_buffered c = known_while_buffered_row

pub returns-clause-check_without_stream : goal.returns-clause-check_without_stream
returns-clause-check_without_stream c = check_without_stream_row

pub returns-clause-check_of_another_epoch : goal.returns-clause-check_of_another_epoch
returns-clause-check_of_another_epoch c = check_of_another_epoch_row

pub returns-clause-check_after_delivery : goal.returns-clause-check_after_delivery
returns-clause-check_after_delivery c = check_after_delivery_row

pub returns-clause-delivery_to_one_node : goal.returns-clause-delivery_to_one_node
returns-clause-delivery_to_one_node c = delivery_to_one_node_row

pub returns-clause-restart_of_one_node : goal.returns-clause-restart_of_one_node
returns-clause-restart_of_one_node c = restart_of_one_node_row

pub returns-clause-node_that_is_not_there : goal.returns-clause-node_that_is_not_there
returns-clause-node_that_is_not_there c = node_that_is_not_there_row

pub returns-clause-first_colon : goal.returns-clause-first_colon
returns-clause-first_colon c = first_colon_row

pub returns-clause-list_after_trim : goal.returns-clause-list_after_trim
returns-clause-list_after_trim c = list_after_trim_row

pub returns-clause-trim_above : goal.returns-clause-trim_above
returns-clause-trim_above c = trim_above_row

pub returns-clause-put_opens : goal.returns-clause-put_opens
returns-clause-put_opens c = put_opens_row

pub returns-clause-list_opens : goal.returns-clause-list_opens
returns-clause-list_opens c = list_opens_row

pub returns-clause-epochs_in_order : goal.returns-clause-epochs_in_order
returns-clause-epochs_in_order c = epochs_in_order_row

pub returns-clause-not_ready : goal.returns-clause-not_ready
returns-clause-not_ready c = not_ready_row

pub returns-clause-leaves_refused : goal.returns-clause-leaves_refused
returns-clause-leaves_refused c = leaves_refused_row

pub returns-clause-leaves_waiting : goal.returns-clause-leaves_waiting
returns-clause-leaves_waiting c = leaves_waiting_row

pub returns-clause-forget_before_recovery : goal.returns-clause-forget_before_recovery
returns-clause-forget_before_recovery c = forget_before_recovery_row

pub returns-clause-fresh_again : goal.returns-clause-fresh_again
returns-clause-fresh_again c = fresh_again_row

pub returns-clause-no_such_publication : goal.returns-clause-no_such_publication
returns-clause-no_such_publication c = no_such_publication_row

pub returns-clause-publish_elsewhere : goal.returns-clause-publish_elsewhere
returns-clause-publish_elsewhere c = publish_elsewhere_row

pub returns-clause-missed_300 : goal.returns-clause-missed_300
returns-clause-missed_300 c = missed_300_row

pub returns-clause-missed_301 : goal.returns-clause-missed_301
returns-clause-missed_301 c = missed_301_row

pub returns-clause-missed_none : goal.returns-clause-missed_none
returns-clause-missed_none c = missed_none_row

pub returns-clause-missed_beyond : goal.returns-clause-missed_beyond
returns-clause-missed_beyond c = missed_beyond_row

pub returns-clause-arrivals_1000 : goal.returns-clause-arrivals_1000
returns-clause-arrivals_1000 c = arrivals_1000_row

pub returns-clause-arrivals_1000_suffice : goal.returns-clause-arrivals_1000_suffice
returns-clause-arrivals_1000_suffice c = arrivals_1000_suffice_row

pub returns-clause-arrivals_1001 : goal.returns-clause-arrivals_1001
returns-clause-arrivals_1001 c = arrivals_1001_row

pub returns-clause-arrivals_1001_fall_short : goal.returns-clause-arrivals_1001_fall_short
returns-clause-arrivals_1001_fall_short c = arrivals_1001_fall_short_row

pub returns-clause-put_without_epoch : goal.returns-clause-put_without_epoch
returns-clause-put_without_epoch c = put_without_epoch_row
