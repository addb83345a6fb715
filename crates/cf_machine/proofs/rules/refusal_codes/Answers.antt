-- Each clause is an example that was reckoned out, cited by name.
use Rattle.cf_machine.proofs.RuleScripts.{unknown_channel_row, permission_denied_row, already_subscribed_row}
use Rattle.cf_machine.proofs.RuleScripts.{last_offset_row, channel_128_row, channel_129_row, bad_channel_row}
use Rattle.cf_machine.proofs.RuleScripts.{long_text_row, full_node_row}
use Rattle.cf_machine.proofs.rules.refusal_codes.Goals as goal

pub returns-clause-unknown_channel : goal.returns-clause-unknown_channel
returns-clause-unknown_channel c = unknown_channel_row

pub returns-clause-permission_denied : goal.returns-clause-permission_denied
returns-clause-permission_denied c = permission_denied_row

pub returns-clause-already_subscribed : goal.returns-clause-already_subscribed
returns-clause-already_subscribed c = already_subscribed_row

pub returns-clause-last_offset : goal.returns-clause-last_offset
returns-clause-last_offset c = last_offset_row

pub returns-clause-channel_128 : goal.returns-clause-channel_128
returns-clause-channel_128 c = channel_128_row

pub returns-clause-channel_129 : goal.returns-clause-channel_129
returns-clause-channel_129 c = channel_129_row

pub returns-clause-bad_channel : goal.returns-clause-bad_channel
returns-clause-bad_channel c = bad_channel_row

pub returns-clause-long_text : goal.returns-clause-long_text
returns-clause-long_text c = long_text_row

pub returns-clause-full_node : goal.returns-clause-full_node
returns-clause-full_node c = full_node_row
