-- The law for the length of a compact text, for commands and for replies.
use Rattle.cf_protocol.proofs.Lengths.{length-compact}
use Rattle.cf_protocol.specs.Written.{as_it_is, command_tree, outgoing_tree, command_text, outgoing_text}
use Rattle.cf_protocol.proofs.laws.text_lengths.Goals as goal

pub returns : goal.returns
unfolding command_text outgoing_text
returns c = record {
  commands = λ k. length-compact (command_tree as_it_is k);
  outgoing = λ o. length-compact (outgoing_tree as_it_is o);
}
