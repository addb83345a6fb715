-- Each clause is a law of the theory, two of them from what the protocol's crate promises of what it reads back.
use Rattle.std.proofs.Common.{◌≡◌, true}
use Rattle.cf_running_ties.proofs.Passing.{all_passed, errors, left_out, no_note, text}
use Rattle.cf_running_ties.proofs.asides.asides_are_passed_over.Goals as goal

pub returns-clause-frame : goal.returns-clause-frame
returns-clause-frame c = all_passed

pub returns-clause-error : goal.returns-clause-error
returns-clause-error c = errors

pub returns-clause-no_note : goal.returns-clause-no_note
returns-clause-no_note c = no_note

pub returns-clause-text : goal.returns-clause-text
returns-clause-text c = text c.replies_read_back.ensures.read

pub returns-clause-left_out : goal.returns-clause-left_out
returns-clause-left_out c = λ is_aside lists items notes old new told asides says takes.
    left_out c.replies_read_back.ensures.read (λ t. is_aside t ≡ true) lists asides items notes old new told says takes
