-- The rows are computed.
use Rattle.std.proofs.Common.{◌≡◌, [], ◌∷◌, refl}
use Rattle.std.specs.Fmt.{digits}
use Rattle.cf_json.specs.Quoting.{escape, short_letter}
use Rattle.cf_protocol.specs.Written.{command_text, outgoing_text}
use Rattle.cf_model.specs.Sessions.{note_length}
use Rattle.cf_machine.specs.Weights.{command_length}
use Rattle.cf_machine.specs.Examples.{buffered_gap, buffered_reordering, delivery_after_node_restart, first_publication}
use Rattle.cf_machine.specs.Examples.{gap_ends_subscription, keeping, late_but_there, leave_and_return, as_lines}
use Rattle.cf_machine.specs.Examples.{lists_and_refusals, lost, new_epoch_after_restart, no_epoch_yet, plain}
use Rattle.cf_machine.specs.Examples.{position_check, recovered, shown, take, two_breaks}

pub first_publication_row : shown plain first_publication
    ≡ as_lines ("ann news sub aaaa 0 fresh" ∷ "ann news pub aaaa 1 {\"t\":1}" ∷ [])
unfolding shown note_length command_length command_text outgoing_text digits escape short_letter
first_publication_row = refl

pub recovered_row : shown (keeping 3) recovered
    ≡ as_lines ("ann news sub aaaa 0 fresh" ∷ "ann news pub aaaa 1 1" ∷ "ann news pub aaaa 2 2"
    ∷ "ann news sub aaaa 5 recovered" ∷ "ann news pub aaaa 3 3" ∷ "ann news pub aaaa 4 4" ∷ "ann news pub aaaa 5 5"
    ∷ [])
unfolding shown note_length command_length command_text outgoing_text digits escape short_letter
recovered_row = refl

pub lost_row : shown (keeping 3) lost ≡ as_lines
    ("ann news sub aaaa 0 fresh" ∷ "ann news pub aaaa 1 1" ∷ "ann news sub aaaa 5 lost" ∷ [])
unfolding shown note_length command_length command_text outgoing_text digits escape short_letter
lost_row = refl

pub buffered_reordering_row : shown plain buffered_reordering
    ≡ as_lines ("ann news sub aaaa 2 fresh" ∷ "ann news pub aaaa 3 3" ∷ "ann news pub aaaa 4 4" ∷ [])
unfolding shown note_length command_length command_text outgoing_text digits escape short_letter
buffered_reordering_row = refl

pub buffered_gap_row : shown plain buffered_gap ≡ as_lines ("ann news sub aaaa 2 fresh" ∷ "ann news again 2500" ∷ [])
unfolding shown note_length command_length command_text outgoing_text digits escape short_letter
buffered_gap_row = refl

pub gap_ends_subscription_row : shown plain gap_ends_subscription
    ≡ as_lines ("ann news sub aaaa 0 fresh" ∷ "ann news pub aaaa 1 \"a\"" ∷ "ann news again 2500"
    ∷ "ann news sub aaaa 3 recovered" ∷ "ann news pub aaaa 2 \"b\"" ∷ "ann news pub aaaa 3 \"c\"" ∷ [])
unfolding shown note_length command_length command_text outgoing_text digits escape short_letter
gap_ends_subscription_row = refl

pub two_breaks_row : shown plain two_breaks ≡ as_lines
    ("ann news sub aaaa 0 fresh" ∷ "ann news pub aaaa 1 {\"t\":1}" ∷ "ann news sub aaaa 3 recovered"
    ∷ "ann news pub aaaa 2 2" ∷ "ann news pub aaaa 3 3" ∷ [])
unfolding shown note_length command_length command_text outgoing_text digits escape short_letter
two_breaks_row = refl

pub three_ignored_row : shown plain (leave_and_return (take ∷ take ∷ take ∷ []))
    ≡ as_lines ("ann news sub aaaa 0 fresh" ∷ [])
unfolding shown note_length command_length command_text outgoing_text digits escape short_letter
three_ignored_row = refl

pub leave_and_return_row : shown plain (leave_and_return (take ∷ take ∷ take ∷ take ∷ []))
    ≡ as_lines ("ann news sub aaaa 0 fresh" ∷ "ann news sub aaaa 2 recovered" ∷ "ann news pub aaaa 1 1"
    ∷ "ann news pub aaaa 2 2" ∷ [])
unfolding shown note_length command_length command_text outgoing_text digits escape short_letter
leave_and_return_row = refl

pub new_epoch_after_restart_row : shown plain new_epoch_after_restart
    ≡ as_lines ("ann news sub aaaa 0 fresh" ∷ "ann news pub aaaa 1 {\"t\":1}" ∷ "ann news sub bbbb 1 lost" ∷ [])
unfolding shown note_length command_length command_text outgoing_text digits escape short_letter
new_epoch_after_restart_row = refl

pub delivery_after_node_restart_row : shown plain delivery_after_node_restart
    ≡ as_lines ("ann news sub aaaa 0 fresh" ∷ "ann news sub aaaa 1 recovered" ∷ "ann news pub aaaa 1 1" ∷ [])
unfolding shown note_length command_length command_text outgoing_text digits escape short_letter
delivery_after_node_restart_row = refl

pub position_check_row : shown plain position_check
    ≡ as_lines ("ann news sub aaaa 0 fresh" ∷ "ann news again 2500" ∷ [])
unfolding shown note_length command_length command_text outgoing_text digits escape short_letter
position_check_row = refl

pub late_but_there_row : shown plain late_but_there
    ≡ as_lines ("ann news sub aaaa 0 fresh" ∷ "ann news pub aaaa 1 1" ∷ [])
unfolding shown note_length command_length command_text outgoing_text digits escape short_letter
late_but_there_row = refl

pub no_epoch_yet_row : shown plain no_epoch_yet ≡ as_lines ([])
unfolding shown note_length command_length command_text outgoing_text digits escape short_letter
no_epoch_yet_row = refl

pub lists_and_refusals_row : shown plain lists_and_refusals
    ≡ as_lines ("ann news sub aaaa 0 fresh" ∷ "ann news pub aaaa 1 {\"t\":1}" ∷ "ann news list aaaa 1 1"
    ∷ "ann news list aaaa 1 0" ∷ "ann chat:x refused 102" ∷ "ann chat:x refused 102" ∷ [])
unfolding shown note_length command_length command_text outgoing_text digits escape short_letter
lists_and_refusals_row = refl
