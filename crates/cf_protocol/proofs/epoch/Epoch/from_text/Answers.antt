-- What was copied is the text, whose letters `is_epoch` has looked at.
use Rattle.std.proofs.Common.{◌∙◌, sym}
use Rattle.cf_protocol.proofs.Epochs.{kept-copied, take-copied, epoch_of-epoch}
use Rattle.cf_protocol.proofs.epoch.Epoch.from_text.Goals as goal

pub invariant_of-result : goal.invariant_of-result
invariant_of-result c =
    kept-copied c.as_bytes-given.result.now c.copy_from_slice.new.self c.copy_from_slice.ensures.after
    (sym (c.if-not-is_epoch.ensures))

pub returns : goal.returns
returns c = rw (sym c.as_bytes-given.ensures.value)
    (take-copied c.as_bytes-given.result.now c.copy_from_slice.new.self c.copy_from_slice.ensures.after
    ∙ epoch_of-epoch c.as_bytes-given.result.now (sym (c.if-not-is_epoch.ensures)))
