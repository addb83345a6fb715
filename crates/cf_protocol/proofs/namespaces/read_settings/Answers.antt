-- By the part that can't be read: each early end is the one that the definition has there.
use Rattle.cf_protocol.proofs.Entering.{commas, settings_uncut, settings_cut_once, settings_unsized, settings_untimed}
use Rattle.cf_protocol.proofs.Entering.{settings_by}
use Rattle.cf_protocol.proofs.namespaces.read_settings.Goals as goal

pub returns-in_err-size_text : goal.returns-in_err-size_text
returns-in_err-size_text c = rw c.from_residual.ensures (settings_uncut c.args.text.now c.in_err-size_text.ensures)

pub returns-in_err-seconds_text : goal.returns-in_err-seconds_text
returns-in_err-seconds_text c =
    rw c.from_residual-in_err-seconds_text.ensures
    (settings_cut_once c.args.text.now c.in_ok-size_text.size_text.now c.in_ok-size_text.rest.now
    c.in_ok-size_text.ensures c.in_err-seconds_text.ensures)

pub returns-in_err-size : goal.returns-in_err-size
returns-in_err-size c =
    rw c.from_residual-in_err-size.ensures
    (settings_unsized c.args.text.now _ _ _ (commas _ _ _ _ _ c.in_ok-size_text.ensures c.in_ok-seconds_text.ensures)
    c.in_err-size.ensures)

pub returns-in_err-seconds : goal.returns-in_err-seconds
returns-in_err-seconds c =
    rw c.from_residual-in_err-seconds.ensures
    (settings_untimed c.args.text.now _ _ _ (commas _ _ _ _ _ c.in_ok-size_text.ensures c.in_ok-seconds_text.ensures)
    c.in_err-seconds.ensures)

pub returns : goal.returns
returns c =
    settings_by c.args.text.now _ _ _ c.in_ok-size.size c.in_ok-seconds.seconds c.read_flags.result
    (commas _ _ _ _ _ c.in_ok-size_text.ensures c.in_ok-seconds_text.ensures)
    c.in_ok-size.ensures c.in_ok-seconds.ensures c.read_flags.ensures
