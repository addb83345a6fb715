-- By the part that can't be read: each early end is the one that the definition has there.
use Rattle.std.proofs.Common.{sym}
use Rattle.cf_protocol.proofs.Entering.{namespace_uncut, namespace_misnamed, namespace_unset, namespace_found}
use Rattle.cf_protocol.proofs.namespaces.read_entry.Goals as goal

pub returns-in_err-name : goal.returns-in_err-name
returns-in_err-name c = rw c.from_residual.ensures (namespace_uncut c.args.text.now c.in_err-name.ensures)

pub returns-then-not-is_word : goal.returns-then-not-is_word
returns-then-not-is_word c = namespace_misnamed c.args.text.now _ _ c.in_ok-name.ensures (sym c.if-not-is_word.ensures)

pub returns-in_err-settings : goal.returns-in_err-settings
returns-in_err-settings c =
    rw c.from_residual-in_err-settings.ensures (namespace_unset c.args.text.now _ _ c.in_ok-name.ensures
    c.in_err-settings.ensures)

pub returns : goal.returns
returns c = namespace_found c.args.text.now _ _ c.in_ok-settings.settings c.in_ok-name.ensures
    (sym c.if-not-is_word.ensures) c.in_ok-settings.ensures
