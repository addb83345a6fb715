-- A letter that isn't set yet is added; the branch says which.
use Rattle.std.proofs.lemmas.Bool.{not-true}
use Rattle.cf_protocol.proofs.Flagging.{adds_publish, adds_history}
use Rattle.cf_protocol.proofs.namespaces.with_flag.Goals as goal

pub returns-then-not-settings : goal.returns-then-not-settings
returns-then-not-settings c =
    adds_publish c.args.flag c.args.settings c.if-flag-eq112.true
    (not-true c.args.settings.publish c.if-not-settings.true)

pub returns-then-not-settings-2 : goal.returns-then-not-settings-2
returns-then-not-settings-2 c =
    adds_history c.args.flag c.args.settings c.if-flag-eq104.true
    (not-true c.args.settings.history c.if-not-settings-2.true)
