-- Both arms read the map's answer back through `modes-get`, which ties the map to the definition's function of
-- channels.
use Rattle.std.proofs.Common.{sym, ap, ◌∙◌}
use Rattle.cf_client.specs.Shown.{mode_or_idle}
use Rattle.cf_client.proofs.Moves.{modes-get}
use Rattle.cf_client.proofs.channels.mode_at.Goals as goal

pub returns-in-None : goal.returns-in-None
returns-in-None c = ap mode_or_idle c.in-None.ensures.value ∙ sym (modes-get c.args.channels.now c.args.channel.now)

pub returns-in-Some : goal.returns-in-Some
returns-in-Some c = ap mode_or_idle c.in-Some.ensures.value ∙ sym (modes-get c.args.channels.now c.args.channel.now)
