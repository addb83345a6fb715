-- By whether there is such a session: `met_none` and `fate_none` if not, and else what its own method promises, said of
-- all
-- sessions.
use Rattle.std.proofs.Common.{◌∙◌, false, sym, ap}
use Rattle.std.specs.Option.{option_copied_mut}
use Rattle.cf_hub.specs.Hub.{Brings}
use Rattle.cf_hub.specs.Wordings.{at_offset}
use Rattle.cf_hub.proofs.Placing.{fate_here, fate_none, met_here, met_none, others_here}
use Rattle.cf_hub.proofs.deliveries.deliver_one.Goals as goal

pub returns-in-None-clause-here : goal.returns-in-None-clause-here
returns-in-None-clause-here c =
    met_none c.args.sessions.now c.args.number (sym c.get_mut.ensures.value ∙ ap option_copied_mut c.in-None.is)
    (Brings false c.args.channel.now c.args.epoch.now c.args.publication.now)

pub returns-in-None-clause-fate : goal.returns-in-None-clause-fate
returns-in-None-clause-fate c =
    fate_none c.args.sessions.now c.args.number (sym c.get_mut.ensures.value ∙ ap option_copied_mut c.in-None.is)
    c.args.channel.now (at_offset c.args.epoch.now c.args.publication.now)

pub returns-in-Some-clause-here : goal.returns-in-Some-clause-here
returns-in-Some-clause-here c =
    met_here c.args.sessions.now c.args.number c.in-Some.session.now c.deliver_here.new.self
    (sym c.get_mut.ensures.value ∙ ap option_copied_mut c.in-Some.is)
    (Brings c.deliver_here.result.refused c.args.channel.now c.args.epoch.now c.args.publication.now)
    (c.deliver_here.ensures.state, c.deliver_here.ensures.badge)

pub returns-in-Some-clause-others : goal.returns-in-Some-clause-others
returns-in-Some-clause-others c =
    others_here c.args.sessions.now c.args.number c.in-Some.session.now c.deliver_here.new.self
    (sym c.get_mut.ensures.value ∙ ap option_copied_mut c.in-Some.is)

pub returns-in-Some-clause-fate : goal.returns-in-Some-clause-fate
returns-in-Some-clause-fate c =
    c.deliver_here.ensures.fate ∙ fate_here c.args.sessions.now c.args.number c.in-Some.session.now
    c.deliver_here.new.self (sym c.get_mut.ensures.value ∙ ap option_copied_mut c.in-Some.is) c.args.channel.now
    (at_offset c.args.epoch.now c.args.publication.now)
