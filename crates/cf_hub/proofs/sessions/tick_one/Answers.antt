-- By whether there is such a session: `met_none` and `ends_none` if not, and else what its own method promises, said of
-- all
-- sessions.
use Rattle.std.proofs.Common.{◌∙◌, [], sym, ap}
use Rattle.std.specs.Option.{option_copied_mut}
use Rattle.cf_hub.specs.Hub.{Pings}
use Rattle.cf_hub.proofs.Placing.{ends_here, ends_none, met_here, met_none, others_here}
use Rattle.cf_hub.proofs.sessions.tick_one.Goals as goal

pub returns-in-None-clause-here : goal.returns-in-None-clause-here
returns-in-None-clause-here c =
    met_none c.args.sessions.now c.args.number (sym c.get_mut.ensures.value ∙ ap option_copied_mut c.in-None.is)
    (Pings c.none.result.refused c.args.now)

pub returns-in-None-clause-offs : goal.returns-in-None-clause-offs
returns-in-None-clause-offs c =
    ends_none c.args.sessions.now c.args.number (sym c.get_mut.ensures.value ∙ ap option_copied_mut c.in-None.is)
    c.none.result.fate []

pub returns-in-Some-clause-here : goal.returns-in-Some-clause-here
returns-in-Some-clause-here c =
    met_here c.args.sessions.now c.args.number c.in-Some.session.now c.tick.new.self
    (sym c.get_mut.ensures.value ∙ ap option_copied_mut c.in-Some.is) (Pings c.tick.result.refused c.args.now)
    (c.tick.ensures.state, c.tick.ensures.badge)

pub returns-in-Some-clause-others : goal.returns-in-Some-clause-others
returns-in-Some-clause-others c =
    others_here c.args.sessions.now c.args.number c.in-Some.session.now c.tick.new.self
    (sym c.get_mut.ensures.value ∙ ap option_copied_mut c.in-Some.is)

pub returns-in-Some-clause-offs : goal.returns-in-Some-clause-offs
returns-in-Some-clause-offs c =
    ends_here c.args.sessions.now c.args.number c.in-Some.session.now c.tick.new.self
    (sym c.get_mut.ensures.value ∙ ap option_copied_mut c.in-Some.is) c.tick.result.fate [] c.tick.ensures.offs
