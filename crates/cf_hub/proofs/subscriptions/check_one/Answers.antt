-- By whether there is such a session: `met_none` and `ends_none` if not, and else what its own method promises, said of
-- all
-- sessions.
use Rattle.std.proofs.Common.{◌∙◌, sym, ap}
use Rattle.std.specs.Option.{option_copied_mut}
use Rattle.cf_hub.specs.Hub.{InState}
use Rattle.cf_hub.specs.WantOfMemory.{OrCloses}
use Rattle.cf_hub.specs.Wordings.{plain}
use Rattle.cf_model.specs.Sessions.{checks}
use Rattle.cf_hub.proofs.Placing.{ends_here, ends_none, met_here, met_none, others_here}
use Rattle.cf_hub.proofs.subscriptions.check_one.Goals as goal

pub returns-in-None-clause-here : goal.returns-in-None-clause-here
returns-in-None-clause-here c =
    met_none c.args.sessions.now c.args.number (sym c.get_mut.ensures.value ∙ ap option_copied_mut c.in-None.is)
    (InState (OrCloses c.none.result.refused plain (checks plain c.args.channel.now c.args.top)))

pub returns-in-None-clause-offs : goal.returns-in-None-clause-offs
returns-in-None-clause-offs c =
    ends_none c.args.sessions.now c.args.number (sym c.get_mut.ensures.value ∙ ap option_copied_mut c.in-None.is)
    c.none.result.fate c.args.channel.now

pub returns-in-Some-clause-here : goal.returns-in-Some-clause-here
returns-in-Some-clause-here c =
    met_here c.args.sessions.now c.args.number c.in-Some.session.now c.check.new.self
    (sym c.get_mut.ensures.value ∙ ap option_copied_mut c.in-Some.is)
    (InState (OrCloses c.check.result.1.refused plain (checks plain c.args.channel.now c.args.top)))
    (c.check.ensures.state, c.check.ensures.badge)

pub returns-in-Some-clause-others : goal.returns-in-Some-clause-others
returns-in-Some-clause-others c =
    others_here c.args.sessions.now c.args.number c.in-Some.session.now c.check.new.self
    (sym c.get_mut.ensures.value ∙ ap option_copied_mut c.in-Some.is)

pub returns-in-Some-clause-offs : goal.returns-in-Some-clause-offs
returns-in-Some-clause-offs c =
    ends_here c.args.sessions.now c.args.number c.in-Some.session.now c.check.new.self
    (sym c.get_mut.ensures.value ∙ ap option_copied_mut c.in-Some.is) c.check.result.1.fate c.args.channel.now
    c.check.ensures.offs
