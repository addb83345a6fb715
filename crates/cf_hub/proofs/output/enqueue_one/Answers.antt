-- By whether there is such a session, and whether it was closed before: in each case what its own method promises, said
-- of all
-- sessions.
use Rattle.std.proofs.Common.{◌∙◌, [], string_bytes, sym, ap}
use Rattle.std.specs.Option.{option_copied_mut}
use Rattle.cf_hub.specs.Hub.{InState}
use Rattle.cf_hub.specs.Sessions.{says_one}
use Rattle.cf_hub.specs.WantOfMemory.{OrCloses}
use Rattle.cf_hub.specs.Wordings.{plain}
use Rattle.cf_hub.proofs.Placing.{ends_here, ends_none, met_here, met_none, others_here}
use Rattle.cf_hub.proofs.output.enqueue_one.Goals as goal

pub returns-in-None-clause-here : goal.returns-in-None-clause-here
returns-in-None-clause-here c =
    met_none c.args.sessions.now c.args.number (sym c.get_mut.ensures.value ∙ ap option_copied_mut c.in-None.is)
    (InState (OrCloses c.none.result.refused plain (says_one (string_bytes c.args.text))))

pub returns-in-None-clause-offs : goal.returns-in-None-clause-offs
returns-in-None-clause-offs c =
    ends_none c.args.sessions.now c.args.number (sym c.get_mut.ensures.value ∙ ap option_copied_mut c.in-None.is)
    c.none.result.fate []

pub returns-then-is_closed-clause-here : goal.returns-then-is_closed-clause-here
returns-then-is_closed-clause-here c =
    met_here c.args.sessions.now c.args.number c.in-Some.session.now c.tell-step.new.self
    (sym c.get_mut.ensures.value ∙ ap option_copied_mut c.in-Some.is)
    (InState (OrCloses c.tell-step.result.refused plain (says_one (string_bytes c.args.text))))
    (c.tell-step.ensures.state, c.tell-step.ensures.badge)

pub returns-then-is_closed-clause-others : goal.returns-then-is_closed-clause-others
returns-then-is_closed-clause-others c =
    others_here c.args.sessions.now c.args.number c.in-Some.session.now c.tell-step.new.self
    (sym c.get_mut.ensures.value ∙ ap option_copied_mut c.in-Some.is)

pub returns-then-is_closed-clause-offs : goal.returns-then-is_closed-clause-offs
returns-then-is_closed-clause-offs c =
    ends_here c.args.sessions.now c.args.number c.in-Some.session.now c.tell-step.new.self
    (sym c.get_mut.ensures.value ∙ ap option_copied_mut c.in-Some.is) c.tell-step.result.fate []
    c.tell-step.ensures.offs

pub returns-else-is_closed-clause-here : goal.returns-else-is_closed-clause-here
returns-else-is_closed-clause-here c =
    met_here c.args.sessions.now c.args.number c.in-Some.session.now c.tell-step.new.self
    (sym c.get_mut.ensures.value ∙ ap option_copied_mut c.in-Some.is)
    (InState (OrCloses c.tell-step.result.refused plain (says_one (string_bytes c.args.text))))
    (c.tell-step.ensures.state, c.tell-step.ensures.badge)

pub returns-else-is_closed-clause-others : goal.returns-else-is_closed-clause-others
returns-else-is_closed-clause-others c =
    others_here c.args.sessions.now c.args.number c.in-Some.session.now c.tell-step.new.self
    (sym c.get_mut.ensures.value ∙ ap option_copied_mut c.in-Some.is)

pub returns-else-is_closed-clause-offs : goal.returns-else-is_closed-clause-offs
returns-else-is_closed-clause-offs c =
    ends_here c.args.sessions.now c.args.number c.in-Some.session.now c.tell-step.new.self
    (sym c.get_mut.ensures.value ∙ ap option_copied_mut c.in-Some.is) c.tell-step.result.fate []
    c.tell-step.ensures.offs
