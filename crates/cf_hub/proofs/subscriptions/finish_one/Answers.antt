-- By whether there is such a session: `met_none` and `ends_none` if not, and else what its own method promises, said of
-- all
-- sessions.
use Rattle.std.proofs.Common.{◌∙◌, Option, option_map, sym, ap, subst}
use Rattle.std.specs.Option.{option_copied_mut}
use Rattle.cf_hub.specs.Finish.{FinishesAt}
use Rattle.cf_hub.specs.Hub.{InState, attached_in}
use Rattle.cf_hub.specs.Rows.{sub_in}
use Rattle.cf_hub.specs.Session.{attached_of, state_of}
use Rattle.cf_hub.specs.declared.session.AttachedSession.{AttachedSession}
use Rattle.cf_hub.proofs.Placing.{ends_here, ends_none, met_here, met_none, others_here}
use Rattle.cf_hub.proofs.subscriptions.finish_one.Goals as goal

pub returns-in-None-clause-here : goal.returns-in-None-clause-here
returns-in-None-clause-here c =
    met_none c.args.sessions.now c.args.number (sym c.get_mut.ensures.value ∙ ap option_copied_mut c.in-None.is)
    (InState (FinishesAt c.none.result.refused c.args.channel.now
    (sub_in (attached_in c.args.sessions.now c.args.number) c.args.channel.now)))

pub returns-in-None-clause-offs : goal.returns-in-None-clause-offs
returns-in-None-clause-offs c =
    ends_none c.args.sessions.now c.args.number (sym c.get_mut.ensures.value ∙ ap option_copied_mut c.in-None.is)
    c.none.result.fate c.args.channel.now

pub returns-in-Some-clause-here : goal.returns-in-Some-clause-here
returns-in-Some-clause-here c =
    met_here c.args.sessions.now c.args.number c.in-Some.session.now c.finish.new.self
    (sym c.get_mut.ensures.value ∙ ap option_copied_mut c.in-Some.is)
    (InState (FinishesAt c.finish.result.1.refused c.args.channel.now
    (sub_in (attached_in c.args.sessions.now c.args.number) c.args.channel.now))) (
      subst (λ (o : Option AttachedSession). FinishesAt c.finish.result.1.refused c.args.channel.now
          (sub_in (option_map attached_of o) c.args.channel.now) (state_of c.in-Some.session.now)
          (state_of c.finish.new.self)) (sym (sym c.get_mut.ensures.value ∙ ap option_copied_mut c.in-Some.is))
          c.finish.ensures.state,
      c.finish.ensures.badge,
    )

pub returns-in-Some-clause-others : goal.returns-in-Some-clause-others
returns-in-Some-clause-others c =
    others_here c.args.sessions.now c.args.number c.in-Some.session.now c.finish.new.self
    (sym c.get_mut.ensures.value ∙ ap option_copied_mut c.in-Some.is)

pub returns-in-Some-clause-offs : goal.returns-in-Some-clause-offs
returns-in-Some-clause-offs c =
    ends_here c.args.sessions.now c.args.number c.in-Some.session.now c.finish.new.self
    (sym c.get_mut.ensures.value ∙ ap option_copied_mut c.in-Some.is) c.finish.result.1.fate c.args.channel.now
    c.finish.ensures.offs
