-- Where the session isn't on the channel any more, it was ended, as its state shows.
use Rattle.std.proofs.Common.{◌≡◌, ◌∙◌, Bool, true, false, Option, Some, not, refl, sym, subst, option_map, rules}
use Rattle.std.specs.Prelude.{IsTrue}
use Rattle.cf_hub.specs.Places.{session_in}
use Rattle.cf_hub.specs.Rows.{TellsFate}
use Rattle.cf_hub.specs.Session.{attached_of, state_of}
use Rattle.cf_model.specs.Sessions.{is_off}
use Rattle.cf_hub.specs.declared.fate.Fate.TheVariants as fate
use Rattle.cf_hub.specs.declared.session.AttachedSession.{AttachedSession}
use Rattle.cf_hub.proofs.Ending.{tells_ended}
use Rattle.cf_hub.proofs.Settling.{has_none}
use Rattle.cf_hub.proofs.deliveries.fate_now.Goals as goal

un_not : (b : Bool) → false ≡ not b → b ≡ true
un_not true e = refl
un_not false e = absurd (cc)

pub returns-else-has : goal.returns-else-has
returns-else-has c =
    let found : session_in c.args.sessions.now c.args.number ≡ Some c.in-Some.session.now = search rules in
    let off : is_off ((state_of c.in-Some.session.now).subs c.args.channel.now) ≡ true =
    un_not (is_off ((state_of c.in-Some.session.now).subs c.args.channel.now))
    (sym c.if-has.false ∙ c.has.ensures) in
    subst (λ (o : Option AttachedSession). TellsFate fate.Ended c.args.channel.now (option_map attached_of o))
    (sym found)
    (tells_ended c.args.channel.now (option_map attached_of (Some c.in-Some.session.now)) off
    (λ h. let no = subst IsTrue c.if-is_empty.false
    ((has_none c.in-Some.session.now.subscriptions c.is_empty.result (search rules)).1 h) in cc))
