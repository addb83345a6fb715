-- The session had no such subscription, by its state; what its table promises of the added one is carried to all
-- sessions.
use Rattle.std.proofs.Common.{◌≡◌, ◌∙◌, Option, Some, None, refl, sym, ap, true, option_map}
use Rattle.std.specs.Option.{option_copied_mut}
use Rattle.std.proofs.lemmas.Result.{on_ok_weaker, on_err_weaker}
use Rattle.cf_hub.specs.Places.{session_in}
use Rattle.cf_hub.specs.Rows.{sub_in}
use Rattle.cf_hub.specs.Session.{attached_of, attached_shown, badge_of}
use Rattle.cf_hub.specs.Subscriptions.{progress_at, sub_of}
use Rattle.cf_hub.specs.Wordings.{plain}
use Rattle.cf_hub.specs.declared.session.AttachedSession.{AttachedSession}
use Rattle.cf_hub.specs.declared.subscription.Progress.{Progress}
use Rattle.cf_hub.specs.declared.subscription.Progress.TheVariants as code
use Rattle.cf_model.specs.Sessions.{begins, is_off}
use Rattle.cf_hub.proofs.Placing.{moved_here, stands}
use Rattle.cf_hub.proofs.Puts.{put_begun}
use Rattle.cf_hub.proofs.subscriptions.begin_one.Goals as goal

is_none : (o : Option Progress) → is_off (sub_of o) ≡ true → o ≡ None
is_none None e = refl
is_none (Some (code.Asked id since waiting)) e = absurd (cc)
is_none (Some (code.Ready id was recovery waiting)) e = absurd (cc)
is_none (Some (code.On at behind_at)) e = absurd (cc)

pub add-requires : goal.add-requires
add-requires c =
    let old = c.in-Some.session.now in
    is_none (progress_at old.subscriptions c.args.channel.now)
    (sym (ap (λ (o : Option AttachedSession). is_off (sub_in (option_map attached_of o) c.args.channel.now))
    (sym c.get_mut.ensures.value ∙ ap option_copied_mut c.in-Some.is)) ∙ c.requires)

pub returns-in-Some-clause-here : goal.returns-in-Some-clause-here
returns-in-Some-clause-here c =
    let old = c.in-Some.session.now in
    on_ok_weaker c.add.result
    (λ h. moved_here c.args.sessions.now c.args.number old _ (begins plain c.args.channel.now c.args.id c.args.since)
    (sym c.get_mut.ensures.value ∙ ap option_copied_mut c.in-Some.is) h refl)
    (put_begun c.add.result old.subscriptions c.add.new.subscriptions c.args.channel.now c.args.id c.args.since
    old.queue c.add.ensures.ok)

pub returns-in-Some-clause-err : goal.returns-in-Some-clause-err
returns-in-Some-clause-err c =
    let old = c.in-Some.session.now in
    let found : session_in c.args.sessions.now c.args.number ≡ Some c.in-Some.session.now =
    sym c.get_mut.ensures.value ∙ ap option_copied_mut c.in-Some.is in
    on_err_weaker c.add.result
    (λ e.
    ap (option_map attached_of) (stands c.args.sessions.now c.args.number old _ found)
    ∙ ap (λ es. Some (attached_shown (record { subs = es; queue = old.queue; badge = badge_of old }))) e
    ∙ sym (ap (option_map attached_of) found))
    c.add.ensures.err
