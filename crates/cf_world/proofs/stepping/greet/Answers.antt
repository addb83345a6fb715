-- The text is heard, the one action that follows is answered, and then there is none: so the session greets.
use Rattle.std.proofs.Common.{rules, ◌≡◌, ◌∙◌, false, Option, Some, option_map, string_bytes, sym, subst}
use Rattle.cf_session.specs.Shown.{shown_action}
use Rattle.cf_session.specs.Standing.{met_refused_memory, progress_of, refusals, tables_of}
use Rattle.cf_session.specs.declared.action.Action.{Action}
use Rattle.cf_session.specs.declared.action.Action.TheVariants as action
use Rattle.cf_world.proofs.Long.{hears-long, long-now}
use Rattle.cf_world.specs.Stepping.{Next}
use Rattle.cf_world.proofs.Greeting.{greet-goes}
use Rattle.cf_world.proofs.stepping.greet.Goals as goal

pub returns : goal.returns
returns c =
    let s = c.args.session.now in
    let heard = c.on_text.new.self in
    let u = c.next.new.session in
    let v = c.answer_to.new.session in
    let w = c.next-2.new.session in
    let z = c.next-3.new.session in
    let long : met_refused_memory heard ≡ false = sym c.short.ensures ∙ c.if-short.false in
    let hears = hears-long (tables_of s) (progress_of s) c.args.text.now (progress_of heard) (refusals heard)
    c.on_text.ensures.hears (long-now (met_refused_memory s) (met_refused_memory heard) (refusals heard)
    c.on_text.ensures.keeps.short
    long) in
    let asks : c.in_ok-next.field-0 ≡ Some (action.Attach c.in-Some-Attach.field-0-0) = search rules in
    let says : c.in_ok-reply.field-0 ≡ Some (action.Say c.in-Some-Say.reply) = search rules in
    greet-goes (string_bytes c.args.id) c.args.text.now (string_bytes c.in-Some-Say.reply)
    (string_bytes c.in-Some-Attach.field-0-0) s heard u v w z _ hears c.on_text.ensures.keeps.tables
    (subst (λ (o : Option Action). Next heard u (option_map shown_action o)) asks c.in_ok-next.ensures)
    c.in_ok-answer_to.ensures.goes c.in_ok-answer_to.ensures.stays
    (subst (λ (o : Option Action). Next v w (option_map shown_action o)) says c.in_ok-reply.ensures)
    c.in_ok-_more.ensures
