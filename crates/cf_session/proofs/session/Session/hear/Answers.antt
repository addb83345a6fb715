-- A text that is read becomes the script of its commands, and one that can't be read a close.
use Rattle.std.proofs.Common.{◌≡◌, map, false, refl, ap, inl, inr, ◌∙◌, sym}
use Rattle.cf_protocol.specs.Shown.{shown_command}
use Rattle.cf_session.specs.CommandScripts.{frame_script}
use Rattle.cf_session.specs.SessionMachine.{Todo}
use Rattle.cf_session.specs.Standing.{tables_of, commands_left, is_over, progress_at}
use Rattle.cf_session.proofs.Steps.{idle_ready, idle_served, hears_served}
use Rattle.cf_session.proofs.session.Session.hear.Goals as goal

pub returns-in-Ok-clause-hears : goal.returns-in-Ok-clause-hears
returns-in-Ok-clause-hears c =
    let s = c.args.self.now in
    let stands : is_over s.stage ≡ false = sym c.is_closed.ensures ∙ c.if-is_closed.false in
    let ready = idle_ready (commands_left s) s.stage c.requires.idle stands in
    inl (
      hears_served (tables_of s) s.client _ c.args.text.now
          _ _ (idle_served (tables_of s) (commands_left s) s.client s.stage ready)
          (inl (map shown_command c.in-Ok.commands.items, c.in-Ok.ensures.found, c.in-Ok.ensures.frame, refl))
          (ap (progress_at (tables_of s) _ s.client) ready.0
          ∙ ap (λ xs. Todo (frame_script (tables_of s) (map shown_command xs) s.client)) c.from_vec.ensures.items),
      c.requires.fresh,
    )

pub returns-in-Err-Bad-clause-hears : goal.returns-in-Err-Bad-clause-hears
returns-in-Err-Bad-clause-hears c =
    let s = c.args.self.now in
    let stands : is_over s.stage ≡ false = sym c.is_closed.ensures ∙ c.if-is_closed.false in
    let ready = idle_ready (commands_left s) s.stage c.requires.idle stands in
    inl (
      hears_served (tables_of s) s.client _ c.args.text.now
          _ _ (idle_served (tables_of s) (commands_left s) s.client s.stage ready)
          (inr (c.in-Err-Bad.ensures.bad c.in-Err-Bad.field-0-is, refl))
          refl,
      c.requires.fresh,
    )
