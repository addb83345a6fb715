-- By whether the client is known: its script is that of a first command, or of one that is granted or falls short.
use Rattle.std.proofs.Common.{◌≡◌, ◌∙◌, true, false, not, is_some, ap, sym, subst, inr, Option, Some, None, List, ◌∷◌}
use Rattle.cf_protocol.specs.Datum.{Who}
use Rattle.cf_protocol.specs.Request.{Command}
use Rattle.cf_protocol.specs.Shown.{shown_command}
use Rattle.cf_session.specs.CommandScripts.{Tables, first_script, frame_script}
use Rattle.cf_session.specs.Script.{Script}
use Rattle.cf_session.specs.SessionMachine.{Acts, Todo}
use Rattle.cf_session.specs.Standing.{Falls}
use Rattle.cf_session.specs.Standing.{tables_of, commands_left, progress_of, rest_of, refusals, IsReady}
use Rattle.cf_session.specs.Shown.{shown_action}
use Rattle.cf_session.proofs.Steps.{comes_granted, falls_at_start, rest_same}
use Rattle.cf_session.proofs.session.Session.start.Goals as goal

-- before the connect
at-first : (t : Tables) (who : Option Who) (k : Command) (ks : List Command) (P : Script → Type 0) → is_some who ≡ false
    → P (first_script t k.id k.request (λ w. frame_script t ks (Some w))) → P (frame_script t (k ∷ ks) who)
at-first t None k ks P none p = p
at-first t (Some w) k ks P none p = absurd (cc (none))

pub returns-then-is_none-clause-acts : goal.returns-then-is_none-clause-acts
returns-then-is_none-clause-acts c =
    let s = c.args.self.now in
    at-first (tables_of s) s.client (shown_command c.args.command) (commands_left s)
    (λ (x : Script). Acts (tables_of s) (Todo x) (Some (shown_action c.open.result)) (progress_of c.open.new.self)
    (refusals c.open.new.self))
    (c.is_none.ensures ∙ ap not c.if-is_none.true) c.open.ensures.acts

pub returns-in-Ok-clause-acts : goal.returns-in-Ok-clause-acts
returns-in-Ok-clause-acts c =
    let s = c.args.self.now in
    let there : is_some s.client ≡ true = c.is_none.ensures ∙ ap not c.if-is_none.false in
    comes_granted (tables_of s) s.client (shown_command c.args.command) (commands_left s) c.in-Ok.action
    (progress_of c.grant.new.self)
    (IsReady c.grant.new.self) (refusals c.grant.new.self) there
    (sym c.refusal_of.ensures ∙ c.in_default.is) c.in-Ok.ensures.acts

pub returns-in-Err-clause-acts : goal.returns-in-Err-clause-acts
returns-in-Err-clause-acts c =
    let s = c.args.self.now in
    let there : is_some s.client ≡ true = c.is_none.ensures ∙ ap not c.if-is_none.false in
    let same : rest_of c.grant.new.self ≡ rest_of s =
    rest_same s c.grant.new.self c.grant.ensures.tables c.grant.ensures.frame c.in-Err.ensures.client in
    inr (
    falls_at_start (tables_of s) s.client (shown_command c.args.command) (commands_left s) _ _ _ there
    (subst (λ (x : Script). Falls c.args.command.id x (Some (shown_action c.refuse_for_memory.result))
    (progress_of c.refuse_for_memory.new.self) (refusals c.refuse_for_memory.new.self)) same
    c.refuse_for_memory.ensures.falls)
    )
