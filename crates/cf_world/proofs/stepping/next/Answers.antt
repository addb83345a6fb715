-- The session gives its next action, or none, and stays what it was beside that.
use Rattle.std.proofs.Common.{◌≡◌, ◌∙◌, false, Option, Some, None, option_map, refl, sym}
use Rattle.cf_session.specs.Shown.{shown_action}
use Rattle.cf_session.specs.Standing.{met_refused_memory, progress_of, refusals, tables_of}
use Rattle.cf_session.specs.declared.action.Action.{Action}
use Rattle.cf_world.proofs.Long.{acts-does, long-now}
use Rattle.cf_world.proofs.stepping.next.Goals as goal

map-none : (o : Option Action) → option_map shown_action o ≡ None → o ≡ None
map-none None h = refl
map-none (Some a) h = absurd (cc (h))

pub returns : goal.returns
returns c =
    let s = c.args.session.now in
    let t = c.next_action-action.new.self in
    let long : met_refused_memory t ≡ false = sym c.short.ensures ∙ c.if-short.false in
    record {
      stays = record { tables = c.next_action-action.ensures.keeps.tables; long = long };
      does = acts-does (tables_of s) (progress_of s) (option_map shown_action c.next_action-action.result)
          (progress_of t) (refusals t) c.next_action-action.ensures.acts
          (long-now (met_refused_memory s) (met_refused_memory t) (refusals t) c.next_action-action.ensures.keeps.short
          long);
      idle = λ none rests. c.next_action-action.ensures.idle (map-none c.next_action-action.result none) rests;
    }
