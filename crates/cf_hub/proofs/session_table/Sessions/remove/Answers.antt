-- What was taken is no longer at its place, and all other places stay.
use Rattle.std.proofs.Common.{rules, ◌<◌, ◌∙◌, ap, length}
use Rattle.cf_hub.specs.Places.{Places, session_in, unboxed}
use Rattle.cf_hub.proofs.Placing.{others_stay, written}
use Rattle.cf_hub.proofs.session_table.Sessions.remove.Goals as goal

pub returns-clause-here : goal.returns-clause-here
returns-clause-here c =
    let there : c.args.number < length c.self.inside.places.items = search rules in
    written c.self.inside.places.items c.args.number c.take.new.self there ∙ ap unboxed c.take.ensures.after

pub returns-clause-others : goal.returns-clause-others
returns-clause-others c =
    λ j h. others_stay c.self.inside.places.items c.args.number c.take.new.self j h
    ∙ ap (λ (ps : Places). session_in ps j) c.self.view_is
