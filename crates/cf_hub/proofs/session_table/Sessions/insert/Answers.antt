-- The place is within or one behind the last, so what was written is there, and all other places stay.
use Rattle.std.proofs.Common.{rules, ◌≡◌, ◌≤◌, ◌∙◌, Some, arith, ap, sym, subst, length}
use Rattle.std.proofs.lemmas.List.{length-map}
use Rattle.cf_hub.specs.Places.{Places, session_in, unboxed}
use Rattle.cf_hub.proofs.Placing.{less_than, others_stay, written}
use Rattle.cf_hub.proofs.session_table.Sessions.insert.Goals as goal

pub returns-clause-here : goal.returns-clause-here
returns-clause-here c =
    let many = subst (λ (ps : Places). c.args.number ≤ length ps) (sym c.self.view_is) c.requires in
    let few : c.args.number ≤ length c.self.inside.places.items =
    omega (arith, many, length-map c.self.inside.places.items unboxed) in
    let same : length c.self.inside.places.items ≡ c.len.result = search rules in
    let is : c.in_ok-new.field-0.value ≡ c.args.session = search rules in
    written c.self.inside.places.items c.args.number (Some c.in_ok-new.field-0)
    (less_than c.args.number (length c.self.inside.places.items) few (λ e. c.if-number-len.false (e ∙ same)))
    ∙ ap Some is

pub returns-clause-others : goal.returns-clause-others
returns-clause-others c = λ j h.
    others_stay c.self.inside.places.items c.args.number (Some c.in_ok-new.field-0) j h
    ∙ ap (λ (ps : Places). session_in ps j) c.self.view_is
