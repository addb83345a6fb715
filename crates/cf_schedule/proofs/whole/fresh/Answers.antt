-- Past an event that is new, what is left is fresh exactly if all is; at one that isn't new, all is not.
use Rattle.std.proofs.Common.{◌≡◌, ◌∙◌, ◌&&◌, ◌∷◌, List, ap, true, false, sym}
use Rattle.cf_schedule.specs.Fresh.{are_fresh, is_new}
use Rattle.cf_schedule.specs.declared.event.Event.{Event}
use Rattle.cf_schedule.proofs.whole.fresh.Goals as goal

-- what is left is fresh exactly where all is, past an event that is new
goes_on : (all rest later : List Event) (event : Event) → are_fresh all ≡ are_fresh rest → rest ≡ event ∷ later
    → is_new event later ≡ true → are_fresh all ≡ are_fresh later
goes_on all rest later event same splits new = same ∙ ap are_fresh splits ∙ ap (λ b. b && are_fresh later) new

-- nothing is fresh at an event that isn't new
ends : (all rest later : List Event) (event : Event) → are_fresh all ≡ are_fresh rest → rest ≡ event ∷ later
    → is_new event later ≡ false → false ≡ are_fresh all
ends all rest later event same splits old = sym (same ∙ ap are_fresh splits ∙ ap (λ b. b && are_fresh later) old)

pub returns-then-not-is_new : goal.returns-then-not-is_new
returns-then-not-is_new c =
    ends c.args.events.now c.loop-event.rest.now c.in-Some.later.now c.in-Some.event.now c.loop-event.invariant
    c.in-Some.ensures.cases.0 (sym c.is_new.ensures ∙ c.if-not-is_new.true)

pub loop-event-preserved : goal.loop-event-preserved
loop-event-preserved c =
    goes_on c.args.events.now c.loop-event.rest.now c.in-Some.later.now c.in-Some.event.now c.loop-event.invariant
    c.in-Some.ensures.cases.0 (sym c.is_new.ensures ∙ c.if-not-is_new.false)
