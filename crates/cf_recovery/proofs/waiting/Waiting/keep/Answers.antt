-- By whether the buffer was given up, has the place already, or is full: what is kept is the definition's, and stands
-- for what
-- arrived.
use Rattle.std.proofs.Common.{◌≡◌, ◌∷◌, ◌∙◌, sym, subst, false}
use Rattle.cf_model.specs.Recovery.{has, arrives, overfull}
use Rattle.cf_recovery.specs.ArrivalBuffer.{ArrivalBuffer, arrival, places, TakesRoom, StandsFor, with_arrival}
use Rattle.cf_recovery.specs.ArrivalBuffer.{given_up}
use Rattle.cf_recovery.proofs.Keeping.{neither, with_arrival-full, with_arrival-kept, stands_more, within-push, on_ok}
use Rattle.cf_recovery.proofs.waiting.Waiting.keep.Goals as goal

pub returns-then-is_full-clause-kept : goal.returns-then-is_full-clause-kept
returns-then-is_full-clause-kept c h =
    let whole : c.args.self.now.overflow ≡ false = rw (← c.self.view_is) c.if-self.false in
    let first : has (places c.args.self.now.arrived) c.args.epoch.now c.args.publication.now.offset ≡ false =
    rw (← c.publication.view_is) (sym c.has.ensures ∙ c.if-has.false) in
    let full : with_arrival (arrival c.args.epoch.now c.args.publication.now) c.args.self.now
    ≡ given_up c.args.self.now.short =
    with_arrival-full (arrival c.args.epoch.now c.args.publication.now) c.args.self.now (neither _ _ whole first)
    (sym (c.is_full.ensures (arrival c.args.epoch.now c.args.publication.now).at) ∙ c.if-is_full.true) in
    let gone : c.give_up-then-is_full.new.self ≡ given_up c.args.self.now.short =
    rw (← c.give_up.view_is) c.give_up-then-is_full.ensures in
    gone ∙ sym full

pub returns-then-is_full-clause-stands : goal.returns-then-is_full-clause-stands
returns-then-is_full-clause-stands c arrived stands =
    let whole : c.args.self.now.overflow ≡ false = rw (← c.self.view_is) c.if-self.false in
    let first : has (places c.args.self.now.arrived) c.args.epoch.now c.args.publication.now.offset ≡ false =
    rw (← c.publication.view_is) (sym c.has.ensures ∙ c.if-has.false) in
    let full : with_arrival (arrival c.args.epoch.now c.args.publication.now) c.args.self.now
    ≡ given_up c.args.self.now.short =
    with_arrival-full (arrival c.args.epoch.now c.args.publication.now) c.args.self.now (neither _ _ whole first)
    (sym (c.is_full.ensures (arrival c.args.epoch.now c.args.publication.now).at) ∙ c.if-is_full.true) in
    let gone : c.give_up-then-is_full.new.self ≡ given_up c.args.self.now.short =
    rw (← c.give_up.view_is) c.give_up-then-is_full.ensures in
    subst (λ (k : ArrivalBuffer). StandsFor k (arrives (arrival c.args.epoch.now c.args.publication.now).at arrived))
    (full ∙ sym gone) (stands_more (arrival c.args.epoch.now c.args.publication.now) c.args.self.now arrived stands)

pub store-requires : goal.store-requires
store-requires c =
    let whole : c.args.self.now.overflow ≡ false = rw (← c.self.view_is) c.if-self.false in
    let first : has (places c.args.self.now.arrived) c.args.epoch.now c.args.publication.now.offset ≡ false =
    rw (← c.publication.view_is) (sym c.has.ensures ∙ c.if-has.false) in
    let fits : overfull ((arrival c.args.epoch.now c.args.publication.now).at ∷ places c.args.self.now.arrived)
    ≡ false = sym (c.is_full.ensures (arrival c.args.epoch.now c.args.publication.now).at) ∙ c.if-is_full.false in
    let room : TakesRoom (arrival c.args.epoch.now c.args.publication.now) c.args.self.now =
    record { whole = whole; first = first; fits = fits } in
    room

pub returns-then-is_err-clause-refused : goal.returns-then-is_err-clause-refused
returns-then-is_err-clause-refused c h k =
    let whole : c.args.self.now.overflow ≡ false = rw (← c.self.view_is) c.if-self.false in
    let first : has (places c.args.self.now.arrived) c.args.epoch.now c.args.publication.now.offset ≡ false =
    rw (← c.publication.view_is) (sym c.has.ensures ∙ c.if-has.false) in
    let fits : overfull ((arrival c.args.epoch.now c.args.publication.now).at ∷ places c.args.self.now.arrived)
    ≡ false = sym (c.is_full.ensures (arrival c.args.epoch.now c.args.publication.now).at) ∙ c.if-is_full.false in
    let room : TakesRoom (arrival c.args.epoch.now c.args.publication.now) c.args.self.now =
    record { whole = whole; first = first; fits = fits } in
    (room, c.give_up-then-is_err.ensures)

pub returns-else-is_err-clause-kept : goal.returns-else-is_err-clause-kept
returns-else-is_err-clause-kept c h =
    let whole : c.args.self.now.overflow ≡ false = rw (← c.self.view_is) c.if-self.false in
    let first : has (places c.args.self.now.arrived) c.args.epoch.now c.args.publication.now.offset ≡ false =
    rw (← c.publication.view_is) (sym c.has.ensures ∙ c.if-has.false) in
    let fits : overfull ((arrival c.args.epoch.now c.args.publication.now).at ∷ places c.args.self.now.arrived)
    ≡ false = sym (c.is_full.ensures (arrival c.args.epoch.now c.args.publication.now).at) ∙ c.if-is_full.false in
    let room : TakesRoom (arrival c.args.epoch.now c.args.publication.now) c.args.self.now =
    record { whole = whole; first = first; fits = fits } in
    let stored = on_ok c.store.result (sym c.is_err.ensures.value ∙ c.if-is_err.false) c.store.ensures.ok in
    stored ∙ sym (with_arrival-kept (arrival c.args.epoch.now c.args.publication.now) c.args.self.now room)

pub returns-else-is_err-clause-within : goal.returns-else-is_err-clause-within
returns-else-is_err-clause-within c =
    let whole : c.args.self.now.overflow ≡ false = rw (← c.self.view_is) c.if-self.false in
    let first : has (places c.args.self.now.arrived) c.args.epoch.now c.args.publication.now.offset ≡ false =
    rw (← c.publication.view_is) (sym c.has.ensures ∙ c.if-has.false) in
    let fits : overfull ((arrival c.args.epoch.now c.args.publication.now).at ∷ places c.args.self.now.arrived)
    ≡ false = sym (c.is_full.ensures (arrival c.args.epoch.now c.args.publication.now).at) ∙ c.if-is_full.false in
    let room : TakesRoom (arrival c.args.epoch.now c.args.publication.now) c.args.self.now =
    record { whole = whole; first = first; fits = fits } in
    let stored = on_ok c.store.result (sym c.is_err.ensures.value ∙ c.if-is_err.false) c.store.ensures.ok in
    let within = rw c.self.view_is at c.self.invariant.within in
    rw stored (within-push (arrival c.args.epoch.now c.args.publication.now) c.args.self.now room within)
