-- The loop keeps that the texts so far take the known state to the drafted one, with the events told; each step is
-- `take`'s.
use Rattle.std.proofs.Common.{◌∷◌, [], ◌++◌, map, sym, ap, subst}
use Rattle.std.proofs.lemmas.List.{map-append}
use Rattle.cf_protocol.specs.Shown.{shown_outgoing}
use Rattle.cf_client.specs.ClientCalls.{TakesAll}
use Rattle.cf_client.specs.Draft.{drafted}
use Rattle.cf_client.specs.declared.draft.Draft.{Draft}
use Rattle.cf_client.specs.Shown.{known_state, shown_item}
use Rattle.cf_client.proofs.Drafting.{nothing_drafted}
use Rattle.cf_client.proofs.Taking.{takes_more}
use Rattle.cf_client.proofs.draft.draft_of.Goals as goal

pub loop-outgoing-preserved : goal.loop-outgoing-preserved
loop-outgoing-preserved c =
    let done = c.loop-outgoing.yielded in
    let (told, one, also) = c.in_ok-take.ensures in
    let all = takes_more (map shown_outgoing done) (shown_outgoing c.in-Some.outgoing) (known_state c.args.known.now)
    (drafted c.args.known.now c.loop-outgoing.draft) (drafted c.args.known.now c.take.new.self)
    (map shown_item c.loop-outgoing.draft.events.items) told c.loop-outgoing.invariant one in
    subst (λ os. TakesAll os (known_state c.args.known.now) (drafted c.args.known.now c.take.new.self)
    (map shown_item c.take.new.self.events.items)) (sym (map-append shown_outgoing done (c.in-Some.outgoing ∷ [])))
    (subst (λ is. TakesAll (map shown_outgoing done ++ shown_outgoing c.in-Some.outgoing ∷ [])
    (known_state c.args.known.now) (drafted c.args.known.now c.take.new.self) is) (sym also) all)

pub loop-outgoing-init : goal.loop-outgoing-init
loop-outgoing-init c =
    let draft : Draft =
    record { changed = c.new.result; answered = c.new-2.result; events = c.new-3.result; alloc = c.args.alloc } in (
      nothing_drafted c.args.known.now draft c.new.ensures.empty c.new-2.ensures.items,
      ap (map shown_item) c.new-3.ensures.items,
    )
