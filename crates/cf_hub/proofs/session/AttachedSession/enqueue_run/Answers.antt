-- The loop keeps that the publications so far are said, one text each, in order.
use Rattle.std.proofs.Common.{◌≡◌, ◌||◌, ◌∙◌, ◌+◌, ◌++◌, Bool, List, [], ◌∷◌, ℕ, sym, ap, subst, map, take}
use Rattle.std.proofs.lemmas.List.{map_more}
use Rattle.cf_protocol.specs.Datum.{Placed}
use Rattle.cf_queue.specs.OutQueue.{Item, Text}
use Rattle.cf_hub.specs.Session.{state_of}
use Rattle.cf_hub.specs.WantOfMemory.{SaysAll}
use Rattle.cf_hub.specs.Wordings.{plain, push_text}
use Rattle.cf_hub.proofs.Notes.{all_said, one_said}
use Rattle.cf_hub.proofs.session.AttachedSession.enqueue_run.Goals as goal

abbrev pushes : List ℕ → List Placed → List Item
pushes c ps = map (λ x. Text (push_text c x)) ps

pub loop-publication-preserved : goal.loop-publication-preserved
loop-publication-preserved c =
    let x : Placed = c.publication-item.result in
    let before : List Item = pushes c.args.channel.now (take c.loop-publication.publication-index c.args.run.now) in
    let more : pushes c.args.channel.now (take (c.loop-publication.publication-index + 1) c.args.run.now)
    ≡ pushes c.args.channel.now (take c.loop-publication.publication-index c.args.run.now)
    ++ Text (push_text c.args.channel.now c.publication-item.result) ∷ [] =
    map_more (λ y. Text (push_text c.args.channel.now y)) c.args.run.now c.loop-publication.publication-index
    c.publication-item.result c.loop-publication-test.true
    ∙ ap (λ y. pushes c.args.channel.now (take c.loop-publication.publication-index c.args.run.now)
    ++ Text (push_text c.args.channel.now y) ∷ []) (sym c.publication-item.is) in (
      subst (λ (ns : List Item). SaysAll (c.loop-publication.refused || c.say-refused.result) plain ns
          (state_of c.args.self.now) (state_of c.say-refused.new.self)) (sym more)
          (all_said plain c.loop-publication.refused c.say-refused.result before
          (Text (push_text c.args.channel.now x) ∷ []) (state_of c.args.self.now) (state_of c.loop-publication.self)
          (state_of c.say-refused.new.self)
          c.loop-publication.invariant.0
          (one_said plain c.say-refused.result (Text (push_text c.args.channel.now x))
          (state_of c.loop-publication.self) (state_of c.say-refused.new.self)
          (c.say-refused.ensures.state (push_text c.args.channel.now x) c.push_text.ensures))),
      c.say-refused.ensures.badge ∙ c.loop-publication.invariant.1,
    )
