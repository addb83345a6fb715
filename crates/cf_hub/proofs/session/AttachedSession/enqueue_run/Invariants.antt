use Rattle.std.proofs.Common.{◌≡◌, map, take}
use Rattle.cf_queue.specs.OutQueue.{Text}
use Rattle.cf_hub.specs.Session.{badge_of, state_of}
use Rattle.cf_hub.specs.WantOfMemory.{SaysAll}
use Rattle.cf_hub.specs.Wordings.{plain, push_text}
use Rattle.cf_hub.proofs.session.AttachedSession.enqueue_run.Given as goal

abbrev pub invariant-loop-publication : goal.invariant-loop-publication
invariant-loop-publication l =
    SaysAll l.refused plain (map (λ x. Text (push_text l.channel x)) (take l.publication-index l.run))
    (state_of l.fn.self) (state_of l.self) × (badge_of l.self ≡ badge_of l.fn.self)
