-- The stream begins as the list does that the definition starts at a top.
use Rattle.std.proofs.lemmas.Result.{IfOk-weaker}
use Rattle.cf_stream.specs.Stream.{Shown}
use Rattle.cf_stream.proofs.PublicationLists.{Shows-started_at}
use Rattle.cf_stream.proofs.stream.Stream.start_at.Goals as goal

pub returns-clause-list : goal.returns-clause-list
returns-clause-list c =
    IfOk-weaker c.after_top.result _ _ (λ (s : Shown) h. rw h (Shows-started_at c.args.epoch c.args.size c.args.top))
    c.after_top.ensures
