-- The stream begins as the list does that the definition starts.
use Rattle.std.proofs.lemmas.Result.{IfOk-weaker}
use Rattle.cf_stream.specs.Stream.{Shown}
use Rattle.cf_stream.proofs.PublicationLists.{Shows-started}
use Rattle.cf_stream.proofs.stream.Stream.start.Goals as goal

pub returns-clause-list : goal.returns-clause-list
returns-clause-list c =
    IfOk-weaker c.after_top.result _ _ (λ (s : Shown) h. rw h (Shows-started c.args.epoch c.args.size))
    c.after_top.ensures

pub returns-clause-started : goal.returns-clause-started
returns-clause-started c = c.after_top.ensures
