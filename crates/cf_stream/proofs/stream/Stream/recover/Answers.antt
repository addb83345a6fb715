-- The recovery answers what the definition does (`AnswersRead-from`), and the stream goes on unchanged but for its use.
use Rattle.std.proofs.Common.{ap, ◌∙◌, ◌-◌, take, rules}
use Rattle.cf_stream.specs.Stream.{stream_after}
use Rattle.cf_stream.proofs.Giving.{exact_by}
use Rattle.cf_stream.proofs.Placing.{recovered_run}
use Rattle.cf_stream.proofs.PublicationLists.{AnswersRead-from, GoesOn-used}
use Rattle.cf_stream.proofs.stream.Stream.recover.Goals as goal

pub returns-clause-answer : goal.returns-clause-answer
returns-clause-answer c =
    record {
      at = c.position-position.ensures;
      exact = exact_by _ _ _ _ c.missed_since-missed.ensures c.is_some.ensures;
      run = rw c.is_some.ensures
          (c.in_ok-publications.ensures ∙ ap (λ n. take 300 (stream_after c.args.self.now (c.args.self.now.top - n)))
          c.unwrap_or.ensures
          ∙ recovered_run c.args.self.now c.args.since c.missed_since-missed.result c.missed_since-missed.ensures);
    }

pub returns-clause-list : goal.returns-clause-list
returns-clause-list c = AnswersRead-from c.args.self.now c.args.since _ _ _ (returns-clause-answer c)

pub returns-clause-makes : goal.returns-clause-makes
returns-clause-makes c = search rules

pub returns-clause-same_list : goal.returns-clause-same_list
returns-clause-same_list c = rw (returns-clause-makes c) (GoesOn-used c.args.self.now c.args.now)
