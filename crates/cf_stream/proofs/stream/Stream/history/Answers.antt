-- The list answers what the definition does (`AnswersHistory-from`), and a list of another epoch is refused.
use Rattle.std.proofs.Common.{◌≡◌, ap, ◌∙◌, ◌-◌, take, refl, rules}
use Rattle.cf_model.specs.Streams.{allowed_by}
use Rattle.cf_stream.specs.Stream.{stream_after}
use Rattle.cf_stream.proofs.Giving.{wrong_epoch_none, wrong_epoch_not}
use Rattle.cf_stream.proofs.PublicationLists.{AnswersHistory-from, GoesOn-used}
use Rattle.cf_stream.proofs.stream.Stream.history.Goals as goal

pub returns-clause-answer : goal.returns-clause-answer
returns-clause-answer c =
    let many : c.limit_of.result ≡ allowed_by c.args.limit = search rules in
    record {
      at = c.position-position.ensures;
      in_epoch = c.in-Some.ensures.in_epoch;
      first = c.in_ok-publications.ensures ∙ ap (λ n. take n
          (stream_after c.args.self.now (c.args.self.now.top - c.in-Some.count))) many
          ∙ ap (take (allowed_by c.args.limit)) c.in-Some.ensures.newer;
    }

pub returns-clause-list : goal.returns-clause-list
returns-clause-list c = AnswersHistory-from c.args.self.now c.args.since c.args.limit _ _ (returns-clause-answer c)

pub returns-clause-makes : goal.returns-clause-makes
returns-clause-makes c = search rules

pub returns-clause-same_list : goal.returns-clause-same_list
returns-clause-same_list c = rw (returns-clause-makes c) (GoesOn-used c.args.self.now c.args.now)

pub returns-in_default-clause-wrong_epoch : goal.returns-in_default-clause-wrong_epoch
returns-in_default-clause-wrong_epoch c = (λ e. c.in_default.ensures.other.0 refl, λ other. refl)

pub returns-in_err-publications-clause-wrong_epoch : goal.returns-in_err-publications-clause-wrong_epoch
returns-in_err-publications-clause-wrong_epoch c = wrong_epoch_not _ _ c.in-Some.ensures.other.1 c.from_residual.ensures

pub returns-clause-wrong_epoch : goal.returns-clause-wrong_epoch
returns-clause-wrong_epoch c = wrong_epoch_none _ _ c.in-Some.ensures.other.1
