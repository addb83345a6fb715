-- By the key that says what is answered: it or its value can't be read, or the outcome is the one that stands under it.
use Rattle.std.proofs.Common.{rules, Err, ◌≡◌, ◌∷◌, [], Some, refl, ◌∙◌}
use Rattle.std.specs.Prelude.{option_and_then}
use Rattle.cf_protocol.specs.Outgoing.{Answer}
use Rattle.cf_protocol.specs.Fields.{◌>>=◌, as_whole, max_u32, object_as, present}
use Rattle.cf_protocol.specs.Reading.{Answers}
use Rattle.cf_protocol.specs.Reply.{result_of}
use Rattle.cf_protocol.specs.Shown.{shown_outcome}
use Rattle.cf_protocol.specs.Methods.{outcome_of}
use Rattle.cf_protocol.proofs.Choices.{by_key, by_fault}
use Rattle.cf_protocol.proofs.Readings.{reads, in_turn}
use Rattle.cf_protocol.proofs.read.outgoing.read_answer.Goals as goal

pub returns-in_err-key : goal.returns-in_err-key
returns-in_err-key c fs stands =
    let none : Answers shown_outcome (Err c.in_err-key.field-0.0) (result_of fs) =
    by_fault shown_outcome (λ key. object_as (outcome_of key)) c.args.members.now.text.now _ fs
    c.in_err-key.field-0.0 (c.in_err-key.ensures fs stands) in
    let id = c.in_ok-id.ensures fs stands in
    search rules

pub returns-in_err-outcome : goal.returns-in_err-outcome
returns-in_err-outcome c fs stands =
    let chosen = c.in_ok-key.ensures fs stands in
    let result : result_of fs ≡ object_as (outcome_of c.in_ok-key.key) chosen.0 =
    by_key (λ key. object_as (outcome_of key)) _ fs _ chosen.2 in
    let id = c.in_ok-id.ensures fs stands in
    let was = c.in_err-outcome.ensures chosen.0 chosen.1 in
    search rules

pub returns : goal.returns
returns c fs stands =
    let chosen = c.in_ok-key.ensures fs stands in
    let result : result_of fs ≡ object_as (outcome_of c.in_ok-key.key) chosen.0 =
    by_key (λ key. object_as (outcome_of key)) _ fs _ chosen.2 in
    let id : option_and_then (as_whole 1 max_u32) (present fs "id") ≡ Some c.in_ok-id.id =
    c.in_ok-id.ensures fs stands in
    in_turn (present fs "id") (as_whole 1 max_u32) (λ id. result_of fs >>= λ result. Some (Answer id result ∷ []))
    ∙ reads _ id (reads _ (result ∙ c.in_ok-outcome.ensures chosen.0 chosen.1) refl)
