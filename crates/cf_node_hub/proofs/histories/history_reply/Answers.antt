-- The text is the definition's, so it replies to the history wherever that was answered; the id is in range.
use Rattle.std.proofs.Common.{Err, Ok, Result, rules}
use Rattle.std.specs.Prelude.{IfOk}
use Rattle.cf_node_hub.proofs.histories.history_reply.Goals as goal

-- what holds of a value that is there makes another fact hold
then : {A E : Type 0} (P Q : A → Type 0) (r : Result A E) → ((a : A) → P a → Q a) → IfOk r P → IfOk r Q
then P Q (Ok a) step h = step a h
then P Q (Err e) step h = h

pub returns-clause-says : goal.returns-clause-says
returns-clause-says c =
    then _ _ c.write_reply.result
    (λ text is t log channel listed. record {
      id = c.args.id;
      is_code = (c.requires, search (rules, c.ranges.id.fits));
      history = c.args.history;
      listed = listed;
      says = is;
    })
    c.write_reply.ensures
