-- An epoch that is said is kept, and no other event changes the notes.
use Rattle.std.proofs.Common.{◌∙◌, rules}
use Rattle.std.specs.String.{string_bytes}
use Rattle.std.proofs.lemmas.Map.Text.{btree_set_updates_text}
use Rattle.cf_simulate.proofs.schedule.keep_epoch.Goals as goal

pub returns-clause-ok : goal.returns-clause-ok
returns-clause-ok c =
    rw c.in-Epoch.is (
      search rules,
      λ q. btree_set_updates_text (string_bytes c.in_ok-from_str.field-0)
          c.args.epochs.now c.insert.new.self _ c.in_ok-insert.ensures.updates q ∙ search rules,
    )
