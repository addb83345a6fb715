-- The name is new, so no row has its number; if the row is refused the name is taken out again, and the names are as
-- before.
use Rattle.std.proofs.Common.{◌∙◌, ap, Some}
use Rattle.cf_subscribers.specs.Follows.{with_follow}
use Rattle.cf_subscribers.specs.Names.{by_name, name_at}
use Rattle.cf_subscribers.proofs.ByName.{covers_new, covers_same, named_at, named_elsewhere, no_follow, no_row}
use Rattle.cf_subscribers.proofs.ByName.{same_names, undone, with_named}
use Rattle.cf_subscribers.proofs.named_rows.add_first_row.Goals as goal

pub returns-in_err-number-clause-used : goal.returns-in_err-number-clause-used
returns-in_err-number-clause-used c =
    covers_same (name_at c.args.names.now) (name_at c.add.new.self) c.args.rows.now c.requires.used
    c.in_err-number.ensures.err

pub add-requires-2 : goal.add-requires-2
add-requires-2 c =
    record {
      absent = no_follow c.args.rows.now c.in_ok-number.number c.args.session
          (no_row (name_at c.args.names.now) c.args.rows.now c.in_ok-number.number c.requires.used
          c.in_ok-number.ensures.free);
    }

pub returns-in-Ok-clause-used : goal.returns-in-Ok-clause-used
returns-in-Ok-clause-used c =
    rw c.in-Ok.ensures.ok
    (covers_new (name_at c.args.names.now) (name_at c.add.new.self) c.args.rows.now c.in_ok-number.number c.args.session
    c.args.channel.now c.requires.used c.in_ok-number.ensures.free c.in_ok-number.ensures.ok)

pub returns-in-Ok-clause-ok : goal.returns-in-Ok-clause-ok
returns-in-Ok-clause-ok c =
    let old = name_at c.args.names.now in let new = name_at c.add.new.self in let n = c.in_ok-number.number in let is =
    c.in_ok-number.ensures.ok in
    ap (by_name new) c.in-Ok.ensures.ok
    ∙ with_named new c.args.rows.now n c.args.session c.args.channel.now
    (named_at old new n (Some c.args.channel.now) is)
    ∙ ap (λ l. with_follow l c.args.channel.now c.args.session)
    (named_elsewhere old new n (Some c.args.channel.now) is c.args.rows.now
    (no_row old c.args.rows.now n c.requires.used c.in_ok-number.ensures.free))

pub returns-in-Err-clause-used : goal.returns-in-Err-clause-used
returns-in-Err-clause-used c =
    rw c.in-Err.ensures.err
    (covers_same (name_at c.args.names.now) (name_at c.remove.new.self) c.args.rows.now c.requires.used
    (undone (name_at c.args.names.now) (name_at c.add.new.self) (name_at c.remove.new.self) c.in_ok-number.number
    (Some c.args.channel.now) c.in_ok-number.ensures.free c.in_ok-number.ensures.ok c.remove.ensures.gone))

pub returns-in-Err-clause-err : goal.returns-in-Err-clause-err
returns-in-Err-clause-err c =
    ap (by_name (name_at c.remove.new.self)) c.in-Err.ensures.err
    ∙ same_names (name_at c.args.names.now) (name_at c.remove.new.self) c.args.rows.now
    (undone (name_at c.args.names.now) (name_at c.add.new.self) (name_at c.remove.new.self) c.in_ok-number.number
    (Some c.args.channel.now) c.in_ok-number.ensures.free c.in_ok-number.ensures.ok c.remove.ensures.gone)
