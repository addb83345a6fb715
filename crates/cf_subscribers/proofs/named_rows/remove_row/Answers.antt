-- By whether the channel still has a row: if not its name goes too, and no row loses its name.
use Rattle.std.proofs.Common.{◌≡◌, ◌∙◌, false, true, sym, ap, rules, None}
use Rattle.cf_subs.specs.Rows.{has_channel}
use Rattle.cf_subscribers.specs.Names.{by_name, name_at}
use Rattle.cf_subscribers.proofs.ByName.{covers_last, covers_less, named_elsewhere}
use Rattle.cf_subscribers.proofs.named_rows.remove_row.Goals as goal

pub returns-then-not-has_channel-clause-used : goal.returns-then-not-has_channel-clause-used
returns-then-not-has_channel-clause-used c =
    let none : has_channel c.remove-found.new.self c.args.channel ≡ false = search rules in
    rw c.remove-found.ensures.removed
    (covers_last (name_at c.args.names.now) (name_at c.remove.new.self) c.args.rows.now c.args.channel c.args.session
    c.requires.used (sym (ap (λ l. has_channel l c.args.channel) c.remove-found.ensures.removed) ∙ none)
    c.remove.ensures.gone)

pub returns-then-not-has_channel-clause-removed : goal.returns-then-not-has_channel-clause-removed
returns-then-not-has_channel-clause-removed c =
    let none : has_channel c.remove-found.new.self c.args.channel ≡ false = search rules in
    named_elsewhere (name_at c.args.names.now) (name_at c.remove.new.self) c.args.channel None c.remove.ensures.gone
    c.remove-found.new.self none
    ∙ ap (by_name (name_at c.args.names.now)) c.remove-found.ensures.removed

pub returns-else-not-has_channel-clause-used : goal.returns-else-not-has_channel-clause-used
returns-else-not-has_channel-clause-used c =
    let some : has_channel c.remove-found.new.self c.args.channel ≡ true = search rules in
    rw c.remove-found.ensures.removed
    (covers_less (name_at c.args.names.now) c.args.rows.now c.args.channel c.args.session c.requires.used
    (sym (ap (λ l. has_channel l c.args.channel) c.remove-found.ensures.removed) ∙ some))
