-- Whoever appends was behind the owner at most, so what it has seen is a front of the log.
use Rattle.std.proofs.Common.{sym, ap}
use Rattle.cf_order.proofs.Told.{is_behind}
use Rattle.cf_order.proofs.word.ShardWord.append.Goals as goal

pub returns-clause-seen : goal.returns-clause-seen
returns-clause-seen c =
    let b = is_behind c.owner.inside.seat.me.0 c.pass.inside.seat.me.0 c.take_in.new.owner.me.0
    _ (ap (λ m. m.0) c.take_in.ensures.owner.1) c.add.ensures.told c.owner.invariant.owns c.owner.invariant.whole
    c.pass.invariant.seen in
    rw (sym c.pass.view_is, sym c.owner.view_is) (b.seen, b.found)
