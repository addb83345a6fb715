-- Whoever follows was behind the owner at most (`is_behind`), so what it has seen then is all that the owner has.
use Rattle.std.proofs.Common.{sym, ap, arith}
use Rattle.cf_order.specs.ShardStep.{IsBehind}
use Rattle.cf_order.proofs.Told.{is_behind}
use Rattle.cf_order.proofs.word.ShardWord.follow.Goals as goal

behind : (c : goal.After-give_back) → IsBehind c.owner.inside.seat.me.0 c.pass.inside.seat.me.0
behind c =
    is_behind c.owner.inside.seat.me.0 c.pass.inside.seat.me.0 c.take_in.new.owner.me.0
    _ (ap (λ m. m.0) c.take_in.ensures.owner.1) c.tell.ensures.told c.owner.invariant.owns c.owner.invariant.whole
    c.pass.invariant.seen

pub returns-clause-seen : goal.returns-clause-seen
returns-clause-seen c = rw (sym c.pass.view_is, sym c.owner.view_is) ((behind c).seen, (behind c).found)

pub returns-clause-share : goal.returns-clause-share
returns-clause-share c =
    rw (sym c.pass.view_is, sym c.owner.view_is) (omega (arith, (behind c).share, c.owner.invariant.share))
