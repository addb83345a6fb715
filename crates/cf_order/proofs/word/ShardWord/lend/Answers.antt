-- The pass is of this word, so it may be split in two that have seen the same.
use Rattle.std.proofs.Common.{sym, ap, ◌∙◌, arith, add-zero}
use Rattle.cf_order.proofs.Steps.{splits}
use Rattle.cf_order.proofs.word.ShardWord.lend.Goals as goal

pub split_seat-seat-requires : goal.split_seat-seat-requires
split_seat-seat-requires c =
    let words = c.self.invariant in
    let v = c.pass.inside.seat.me.0 in (
      ap (λ k. k.word) c.pass.view_is ∙ c.requires ∙ sym c.self.view_is,
      omega arith,
      splits c.pass.inside.seat.id v v.share 0 (add-zero v.share),
    )
