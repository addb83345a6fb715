-- What both passes have seen is joined in one, of the same word, by `joined`.
use Rattle.std.proofs.Common.{◌≡◌, subst, sym, ap, ◌∙◌, arith}
use Rattle.cf_order.specs.View.{View}
use Rattle.cf_order.specs.ShardStep.{Knows, joined}
use Rattle.cf_order.proofs.Prefixes.{seen_begins, met_begins}
use Rattle.cf_order.proofs.Steps.{joins}
use Rattle.cf_order.proofs.word.ShardWord.join.Goals as goal

pub join_seat-requires : goal.join_seat-requires
join_seat-requires c =
    let words = c.self.invariant in
    let table = sym c.self.view_is in (
      ap (λ k. k.word) c.pass.view_is ∙ c.requires.pass ∙ table,
      ap (λ k. k.word) c.other.view_is ∙ c.requires.other ∙ table,
      c.other.invariant.bare,
      omega arith,
      joins _ _ _ _ c.pass.invariant.owns c.other.invariant.owns,
    )

pub returns-clause-seen : goal.returns-clause-seen
returns-clause-seen c =
    let v = c.pass.inside.seat.me.0 in
    let w = c.other.inside.seat.me.0 in
    let is : c.tell.new.seat.me.0 ≡ joined v w = ap (λ m. m.0) (c.tell.ensures.same.1 ∙ c.join_seat.ensures.2) in
    let k : Knows (joined v w) c.tell.result =
    subst (λ (u : View). Knows u c.tell.result) (ap (λ m. m.0) c.join_seat.ensures.2) c.tell.ensures.told in
    let seen = seen_begins v.log w.log v.found w.found c.pass.invariant.seen c.other.invariant.seen k.met in
    rw (sym c.pass.view_is, sym c.other.view_is, is) seen

pub returns-clause-found : goal.returns-clause-found
returns-clause-found c =
    let v = c.pass.inside.seat.me.0 in
    let w = c.other.inside.seat.me.0 in
    let is : c.tell.new.seat.me.0 ≡ joined v w = ap (λ m. m.0) (c.tell.ensures.same.1 ∙ c.join_seat.ensures.2) in
    let k : Knows (joined v w) c.tell.result =
    subst (λ (u : View). Knows u c.tell.result) (ap (λ m. m.0) c.join_seat.ensures.2) c.tell.ensures.told in
    rw (sym c.pass.view_is, sym c.other.view_is, is) (met_begins v.found w.found k.met)
