-- Both branches are one proof: what was joined is what was lent, and each of the two appends gained its share or found
-- the log
-- full.
use Rattle.std.proofs.Common.{◌≡◌, ap, ◌∙◌, arith}
use Rattle.cf_order.proofs.Gaining.{lent_begins, lent_gains}
use Rattle.cf_order.proofs.Prefixes.{prefix_length, prefix_trans}
use Rattle.cf_order.proofs.together.publish_both.Goals as goal

pub returns-then-a-clause-same : goal.returns-then-a-clause-same
returns-then-a-clause-same g c =
    ap (λ p. p.word) c.join-2.ensures.joined ∙ ap (λ p. p.word) c.join.ensures.joined
    ∙ ap (λ p. p.word) c.lend-two.ensures.same ∙ ap (λ p. p.word) c.lend-one.ensures.same

pub returns-else-a-clause-same : goal.returns-else-a-clause-same
returns-else-a-clause-same g c =
    ap (λ p. p.word) c.join-2.ensures.joined ∙ ap (λ p. p.word) c.join.ensures.joined
    ∙ ap (λ p. p.word) c.lend-two.ensures.same ∙ ap (λ p. p.word) c.lend-one.ensures.same

pub returns-then-a-clause-begins : goal.returns-then-a-clause-begins
returns-then-a-clause-begins g c =
    lent_begins _ _ _ _ _ c.lend-one.ensures.same c.lend-two.ensures.same c.join.ensures.seen.0 c.join-2.ensures.seen.0

pub returns-else-a-clause-begins : goal.returns-else-a-clause-begins
returns-else-a-clause-begins g c =
    lent_begins _ _ _ _ _ c.lend-one.ensures.same c.lend-two.ensures.same c.join.ensures.seen.0 c.join-2.ensures.seen.0

pub returns-then-a-clause-full : goal.returns-then-a-clause-full
returns-then-a-clause-full g c =
    λ no. omega (arith, c.join-one.ensures.second.1 no, prefix_length _ _ c.join-2.ensures.seen.1)

pub returns-else-a-clause-full : goal.returns-else-a-clause-full
returns-else-a-clause-full g c = λ no.
    omega (
      arith,
      c.join-one.ensures.first.1 no,
      prefix_length _ _ (prefix_trans _ _ _ c.join.ensures.seen.1 c.join-2.ensures.seen.0),
    )

pub returns-then-a-clause-share : goal.returns-then-a-clause-share
returns-then-a-clause-share g c = λ both.
    let one : c.join-one.result.0.0.share ≡ 1 = (c.join-one.ensures.first.2 c.if-a.true).0 in
    let two : c.join-one.result.1.0.share ≡ 1 = (c.join-one.ensures.second.2 both).0 in
    rw (
      c.join-2.ensures.joined,
      c.join.ensures.joined,
      c.lend-two.ensures.same,
      c.lend-one.ensures.same,
    ) (omega arith)

pub returns-then-a-clause-both : goal.returns-then-a-clause-both
returns-then-a-clause-both g c = λ both. (
  lent_gains _ _ _ _ _ (ap (λ p. p.log) c.lend-one.ensures.lent) (c.join-one.ensures.first.2 c.if-a.true).1
      (prefix_trans _ _ _ c.join.ensures.seen.1 c.join-2.ensures.seen.0),
  lent_gains _ _ _ _ _ (ap (λ p. p.log) c.lend-two.ensures.lent ∙ ap (λ p. p.log) c.lend-one.ensures.same)
      (c.join-one.ensures.second.2 both).1 c.join-2.ensures.seen.1,
)
