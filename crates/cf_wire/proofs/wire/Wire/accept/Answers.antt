-- The bytes that came are the head and what stands behind it, which is the wire's first input.
use Rattle.std.proofs.Common.{◌≡◌, ◌-◌, ℕ, List, Option, Some, length, take, drop, subst, ap, ◌∙◌, arith}
use Rattle.std.proofs.lemmas.Result.{IfOk-weaker}
use Rattle.std.proofs.lemmas.Slice.{between_to_end}
use Rattle.cf_wire.specs.Answered.{Opens, OpensBy}
use Rattle.cf_wire.specs.Heads.{Comes}
use Rattle.cf_wire.specs.Stages.{WireState}
use Rattle.cf_wire.proofs.wire.Wire.accept.Goals as goal

opens_at : {S : Type 0} (contents : S → Option (List ℕ)) (mid : S) (wire : WireState S) (a b x y : List ℕ) → a ≡ b
    → x ≡ y
    → OpensBy contents mid a x wire → OpensBy contents mid b y wire
opens_at contents mid wire a b x y same rest opens =
    subst (λ head. OpensBy contents mid head y wire) same
    (subst (λ behind. OpensBy contents mid a behind wire) rest opens)

pub returns-in-Some-clause-opens : goal.returns-in-Some-clause-opens
returns-in-Some-clause-opens g c =
    let bytes = c.in-Ok.read.0.items in
    let end = c.in-Some.end in
    let mid = c.read_head.new.stream in
    let all = c.deref-in-Some.result.now in
    let head : take end c.deref.result.now ≡ take end bytes = ap (take end) c.deref.ensures.value in
    let rest : take (length all - end) (drop end all) ≡ drop end bytes =
    between_to_end all end (length all) (omega arith) ∙ ap (drop end) c.deref-in-Some.ensures.value in
    let comes : Comes g.S.Read.remaining c.args.stream mid bytes (Some end) =
    subst (Comes g.S.Read.remaining c.args.stream mid bytes) c.in-Some.is c.in-Ok.ensures.comes in
    IfOk-weaker c.answer.result
    (OpensBy g.S.Write.contents mid (take end c.deref.result.now) (take (length all - end) (drop end all)))
    (Opens g.S.Write.contents g.S.Read.remaining c.args.stream)
    (λ wire opens. record {
      mid = mid;
      bytes = bytes;
      end = end;
      comes = comes;
      opens = opens_at g.S.Write.contents mid wire _ _ _ _ head rest opens;
    })
    c.answer.ensures.opens
