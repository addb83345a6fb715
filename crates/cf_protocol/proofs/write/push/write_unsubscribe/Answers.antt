-- A push that says nothing is the empty object; any other has a channel or a code to write, and is written in parts.
use Rattle.std.proofs.Common.{◌≡◌, ℕ, ◌<◌, ◌+◌, ◌==◌, List, [], ◌∷◌, true, length, subst, sym, ◌∙◌, refl, arith}
use Rattle.std.proofs.Common.{eqb-true}
use Rattle.std.specs.Prelude.{IfOk, codes, string_bytes}
use Rattle.cf_protocol.specs.Outgoing.{Push, Unsubscribe}
use Rattle.cf_protocol.specs.Written.{outgoing_text}
use Rattle.cf_protocol.proofs.Writings.{then, whole}
use Rattle.cf_protocol.proofs.Outgoings.{inside_inner, unsubscribe_stands, nonzero}
use Rattle.cf_protocol.proofs.write.push.write_unsubscribe.Goals.{else-code-eq0-via-then-code-eq0+else-is_empty}
use Rattle.cf_protocol.proofs.write.push.write_unsubscribe.Goals.{else-code-eq0-via-else-code-eq0}
use Rattle.cf_protocol.proofs.write.push.write_unsubscribe.Goals as goal

-- a push that says nothing is written as an empty object
says_nothing : (channel : List ℕ) (code : ℕ) → code ≡ 0 → (length channel == 0) ≡ true
    → codes "{}" ≡ outgoing_text (Push channel (Unsubscribe code))
unfolding outgoing_text
says_nothing [] code e h = rw e refl
says_nothing (x ∷ channel) code e h = absurd (omega (arith, eqb-true (length (x ∷ channel)) 0 h))

pub returns-then-is_empty : goal.returns-then-is_empty
returns-then-is_empty c =
    subst (λ t. IfOk c.from_str.result (λ s. string_bytes s ≡ t))
    (says_nothing c.args.channel.now c.args.code c.if-code-eq0.true (sym c.is_empty.ensures ∙ c.if-is_empty.true))
    c.from_str.ensures.ok

pub returns : goal.returns
unfolding outgoing_text
returns c =
    let some : 0 < length c.args.channel.now + c.args.code =
    elim c.else-code-eq0.branch [
      | else-code-eq0-via-then-code-eq0+else-is_empty w ↦ omega
          (arith, nonzero _ _ w.is_empty.ensures w.if-is_empty.false)
      | else-code-eq0-via-else-code-eq0 w ↦
          omega arith
    ] in
    let push = inside_inner (unsubscribe_stands c.args.channel.now c.args.code some) c.open.ensures
    (then c.text_member.ensures c.write_end.ensures) c.value.ensures in
    whole c.into_text.result c.new-writer.ensures push c.into_text.ensures
