-- A text of which no byte has to be escaped stands in a string as it is.
use Rattle.std.proofs.Common.{◌≡◌, ℕ, ◌≤◌, List, [], ◌∷◌, ◌++◌, true, refl, sym, ap, ◌∙◌, arith, leb-true}
use Rattle.std.specs.Prelude.{◌==◌, ◌&&◌, not, nat_le}
use Rattle.std.specs.List.{list_all}
use Rattle.std.proofs.lemmas.Bool.{and_parts, not-true, eqb-false}
use Rattle.cf_json.specs.Quoting.{escape, escaped, quoted, short_letter}
use Rattle.cf_protocol.specs.Writing.{Grows, is_plain}
use Rattle.cf_protocol.specs.declared.write.writer.Writer.{Writer}
use Rattle.cf_protocol.proofs.Writings.{join}

by_itself : (x : ℕ) → 32 ≤ x → (x ≡ 34 → ⊥) → (x ≡ 92 → ⊥) → escape x ≡ x ∷ []
unfolding escape short_letter
by_itself x h q b = grind arith

plain_escape : (x : ℕ) → is_plain x ≡ true → escape x ≡ x ∷ []
plain_escape x h =
    let most = and_parts (nat_le 32 x && not (x == 34)) (not (x == 92)) h in
    let first = and_parts (nat_le 32 x) (not (x == 34)) most.0 in
    by_itself x (leb-true 32 x first.0) (eqb-false x 34 (not-true _ first.1)) (eqb-false x 92 (not-true _ most.1))

plain_escaped : (s : List ℕ) → list_all is_plain s ≡ true → escaped s ≡ s
plain_escaped [] h = refl
plain_escaped (x ∷ xs) h =
    let parts = and_parts (is_plain x) (list_all is_plain xs) h in
    ap (λ e. e ++ escaped xs) (plain_escape x parts.0) ∙ ap (λ s. x ∷ s) (plain_escaped xs parts.1)

pub between_quotes : (a b c d : Writer) (s : List ℕ) → list_all is_plain s ≡ true → Grows a b (34 ∷ []) → Grows b c s
    → Grows c d (34 ∷ []) → Grows a d (quoted s)
between_quotes a b c d s plain f g h =
    join a c d (34 ∷ s) (34 ∷ []) (quoted s) (join a b c (34 ∷ []) s (34 ∷ s) f g refl) h
    (ap (λ e. 34 ∷ (e ++ 34 ∷ [])) (sym (plain_escaped s plain)))
