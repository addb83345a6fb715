-- Bytes of a string that stand for themselves are read one after another, or many at once.
use Rattle.std.proofs.Common.{◌≡◌, ℕ, List, [], ◌∷◌, ◌++◌, true, false, Ok, refl, sym, ap, ◌∙◌, append_assoc, leb-true}
use Rattle.std.proofs.Common.{arith}
use Rattle.std.specs.Prelude.{◌==◌, ◌&&◌, not, nat_le}
use Rattle.std.specs.List.{list_all}
use Rattle.std.proofs.lemmas.Bool.{and_parts, ne_eqb, not-true, le-ltb}
use Rattle.cf_json.specs.Bytes.{is_plain, is_space, is_visible}
use Rattle.cf_json.specs.Reading.{text_end}
use Rattle.cf_json.specs.Squeeze.{keeps, kept, next}
use Rattle.cf_json.specs.declared.squeeze.SqueezeMode.{SqueezeMode}
use Rattle.cf_json.specs.declared.squeeze.SqueezeMode.TheVariants.{Between, Within, Escaped}
use Rattle.cf_json.specs.declared.token.Within.TheVariants as within
use Rattle.cf_json.proofs.Tokens.{text_takes}
use Rattle.cf_json.proofs.Squeezed.{kept-append, quoted_walks}

pub plain_once : (x : ℕ) (s : List ℕ) → is_plain x ≡ true → text_end within.Plain (x ∷ s) ≡ text_end within.Plain s
unfolding is_plain text_end
plain_once x s h =
    let most = and_parts (nat_le 32 x && not (x == 34)) (not (x == 92)) h in
    let first = and_parts (nat_le 32 x) (not (x == 34)) most.0 in
    rw (not-true (x == 34) first.1, not-true (x == 92) most.1, le-ltb x 32 (leb-true 32 x first.0)) refl

pub plain_run : (w s : List ℕ) → list_all is_plain w ≡ true → text_end within.Plain (w ++ s) ≡ text_end within.Plain s
plain_run [] s h = refl
plain_run (x ∷ w) s h = let p = and_parts (is_plain x) (list_all is_plain w) h in
    plain_once x (w ++ s) p.0 ∙ plain_run w s p.1

-- ---- what is compact already

pub byte_kept : (x : ℕ) (r : List ℕ) → is_space x ≡ false → (x == 34) ≡ false → kept Between r ≡ r
    → kept Between (x ∷ r) ≡ x ∷ r
unfolding kept
byte_kept x r a b e = rw (a, b) (ap (λ t. x ∷ t) e)

pub string_kept : (s r : List ℕ) → text_end within.Plain s ≡ Ok r → kept Between r ≡ r → kept Between (34 ∷ s) ≡ 34 ∷ s
string_kept s r reads e =
    let c = text_takes s r reads in
    let w = quoted_walks c.0 (34 ∷ s) r (c.1, ap (λ t. 34 ∷ t) c.2) in
    ap (kept Between) w.1 ∙ kept-append Between w.0 r ∙ ap (λ m. kept Between w.0 ++ kept m r) w.2.ends
    ∙ ap (λ t. kept Between w.0 ++ t) e ∙ ap (λ t. t ++ r) w.2.keeps
    ∙ ap (λ t. 34 ∷ t) (append_assoc c.0 (34 ∷ []) r ∙ sym c.2)

pub nothing_kept : kept Between [] ≡ []
unfolding kept
nothing_kept = refl

visible_no_space : (x : ℕ) → is_visible x ≡ true → is_space x ≡ false
unfolding is_space
visible_no_space x h =
    let above = leb-true 33 x h in
    rw (
      ne_eqb x 32 (λ e. omega (arith, above, e)),
      ne_eqb x 9 (λ e. omega (arith, above, e)),
      ne_eqb x 10 (λ e. omega (arith, above, e)),
      ne_eqb x 13 (λ e. omega (arith, above, e)),
    ) refl

visible_keeps : (m : SqueezeMode) (x : ℕ) → is_visible x ≡ true → keeps m x ≡ true
visible_keeps Between x h = ap not (visible_no_space x h)
visible_keeps Within x h = refl
visible_keeps Escaped x h = refl

pub visible_kept : (m : SqueezeMode) (xs : List ℕ) → list_all is_visible xs ≡ true → kept m xs ≡ xs
unfolding kept
visible_kept m [] h = refl
visible_kept m (x ∷ xs) h =
    let p = and_parts (is_visible x) (list_all is_visible xs) h in
    rw (visible_keeps m x p.0) (ap (λ t. x ∷ t) (visible_kept (next m x) xs p.1))
