-- The last of publications that follow an offset.
use Rattle.std.proofs.Common.{◌≡◌, ℕ, suc, zero, ◌+◌, ◌-◌, Option, Some, List, [], ◌∷◌, length, arith, sym, ap, ◌∙◌}
use Rattle.std.proofs.Common.{subst, slice_get, map}
use Rattle.cf_protocol.specs.Datum.{Datum, Placed, numbered}

last_at : (o : ℕ) (ds : List Datum) (i : ℕ) (x : Placed) → slice_get (numbered o ds) i ≡ Some x → x.offset ≡ o + i + 1
last_at o [] i x e = absurd (cc)
last_at o (d ∷ ds) zero x e = ap (λ p. p.offset) (sym (some_is (record { offset = o + 1; datum = d }) x e)) ∙ at_first o
  where
    some_is : (a b : Placed) → ◌≡◌ {A = Option Placed} (Some a) (Some b) → a ≡ b
    some_is a b e = cc

    at_first : (n : ℕ) → n + 1 ≡ n + 0 + 1
    at_first n = omega arith
last_at o (d ∷ ds) (suc i) x e = last_at (o + 1) ds i x e ∙ moved o i
  where
    moved : (n j : ℕ) → n + 1 + j + 1 ≡ n + suc j + 1
    moved n j = omega arith

some_last : (xs : List Placed) (x : Placed) → slice_get xs (length xs - 1) ≡ Some x → length xs - 1 + 1 ≡ length xs
some_last [] x e = absurd (cc)
some_last (y ∷ ys) x e = omega arith

pub last_of : (o : ℕ) (run : List Placed) (x : Placed) → run ≡ numbered o (map (λ y. y.datum) run)
    → slice_get run (length run - 1) ≡ Some x → x.offset ≡ o + length run
last_of o run x is e =
    let at : x.offset ≡ o + (length run - 1) + 1 =
    last_at o (map (λ y. y.datum) run) (length run - 1) x
    (subst (λ ys. slice_get ys (length run - 1) ≡ Some x) is e) in
    let n : length run - 1 + 1 ≡ length run = some_last run x e in
    omega (arith, at, n)
