-- The limit of a history: a number, perhaps with a minus sign.
use Rattle.std.proofs.Common.{◌≡◌, ◌≢◌, inl, inr, ℕ, ◌^◌, ◌<◌, ◌≤◌, ℤ, pos, neg_ℤ, Option, Some, None, MatchOption}
use Rattle.std.proofs.Common.{List, ◌∷◌, sym, ap, ◌∙◌, arith}
use Rattle.std.specs.Fmt.{decimal}
use Rattle.cf_schedule.specs.ScheduleLine.{IsLimit}
use Rattle.cf_schedule.proofs.Numbers.{number_unsigned}

none_signed : (s ds : List ℕ) → s ≡ 45 ∷ ds → ((n : ℕ) → n ≤ 2 ^ 31 → ds ≢ decimal n) → (limit : ℤ) → IsLimit s limit
    → ⊥
none_signed s ds e h limit (n, inl p) = number_unsigned n (let l = p.2 in omega arith) ds (sym p.0 ∙ e)
none_signed s ds e h limit (n, inr p) = let rest : ds ≡ decimal n = (let q = sym e ∙ p.0 in cc) in h n p.2 rest

-- the digits stand behind a minus sign
pub limit_signed : (s ds : List ℕ) (o : Option ℤ) → s ≡ 45 ∷ ds
    → MatchOption o ((n : ℕ) → n ≤ 2 ^ 31 → ds ≢ decimal n)
    (λ limit. (n : ℕ) × (n ≤ 2 ^ 31) × (limit ≡ neg_ℤ (pos n)) × (ds ≡ decimal n))
    → MatchOption o ((limit : ℤ) → IsLimit s limit → ⊥) (IsLimit s)
limit_signed s ds None e h = none_signed s ds e h
limit_signed s ds (Some limit) e h = (h.0, inr (e ∙ ap (λ t. 45 ∷ t) h.3, h.2, h.1))

none_plain : (s : List ℕ) → ((rest : List ℕ) → s ≢ 45 ∷ rest) → ((n : ℕ) → n < 2 ^ 31 → s ≢ decimal n) → (limit : ℤ)
    → IsLimit s limit → ⊥
none_plain s plain h limit (n, inl p) = h n p.2 p.0
none_plain s plain h limit (n, inr p) = plain (decimal n) p.0

-- there is no sign
pub limit_plain : (s : List ℕ) (o : Option ℤ) → ((rest : List ℕ) → s ≢ 45 ∷ rest)
    → MatchOption o ((n : ℕ) → n < 2 ^ 31 → s ≢ decimal n)
    (λ limit. (n : ℕ) × (n < 2 ^ 31) × (limit ≡ pos n) × (s ≡ decimal n))
    → MatchOption o ((limit : ℤ) → IsLimit s limit → ⊥) (IsLimit s)
limit_plain s None plain h = none_plain s plain h
limit_plain s (Some limit) plain h = (h.0, inl (h.3, h.2, h.1))
