-- From some number on no session of a hub has one.
use Rattle.std.proofs.Common.{◌≡◌, ◌≢◌, ◌≤◌, ℕ, suc, ◌+◌, false, None, option_map, List, [], ◌∷◌, refl, ap, arith}
use Rattle.std.proofs.lemmas.Bool.Decides.{nat_tests}
use Rattle.std.specs.BTreeMap.{is_at}
use Rattle.std.specs.Map.{lookup}
use Rattle.std.specs.Ordering.{nat_cmp}
use Rattle.cf_hub.specs.Hub.{Node, attached_at}
use Rattle.cf_hub.specs.Session.{Shown, attached_shown}

abbrev pub past : List (ℕ × Shown) → ℕ
past [] = 0
past (e ∷ es) = suc (e.0 + past es)

apart : (j n : ℕ) → j ≢ n → is_at (nat_cmp j) n ≡ false
apart j n h = grind (arith, nat_tests, h)

none_past : (es : List (ℕ × Shown)) (k : ℕ) → past es ≤ k → lookup (is_at (nat_cmp k)) es ≡ None
none_past [] k h = refl
none_past (e ∷ es) k h = rw (apart k e.0 (λ f. omega (arith, h, f))) (none_past es k (omega (arith, h)))

pub bounded : (h : Node) (k : ℕ) → past h.sessions ≤ k → attached_at h k ≡ None
bounded h k b = ap (option_map attached_shown) (none_past h.sessions k b)
