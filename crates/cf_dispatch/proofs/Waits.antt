-- A wait is over once as much time has passed.
use Rattle.std.proofs.Common.{◌≡◌, ℕ, ◌+◌, ◌-◌, ◌<◌, ◌≤◌, leb, arith}
use Rattle.std.specs.Prelude.{◌↔◌, IsTrue}
use Rattle.std.proofs.lemmas.Bool.Decides.{nat_tests}

pub is_over : (from now most passed : ℕ) → passed ≡ now - from → 0 < most
    → IsTrue (leb most passed) ↔ (from + most ≤ now)
is_over from now most passed is some = (λ h. grind (arith, nat_tests), λ h. grind (arith, nat_tests))
