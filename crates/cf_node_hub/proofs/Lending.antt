-- A pass that was taken out is put back.
use Rattle.std.proofs.Common.{◌≡◌, ℕ, zero, suc, List, [], ◌∷◌, refl, ap}
use Rattle.std.specs.Prelude.{slice_set}
use Rattle.cf_order.specs.Passes.{PassState}
use Rattle.cf_shard.specs.Shards.{pass_at}

pub put_back : (ps : List PassState) (n : ℕ) (p : PassState) → slice_set (slice_set ps n p) n (pass_at ps n) ≡ ps
put_back [] n p = refl
put_back (q ∷ ps) zero p = refl
put_back (q ∷ ps) (suc n) p = ap (λ (l : List PassState). q ∷ l) (put_back ps n p)
