-- What becomes of the shards when a namespace gets another size. (This project's own profile.)
use Rattle.std.specs.Prelude.{ℕ, ◌<◌, List, [], ◌∷◌}
use Rattle.cf_shard.specs.Shards.{pass_at}
use Rattle.cf_order.specs.Passes.{PassState}
use Rattle.cf_protocol.specs.LogEntry.Entry.{Size}
use Rattle.cf_shard.specs.LogAnswer.{IsSized}
use Rattle.cf_shard.specs.Shard.{IsFull}

-- the log of each shard has the entry more, behind all that the shard's pass had seen
abbrev pub AreSized : (old new : List PassState) → (name : List ℕ) → (size : ℕ) → Type 0
AreSized old new name n =
    (shard : ℕ) → shard < 16 → IsSized (pass_at old shard).log (pass_at new shard).log name n

-- the log that a pass has seen has no room for the entry
abbrev pub IsFullFor : PassState → (name : List ℕ) → (size : ℕ) → Type 0
IsFullFor p name n = IsFull p.log (Size name n ∷ [])

-- one shard's log has none
pub record HasFull (passes : List PassState) (name : List ℕ) (size : ℕ) : Type 0 where
  pub shard : ℕ
  pub within : shard < 16
  pub full : IsFullFor (pass_at passes shard) name size
