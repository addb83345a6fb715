-- What the owner of blocks owns and lends, at values of the row R.
use Rattle.std.specs.Prelude.{List, [], ◌∷◌}
use base.Fml.{Lft, Fml, ftrue, fsep}
use denote.RattleType.{RattleType}
use denote.Sharing.{nothing, beside}
use denote.Struct.Lending.{lent_at}
use Rattle.libc.specs.Heap.{chunk}
use Rattle.std.specs.Box.Ownership.{box_owns}
use Rattle.cf_subs.specs.Held.{Held}

-- a block with its value, and the right to free it
abbrev pub block_owns : (R : RattleType) → Held R.Denot → Fml
block_owns R h = box_owns chunk R h.at h.value

abbrev pub blocks_own : (R : RattleType) → List (Held R.Denot) → Fml
blocks_own R [] = ftrue
blocks_own R (h ∷ hs) = fsep (block_owns R h) (blocks_own R hs)

abbrev pub blocks_lent : (R : RattleType) → List (Held R.Denot) → Lft → Fml
blocks_lent R [] = nothing
blocks_lent R (h ∷ hs) = beside (lent_at R h.at h.value) (blocks_lent R hs)
