-- A `&` to the owner of blocks is made where one to each value is. Assumes `Logic`.
use mathlib.Core.List.{List, [], ◌∷◌}
use seplogic.Ra.Ura.{Ura}
use base.Fraction.{full_share}
use base.Fml.{Lft, Incl, ftrue}
use types.Logic.{Logic}
use mir.Raw.{raw}
use denote.RattleType.{RattleType, RowLaws}
use denote.Memory.{lone}
use denote.Param.Laws.{Laws}
use denote.RawPtr.{lies_at}
use denote.Sharing.{ShrLaws}
use denote.SharingLaws.{beside_shr_laws, nothing_shr_laws}
use denote.Shares.{Shares-less}
use denote.Struct.Lending.{Lends, lent_at, lent_at_shr_laws, Lends-lies, Lends-first, Lends-both, Lends-nothing}
use Rattle.libc.specs.Heap.{chunk}
use Rattle.cf_subs.specs.Held.{Held}
use Rattle.cf_subs.specs.Ownership.{block_owns, blocks_own, blocks_lent}

pub blocks_lent_laws : (R : RattleType) → RowLaws R → (hs : List (Held R.Denot)) → ShrLaws (blocks_lent R hs)
blocks_lent_laws R L [] = nothing_shr_laws
blocks_lent_laws R L (h ∷ hs) = beside_shr_laws _ _ (lent_at_shr_laws R L h.at h.value) (blocks_lent_laws R L hs)

module _ {M : Type 1} {𝓤 : Ura M} (𝓛 : Logic 𝓤) (l : Lft) (R : RattleType) (L : Laws R) (inc : Incl l R.lives) where
  Lends-block : (h : Held R.Denot) → Lends 𝓛 (block_owns R h) (lent_at R h.at h.value) l
  Lends-block h =
      Lends-first 𝓛 (lies_at R full_share h.at h.value) (chunk (raw (lone R.mir)) h.at) (lent_at R h.at h.value) l
      (Lends-lies 𝓛 R l h.at h.value (Shares-less 𝓛 R R.lives l inc (L.shares 𝓛) h.value))

  pub Lends-blocks : (hs : List (Held R.Denot)) → Lends 𝓛 (blocks_own R hs) (blocks_lent R hs) l
  Lends-blocks [] = Lends-nothing 𝓛 ftrue l
  Lends-blocks (h ∷ hs) =
      Lends-both 𝓛 (block_owns R h) (blocks_own R hs) (lent_at R h.at h.value) (blocks_lent R hs) l (Lends-block h)
      (Lends-blocks hs)
