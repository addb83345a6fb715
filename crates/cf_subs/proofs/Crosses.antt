-- The owner of blocks may cross threads as its values may.
use Rattle.std.specs.Prelude.{List, [], ◌∷◌}
use base.Shift.{Keyless}
use denote.RattleType.{RattleType}
use denote.Struct.Struct.{exits_of}
use denote.Struct.Owning.{shape, fields, to}
use denote.Param.Send.{IsSend, IsSync, Common, AllSend, owning_send, struct_send, struct_sync, sendable}
use Rattle.libc.specs.Heap.{chunk-Keyless}
use Rattle.std_alloc.proofs.SendSync.{quiet, lies, seen}
use Rattle.cf_subs.specs.Held.{Held}
use Rattle.cf_subs.specs.Ownership.{blocks_own, blocks_lent}
use Rattle.cf_subs.specs.contracts.blocks.Blocks as Blocks

module _ (R : RattleType) where
  blocks-Keyless : IsSend R → (hs : List (Held R.Denot)) → Keyless (blocks_own R hs)
  blocks-Keyless s [] = tt
  blocks-Keyless s (h ∷ hs) = ((lies R s _ h.value, chunk-Keyless _ h.at), blocks-Keyless s hs)

  lent-Common : IsSync R → (hs : List (Held R.Denot)) → Common (blocks_lent R hs)
  lent-Common y [] κ = tt
  lent-Common y (h ∷ hs) κ = (seen R y _ h.value κ, lent-Common y hs κ)

  pub Blocks-send : IsSend R → IsSend (Blocks.the_row R)
  Blocks-send s =
      let O = Blocks.the_type R in let all : AllSend (fields O) = (search sendable, tt) in
      owning_send O all (λ d. blocks-Keyless s d.held)
      (λ k. quiet (to O) (exits_of k (fields O)) ((struct_send (shape O) all).leaving k))

  pub Blocks-sync : IsSync R → IsSync (Blocks.the_row R)
  Blocks-sync y = let O = Blocks.the_type R in record {
    shared = λ d b o κ. ((struct_sync (shape O) (search sendable, tt)).shared (to O d) b o κ, lent-Common y d.held κ);
  }
