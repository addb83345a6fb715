-- `release` takes the block out of those that are owned. Assumes `Logic`.
use Rattle.std.proofs.Common.{◌≡◌, ℕ, List, [], ◌∷◌, ◌++◌, refl, sym, ap, ◌∙◌, subst, Some}
use Rattle.std.specs.Prelude.{IsSome}
use mir.Syntax.{a_type}
use mir.Raw.{raw as bare}
use mir.Val.{Val, vptr}
use mir.MapTy.{inst_fn}
use base.Fml.{Lft, Share, ftrue, fsep, flft}
use base.Logic.{SProp, ent, emp, id⊢, apply∗, all, all_e, never, fst∗}
use prog.Wp.{WpFn}
use types.Logic.{sem}
use types.Kit.{‵, raw, ◌⊛◌, later, ◌$◌, ◌∵◌, !, qed, by, move, keep, split, join, fsplit, fjoin, suffices, use0, use1}
use types.Kit.{use2, await, rewrite, feq_i}
use types.Run.{stop, fld, of_opd, and_then, no_more, returns, enter}
use types.ByLocal.{alloc_all, pass_all, free_all, look_at, get, get_in, is, sets}
use types.Part.{agg, sub, whole}
use contract.BorrowLft.{◌⊑◌}
use contract.Monad.{fact, fact_i}
use contract.Running.{tables}
use denote.Exit.{yes}
use denote.RattleType.{RattleType, owns}
use denote.Param.{param, layout, layouts}
use denote.RawPtr.{Ptr, ptr_val, block_ptr, null_ptr, in_a_block}
use denote.Signature.{types_at, plain}
use denote.Steps.{nothing, heard}
use denote.Triple.Walked.{Stays, walk_of, stay_ref, stay_dropped, Goes-ref, Goes-dropped}
use Rattle.core.proofs.alloc.Calls.{handle_tells}
use Rattle.std.proofs.raw_atomic.Walks.{proved_at, leaves}
use Rattle.std.specs.contracts.alloc.Global as heap
use Rattle.std.proofs.alloc.Global.TheLaws as heap_laws
use Rattle.std.specs.contracts.impls.GlobalAllocator.TheImpl.{ghosts}
use Rattle.std_alloc.specs.Box.Ownership.{box_owns}
use Rattle.std_alloc.proofs.RcSteps.{word, word-Good}
use Rattle.libc.specs.Heap.{chunk}
use Rattle.lru.specs.Linked.{IsApart}
use Rattle.lru.proofs.Memory.{word_had}
use Rattle.cf_subs.specs.Held.{Held, places, found, without}
use Rattle.cf_subs.specs.Ownership.{block_owns, blocks_own}
use Rattle.cf_subs.specs.contracts.blocks.At as at
use Rattle.cf_subs.proofs.Places.{cut_at, without_cut, apart_without}
use Rattle.cf_subs.proofs.Steps as steps
use Rattle.cf_subs.proofs.Steps.{Owner, Loose, al, both, loose_good, loose_in}
use Rattle.cf_subs.specs.contracts.blocks.Blocks.release.{ended, clauses}
use Rattle.cf_subs.specs.contracts.blocks.Blocks.release.Key.{name as #self}
use Rattle.cf_subs.proofs.blocks.Blocks.release.Statement.{statement}
use Rattle.cf_subs.proofs.blocks.Blocks.release.Code as code

pub release_spec : {M : Type 1} → statement M
release_spec 𝓤 𝓛 𝓜 𝓡 wired T L =
    let H = 𝓛.H in let 𝓣 = tables 𝓤 H 𝓜 𝓡 𝓡.env in let R : RattleType = param 0 T in let En = ended T in let c =
    clauses T 𝓛 𝓜.mem 𝓡.returns in
    let inst = layouts (a_type ∷ []) (T, tt) in let fn = inst_fn inst code.function in let Ow : RattleType =
    Owner 𝓛 R in let Ar : RattleType = at.the_row in let Z : RattleType = heap.the_row in let LZ =
    heap_laws.the_row_laws in let g = ghosts in
    let Ls : RattleType = Loose R Z LZ g in
    let hs : Stays En.signature.params En.kept = (
      stay_ref (0 ∷ []) tt (plain (λ _. Ow)),
      (
        stay_dropped (plain (λ _. Ar)) yes,
        (stay_dropped (plain (λ _. Z)) yes, tt),
      ),
    ) in
    proved_at 𝓛 En hs c 𝓜 𝓡 (
      Goes-ref 𝓛 2 0 tt (plain (λ _. Ow)),
      (
        Goes-dropped 𝓛 2 (plain (λ _. Ar)) yes (λ κs x f. refl),
        (Goes-dropped 𝓛 2 (plain (λ _. Z)) yes (λ κs x f. refl), tt),
      ),
    ) (#self inst) fn
    (code.unfolded 𝓤 H 𝓜 𝓡 wired (T, tt)) (λ z are.
    let κs = z.0.0 in let qs = z.0.1 in let Post : Val → SProp 𝓤 = (walk_of 𝓛 En hs c).post z in
    let Run : List Val → SProp 𝓤 = λ ws. WpFn 𝓤 H 𝓣.C 𝓣.Λ fn ws Post in
    let κ : Lft = κs.0 in let q : Share = qs.0 in let m = z.0.3.0 in let nb : ℕ = m.ref_ptr.0 in let no₀ : ℕ =
    m.ref_ptr.1 in let ν : ℕ = m.ghost_name in let n = m.now in let p : Ptr = z.0.3.1.0.ptr in let a : Z.Denot =
    z.0.3.1.1.0 in
    let Shuts = steps.Shuts 𝓛 R κ q nb no₀ ν in let Asked : Type 0 = IsSome (found n.held p) in
    qed 𝓛 (((‵ (flft κ q) ⊛ ‵ (fsep (flft κs.1.0 qs.1.0) ftrue)) ⊛ ‵
    (owns (types_at En.signature.params κs) z.0.3 z.0.4)) ∷ raw (fact 𝓤 (κs.1.0 ⊑ T.lives)) ∷ raw (fact 𝓤 Asked)
    ∷ []) ∵
    move ! (1 ∷ 2 ∷ []) $ heard ! (κs.1.0 ⊑ T.lives)
    (λ _. heard ! Asked (λ asked. split ! $ split ! $ move ! (2 ∷ []) $ fsplit ! $ fsplit ! $
    move ! (2 ∷ 1 ∷ 3 ∷ 4 ∷ []) $ fsplit ! $ word_had ! p z.0.4.1.0
    (λ e1. fsplit ! $ handle_tells (al R Z LZ g) ! a z.0.4.1.1.0 (λ u e2 gu. keep ! (2 ∷ 3 ∷ 0 ∷ 4 ∷ []) $
    let cut = cut_at n.held p asked in let xs = cut.before in let h : Held T.Denot = cut.here in let ys = cut.after in
    let apart : IsApart (places (xs ++ h ∷ ys)) = subst (λ l. IsApart (places l)) cut.cut n.apart in
    let new : List (Held T.Denot) = without n.held p in
    let made : xs ++ ys ≡ new =
    sym (ap (λ l. without l p) cut.cut ∙ ap (λ r. without (xs ++ h ∷ ys) r) (sym cut.place)
    ∙ without_cut xs h ys apart) in
    let n' : Ow.Denot =
    record {
      marker = n.marker;
      held = new;
      apart = subst (λ l. IsApart (places l)) made (apart_without xs h ys apart);
    } in
    let G0 : Type 0 = Some h.value ≡ found n.held p in let G1 : Type 0 = new ≡ without n.held p in
    suffices ! (Run (vptr nb no₀ ∷ word p ∷ u ∷ []))
    (subst (λ (ws : List Val × List Val × List Val). ent 𝓤 (Run (vptr nb no₀ ∷ word p ∷ u ∷ []))
    (Run (ws.0 ++ (ws.1 ++ (ws.2 ++ []))))) (λ i. (sym are.0.0 i, sym e1 i, sym e2 i))
    (id⊢ 𝓤 (Run (vptr nb no₀ ∷ word p ∷ u ∷ [])))) $
    enter ! 𝓣.C 𝓣.Λ fn (vptr nb no₀ ∷ word p ∷ u ∷ []) Post $ alloc_all !
    (λ l. pass_all ! refl ((tt, tt), (word-Good [] p, (gu, tt))) $
    use2 𝓛 (later (‵ (blocks_own R n.held) ⊛ raw (all 𝓤 Shuts))) (steps.owner_opens 𝓛 R κ q nb no₀ ν n) $ await ! tt $
    split ! $
    rewrite ! 0 (λ (l : List (Held T.Denot)). ‵ (blocks_own R l)) cut.cut refl $ use1 𝓛
    (‵ (block_owns R h) ⊛ ‵ (blocks_own R (xs ++ ys))) (steps.blocks_cut 𝓛 R xs h ys) $ split ! $
    in_a_block ! h.at (λ s. box_owns chunk R s h.value) (fst∗ 𝓤 (never 𝓤) (sem 𝓛 (chunk (bare (layout T)) null_ptr)))
    (λ b o e. let ep : p ≡ block_ptr b o = sym cut.place ∙ e in
    let out : Ls.Denot = record { at = block_ptr b o; alloc = a; value = h.value } in
    -- [the block; the other blocks; the way back; the handle; T's token]
    sets ! (is ! (of_opd ! (get_in ! (fld ! refl (stop !)) (sub ! 0 refl (whole !)))) (ap ptr_val ep)) refl (tt, tt) $
    sets ! (agg ! (and_then ! (get ! refl) (and_then ! (get ! refl) (no_more !)))) refl
    (loose_good R Z LZ g b o u gu) $
    move ! (0 ∷ 3 ∷ []) $ loose_in R Z LZ g ! b o u a h.value $ move ! (1 ∷ []) $ rewrite ! 0
    (λ (l : List (Held T.Denot)). ‵ (blocks_own R l)) made refl $
    -- [the blocks; the block; the way back; T's token]
    move ! (2 ∷ []) $ use1 𝓛 (raw (Shuts n')) (all_e 𝓤 Shuts n') $ move ! (1 ∷ 0 ∷ []) $ use2 𝓛
    (later (‵ (steps.lent 𝓛 R κ q nb no₀ ν n') ⊛ ‵ (flft κ q))) (apply∗ 𝓤 (sem 𝓛 (blocks_own R n'.held)) _) $ await
    ! tt $ split ! $
    feq_i ! (List Val) z.0.4.0 (vptr nb no₀ ∷ []) are.0.0 $ fjoin ! $ nothing ! $ nothing ! $ fjoin ! $ nothing ! $
    fjoin ! $ move ! (1 ∷ 0 ∷ []) $ fjoin ! $
    move ! (1 ∷ 3 ∷ []) $ join ! $ use0 𝓛 (raw (fact 𝓤 G1)) (fact_i 𝓤 G1 (emp 𝓤) refl) $ use0 𝓛 (raw (fact 𝓤 G0))
    (fact_i 𝓤 G0 (emp 𝓤) (sym cut.value)) $ join ! $
    returns ! (look_at ! 0 refl) $ free_all ! refl $ keep ! (1 ∷ 2 ∷ 3 ∷ 0 ∷ []) $ by !
    (leaves 𝓛 En hs c z (both (vptr b o) u) out (n', (tt, (tt, tt))) (tt, (tt, (tt, tt)))))))))))
