-- `hold` puts the block beside those that are owned, which lie apart from it. Assumes `Logic`.
use Rattle.std.proofs.Common.{◌≡◌, ℕ, ◌<◌, List, [], ◌∷◌, ◌++◌, refl, sym, subst, None, append-nil}
use Rattle.std.specs.Mem.{type_size}
use mir.Syntax.{a_type}
use mir.Val.{Val, vptr}
use mir.MapTy.{inst_fn}
use base.Fml.{Lft, Share, ftrue, fsep, flft}
use base.Logic.{SProp, ent, emp, id⊢, apply∗, all, all_e}
use prog.Wp.{WpFn}
use types.Logic.{sem}
use types.Kit.{‵, raw, ◌⊛◌, later, ◌$◌, ◌∵◌, !, qed, by, move, keep, split, join, fsplit, fjoin, suffices, use0, use1}
use types.Kit.{use2, await, rewrite, feq_i}
use types.Run.{stop, fld, and_then, no_more, of_opd, returns, enter}
use types.ByLocal.{alloc_all, pass_all, free_all, look_at, get, get_in, sets}
use types.Part.{agg, sub, whole}
use contract.BorrowLft.{◌⊑◌}
use contract.Monad.{fact, fact_i}
use contract.Running.{tables}
use denote.Exit.{no}
use denote.RattleType.{RattleType, owns}
use denote.Param.{param, layouts}
use denote.RawPtr.{Ptr, block_ptr}
use denote.Signature.{types_at, plain}
use denote.Steps.{nothing, heard}
use denote.Triple.Walked.{Stays, walk_of, stay_ref, stay_dropped, Goes-ref}
use Rattle.core.proofs.alloc.Calls.{Goes-blank}
use Rattle.std.proofs.raw_atomic.Walks.{proved_at, leaves}
use Rattle.std.specs.contracts.alloc.Global as heap
use Rattle.std.proofs.alloc.Global.TheLaws as heap_laws
use Rattle.std.specs.contracts.impls.GlobalAllocator.TheImpl.{ghosts}
use Rattle.std_alloc.proofs.RcSteps.{word, word-Good}
use Rattle.lru.proofs.Apart.{IsFresh}
use Rattle.lru.proofs.Memory.{word_made, knows}
use Rattle.cf_subs.specs.Held.{Held, held, places, found}
use Rattle.cf_subs.specs.Ownership.{block_owns, blocks_own}
use Rattle.cf_subs.specs.contracts.blocks.At as at
use Rattle.cf_subs.proofs.Places.{fresh_found, apart_held}
use Rattle.cf_subs.proofs.Steps as steps
use Rattle.cf_subs.proofs.Steps.{Owner, Loose, both, loose_good, loose_out}
use Rattle.cf_subs.specs.contracts.blocks.Blocks.hold.{ended, clauses}
use Rattle.cf_subs.specs.contracts.blocks.Blocks.hold.Key.{name as #self}
use Rattle.cf_subs.proofs.blocks.Blocks.hold.Statement.{statement}
use Rattle.cf_subs.proofs.blocks.Blocks.hold.Code as code

pub hold_spec : {M : Type 1} → statement M
hold_spec 𝓤 𝓛 𝓜 𝓡 wired T L =
    let H = 𝓛.H in let 𝓣 = tables 𝓤 H 𝓜 𝓡 𝓡.env in let R : RattleType = param 0 T in let En = ended T in let c =
    clauses T 𝓛 𝓜.mem 𝓡.returns in
    let inst = layouts (a_type ∷ []) (T, tt) in let fn = inst_fn inst code.function in let Ow : RattleType =
    Owner 𝓛 R in let Ar : RattleType = at.the_row in let Z : RattleType = heap.the_row in let LZ =
    heap_laws.the_row_laws in let g = ghosts in
    let Ls : RattleType = Loose R Z LZ g in
    let hs : Stays En.signature.params En.kept =
    (stay_ref (0 ∷ []) tt (plain (λ _. Ow)), (stay_dropped (plain (λ _. Ls)) no, tt)) in
    proved_at 𝓛 En hs c 𝓜 𝓡 (
      Goes-ref 𝓛 2 0 tt (plain (λ _. Ow)),
      (Goes-blank 𝓛 2 (plain (λ _. Ls)) no (λ κs x f. tt), tt),
    ) (#self inst) fn (code.unfolded 𝓤 H 𝓜 𝓡 wired (T, tt))
    (λ z are.
    let κs = z.0.0 in let qs = z.0.1 in let Post : Val → SProp 𝓤 = (walk_of 𝓛 En hs c).post z in
    let Run : List Val → SProp 𝓤 = λ ws. WpFn 𝓤 H 𝓣.C 𝓣.Λ fn ws Post in
    let κ : Lft = κs.0 in let q : Share = qs.0 in let m = z.0.3.0 in let nb : ℕ = m.ref_ptr.0 in let no₀ : ℕ =
    m.ref_ptr.1 in let ν : ℕ = m.ghost_name in let n = m.now in let d : Ls.Denot = z.0.3.1.0 in let v : T.Denot =
    d.value in
    let Shuts = steps.Shuts 𝓛 R κ q nb no₀ ν in let Asked : Type 0 = 0 < type_size R in
    qed 𝓛 (((‵ (flft κ q) ⊛ ‵ (fsep (flft κs.1.0 qs.1.0) ftrue)) ⊛ ‵
    (owns (types_at En.signature.params κs) z.0.3 z.0.4)) ∷ raw (fact 𝓤 (κs.1.0 ⊑ T.lives)) ∷ raw (fact 𝓤 Asked)
    ∷ []) ∵
    move ! (1 ∷ 2 ∷ []) $ heard ! (κs.1.0 ⊑ T.lives)
    (λ _. heard ! Asked (λ asked. split ! $ split ! $ move ! (2 ∷ []) $ fsplit ! $ fsplit ! $
    move ! (2 ∷ 1 ∷ 3 ∷ 4 ∷ []) $ fsplit ! $ loose_out R Z LZ g ! d z.0.4.1.0
    (λ b o u e e1 gu. keep ! (3 ∷ 4 ∷ 0 ∷ 5 ∷ []) $
    -- [self; its token; the block; T's token]
    let p : Ptr = block_ptr b o in
    suffices ! (Run (vptr nb no₀ ∷ both (vptr b o) u ∷ []))
    (subst (λ (ws : List Val × List Val). ent 𝓤 (Run (vptr nb no₀ ∷ both (vptr b o) u ∷ []))
    (Run (ws.0 ++ (ws.1 ++ [])))) (λ i. (sym are.0.0 i, sym e1 i))
    (id⊢ 𝓤 (Run (vptr nb no₀ ∷ both (vptr b o) u ∷ [])))) $
    enter ! 𝓣.C 𝓣.Λ fn (vptr nb no₀ ∷ both (vptr b o) u ∷ []) Post $ alloc_all !
    (λ l. pass_all ! refl ((tt, tt), (loose_good R Z LZ g b o u gu, tt)) $
    use2 𝓛 (later (‵ (blocks_own R n.held) ⊛ raw (all 𝓤 Shuts))) (steps.owner_opens 𝓛 R κ q nb no₀ ν n) $ await ! tt $
    split ! $
    move ! (2 ∷ []) $ use1 𝓛 (‵ (block_owns R (held p v))) (id⊢ 𝓤 _) $ knows ! (IsFresh p (places n.held))
    (steps.fresh T L asked 𝓛 𝓜 p v n.held) (λ apart. move ! (1 ∷ []) $ rewrite ! 0
    (λ (l : List (Held T.Denot)). ‵ (blocks_own R l)) (sym (append-nil n.held)) refl $ move ! (1 ∷ 0 ∷ []) $ use2 𝓛
    (‵ (blocks_own R (n.held ++ held p v ∷ []))) (steps.blocks_glue 𝓛 R n.held (held p v) []) $
    let n' : Ow.Denot =
    record { marker = n.marker; held = n.held ++ held p v ∷ []; apart = apart_held p v n.held apart n.apart } in
    let out : Ar.Denot = record { ptr = p } in
    let G0 : Type 0 = found n.held p ≡ None in let G1 : Type 0 = n'.held ≡ n.held ++ held p v ∷ [] in
    -- [the blocks; the way back; T's token]
    sets ! (of_opd ! (get_in ! (fld ! refl (stop !)) (sub ! 0 refl (whole !)))) refl (tt, tt) $ sets !
    (of_opd ! (get ! refl)) refl (tt, tt) $ sets ! (agg ! (and_then ! (get ! refl) (no_more !))) refl
    (word-Good [] p) $
    move ! (1 ∷ []) $ use1 𝓛 (raw (Shuts n')) (all_e 𝓤 Shuts n') $ move ! (1 ∷ 0 ∷ []) $ use2 𝓛
    (later (‵ (steps.lent 𝓛 R κ q nb no₀ ν n') ⊛ ‵ (flft κ q))) (apply∗ 𝓤 (sem 𝓛 (blocks_own R n'.held)) _) $ await
    ! tt $ split ! $
    feq_i ! (List Val) z.0.4.0 (vptr nb no₀ ∷ []) are.0.0 $ fjoin ! $ nothing ! $ nothing ! $ fjoin ! $ move !
    (1 ∷ 0 ∷ []) $ fjoin ! $
    move ! (1 ∷ 2 ∷ []) $ join ! $ word_made ! p $ use0 𝓛 (raw (fact 𝓤 G1)) (fact_i 𝓤 G1 (emp 𝓤) refl) $ use0 𝓛
    (raw (fact 𝓤 G0)) (fact_i 𝓤 G0 (emp 𝓤) (fresh_found p n.held apart)) $ join ! $
    -- [the `ensures`; the result; the tokens; self]
    returns ! (look_at ! 0 refl) $ free_all ! refl $ keep ! (2 ∷ 3 ∷ 1 ∷ 0 ∷ []) $ by !
    (leaves 𝓛 En hs c z (word p) out (n', (tt, tt)) (tt, (tt, tt)))))))))
