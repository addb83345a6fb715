-- `put` follows the pointer to a block that is owned, moves its value out and another one in. Assumes `Logic`.
use Rattle.std.proofs.Common.{◌≡◌, ℕ, List, [], ◌∷◌, ◌++◌, refl, sym, ap, ◌∙◌, subst, Some}
use Rattle.std.specs.Prelude.{IsSome}
use base.Fraction.{full_share}
use mir.Syntax.{a_type}
use mir.Val.{Val, vptr}
use mir.MapTy.{inst_fn}
use base.Logic.{SProp, ent, emp, id⊢, apply∗, all, all_e, never}
use base.Fml.{Lft, Share, ftrue, fsep, flft, fat}
use prog.Wp.{WpFn}
use types.Logic.{sem}
use types.Kit.{‵, raw, ◌⊛◌, some, given, later, at_ret, ◌$◌, ◌∵◌, !, qed, by, move, keep, split, join, fsplit, fjoin}
use types.Kit.{pick, learn, suffices, use0, use1, use2, await, rewrite, feq_i}
use types.Run.{look, store, stop, fld, load, of_opd, assigns, first, blocks, exec, returns, enter}
use types.ByLocal.{alloc_all, pass_all, free_all, look_at, get, get_in, through, is, sets, sets_last, env}
use types.Part.{sub, whole}
use contract.BorrowLft.{◌⊑◌}
use contract.Monad.{fact, fact_i}
use contract.Running.{tables}
use denote.Exit.{no, yes}
use denote.RattleType.{RattleType, owns}
use denote.Memory.{part_at}
use denote.RawPtr.{Ptr, ptr_val, block_ptr, lies_at, in_a_block}
use denote.Signature.{types_at, plain}
use denote.Steps.{nothing, heard}
use denote.Param.{param, layout, layouts}
use denote.Triple.Walked.{Stays, walk_of, stay_ref, stay_dropped, Goes-ref, Goes-dropped}
use Rattle.core.proofs.alloc.Shapes.{after}
use Rattle.core.proofs.cell.Inside.{Good}
use Rattle.std.proofs.raw_atomic.Walks.{proved_at, leaves}
use Rattle.std_alloc.proofs.RcSteps.{word, word-Good}
use Rattle.lru.specs.Linked.{IsApart}
use Rattle.lru.proofs.Memory.{word_had, tells, value_out, value_in}
use Rattle.cf_subs.specs.Held.{Held, held, places, found, put_at}
use Rattle.cf_subs.specs.Ownership.{block_owns, blocks_own}
use Rattle.cf_subs.specs.contracts.blocks.At as at
use Rattle.cf_subs.proofs.Places.{cut_at, put_cut, apart_put}
use Rattle.cf_subs.proofs.Steps as steps
use Rattle.cf_subs.proofs.Steps.{Owner}
use Rattle.cf_subs.specs.contracts.blocks.Blocks.put.{ended, clauses}
use Rattle.cf_subs.specs.contracts.blocks.Blocks.put.Key.{name as #self}
use Rattle.cf_subs.proofs.blocks.Blocks.put.Statement.{statement}
use Rattle.cf_subs.proofs.blocks.Blocks.put.Code as code

pub put_spec : {M : Type 1} → statement M
put_spec 𝓤 𝓛 𝓜 𝓡 wired T L =
    let H = 𝓛.H in let 𝓣 = tables 𝓤 H 𝓜 𝓡 𝓡.env in let R : RattleType = param 0 T in let En = ended T in let c =
    clauses T 𝓛 𝓜.mem 𝓡.returns in
    let inst = layouts (a_type ∷ []) (T, tt) in let fn = inst_fn inst code.function in let Ow : RattleType =
    Owner 𝓛 R in let Ar : RattleType = at.the_row in
    let hs : Stays En.signature.params En.kept = (
      stay_ref (0 ∷ []) tt (plain (λ _. Ow)),
      (
        stay_dropped (plain (λ _. Ar)) yes,
        (stay_dropped (plain (λ _. R)) no, tt),
      ),
    ) in
    proved_at 𝓛 En hs c 𝓜 𝓡 (
      Goes-ref 𝓛 2 0 tt (plain (λ _. Ow)),
      (
        Goes-dropped 𝓛 2 (plain (λ _. Ar)) yes (λ κs x f. refl),
        (Goes-dropped 𝓛 2 (plain (λ _. R)) no (λ κs x f. refl), tt),
      ),
    ) (#self inst) fn
    (code.unfolded 𝓤 H 𝓜 𝓡 wired (T, tt)) (λ z are.
    let κs = z.0.0 in let qs = z.0.1 in let Post : Val → SProp 𝓤 = (walk_of 𝓛 En hs c).post z in
    let Run : List Val → SProp 𝓤 = λ ws. WpFn 𝓤 H 𝓣.C 𝓣.Λ fn ws Post in
    let κ : Lft = κs.0 in let q : Share = qs.0 in let m = z.0.3.0 in let nb : ℕ = m.ref_ptr.0 in let no₀ : ℕ =
    m.ref_ptr.1 in let ν : ℕ = m.ghost_name in let n = m.now in let p : Ptr = z.0.3.1.0.ptr in let v : T.Denot =
    z.0.3.1.1.0 in
    let Shuts = steps.Shuts 𝓛 R κ q nb no₀ ν in let Asked : Type 0 = IsSome (found n.held p) in
    qed 𝓛 (((‵ (flft κ q) ⊛ ‵ (fsep (flft κs.1.0 qs.1.0) ftrue)) ⊛ ‵
    (owns (types_at En.signature.params κs) z.0.3 z.0.4)) ∷ raw (fact 𝓤 (κs.1.0 ⊑ T.lives)) ∷ raw (fact 𝓤 Asked)
    ∷ []) ∵
    move ! (1 ∷ 2 ∷ []) $ heard ! (κs.1.0 ⊑ T.lives)
    (λ _. heard ! Asked (λ asked. split ! $ split ! $ move ! (2 ∷ []) $ fsplit ! $ fsplit ! $
    -- [self's place; self; the other parameters; the two tokens]
    move ! (2 ∷ 1 ∷ 3 ∷ 4 ∷ []) $ fsplit ! $ word_had ! p z.0.4.1.0
    (λ e1. fsplit ! $ tells T L ! v z.0.4.1.1.0 (λ u e2 gu. keep ! (2 ∷ 3 ∷ 0 ∷ 4 ∷ []) $
    let cut = cut_at n.held p asked in let xs = cut.before in let h : Held T.Denot = cut.here in let ys = cut.after in
    let apart : IsApart (places (xs ++ h ∷ ys)) = subst (λ l. IsApart (places l)) cut.cut n.apart in
    let new : List (Held T.Denot) = put_at n.held p v in
    let made : xs ++ held h.at v ∷ ys ≡ new =
    sym (ap (λ l. put_at l p v) cut.cut ∙ ap (λ r. put_at (xs ++ h ∷ ys) r v) (sym cut.place)
    ∙ put_cut xs h ys apart v) in
    let n' : Ow.Denot =
    record {
      marker = n.marker;
      held = new;
      apart = subst (λ l. IsApart (places l)) made (apart_put xs h ys apart v);
    } in
    let G0 : Type 0 = Some h.value ≡ found n.held p in let G1 : Type 0 = new ≡ put_at n.held p v in
    suffices ! (Run (vptr nb no₀ ∷ word p ∷ u ∷ []))
    (subst (λ (ws : List Val × List Val × List Val). ent 𝓤 (Run (vptr nb no₀ ∷ word p ∷ u ∷ []))
    (Run (ws.0 ++ (ws.1 ++ (ws.2 ++ []))))) (λ i. (sym are.0.0 i, sym e1 i, sym e2 i))
    (id⊢ 𝓤 (Run (vptr nb no₀ ∷ word p ∷ u ∷ [])))) $
    enter ! 𝓣.C 𝓣.Λ fn (vptr nb no₀ ∷ word p ∷ u ∷ []) Post $ alloc_all !
    (λ l. pass_all ! refl ((tt, tt), (word-Good [] p, (gu, tt))) $ let Ev = env fn.locals l in
    use2 𝓛 (later (‵ (blocks_own R n.held) ⊛ raw (all 𝓤 Shuts))) (steps.owner_opens 𝓛 R κ q nb no₀ ν n) $ await ! tt $
    split ! $
    rewrite ! 0 (λ (l : List (Held T.Denot)). ‵ (blocks_own R l)) cut.cut refl $ use1 𝓛
    (‵ (block_owns R h) ⊛ ‵ (blocks_own R (xs ++ ys))) (steps.blocks_cut 𝓛 R xs h ys) $ split ! $ fsplit ! $
    in_a_block ! h.at (λ s. lies_at R full_share s h.value) (id⊢ 𝓤 (never 𝓤))
    (λ b o e. let ep : p ≡ block_ptr b o = sym cut.place ∙ e in
    use1 𝓛 (some (λ (w : Val). given (Good (layout T) w)
    (‵ (fat full_share (layout T) b o w) ⊛ ‵ (T.own_val h.value (w ∷ []))))) (value_out 0 T L 𝓛 h.value b o) $ pick
    ! (λ w. learn ! (λ gw. split ! $
    -- [the cell; the old value; the right to free; the other blocks; the way back; the new value; T's token]
    sets ! (is ! (of_opd ! (get_in ! (fld ! refl (stop !)) (sub ! 0 refl (whole !)))) (ap ptr_val ep)) refl (tt, tt) $
    first ! $ blocks ! $ sets ! (of_opd ! (load ! (through ! refl (stop !)) (look ! 0 refl))) refl gw $
    sets ! (of_opd ! (get ! refl)) refl gu $ assigns ! (of_opd ! (get ! refl)) (through ! refl (stop !))
    (store ! 0 refl gu) $
    sets_last ! (of_opd ! (get ! refl)) refl gw $ exec ! 𝓣.C 𝓣.Λ Ev (after 2 fn.body) (at_ret Ev Post) $ sets !
    (of_opd ! (get ! refl)) refl gw $
    move ! (0 ∷ 5 ∷ []) $ use2 𝓛 (‵ (part_at R full_share v b o)) (value_in 0 T L 𝓛 v b o u) $ rewrite ! 0
    (λ (s : Ptr). ‵ (lies_at R full_share s v)) (sym e) refl $
    move ! (0 ∷ 2 ∷ []) $ fjoin ! $ move ! (0 ∷ 2 ∷ []) $ use2 𝓛 (‵ (blocks_own R (xs ++ held h.at v ∷ ys)))
    (steps.blocks_glue 𝓛 R xs (held h.at v) ys) $
    rewrite ! 0 (λ (l : List (Held T.Denot)). ‵ (blocks_own R l)) made refl $
    -- [the blocks; the old value; the way back; T's token]
    move ! (2 ∷ []) $ use1 𝓛 (raw (Shuts n')) (all_e 𝓤 Shuts n') $ move ! (1 ∷ 0 ∷ []) $ use2 𝓛
    (later (‵ (steps.lent 𝓛 R κ q nb no₀ ν n') ⊛ ‵ (flft κ q))) (apply∗ 𝓤 (sem 𝓛 (blocks_own R n'.held)) _) $ await
    ! tt $ split ! $
    feq_i ! (List Val) z.0.4.0 (vptr nb no₀ ∷ []) are.0.0 $ fjoin ! $ nothing ! $ nothing ! $ fjoin ! $ nothing ! $
    fjoin ! $ move ! (1 ∷ 0 ∷ []) $ fjoin ! $
    move ! (1 ∷ 3 ∷ []) $ join ! $ use0 𝓛 (raw (fact 𝓤 G1)) (fact_i 𝓤 G1 (emp 𝓤) refl) $ use0 𝓛 (raw (fact 𝓤 G0))
    (fact_i 𝓤 G0 (emp 𝓤) (sym cut.value)) $ join ! $
    returns ! (look_at ! 0 refl) $ free_all ! refl $ keep ! (1 ∷ 2 ∷ 3 ∷ 0 ∷ []) $ by !
    (leaves 𝓛 En hs c z w h.value (n', (tt, (tt, tt))) (tt, (tt, (tt, tt)))))))))))))
