-- `get` follows the pointer to a block that is lent. Assumes `Logic`.
use Rattle.std.proofs.Common.{◌≡◌, ℕ, List, [], ◌∷◌, ◌++◌, refl, sym, ap, ◌∙◌, subst, Some}
use Rattle.std.specs.Prelude.{IsSome}
use mir.Syntax.{a_type}
use mir.Val.{Val, vptr}
use mir.MapTy.{inst_fn}
use base.Logic.{SProp, ent, emp, id⊢, never, fst∗}
use base.Fml.{Lft, Share, ftrue, fsep, flft}
use prog.Wp.{WpFn}
use types.Logic.{sem}
use types.Kit.{‵, raw, ◌⊛◌, at_ret, ◌$◌, ◌∵◌, !, qed, by, move, keep, drop, split, join, fsplit, fjoin, suffices, use0}
use types.Kit.{use1, rewrite, feq_i, feq_l}
use types.Run.{stop, fld, addr, of_opd, first, blocks, exec, returns, enter}
use types.ByLocal.{alloc_all, pass_all, free_all, look_at, get, get_in, through, is, sets, sets_last, env}
use types.Part.{sub, whole}
use contract.BorrowLft.{◌⊑◌}
use contract.Monad.{fact, fact_i}
use contract.Running.{tables}
use denote.Builtin.{RefOf}
use denote.Exit.{yes}
use denote.Memory.{shared_of}
use denote.Opens.{hide, unhide}
use denote.RattleType.{RattleType, owns}
use denote.Ref.{Bor}
use denote.RawPtr.{Ptr, ptr_val, block_ptr, in_a_block}
use denote.Signature.{types_at, plain}
use denote.Steps.{nothing, heard}
use denote.Param.{param, layouts}
use denote.Struct.Lending.{lent_at}
use denote.Triple.Walked.{Stays, walk_of, stay_dropped, Goes-dropped}
use Rattle.core.proofs.alloc.Shapes.{after}
use Rattle.std.proofs.raw_atomic.Walks.{proved_at, leaves}
use Rattle.std_alloc.proofs.RcSteps.{word, word-Good}
use Rattle.lru.proofs.Memory.{word_had}
use Rattle.cf_subs.specs.Held.{Held, found}
use Rattle.cf_subs.specs.Ownership.{blocks_lent}
use Rattle.cf_subs.specs.contracts.blocks.At as at
use Rattle.cf_subs.proofs.Places.{cut_at}
use Rattle.cf_subs.proofs.Steps as steps
use Rattle.cf_subs.proofs.Steps.{Owner}
use Rattle.cf_subs.specs.contracts.blocks.Blocks.get.{ended, clauses}
use Rattle.cf_subs.specs.contracts.blocks.Blocks.get.Key.{name as #self}
use Rattle.cf_subs.proofs.blocks.Blocks.get.Statement.{statement}
use Rattle.cf_subs.proofs.blocks.Blocks.get.Code as code

pub get_spec : {M : Type 1} → statement M
get_spec 𝓤 𝓛 𝓜 𝓡 wired T L =
    let H = 𝓛.H in let 𝓣 = tables 𝓤 H 𝓜 𝓡 𝓡.env in let R : RattleType = param 0 T in let En = ended T in let c =
    clauses T 𝓛 𝓜.mem 𝓡.returns in
    let inst = layouts (a_type ∷ []) (T, tt) in let fn = inst_fn inst code.function in let Ow : RattleType =
    Owner 𝓛 R in let Ar : RattleType = at.the_row in
    let hs : Stays En.signature.params En.kept =
    (stay_dropped (RefOf (0 ∷ []) tt (plain (λ _. Ow)) (λ _. tt)) yes, (stay_dropped (plain (λ _. Ar)) yes, tt)) in
    proved_at 𝓛 En hs c 𝓜 𝓡 (
      Goes-dropped 𝓛 2 (RefOf (0 ∷ []) tt (plain (λ _. Ow)) (λ _. tt)) yes (λ κs x f. refl),
      (Goes-dropped 𝓛 2 (plain (λ _. Ar)) yes (λ κs x f. refl), tt),
    ) (#self inst) fn
    (code.unfolded 𝓤 H 𝓜 𝓡 wired (T, tt)) (λ z are.
    let κs = z.0.0 in let qs = z.0.1 in let Post : Val → SProp 𝓤 = (walk_of 𝓛 En hs c).post z in
    let Run : List Val → SProp 𝓤 = λ ws. WpFn 𝓤 H 𝓣.C 𝓣.Λ fn ws Post in
    let κ : Lft = κs.0 in let q : Share = qs.0 in let m = z.0.3.0 in let nb : ℕ = m.ref_ptr.0 in let no₀ : ℕ =
    m.ref_ptr.1 in let n = m.now in let p : Ptr = z.0.3.1.0.ptr in
    let Asked : Type 0 = IsSome (found n.held p) in
    qed 𝓛 (((‵ (flft κ q) ⊛ ‵ (fsep (flft κs.1.0 qs.1.0) ftrue)) ⊛ ‵
    (owns (types_at En.signature.params κs) z.0.3 z.0.4)) ∷ raw (fact 𝓤 (κs.1.0 ⊑ T.lives)) ∷ raw (fact 𝓤 Asked)
    ∷ []) ∵
    move ! (1 ∷ 2 ∷ []) $ heard ! (κs.1.0 ⊑ T.lives)
    (λ _. heard ! Asked (λ asked. split ! $ split ! $ move ! (2 ∷ []) $ fsplit ! $ fsplit ! $ feq_l ! (λ e0.
    -- [what is lent; the pointer; the tokens]
    move ! (1 ∷ []) $ fsplit ! $ word_had ! p z.0.4.1.0 (λ e1. keep ! (1 ∷ 2 ∷ 3 ∷ []) $
    let cut = cut_at n.held p asked in let xs = cut.before in let h : Held T.Denot = cut.here in let ys = cut.after in
    suffices ! (Run (vptr nb no₀ ∷ word p ∷ [])) (subst
    (λ (ws : List Val × List Val). ent 𝓤 (Run (vptr nb no₀ ∷ word p ∷ [])) (Run (ws.0 ++ (ws.1 ++ []))))
    (λ i. (sym e0 i, sym e1 i)) (id⊢ 𝓤 (Run (vptr nb no₀ ∷ word p ∷ [])))) $
    enter ! 𝓣.C 𝓣.Λ fn (vptr nb no₀ ∷ word p ∷ []) Post $ alloc_all !
    (λ l. pass_all ! refl ((tt, tt), (word-Good [] p, tt)) $ let Ev = env fn.locals l in
    unhide ! $ fsplit ! $ drop ! $ rewrite ! 0 (λ (l : List (Held T.Denot)). ‵ (blocks_lent R l κ)) cut.cut refl $ use1
    𝓛 (‵ (lent_at R h.at h.value κ)) (steps.block_seen 𝓛 R κ xs h ys) $
    in_a_block ! h.at (λ s. lent_at R s h.value κ) (fst∗ 𝓤 (never 𝓤) (sem 𝓛 (shared_of R h.value 0 0 κ)))
    (λ b o e. let ep : p ≡ block_ptr b o = sym cut.place ∙ e in fsplit ! $ drop ! $ hide ! $
    sets ! (is ! (of_opd ! (get_in ! (fld ! refl (stop !)) (sub ! 0 refl (whole !)))) (ap ptr_val ep)) refl (tt, tt) $
    first ! $ blocks ! $ sets_last ! (addr ! (through ! refl (stop !))) refl (tt, tt) $
    exec ! 𝓣.C 𝓣.Λ Ev (after 2 fn.body) (at_ret Ev Post) $ sets ! (of_opd ! (get ! refl)) refl (tt, tt) $
    let out : Bor T.Denot = record { ref_ptr = (b, o); now = h.value } in let G0 : Type 0 =
    Some h.value ≡ found n.held p in
    feq_i ! (List Val) (vptr b o ∷ []) (vptr b o ∷ []) refl $ fjoin ! $ move ! (1 ∷ 2 ∷ []) $ join ! $ nothing ! $
    nothing ! $ fjoin ! $ nothing ! $ fjoin ! $ use0 𝓛 (raw (fact 𝓤 G0)) (fact_i 𝓤 G0 (emp 𝓤) (sym cut.value)) $
    -- [the `ensures`; nothing; the tokens; the result]
    returns ! (look_at ! 0 refl) $ free_all ! refl $ keep ! (2 ∷ 1 ∷ 3 ∷ 0 ∷ []) $ by !
    (leaves 𝓛 En hs c z (vptr b o) out (tt, (tt, tt)) (tt, (tt, tt))))))))))
