-- `new` owns nothing yet. Assumes `Logic`.
use Rattle.std.proofs.Common.{◌≡◌, [], ◌∷◌, refl}
use mir.Syntax.{a_type}
use mir.Val.{Val}
use mir.MapTy.{inst_fn}
use base.Logic.{SProp, emp}
use base.Fml.{ftrue, flft}
use types.Kit.{‵, raw, ◌⊛◌, ◌$◌, ◌∵◌, !, qed, by, keep, split, fjoin, use0}
use types.Run.{and_then, no_more, returns, enter}
use types.ByLocal.{alloc_all, pass_all, free_all, look_at, get, sets}
use types.Part.{agg}
use contract.Monad.{fact, fact_i}
use contract.Running.{tables}
use denote.RattleType.{RattleType, owns}
use denote.Param.{param, layouts}
use denote.Signature.{types_at}
use denote.Steps.{nothing}
use denote.Triple.Walked.{Stays, walk_of}
use Rattle.std.proofs.raw_atomic.Walks.{proved_at, leaves}
use Rattle.cf_subs.proofs.Places.{apart_none}
use Rattle.cf_subs.proofs.Steps as steps
use Rattle.cf_subs.proofs.Steps.{Owner, token}
use Rattle.cf_subs.specs.contracts.blocks.Blocks.new.{ended, clauses}
use Rattle.cf_subs.specs.contracts.blocks.Blocks.new.Key.{name as #self}
use Rattle.cf_subs.proofs.blocks.Blocks.new.Statement.{statement}
use Rattle.cf_subs.proofs.blocks.Blocks.new.Code as code

pub new_spec : {M : Type 1} → statement M
new_spec 𝓤 𝓛 𝓜 𝓡 wired T L =
    let H = 𝓛.H in let 𝓣 = tables 𝓤 H 𝓜 𝓡 𝓡.env in let R : RattleType = param 0 T in let En = ended T in let c =
    clauses T 𝓛 𝓜.mem 𝓡.returns in
    let inst = layouts (a_type ∷ []) (T, tt) in let fn = inst_fn inst code.function in let Ow : RattleType =
    Owner 𝓛 R in
    let hs : Stays En.signature.params En.kept = tt in
    proved_at 𝓛 En hs c 𝓜 𝓡 tt (#self inst) fn (code.unfolded 𝓤 H 𝓜 𝓡 wired (T, tt)) (λ z are.
    let κs = z.0.0 in let qs = z.0.1 in let Post : Val → SProp 𝓤 = (walk_of 𝓛 En hs c).post z in
    let out : Ow.Denot = record { marker = record {}; held = []; apart = apart_none } in let G0 : Type 0 =
    out.held ≡ [] in
    qed 𝓛 (((‵ (flft κs.0 qs.0) ⊛ ‵ ftrue) ⊛ ‵ (owns (types_at En.signature.params κs) z.0.3 z.0.4))
    ∷ raw ((c κs z.0.3).requires z.1) ∷ []) ∵ split ! $
    enter ! 𝓣.C 𝓣.Λ fn [] Post $ alloc_all ! (λ l. pass_all ! refl tt $
    sets ! (agg ! (no_more !)) refl (tt, tt) $ sets ! (agg ! (and_then ! (get ! refl) (no_more !))) refl (tt, (tt, tt))
    $
    nothing ! $ use0 𝓛 (‵ (steps.Data 𝓛 R)) (steps.owner_made 𝓛 R) $ fjoin ! $ nothing ! $ use0 𝓛 (raw (fact 𝓤 G0))
    (fact_i 𝓤 G0 (emp 𝓤) refl) $
    -- [the `ensures`; nothing; the owner; the tokens]
    returns ! (look_at ! 0 refl) $ free_all ! refl $ keep ! (3 ∷ 1 ∷ 2 ∷ 0 ∷ []) $ by !
    (leaves 𝓛 En hs c z token out tt tt)))
