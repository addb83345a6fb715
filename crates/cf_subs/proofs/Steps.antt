-- What the walks of the functions that touch a pointer share. Assumes `Logic`.
--     Owner, owner_made, owner_opens      the owner of blocks: its machine value, and one behind a `&mut` opened and
-- shut
--     blocks_cut, blocks_glue, block_seen      one block is taken out of those that are owned, put back, and seen
--     fresh      a block that is owned beside others lies apart from them
--     loose_out, loose_in      a `Loose` is taken apart and made
use Rattle.std.proofs.Common.{◌≡◌, ℕ, ◌<◌, true, false, List, [], ◌∷◌, ◌++◌, refl, subst, arith}
use mathlib.Core.Bool.{◌&&◌}
use lib.Dec.{T}
use seplogic.Ra.Ura.{Ura}
use base.Fraction.{full_share}
use mir.Syntax.{impl, tnil, dnil}
use mir.Raw.{raw as bare}
use mir.Val.{Val, vptr, vstruct, vcons, vnil, of_list, has_ty, WT}
use base.Logic.{SProp, ent, sep, wand, all, emp, never, never_e, via, id⊢, fst∗, snd∗}
use base.Fml.{Lft, Share, Fml, fsep, fobs, fbor, flft, fat, froom}
use prog.Memory.{size}
use prog.Model.{Model}
use types.Logic.{Logic, sem}
use types.SemTy.{Body}
use types.Kit.{Item, Goal, Seq, Step, step, ‵, some, given, ◌⊛◌, ◌$◌, ◌∵◌, !, qed, by, move, keep, drop, use1, use2}
use types.Kit.{pick, learn, split, fsplit, fjoin, fpick, fpack, feq_i, feq_l, frame, each, assume, updating, now, done}
use contract.Monad.{fact, fact_i}
use denote.RattleType.{RattleType, Valss}
use denote.Builtin.{RawPtr}
use denote.Memory.{mem, lone}
use denote.Param.{param, layout}
use denote.Param.Laws.{Laws}
use denote.RawPtr.{Ptr, block_ptr, null_ptr, ptr_val, in_a_block}
use denote.Shadow.{makes_shadow}
use denote.Steps.{nothing, opens, closes}
use denote.Struct.Lending.{lent_at}
use denote.Struct.Struct.{Struct, within}
use denote.Struct.Owning.{shape}
use Rattle.std.specs.Box.Ownership.{box_owns}
use Rattle.std.specs.declared.alloc.Allocator.{Ghosts}
use Rattle.std.proofs.alloc.Calls.{Al, handle_tells}
use Rattle.std.proofs.cell.Inside.{Good}
use Rattle.std.proofs.ResultValues.{and_tt}
use Rattle.lru.specs.Linked.{same_ptr}
use Rattle.lru.proofs.Apart.{IsFresh, same_ptr_eq}
use Rattle.lru.proofs.Memory.{value_out, knows}
use Rattle.cf_subs.specs.Held.{Held, held, places}
use Rattle.cf_subs.specs.Ownership.{block_owns, blocks_own, blocks_lent}
use Rattle.cf_subs.specs.contracts.blocks.Blocks as blocks
use Rattle.cf_subs.specs.contracts.loose.Loose as loose

abbrev pub token : Val
token = vstruct (vcons (vstruct vnil) vnil)

module _ {M : Type 1} {𝓤 : Ura M} (𝓛 : Logic 𝓤) (R : RattleType) where
  abbrev pub Owner : RattleType
  Owner = blocks.the_row R

  abbrev pub Data : Fml
  Data = (Struct (shape (blocks.the_type R))).own_val (tt, tt) (token ∷ [])

  pub owner_made : ent 𝓤 (emp 𝓤) (sem 𝓛 Data)
  owner_made =
      makes_shadow 𝓛 Data (λ vss. (tt, ((λ uss. (tt, tt)), tt)))
      ((vstruct vnil ∷ [], tt), (refl, ((tt, (refl, tt)), tt)))

  module _ (κ : Lft) (q : Share) (b o ν : ℕ) where
    abbrev pub lent : Owner.Denot → Fml
    lent n = fsep (fobs ν (Owner.coded.code n)) (fbor κ (Body (mem Owner) b o ν))

    abbrev pub Shuts : Owner.Denot → SProp 𝓤
    Shuts n = wand 𝓤 (sem 𝓛 (blocks_own R n.held)) (𝓛.H.⇛ (sep 𝓤 (sem 𝓛 (lent n)) (𝓛.A.lft κ q)))

    pub owner_opens : (n : Owner.Denot) → ent 𝓤 (sep 𝓤 (sem 𝓛 (lent n)) (𝓛.A.lft κ q))
        (𝓛.H.⇛ (sep 𝓤 (sem 𝓛 (blocks_own R n.held)) (all 𝓤 Shuts)))
    owner_opens n =
        qed 𝓛 (‵ (lent n) ∷ ‵ (flft κ q) ∷ []) ∵ updating ! $ fsplit ! $ opens ! tt Owner {h = n} b o
        (λ vs. move ! (1 ∷ []) $ fsplit ! $ now ! $ move ! (1 ∷ []) $ frame ! $
        each ! Shuts (λ m. assume ! (‵ (blocks_own R m.held)) $ updating ! $ move ! (1 ∷ 0 ∷ []) $ fjoin ! $ move !
        (1 ∷ 0 ∷ []) $ closes ! tt Owner m vs b o $ fjoin ! $ now ! $ done !))

  pub blocks_cut : (xs : List (Held R.Denot)) (n : Held R.Denot) (ys : List (Held R.Denot))
      → ent 𝓤 (sem 𝓛 (blocks_own R (xs ++ n ∷ ys))) (sep 𝓤 (sem 𝓛 (block_owns R n)) (sem 𝓛 (blocks_own R (xs ++ ys))))
  blocks_cut [] n ys = id⊢ 𝓤 _
  blocks_cut (x ∷ xs) n ys = qed 𝓛 (‵ (blocks_own R (x ∷ xs ++ n ∷ ys)) ∷ []) ∵ fsplit ! $ move ! (1 ∷ []) $
      use1 𝓛 (‵ (block_owns R n) ⊛ ‵ (blocks_own R (xs ++ ys))) (blocks_cut xs n ys) $ split ! $ move ! (2 ∷ 1 ∷ []) $
      fjoin ! $ move ! (1 ∷ []) $ done !

  pub blocks_glue : (xs : List (Held R.Denot)) (n : Held R.Denot) (ys : List (Held R.Denot))
      → ent 𝓤 (sep 𝓤 (sem 𝓛 (block_owns R n)) (sem 𝓛 (blocks_own R (xs ++ ys)))) (sem 𝓛 (blocks_own R (xs ++ n ∷ ys)))
  blocks_glue [] n ys = id⊢ 𝓤 _
  blocks_glue (x ∷ xs) n ys =
      qed 𝓛 (‵ (block_owns R n) ∷ ‵ (blocks_own R (x ∷ xs ++ ys)) ∷ []) ∵ move ! (1 ∷ []) $ fsplit ! $ move !
      (2 ∷ 1 ∷ []) $
      use2 𝓛 (‵ (blocks_own R (xs ++ n ∷ ys))) (blocks_glue xs n ys) $ move ! (1 ∷ 0 ∷ []) $ fjoin ! $ done !

  pub block_seen : (κ : Lft) (xs : List (Held R.Denot)) (n : Held R.Denot) (ys : List (Held R.Denot))
      → ent 𝓤 (sem 𝓛 (blocks_lent R (xs ++ n ∷ ys) κ)) (sem 𝓛 (lent_at R n.at n.value κ))
  block_seen κ [] n ys = fst∗ 𝓤 _ (sem 𝓛 (blocks_lent R ys κ))
  block_seen κ (x ∷ xs) n ys = via 𝓤 _ (snd∗ 𝓤 (sem 𝓛 (lent_at R x.at x.value κ)) _) (block_seen κ xs n ys)

module _ (Y : RattleType) (L : Laws Y) (sized : 0 < size (layout Y)) {M : Type 1} {𝓤 : Ura M} (𝓛 : Logic 𝓤)
    (𝓜 : Model 𝓤 𝓛.H) where
  abbrev R : RattleType
  R = param 0 Y

  clash : (p : Ptr) (x y : Y.Denot) → ent 𝓤 (sep 𝓤 (sem 𝓛 (block_owns R (held p x))) (sem 𝓛 (block_owns R (held p y))))
      (never 𝓤)
  clash (block_ptr b o) x y =
      qed 𝓛 (‵ (block_owns R (held (block_ptr b o) x)) ∷ ‵ (block_owns R (held (block_ptr b o) y)) ∷ []) ∵ fsplit ! $
      use1 𝓛 (some (λ (v : Val). given (Good (layout Y) v)
      (‵ (fat full_share (layout Y) b o v) ⊛ ‵ (Y.own_val x (v ∷ []))))) (value_out 0 Y L 𝓛 x b o) $ pick !
      (λ v. learn ! (λ gv. split ! $ move ! (3 ∷ []) $ fsplit ! $
      use1 𝓛 (some (λ (w : Val). given (Good (layout Y) w)
      (‵ (fat full_share (layout Y) b o w) ⊛ ‵ (Y.own_val y (w ∷ []))))) (value_out 0 Y L 𝓛 y b o) $ pick !
      (λ w. learn ! (λ gw. split ! $
      use1 𝓛 (‵ (froom (layout Y) b o)) (𝓛.laws.at_room (layout Y) b o w) $ keep ! (0 ∷ 3 ∷ []) $
      by ! (𝓜.room_at (layout Y) (layout Y) b o o o full_share v (omega arith, omega arith)
      (omega arith, omega arith))))))
  clash null_ptr x y =
      qed 𝓛 (‵ (block_owns R (held null_ptr x)) ∷ ‵ (block_owns R (held null_ptr y)) ∷ []) ∵ fsplit ! $ keep ! (0 ∷ [])
      $ done !

  differ : (p q : Ptr) (x y : Y.Denot) → ent 𝓤 (sep 𝓤 (sem 𝓛 (block_owns R (held p x)))
      (sem 𝓛 (block_owns R (held q y)))) (fact 𝓤 (same_ptr p q ≡ false))
  differ p q x y =
      (elim (same_ptr p q) as (λ z. same_ptr p q ≡ z
      → ent 𝓤 (sep 𝓤 (sem 𝓛 (block_owns R (held p x))) (sem 𝓛 (block_owns R (held q y))))
      (fact 𝓤 (same_ptr p q ≡ false))) [
        | true ↦ λ e. via 𝓤 (never 𝓤) (subst (λ r. ent 𝓤
            (sep 𝓤 (sem 𝓛 (block_owns R (held p x))) (sem 𝓛 (block_owns R (held r y)))) (never 𝓤)) (same_ptr_eq p q e)
            (clash p x y)) (never_e 𝓤 _)
        | false ↦ λ e. fact_i 𝓤 (same_ptr p q ≡ false) _ e
      ]) refl

  pub fresh : (p : Ptr) (x : Y.Denot) (hs : List (Held Y.Denot))
      → ent 𝓤 (sep 𝓤 (sem 𝓛 (block_owns R (held p x))) (sem 𝓛 (blocks_own R hs))) (fact 𝓤 (IsFresh p (places hs)))
  fresh p x [] = fact_i 𝓤 (IsFresh p []) _ tt
  fresh p x (h ∷ hs) =
      qed 𝓛 (‵ (block_owns R (held p x)) ∷ ‵ (blocks_own R (h ∷ hs)) ∷ []) ∵ move ! (1 ∷ []) $ fsplit ! $ move !
      (2 ∷ 0 ∷ []) $
      knows ! (same_ptr p h.at ≡ false) (differ p h.at x h.value)
      (λ here. move ! (0 ∷ 2 ∷ []) $ knows ! (IsFresh p (places hs)) (fresh p x hs) (λ rest.
      by ! (fact_i 𝓤 (IsFresh p (places (h ∷ hs))) _ (here, rest))))

abbrev pub both : Val → Val → Val
both v w = vstruct (vcons v (vcons w vnil))

module _ (R Z : RattleType) (L : Laws Z) (g : Ghosts Z.Denot) where
  abbrev pub Loose : RattleType
  Loose = loose.the_row R Z g

  abbrev pub al : Al
  al = record { row = Z; laws = L; g = g; d = impl [] tnil dnil; drops = impl [] tnil dnil }

  pub loose_good : (b o : ℕ) (h : Val) → Good (layout Z) h → T (has_ty (layout Z) h && true) × WT (both (vptr b o) h)
  loose_good b o h fits = (and_tt (has_ty (layout Z) h) fits.0, (tt, (fits.1, tt)))

  module _ {M : Type 1} {𝓤 : Ura M} {𝓛 : Logic 𝓤} {K : Type 0} {Γ : List (Item 𝓤)} {G : Goal 𝓤 𝓛.H} where
    pub loose_out : K → (d : Loose.Denot) (vs : List Val)
        → ((b o : ℕ) (h : Val) → d.at ≡ block_ptr b o → vs ≡ both (vptr b o) h ∷ [] → Good (layout Z) h
        → Seq K 𝓛 (‵ (box_owns (g.dealloc_token d.alloc) R (block_ptr b o) d.value) ∷ ‵ (Z.own_val d.alloc (h ∷ []))
        ∷ Γ) G)
        → Seq K 𝓛 (‵ (Loose.own_val d vs) ∷ Γ) G
    loose_out t d vs k =
        fsplit t $ fpick t (λ vss. fsplit t $ feq_l t
        (λ ev. fsplit t $ feq_l t (λ ep. fsplit t $ handle_tells al t d.alloc vss.1.0
        (λ h ea fits. move t (1 ∷ []) $ drop t $ move t (1 ∷ []) $
        in_a_block t d.at (λ p. box_owns (g.dealloc_token d.alloc) R p d.value)
        (fst∗ 𝓤 (never 𝓤) (sem 𝓛 (g.dealloc_token d.alloc (bare (lone R.mir)) null_ptr))) (λ b o e. k b o h e
        (subst (λ (p : Ptr). vs ≡ vstruct (of_list (ptr_val p ∷ h ∷ [])) ∷ []) e
        (subst (λ (ws : List Val). vs ≡ vstruct (of_list (ptr_val d.at ∷ (ws ++ []))) ∷ []) ea
        (subst (λ (ps : List Val). vs ≡ vstruct (of_list (ps ++ (vss.1.0 ++ []))) ∷ []) ep ev))) fits)))))

    pub loose_in : K → (b o : ℕ) (h : Val) (a : Z.Denot) (x : R.Denot)
        → Step K 𝓛 (‵ (Loose.own_val (record { at = block_ptr b o; alloc = a; value = x }) (both (vptr b o) h ∷ []))
        ∷ Γ) G (‵ (box_owns (g.dealloc_token a) R (block_ptr b o) x) ∷ ‵ (Z.own_val a (h ∷ [])) ∷ Γ) G
    loose_in t b o h a x = step (λ s. let v : Val = both (vptr b o) h in
        nothing t $ move t (2 ∷ 0 ∷ []) $ fjoin t $ feq_i t (List Val) (vptr b o ∷ []) (vptr b o ∷ []) refl $ fjoin t $
        feq_i t (List Val) (v ∷ []) (v ∷ []) refl $ fjoin t $
        fpack t (Valss (RawPtr ∷ Z ∷ [])) (within (shape (loose.the_type R Z g)) (block_ptr b o, (a, tt)) (v ∷ []))
        (vptr b o ∷ [], (h ∷ [], tt)) $ fjoin t $ s)
