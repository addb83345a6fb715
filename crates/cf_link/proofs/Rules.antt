-- Each move keeps the rule of a link, and tells what its end is promised.
use Rattle.std.proofs.Common.{◌≡◌, ◌≢◌, ℕ, zero, suc, true, false, true≢false, List, [], ◌∷◌, ◌++◌, length, set, sym}
use Rattle.std.proofs.Common.{refl, ap, ◌∙◌, subst, ⊎_elim, append_assoc, append-nil, length-append, ◌+◌, ◌≤◌, arith}
use mathlib.Core.List.{IsPrefix}
use mathlib.Core.Option.{some, some-ne-none}
use lib.ListN.{get_elem?}
use Rattle.crossbeam_queue.specs.Fifo.{Pushes, Pops, Forks, Merges, Learns}
use Rattle.crossbeam_queue.proofs.Lists.{at_set, at_snoc, set_again}
use Rattle.cf_link.specs.declared.log.Log.{Log}
use Rattle.cf_link.specs.Rule.{log, Fits, IsLinked}

module _ {T : Type 0} where
  at_end : (l : List (Log T)) (a b : Log T) (j : ℕ) → get_elem? l j ≢ some b → get_elem? (l ++ a ∷ []) j ≡ some b
      → j ≡ length l
  at_end [] a b zero n e = refl
  at_end [] a b (suc j) n e = absurd (some-ne-none b (sym e))
  at_end (x ∷ xs) a b zero n e = absurd (n e)
  at_end (x ∷ xs) a b (suc j) n e = ap suc (at_end xs a b j n e)

  abbrev All : (ℕ → Log T → Type 0) → List (Log T) → Type 0
  All F views = (port : ℕ) (v : Log T) → get_elem? views port ≡ some v → F port v

  all_set : (F : ℕ → Log T → Type 0) (views : List (Log T)) (port : ℕ) (w : Log T) → F port w
      → ((j : ℕ) (u : Log T) → j ≢ port → get_elem? views j ≡ some u → F j u) → All F (set views port w)
  all_set F views port w mine others j u e =
      ⊎_elim (λ (x : (j ≡ port) × (w ≡ u)). subst (λ (y : ℕ × Log T). F y.0 y.1) (λ i. (sym x.0 i, x.1 i)) mine)
      (λ (x : (j ≢ port) × (get_elem? views j ≡ some u)). others j u x.0 x.1) (at_set views port j w u e)

  -- ---- beginnings of a list

  begins_none : (l : List T) → IsPrefix [] l
  begins_none l = (l, refl)

  begins_whole : (a b : List T) → a ≡ b → IsPrefix a b
  begins_whole a b e = ([], append-nil a ∙ e)

  begins_longer : (a b : List T) (x : T) → IsPrefix a b → IsPrefix a (b ++ x ∷ [])
  begins_longer a b x p = (p.0 ++ x ∷ [], sym (append_assoc a p.0 (x ∷ [])) ∙ ap (λ l. l ++ x ∷ []) p.1)

  -- a beginning is no longer
  begins_short : (a b : List T) → IsPrefix a b → length a ≤ length b
  begins_short a b p = omega (arith, length-append a p.0, ap length p.1)

  -- a pass that may do nothing
  idle_fits : (writer reader : ℕ) (sent received : List T) (port : ℕ) (s r : List T) → IsPrefix s sent
      → IsPrefix r received → Fits writer reader sent received port (log false false s r)
  idle_fits writer reader sent received port s r p q =
      (p, q, (λ t. absurd (true≢false (sym t))), λ t. absurd (true≢false (sym t)))

  -- ---- the moves

  pub begins : IsLinked {T = T} [] (log true true [] [] ∷ [])
  begins = (
    0,
    0,
    [],
    [],
    refl,
    all_set (Fits 0 0 [] []) (log true true [] [] ∷ []) 0 (log true true [] [])
        (begins_none [], begins_none [], (λ _. (refl, refl)), λ _. (refl, refl))
        (λ j u other e. absurd (other (at_end [] _ u j (λ x. some-ne-none u (sym x)) e))),
  )

  pub sends : (n port : ℕ) (v : Log T) (x : T) → v.pushes ≡ true
      → Pushes IsLinked n port v x (λ w. w ≡ log v.pushes v.pops (v.sent ++ x ∷ []) v.received)
  sends n port v x may items views _ h at = let w : Log T = log v.pushes v.pops (v.sent ++ x ∷ []) v.received in
      let mine = h.5 port v at in let sent = h.2 ++ x ∷ [] in
      let whole : w.sent ≡ sent = ap (λ l. l ++ x ∷ []) (mine.2 may).1 in (
        w,
        (
          h.0,
          h.1,
          sent,
          h.3,
          ap (λ l. l ++ x ∷ []) h.4 ∙ append_assoc h.3 items (x ∷ []),
          all_set (Fits h.0 h.1 sent h.3) views port w (
            begins_whole w.sent sent whole,
            mine.1,
            (λ _. ((mine.2 may).0, whole)),
            mine.3,
          )
              (λ j u other e. (
                begins_longer u.sent h.2 x (h.5 j u e).0,
                (h.5 j u e).1,
                (λ p. absurd (other (((h.5 j u e).2 p).0 ∙ sym (mine.2 may).0))),
                (h.5 j u e).3,
              )),
        ),
        refl,
      )

  pub gets : (port : ℕ) (v : Log T) → v.pops ≡ true
      → Pops IsLinked port v (λ x w. w ≡ log v.pushes v.pops v.sent (v.received ++ x ∷ []))
  gets port v may x items views h at = let w : Log T = log v.pushes v.pops v.sent (v.received ++ x ∷ []) in let mine =
      h.5 port v at in let got = h.3 ++ x ∷ [] in
      let whole : w.received ≡ got = ap (λ l. l ++ x ∷ []) (mine.3 may).1 in (
        w,
        (
          h.0,
          h.1,
          h.2,
          got,
          h.4 ∙ sym (append_assoc h.3 (x ∷ []) items),
          all_set (Fits h.0 h.1 h.2 got) views port w (
            mine.0,
            begins_whole w.received got whole,
            mine.2,
            λ _. ((mine.3 may).0, whole),
          )
              (λ j u other e. (
                (h.5 j u e).0,
                begins_longer u.received h.3 x (h.5 j u e).1,
                (h.5 j u e).2,
                λ p. absurd (other (((h.5 j u e).3 p).0 ∙ sym (mine.3 may).0)),
              )),
        ),
        refl,
      )

  pub forks : (port : ℕ) (v : Log T) → v.pushes ≡ true → v.pops ≡ true
      → Forks IsLinked port v (log true false v.sent []) (log false true [] v.received)
  forks port v a b items views h at = let l : Log T = log true false v.sent [] in let r : Log T =
      log false true [] v.received in let mine = h.5 port v at in let vs : List (Log T) = set views port l in
      let Old : ℕ → Log T → Type 0 =
      λ j u. IsPrefix u.sent h.2 × IsPrefix u.received h.3 × (u.pushes ≡ true → (j ≡ h.0) × (u.sent ≡ h.2))
      × (u.pops ≢ true) in
      let old : All Old vs =
      all_set Old views port l (mine.0, begins_none h.3, (λ _. mine.2 a), λ p. true≢false (sym p))
      (λ j u other e. (
        (h.5 j u e).0,
        (h.5 j u e).1,
        (h.5 j u e).2,
        λ p. other (((h.5 j u e).3 p).0 ∙ sym (mine.3 b).0),
      )) in (
        h.0,
        length vs,
        h.2,
        h.3,
        h.4,
        λ j u e. ⊎_elim (λ x. ((old j u x).0, (old j u x).1, (old j u x).2, λ p. absurd ((old j u x).3 p)))
            (λ (is : r ≡ u). (
              subst (λ (y : Log T). IsPrefix y.sent h.2) is (begins_none h.2),
              subst (λ (y : Log T). IsPrefix y.received h.3) is mine.1,
              (λ p. absurd (true≢false (sym (ap (λ (y : Log T). y.pushes) is ∙ p)))),
              λ p. (at_end vs r u j (λ x. (old j u x).3 p) e, ap (λ (y : Log T). y.received) (sym is) ∙ (mine.3 b).1),
            ))
            (at_snoc vs r u j e),
      )

  pub merges : (port : ℕ) (v : Log T) (other : ℕ) (u : Log T) → v.pushes ≡ true → u.pops ≡ true
      → Merges IsLinked port v other u (log true true v.sent u.received) (log false false [] [])
  merges port v other u a b items views h at two at' = let both : Log T = log true true v.sent u.received in let mine =
      h.5 port v at in let vs : List (Log T) = set views port both in
      let was : get_elem? views other ≡ some u =
      ⊎_elim (λ x. absurd (two x.0)) (λ x. x.1) (at_set views port other both u at') in let theirs =
      h.5 other u was in
      let Now : ℕ → Log T → Type 0 = λ j y. j ≢ other → Fits h.0 port h.2 h.3 j y in
      let now : All Now vs =
      all_set Now views port both (λ _. (mine.0, theirs.1, (λ _. mine.2 a), λ _. (refl, (theirs.3 b).1)))
      (λ j y _ e apart. (
        (h.5 j y e).0,
        (h.5 j y e).1,
        (h.5 j y e).2,
        λ p. absurd (apart (((h.5 j y e).3 p).0 ∙ sym (theirs.3 b).0)),
      )) in (
        h.0,
        port,
        h.2,
        h.3,
        h.4,
        all_set (Fits h.0 port h.2 h.3) vs other (log false false [] [])
            (idle_fits h.0 port h.2 h.3 other [] [] (begins_none h.2) (begins_none h.3))
            (λ j y apart e. now j y e apart),
      )

  -- an end tells what it knows
  pub tells : (port : ℕ) (v : Log T) → Forks IsLinked port v v (log false false v.sent v.received)
  tells port v items views h at = let r : Log T = log false false v.sent v.received in let mine = h.5 port v at in
      let same : set views port v ≡ views = set_again views port v at in (
        h.0,
        h.1,
        h.2,
        h.3,
        h.4,
        λ j u e. ⊎_elim (λ (x : get_elem? (set views port v) j ≡ some u). h.5 j u
            (ap (λ (vs : List (Log T)). get_elem? vs j) (sym same) ∙ x))
            (λ (is : r ≡ u). subst (Fits h.0 h.1 h.2 h.3 j) is
            (idle_fits h.0 h.1 h.2 h.3 j v.sent v.received mine.0 mine.1))
            (at_snoc (set views port v) r u j e),
      )

  -- this end hears what another pass knows, and the other pass is spent
  hears : (port : ℕ) (v both : Log T) (other : ℕ) (u : Log T) (items : List T) (views : List (Log T))
      (h : IsLinked items views) → ¬ (other ≡ port) → Fits h.0 h.1 h.2 h.3 port both
      → IsLinked items (set (set views port both) other (log false false [] []))
  hears port v both other u items views h two fits =
      let now : All (Fits h.0 h.1 h.2 h.3) (set views port both) =
      all_set (Fits h.0 h.1 h.2 h.3) views port both fits (λ j y _ e. h.5 j y e) in (
        h.0,
        h.1,
        h.2,
        h.3,
        h.4,
        all_set (Fits h.0 h.1 h.2 h.3) (set views port both) other (log false false [] [])
            (idle_fits h.0 h.1 h.2 h.3 other [] [] (begins_none h.2) (begins_none h.3)) (λ j y _ e. now j y e),
      )

  -- what the other pass knew
  knew : (port : ℕ) (both : Log T) (other : ℕ) (u : Log T) (views : List (Log T)) → ¬ (other ≡ port)
      → get_elem? (set views port both) other ≡ some u → get_elem? views other ≡ some u
  knew port both other u views two at' = ⊎_elim (λ x. absurd (two x.0)) (λ x. x.1) (at_set views port other both u at')

  pub hears_sent : (port : ℕ) (v : Log T) (other : ℕ) (u : Log T)
      → Merges IsLinked port v other u (log false v.pops u.sent v.received) (log false false [] [])
  hears_sent port v other u items views h at two at' = let both : Log T = log false v.pops u.sent v.received in
      let mine = h.5 port v at in let theirs = h.5 other u (knew port both other u views two at') in
      hears port v both other u items views h two (theirs.0, mine.1, (λ p. absurd (true≢false (sym p))), mine.3)

  pub hears_received : (port : ℕ) (v : Log T) (other : ℕ) (u : Log T)
      → Merges IsLinked port v other u (log v.pushes false v.sent u.received) (log false false [] [])
  hears_received port v other u items views h at two at' = let both : Log T = log v.pushes false v.sent u.received in
      let mine = h.5 port v at in let theirs = h.5 other u (knew port both other u views two at') in
      hears port v both other u items views h two (mine.0, theirs.1, mine.2, λ p. absurd (true≢false (sym p)))

  -- ---- what an end is shown

  pub totals : (port : ℕ) (v : Log T) → v.pushes ≡ true → v.pops ≡ true
      → Learns IsLinked port v (λ items. v.sent ≡ v.received ++ items)
  totals port v a b items views h at = let mine = h.5 port v at in
      (mine.2 a).1 ∙ h.4 ∙ ap (λ l. l ++ items) (sym (mine.3 b).1)

  pub shows_sent : (port : ℕ) (v : Log T) → v.pushes ≡ true
      → Learns IsLinked port v (λ items. length v.received + length items ≤ length v.sent)
  shows_sent port v a items views h at =
      let mine = h.5 port v at in let all : length v.sent ≡ length (h.3 ++ items) = ap length ((mine.2 a).1 ∙ h.4) in
      let few = begins_short v.received h.3 mine.1 in omega (arith, all, few, length-append h.3 items)

  pub shows_received : (port : ℕ) (v : Log T) → v.pops ≡ true
      → Learns IsLinked port v (λ items. length items ≡ 0 → IsPrefix v.sent v.received)
  shows_received port v b [] views h at none = let mine = h.5 port v at in
      subst (IsPrefix v.sent) (h.4 ∙ append-nil h.3 ∙ sym (mine.3 b).1) mine.0
  shows_received port v b (x ∷ items) views h at none = absurd (omega (arith, none))
