-- A finish, note by note: after its reply a subscription passes one place after another, and then may end.
use Rattle.std.proofs.Common.{◌≡◌, ℕ, zero, suc, ◌+◌, ◌∙◌, Bool, true, false, if◌then◌else◌, None, List, [], ◌∷◌, ◌++◌}
use Rattle.std.proofs.Common.{refl, sym, ap, subst, arith, nat_le, sum_by, take}
use Rattle.std.specs.Str.{bytes_eq}
use Rattle.cf_protocol.specs.Names.{with}
use Rattle.cf_protocol.specs.Position.{Position}
use Rattle.cf_protocol.specs.Note.{Lists, Reading, Note, Reply, Pub, End, Close}
use Rattle.cf_model.specs.Recovery.{run_length, falls_short}
use Rattle.cf_model.specs.Recovery.{next}
use Rattle.cf_model.specs.Sessions.{Off, Asked, Ready, On, all_off, closes, closes_now, finish_at, most_waiting, push}
use Rattle.cf_model.specs.Sessions.{put_sub, says, slow}
use Rattle.cf_model.specs.Sessions.{pushes}
use Rattle.cf_model.specs.Clients.{read_to}
use Rattle.cf_machine.specs.ClientLink.{amid_at, over_at}
use Rattle.cf_machine.specs.Session.{Sub, Session}
use Rattle.cf_machine.specs.Weights.{wording}
use Rattle.cf_machine.proofs.Names.{with-same}

-- the subscription passes its next place
abbrev pub pass_at : Lists → List ℕ → Sub → Session → Session
pass_at lists c Off s = s
pass_at lists c (Asked id since arrived) s = s
pass_at lists c (Ready id was r arrived) s = s
pass_at lists c (On p behind_at) s = push (wording lists) (Pub c (next p)) (put_sub c (On (next p) behind_at) s)

abbrev pub passes : Lists → List ℕ → ℕ → Session → Session
passes lists c zero s = s
passes lists c (suc n) s = passes lists c n (pass_at lists c (s.subs c) s)

-- it ends
abbrev pub end_at : Lists → List ℕ → Sub → Session → Session
end_at lists c Off s = s
end_at lists c (Asked id since arrived) s = s
end_at lists c (Ready id was r arrived) s = s
end_at lists c (On p behind_at) s = push (wording lists) (End c) (put_sub c Off s)

abbrev pub ends : Lists → List ℕ → Session → Session
ends lists c s = end_at lists c (s.subs c) s

-- ---- a channel that changes twice

twice : (f : List ℕ → Sub) (c : List ℕ) (a b : Sub) (d : List ℕ) → with (with f c a) c b d ≡ with f c b d
twice f c a b d = by_value (bytes_eq d c)
  where
    by_value : (t : Bool) → (if t then b else if t then a else f d) ≡ (if t then b else f d)
    by_value true = refl
    by_value false = refl

put_put : (c : List ℕ) (a b : Sub) (s : Session) → put_sub c b (put_sub c a s) ≡ put_sub c b s
put_put c a b s = λ i. record { subs = λ d. twice s.subs c a b d i; notes = s.notes; closed = s.closed }

-- ---- one note more, where the channel has one or another subscription

both : (f g : Session → Session) (a b : Bool) (x y z u v t : Session) → f x ≡ g u → f y ≡ g v → f z ≡ g t
    → f (if a then x else if b then y else z) ≡ g (if a then u else if b then v else t)
both f g true b x y z u v t h i j = h
both f g false true x y z u v t h i j = i
both f g false false x y z u v t h i j = j

module _ (lists : Lists) (c : List ℕ) where
  says-closed : (ns : List Note) (s : Session) → s.closed ≡ true → says (wording lists) ns s ≡ s
  says-closed [] s e = refl
  says-closed (n ∷ ns) s e = ap (says (wording lists) ns) (stays s.closed e) ∙ says-closed ns s e
    where
      stays : (t : Bool) → t ≡ true → (if t then s else if nat_le
          (sum_by (wording lists).weight s.notes + (wording lists).weight n) most_waiting then record s
          { notes = s.notes ++ n ∷ [] } else closes (Close slow) s) ≡ s
      stays true e = refl
      stays false e = absurd (cc)

  -- where the rest is said alike, it is so behind one note more
  one-more : (n : Note) (ns : List Note) (x y : Sub) (G : Session → Session)
      → ((s : Session) → says (wording lists) ns (put_sub c x s) ≡ G (put_sub c y s))
      → ((s : Session) → G (closes (Close slow) s) ≡ closes (Close slow) s)
      → (s : Session) → says (wording lists) (n ∷ ns) (put_sub c x s) ≡ G (push (wording lists) n (put_sub c y s))
  one-more n ns x y G h g s =
      both (says (wording lists) ns) G s.closed (nat_le
      (sum_by (wording lists).weight s.notes + (wording lists).weight n) most_waiting) _ _ _ _ _ _
      (h s) (h (record s { notes = s.notes ++ n ∷ [] })) (says-closed ns (closes (Close slow) s) refl ∙ sym (g s))

  passes-closed : (n : ℕ) (s : Session) → passes lists c n (closes (Close slow) s) ≡ closes (Close slow) s
  passes-closed zero s = refl
  passes-closed (suc n) s = passes-closed n s

  passes-on : (n : ℕ) (p : Position) (s : Session)
      → passes lists c (suc n) (put_sub c (On p None) s)
      ≡ passes lists c n (push (wording lists) (Pub c (next p)) (put_sub c (On (next p) None) s))
  passes-on n p s =
      ap (λ (x : Sub). passes lists c n (pass_at lists c x (put_sub c (On p None) s))) (with-same s.subs c (On p None))
      ∙ ap (λ (v : Session). passes lists c n (push (wording lists) (Pub c (next p)) v))
      (put_put c (On p None) (On (next p) None) s)

  abbrev beyond : Position → ℕ → Position
  beyond p n = record { epoch = p.epoch; offset = p.offset + n }

  none-beyond : (p : Position) → beyond p 0 ≡ p
  none-beyond p = λ i. record { epoch = p.epoch; offset = (same p.offset) i }
    where
      same : (n : ℕ) → n + 0 ≡ n
      same n = omega arith

  next-beyond : (p : Position) (n : ℕ) → beyond p (suc n) ≡ beyond (next p) n
  next-beyond p n = λ i. record { epoch = p.epoch; offset = (same p.offset) i }
    where
      same : (m : ℕ) → m + suc n ≡ (m + 1) + n
      same m = omega arith

  -- so many places, and then what is said alike
  run-alike : (last : Position → Sub) (tail : List Note) (G : Session → Session)
      → ((q : Position) (s : Session) → says (wording lists) tail (put_sub c (last q) s) ≡ G (put_sub c (On q None) s))
      → ((s : Session) → G (closes (Close slow) s) ≡ closes (Close slow) s)
      → (n : ℕ) (p : Position) (s : Session) → says (wording lists) (pushes c p n ++ tail)
      (put_sub c (last (beyond p n)) s) ≡ G (passes lists c n (put_sub c (On p None) s))
  run-alike last tail G h g zero p s =
      subst (λ (q : Position). says (wording lists) tail (put_sub c (last q) s) ≡ G (put_sub c (On p None) s))
      (sym (none-beyond p)) (h p s)
  run-alike last tail G h g (suc n) p s =
      ap (λ (q : Position). says (wording lists) (pushes c p (suc n) ++ tail) (put_sub c (last q) s)) (next-beyond p n)
      ∙ one-more (Pub c (next p)) (pushes c (next p) n ++ tail) (last (beyond (next p) n)) (On (next p) None)
      (λ v. G (passes lists c n v))
      (run-alike last tail G h g n (next p)) (λ v. ap G (passes-closed n v) ∙ g v) s
      ∙ sym (ap G (passes-on n p s))

  ends-on : (q : Position) (s : Session) → says (wording lists) (End c ∷ []) (put_sub c Off s)
      ≡ ends lists c (put_sub c (On q None) s)
  ends-on q s =
      sym (ap (λ (x : Sub). end_at lists c x (put_sub c (On q None) s)) (with-same s.subs c (On q None))
      ∙ ap (push (wording lists) (End c)) (put_put c (On q None) Off s))

  abbrev by_short : Bool → Session → Session
  by_short t s = if t then ends lists c s else s

  -- with the end or without it
  run-or_end : (t : Bool) (n : ℕ) (p : Position) (s : Session)
      → says (wording lists) (pushes c p n ++ (if t then End c ∷ [] else []))
      (put_sub c (if t then Off else On (beyond p n) None) s)
      ≡ by_short t (passes lists c n (put_sub c (On p None) s))
  run-or_end true n p s = run-alike (λ q. Off) (End c ∷ []) (ends lists c) ends-on (λ v. refl) n p s
  run-or_end false n p s = run-alike (λ q. On q None) [] (λ v. v) (λ q v. refl) (λ v. refl) n p s

  closed-by : (t : Bool) (n : ℕ) (s : Session) → by_short t (passes lists c n (closes (Close slow) s))
      ≡ closes (Close slow) s
  closed-by true n s = ap (ends lists c) (passes-closed n s)
  closed-by false n s = passes-closed n s

  -- A FINISH, NOTE BY NOTE
  pub finish_steps : (k : ℕ) (was : Bool) (r : Reading) (arrived : List Position) (s : Session)
      → finish_at (wording lists) c (Ready k was r arrived) s
      ≡ by_short (falls_short arrived r) (passes lists c (run_length arrived r)
      (push (wording lists) (Reply c k was r) (put_sub c (On (read_to r) None) s)))
  finish_steps k was r arrived s =
      one-more (Reply c k was r) (pushes c (read_to r) (run_length arrived r)
      ++ (if falls_short arrived r then End c ∷ [] else []))
      (if falls_short arrived r then Off else On (beyond (read_to r) (run_length arrived r)) None) (On (read_to r) None)
      (λ v. by_short (falls_short arrived r) (passes lists c (run_length arrived r) v))
      (run-or_end (falls_short arrived r) (run_length arrived r) (read_to r))
      (closed-by (falls_short arrived r) (run_length arrived r)) s

  pub over_steps : (k : ℕ) (was : Bool) (r : Reading) (arrived : List Position) (s : Session)
      → over_at (wording lists) c (Ready k was r arrived) s
      ≡ ends lists c (push (wording lists) (Reply c k was r) (put_sub c (On (read_to r) None) s))
  over_steps k was r arrived s =
      one-more (Reply c k was r) (End c ∷ []) Off (On (read_to r) None) (ends lists c) (ends-on (read_to r)) (λ v. refl)
      s

  -- ---- a finish that is broken off

  -- two sessions say the same, and have the same subscriptions where they are closed
  IsTwin : Session → Session → Type 0
  IsTwin a b = (a.notes ≡ b.notes) × (a.closed ≡ b.closed) × (a.closed ≡ true → a.subs ≡ b.subs)

  -- so they are closed alike
  closes-twins : (x : Note) (a b : Session) → IsTwin a b → closes_now x a ≡ closes_now x b
  unfolding IsTwin
  closes-twins x a b t = by_closed a.closed b.closed refl (sym t.1)
    where
      by_closed : (u v : Bool) → a.closed ≡ u → b.closed ≡ a.closed
          → (if a.closed then a else closes x a) ≡ (if b.closed then b else closes x b)
      by_closed true v e f =
          ap (λ (z : Bool). if z then a else closes x a) e
          ∙ (λ i. record { subs = t.2 e i; notes = t.0 i; closed = t.1 i })
          ∙ sym (ap (λ (z : Bool). if z then b else closes x b) (f ∙ e))
      by_closed false v e f =
          ap (λ (z : Bool). if z then a else closes x a) e
          ∙ (λ i. record { subs = all_off; notes = t.0 i ++ x ∷ []; closed = true })
          ∙ sym (ap (λ (z : Bool). if z then b else closes x b) (f ∙ e))

  -- one note more of both, where the one's subscription changes
  push-twins : (n : Note) (s : Sub) (a b : Session) → IsTwin a b → a.closed ≡ false
      → IsTwin (push (wording lists) n a) (push (wording lists) n (put_sub c s b))
  unfolding IsTwin
  push-twins n s a b t e =
      let f : b.closed ≡ false = sym t.1 ∙ e in
      let room : List Note → Bool =
      λ ns. nat_le (sum_by (wording lists).weight ns + (wording lists).weight n) most_waiting in
      let more : Bool → Session → Session =
      λ z v. if z then record v { notes = v.notes ++ n ∷ [] } else closes (Close slow) v in
      let left : push (wording lists) n a ≡ more (room a.notes) a =
      ap (λ (z : Bool). if z then a else more (room a.notes) a) e in
      let right : push (wording lists) n (put_sub c s b) ≡ more (room b.notes) (put_sub c s b) =
      ap (λ (z : Bool). if z then put_sub c s b else more (room b.notes) (put_sub c s b)) f in
      let cases : (z : Bool) → IsTwin (more z a) (more z (put_sub c s b)) =
      λ z. elim z as (λ z. IsTwin (more z a) (more z (put_sub c s b))) [
        | true ↦ (ap (λ (ns : List Note). ns ++ n ∷ []) t.0, t.1, λ h. absurd (cc))
        | false ↦ (ap (λ (ns : List Note). ns ++ Close slow ∷ []) t.0, refl, λ h. refl)
      ] in
      subst (λ v. IsTwin v (push (wording lists) n (put_sub c s b))) (sym left)
      (subst (λ v. IsTwin (more (room a.notes) a) v) (sym right)
      (subst (λ ns. IsTwin (more (room a.notes) a) (more (room ns) (put_sub c s b))) t.0 (cases (room a.notes))))

  -- the first notes of a finish after its reply: so many places, and then perhaps the end
  abbrev pub amid_run : Bool → ℕ → ℕ → Session → Session
  amid_run short run zero s = s
  amid_run true zero (suc m) s = ends lists c s
  amid_run false zero (suc m) s = s
  amid_run short (suc run) (suc m) s = amid_run short run m (pass_at lists c (s.subs c) s)

  abbrev pub amid : ℕ → ℕ → Bool → Reading → List Position → Session → Session
  amid zero k was r arrived s = s
  amid (suc m) k was r arrived s =
      amid_run (falls_short arrived r) (run_length arrived r) m
      (push (wording lists) (Reply c k was r) (put_sub c (On (read_to r) None) s))

  -- how the channel stands amid it: at this place, and off where the session was closed
  IsStage : Position → Session → Type 0
  IsStage p s = (s.closed ≡ false → s.subs c ≡ On p None) × (s.closed ≡ true → s.subs c ≡ Off)

  stage-push : (n : Note) (p : Position) (s : Session) → s.closed ≡ false
      → IsStage p (push (wording lists) n (put_sub c (On p None) s))
  unfolding IsStage
  stage-push n p s e =
      let room : Bool = nat_le (sum_by (wording lists).weight s.notes + (wording lists).weight n) most_waiting in
      let put : Session = put_sub c (On p None) s in
      let more : Bool → Session =
      λ z. if z then record put { notes = s.notes ++ n ∷ [] } else closes (Close slow) put in
      let cases : (z : Bool) → IsStage p (more z) =
      λ z. elim z as (λ z. IsStage p (more z)) [
        | true ↦ ((λ h. with-same s.subs c (On p None)), λ h. absurd (let f : s.closed ≡ true = h in cc))
        | false ↦ ((λ h. absurd (cc)), λ h. refl)
      ] in
      subst (IsStage p) (sym (ap (λ (z : Bool). if z then put else more room) e)) (cases room)

  -- whether it was closed
  by_open : (P : Type 0) (z : Bool) → (z ≡ true → P) → (z ≡ false → P) → P
  by_open P true f g = f refl
  by_open P false f g = g refl

  stays-closed : (n : Note) (s : Session) → s.closed ≡ true → push (wording lists) n s ≡ s
  stays-closed n s e = says-closed (n ∷ []) s e

  pass-twins : (p : Position) (a b : Session) → IsTwin a b → IsStage p b
      → IsTwin (push (wording lists) (Pub c (next p)) a) (pass_at lists c (b.subs c) b)
      × IsStage (next p) (pass_at lists c (b.subs c) b)
  unfolding IsTwin IsStage
  pass-twins p a b t g =
      by_open (IsTwin (push (wording lists) (Pub c (next p)) a) (pass_at lists c (b.subs c) b)
      × IsStage (next p) (pass_at lists c (b.subs c) b)) a.closed
      (λ e. let f : b.closed ≡ true = sym t.1 ∙ e in
      let same : pass_at lists c (b.subs c) b ≡ b = ap (λ (x : Sub). pass_at lists c x b) (g.1 f) in (
        subst (IsTwin (push (wording lists) (Pub c (next p)) a)) (sym same)
            (subst (λ (v : Session). IsTwin v b) (sym (stays-closed (Pub c (next p)) a e)) t),
        subst (IsStage (next p)) (sym same) ((λ h. absurd (cc)), g.1),
      ))
      (λ e. let f : b.closed ≡ false = sym t.1 ∙ e in
      let same : pass_at lists c (b.subs c) b ≡ push (wording lists) (Pub c (next p)) (put_sub c (On (next p) None) b) =
      ap (λ (x : Sub). pass_at lists c x b) (g.0 f) in (
        subst (IsTwin (push (wording lists) (Pub c (next p)) a)) (sym same)
            (push-twins (Pub c (next p)) (On (next p) None) a b t e),
        subst (IsStage (next p)) (sym same) (stage-push (Pub c (next p)) (next p) b f),
      ))

  end-twins : (p : Position) (a b : Session) → IsTwin a b → IsStage p b
      → IsTwin (push (wording lists) (End c) a) (ends lists c b)
  unfolding IsTwin IsStage
  end-twins p a b t g =
      by_open (IsTwin (push (wording lists) (End c) a) (ends lists c b)) a.closed
      (λ e. let same : ends lists c b ≡ b = ap (λ (x : Sub). end_at lists c x b) (g.1 (sym t.1 ∙ e)) in
      subst (IsTwin (push (wording lists) (End c) a)) (sym same)
      (subst (λ (v : Session). IsTwin v b) (sym (stays-closed (End c) a e)) t))
      (λ e. subst (IsTwin (push (wording lists) (End c) a))
      (sym (ap (λ (x : Sub). end_at lists c x b) (g.0 (sym t.1 ∙ e)))) (push-twins (End c) Off a b t e))

  run-twins : (short : Bool) (run m : ℕ) (p : Position) (a b : Session) → IsTwin a b → IsStage p b
      → IsTwin (says (wording lists) (take m (pushes c p run ++ (if short then End c ∷ [] else []))) a)
      (amid_run short run m b)
  run-twins short run zero p a b t g = t
  run-twins true zero (suc zero) p a b t g = end-twins p a b t g
  run-twins true zero (suc (suc m)) p a b t g = end-twins p a b t g
  run-twins false zero (suc m) p a b t g = t
  run-twins short (suc run) (suc m) p a b t g =
      let s = pass-twins p a b t g in
      run-twins short run m (next p) (push (wording lists) (Pub c (next p)) a) (pass_at lists c (b.subs c) b) s.0 s.1

  -- A FINISH THAT IS BROKEN OFF, NOTE BY NOTE
  pub amid_steps : (code n k : ℕ) (was : Bool) (r : Reading) (arrived : List Position) (s : Session) → s.closed ≡ false
      → amid_at (wording lists) c n code (Ready k was r arrived) s ≡ closes_now (Close code) (amid n k was r arrived s)
  unfolding IsTwin
  amid_steps code zero k was r arrived s e =
      ap (λ (z : Bool). if z then s else if z then put_sub c
      (if falls_short arrived r then Off else On (beyond (read_to r) (run_length arrived r)) None) s
      else closes (Close code) s) e
      ∙ sym (ap (λ (z : Bool). if z then s else closes (Close code) s) e)
  amid_steps code (suc m) k was r arrived s e =
      let last : Sub = if falls_short arrived r then Off else On (beyond (read_to r) (run_length arrived r)) None in
      let told : Session =
      says (wording lists) (take (suc m) (Reply c k was r
      ∷ (pushes c (read_to r) (run_length arrived r) ++ (if falls_short arrived r then End c ∷ [] else []))))
      (put_sub c last s) in
      let first : IsTwin (push (wording lists) (Reply c k was r) (put_sub c last s))
      (push (wording lists) (Reply c k was r) (put_sub c (On (read_to r) None) s)) =
      push-twins (Reply c k was r) (On (read_to r) None) (put_sub c last s) s (refl, refl, λ h. absurd (cc)) e in
      ap (λ (z : Bool). if z then s else closes_now (Close code) told) e
      ∙ closes-twins (Close code) told (amid (suc m) k was r arrived s)
      (run-twins (falls_short arrived r) (run_length arrived r) m (read_to r) _ _ first
      (stage-push (Reply c k was r) (read_to r) s e))

  -- what holds of the session, and of that, holds after it
  pub amid_cases : (P : Session → Type 0) (code n k : ℕ) (was : Bool) (r : Reading) (arrived : List Position)
      (s : Session)
      → P s → (s.closed ≡ false → P (closes_now (Close code) (amid n k was r arrived s)))
      → P (amid_at (wording lists) c n code (Ready k was r arrived) s)
  amid_cases P code n k was r arrived s here broken =
      let after : Session =
      closes_now (Close code) (says (wording lists)
      (take n (Reply c k was r ∷ (pushes c (read_to r) (run_length arrived r)
      ++ (if falls_short arrived r then End c ∷ [] else []))))
      (put_sub c (if falls_short arrived r then Off else On (beyond (read_to r) (run_length arrived r)) None) s)) in
      by_open (P (amid_at (wording lists) c n code (Ready k was r arrived) s)) s.closed
      (λ e. subst P (sym (ap (λ (z : Bool). if z then s else after) e)) here)
      (λ e. subst P (sym (amid_steps code n k was r arrived s e)) (broken e))
