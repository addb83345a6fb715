-- What a move makes of a session, it makes of one that is alike.
use Rattle.std.proofs.Common.{◌≡◌, ℕ, ◌+◌, Bool, true, false, if◌then◌else◌, is_some, Option, Some, None, List, [], ◌∷◌}
use Rattle.std.proofs.Common.{◌++◌, drop, refl, sym, ap, ◌∙◌, subst}
use Rattle.std.specs.Prelude.{nat_le, sum_by}
use Rattle.std.specs.Cmp.Lexicographic.{bytes_decides}
use Rattle.std.specs.List.{AllZip}
use Rattle.std.specs.Str.{bytes_eq}
use Rattle.std.proofs.lemmas.List.Sums.{sum_by-cons}
use Rattle.cf_protocol.specs.Note.{Reading}
use Rattle.cf_protocol.specs.Position.{Position}
use Rattle.cf_model.specs.Recovery.{Verdict, Drop, Pass, Insufficient, verdict}
use Rattle.cf_hub.specs.Alike.{Alike, AlikeSub}
use Rattle.cf_model.specs.Recovery.{Checked, Fine, Behind, Ended, position_check}
use Rattle.cf_model.specs.Sessions.{Subscription, Off, Asked, Ready, On, SessionState, Wording, begins, by_check}
use Rattle.cf_model.specs.Sessions.{by_verdict, check_at, checks, closes, closes_now, come_at, comes, leaves}
use Rattle.cf_model.specs.Sessions.{most_waiting, opens, push, put_sub, read_at, reads, says, slow, takes_front}

module _ {B C N M : Type 0} (R : List ℕ → ℕ → Option Reading → B → C → Type 0) (S : N → M → Type 0) where
  pub zip_more : (xs : List N) (ys : List M) (x : N) (y : M) → AllZip S xs ys → S x y
      → AllZip S (xs ++ x ∷ []) (ys ++ y ∷ [])
  zip_more [] [] x y h s = (s, tt)
  zip_more [] (b ∷ ys) x y h s = absurd h
  zip_more (a ∷ xs) [] x y h s = absurd h
  zip_more (a ∷ xs) (b ∷ ys) x y h s = (h.0, zip_more xs ys x y h.1 s)

  pub zip_both : (xs : List N) (ys : List M) (us : List N) (vs : List M) → AllZip S xs ys → AllZip S us vs
      → AllZip S (xs ++ us) (ys ++ vs)
  zip_both [] [] us vs h s = s
  zip_both [] (b ∷ ys) us vs h s = absurd h
  zip_both (a ∷ xs) [] us vs h s = absurd h
  zip_both (a ∷ xs) (b ∷ ys) us vs h s = (h.0, zip_both xs ys us vs h.1 s)

  zip_less : (xs : List N) (ys : List M) → AllZip S xs ys → AllZip S (drop 1 xs) (drop 1 ys)
  zip_less [] [] h = tt
  zip_less [] (b ∷ ys) h = absurd h
  zip_less (a ∷ xs) [] h = absurd h
  zip_less (a ∷ xs) (b ∷ ys) h = h.1

  pub opens_alike : Alike R S opens opens
  opens_alike = record { subs = λ d. tt; notes = tt; closed = refl }

  pub takes_alike : (a : SessionState B N) (b : SessionState C M) → Alike R S a b
      → Alike R S (takes_front a) (takes_front b)
  takes_alike a b h = record { subs = h.subs; notes = zip_less a.notes b.notes h.notes; closed = h.closed }

  pub put_alike : (c : List ℕ) (s : Subscription B) (s' : Subscription C) (a : SessionState B N) (b : SessionState C M)
      → AlikeSub (R c) s s' → Alike R S a b → Alike R S (put_sub c s a) (put_sub c s' b)
  put_alike c s s' a b e h =
      record { subs = λ d. by_value d (bytes_eq d c) ((bytes_decides d c).0); notes = h.notes; closed = h.closed }
    where
      by_value : (d : List ℕ) (t : Bool) → (t ≡ true → d ≡ c)
          → AlikeSub (R d) (if t then s else a.subs d) (if t then s' else b.subs d)
      by_value d true is = subst (λ (x : List ℕ). AlikeSub (R x) s s') (sym (is refl)) e
      by_value d false is = h.subs d

  pub leaves_alike : (c : List ℕ) (a : SessionState B N) (b : SessionState C M) → Alike R S a b
      → Alike R S (leaves c a) (leaves c b)
  leaves_alike c a b h = put_alike c Off Off a b tt h

  pub closes_alike : (n : N) (m : M) (a : SessionState B N) (b : SessionState C M) → S n m → Alike R S a b
      → Alike R S (closes n a) (closes m b)
  closes_alike n m a b s h = record { subs = λ d. tt; notes = zip_more a.notes b.notes n m h.notes s; closed = refl }

  closes_by : (t u : Bool) → t ≡ u → (n : N) (m : M) (a : SessionState B N) (b : SessionState C M) → S n m
      → Alike R S a b
      → Alike R S (if t then a else closes n a) (if u then b else closes m b)
  closes_by true true e n m a b s h = h
  closes_by false false e n m a b s h = closes_alike n m a b s h
  closes_by true false e n m a b s h = absurd (cc)
  closes_by false true e n m a b s h = absurd (cc)

  pub closes_now_alike : (n : N) (m : M) (a : SessionState B N) (b : SessionState C M) → S n m → Alike R S a b
      → Alike R S (closes_now n a) (closes_now m b)
  closes_now_alike n m a b s h = closes_by a.closed b.closed h.closed n m a b s h

  module _ (w : Wording B N) (v : Wording C M) (weigh : (n : N) (m : M) → S n m → w.weight n ≡ v.weight m)
      (close : S (w.close slow) (v.close slow)) where
    weights : (xs : List N) (ys : List M) → AllZip S xs ys → sum_by w.weight xs ≡ sum_by v.weight ys
    weights [] [] h = refl
    weights [] (y ∷ ys) h = absurd h
    weights (x ∷ xs) [] h = absurd h
    weights (x ∷ xs) (y ∷ ys) h =
        sum_by-cons w.weight x xs ∙ (λ i. weigh x y h.0 i + weights xs ys h.1 i) ∙ sym (sum_by-cons v.weight y ys)

    push_by : (t u f g : Bool) → t ≡ u → f ≡ g → (n : N) (m : M) (a : SessionState B N) (b : SessionState C M) → S n m
        → Alike R S a b
        → Alike R S (if t then a else if f then record a { notes = a.notes ++ n ∷ [] } else closes (w.close slow) a)
        (if u then b else if g then record b { notes = b.notes ++ m ∷ [] } else closes (v.close slow) b)
    push_by true true f g d e n m a b s h = h
    push_by false false true true d e n m a b s h =
        record { subs = h.subs; notes = zip_more a.notes b.notes n m h.notes s; closed = h.closed }
    push_by false false false false d e n m a b s h = closes_alike (w.close slow) (v.close slow) a b close h
    push_by true false f g d e n m a b s h = absurd (cc)
    push_by false true f g d e n m a b s h = absurd (cc)
    push_by false false true false d e n m a b s h = absurd (cc)
    push_by false false false true d e n m a b s h = absurd (cc)

    pub push_alike : (n : N) (m : M) (a : SessionState B N) (b : SessionState C M) → S n m → Alike R S a b
        → Alike R S (push w n a) (push v m b)
    push_alike n m a b s h =
        push_by a.closed b.closed (nat_le (sum_by w.weight a.notes + w.weight n) most_waiting)
        (nat_le (sum_by v.weight b.notes + v.weight m) most_waiting) h.closed
        (λ i. nat_le (weights a.notes b.notes h.notes i + weigh n m s i) most_waiting) n m a b s h

    pub says_alike : (ns : List N) (ms : List M) (a : SessionState B N) (b : SessionState C M) → AllZip S ns ms
        → Alike R S a b → Alike R S (says w ns a) (says v ms b)
    says_alike [] [] a b z h = h
    says_alike [] (m ∷ ms) a b z h = absurd z
    says_alike (n ∷ ns) [] a b z h = absurd z
    says_alike (n ∷ ns) (m ∷ ms) a b z h = says_alike ns ms (push w n a) (push v m b) z.1 (push_alike n m a b z.0 h)

    pub begins_alike : (c : List ℕ) (id : ℕ) (since : Option Position) → R c id None w.empty v.empty
        → (a : SessionState B N) (b : SessionState C M) → Alike R S a b
        → Alike R S (begins w c id since a) (begins v c id since b)
    begins_alike c id since r a b h =
        put_alike c (Asked id since w.empty) (Asked id since v.empty) a b (refl, refl, r) h

    -- ---- the stream was read

    module _ (c : List ℕ) (r : Reading) (with_read : (id : ℕ) (k : B) (k' : C) → R c id None k k'
        → R c id (Some r) (w.with_read k) (v.with_read k')) where
      read_alike : (s : Subscription B) (s' : Subscription C) (a : SessionState B N) (b : SessionState C M)
          → AlikeSub (R c) s s' → Alike R S a b → Alike R S (read_at w c r s a) (read_at v c r s' b)
      read_alike Off Off a b e h = h
      read_alike (Asked id since k) (Asked id' since' k') a b e h =
          put_alike c (Ready id (is_some since) r (w.with_read k)) (Ready id' (is_some since') r (v.with_read k')) a b
          (e.0, ap is_some e.1, refl, with_read id k k' e.2) h
      read_alike (Ready id was x k) (Ready id' was' x' k') a b e h = h
      read_alike (On p behind_at) (On p' behind_at') a b e h = h
      read_alike Off (Asked id since k) a b e h = absurd e
      read_alike Off (Ready id was x k) a b e h = absurd e
      read_alike Off (On p behind_at) a b e h = absurd e
      read_alike (Asked id since k) Off a b e h = absurd e
      read_alike (Asked id since k) (Ready id' was x k') a b e h = absurd e
      read_alike (Asked id since k) (On p behind_at) a b e h = absurd e
      read_alike (Ready id was x k) Off a b e h = absurd e
      read_alike (Ready id was x k) (Asked id' since k') a b e h = absurd e
      read_alike (Ready id was x k) (On p behind_at) a b e h = absurd e
      read_alike (On p behind_at) Off a b e h = absurd e
      read_alike (On p behind_at) (Asked id since k) a b e h = absurd e
      read_alike (On p behind_at) (Ready id was x k) a b e h = absurd e

      pub reads_alike : (a : SessionState B N) (b : SessionState C M) → Alike R S a b
          → Alike R S (reads w c r a) (reads v c r b)
      reads_alike a b h = read_alike (a.subs c) (b.subs c) a b (h.subs c) h

    -- ---- a publication is delivered

    module _ (c : List ℕ) (q : Position) (place : S (w.place c q) (v.place c q)) (end : S (w.end c) (v.end c))
        (with_one : (id : ℕ) (x : Option Reading) (k : B) (k' : C) → R c id x k k'
        → R c id x (w.with_one q k) (v.with_one q k')) where
      verdict_alike : (x : Verdict) (behind_at : Option ℕ) (a : SessionState B N) (b : SessionState C M) → Alike R S a b
          → Alike R S (by_verdict w c q behind_at x a) (by_verdict v c q behind_at x b)
      verdict_alike Drop behind_at a b h = h
      verdict_alike Pass behind_at a b h =
          push_alike (w.place c q) (v.place c q) (put_sub c (On q behind_at) a) (put_sub c (On q behind_at) b) place
          (put_alike c (On q behind_at) (On q behind_at) a b (refl, refl) h)
      verdict_alike Insufficient behind_at a b h =
          push_alike (w.end c) (v.end c) (put_sub c Off a) (put_sub c Off b) end (put_alike c Off Off a b tt h)

      come_alike : (s : Subscription B) (s' : Subscription C) (a : SessionState B N) (b : SessionState C M)
          → AlikeSub (R c) s s' → Alike R S a b → Alike R S (come_at w c q s a) (come_at v c q s' b)
      come_alike Off Off a b e h = h
      come_alike (Asked id since k) (Asked id' since' k') a b e h =
          put_alike c (Asked id since (w.with_one q k)) (Asked id' since' (v.with_one q k')) a b
          (e.0, e.1, with_one id None k k' e.2) h
      come_alike (Ready id was x k) (Ready id' was' x' k') a b e h =
          put_alike c (Ready id was x (w.with_one q k)) (Ready id' was' x' (v.with_one q k')) a b
          (e.0, e.1, e.2, with_one id (Some x) k k' e.3) h
      come_alike (On p behind_at) (On p' behind_at') a b e h =
          subst (λ (x : Position). Alike R S (by_verdict w c q behind_at (verdict p q) a)
          (by_verdict v c q behind_at' (verdict x q) b)) e.0
          (subst (λ (x : Option ℕ). Alike R S (by_verdict w c q behind_at (verdict p q) a)
          (by_verdict v c q x (verdict p q) b)) e.1 (verdict_alike (verdict p q) behind_at a b h))
      come_alike Off (Asked id since k) a b e h = absurd e
      come_alike Off (Ready id was x k) a b e h = absurd e
      come_alike Off (On p behind_at) a b e h = absurd e
      come_alike (Asked id since k) Off a b e h = absurd e
      come_alike (Asked id since k) (Ready id' was x k') a b e h = absurd e
      come_alike (Asked id since k) (On p behind_at) a b e h = absurd e
      come_alike (Ready id was x k) Off a b e h = absurd e
      come_alike (Ready id was x k) (Asked id' since k') a b e h = absurd e
      come_alike (Ready id was x k) (On p behind_at) a b e h = absurd e
      come_alike (On p behind_at) Off a b e h = absurd e
      come_alike (On p behind_at) (Asked id since k) a b e h = absurd e
      come_alike (On p behind_at) (Ready id was x k) a b e h = absurd e

      pub comes_alike : (a : SessionState B N) (b : SessionState C M) → Alike R S a b
          → Alike R S (comes w c q a) (comes v c q b)
      comes_alike a b h = come_alike (a.subs c) (b.subs c) a b (h.subs c) h

    -- ---- the position check

    module _ (c : List ℕ) (top : Option Position) (end : S (w.end c) (v.end c)) where
      by_check_alike : (x : Checked) (p : Position) (a : SessionState B N) (b : SessionState C M) → Alike R S a b
          → Alike R S (by_check w c p x a) (by_check v c p x b)
      by_check_alike Fine p a b h = put_alike c (On p None) (On p None) a b (refl, refl) h
      by_check_alike Behind p a b h = put_alike c (On p (Some p.offset)) (On p (Some p.offset)) a b (refl, refl) h
      by_check_alike Ended p a b h =
          push_alike (w.end c) (v.end c) (put_sub c Off a) (put_sub c Off b) end (put_alike c Off Off a b tt h)

      check_alike : (s : Subscription B) (s' : Subscription C) (a : SessionState B N) (b : SessionState C M)
          → AlikeSub (R c) s s' → Alike R S a b → Alike R S (check_at w c top s a) (check_at v c top s' b)
      check_alike Off Off a b e h = h
      check_alike (Asked id since k) (Asked id' since' k') a b e h = h
      check_alike (Ready id was x k) (Ready id' was' x' k') a b e h = h
      check_alike (On p behind_at) (On p' behind_at') a b e h =
          subst (λ (x : Position). Alike R S (by_check w c p (position_check top p behind_at) a)
          (by_check v c x (position_check top x behind_at') b)) e.0
          (subst (λ (x : Option ℕ). Alike R S (by_check w c p (position_check top p behind_at) a)
          (by_check v c p (position_check top p x) b)) e.1 (by_check_alike (position_check top p behind_at) p a b h))
      check_alike Off (Asked id since k) a b e h = absurd e
      check_alike Off (Ready id was x k) a b e h = absurd e
      check_alike Off (On p behind_at) a b e h = absurd e
      check_alike (Asked id since k) Off a b e h = absurd e
      check_alike (Asked id since k) (Ready id' was x k') a b e h = absurd e
      check_alike (Asked id since k) (On p behind_at) a b e h = absurd e
      check_alike (Ready id was x k) Off a b e h = absurd e
      check_alike (Ready id was x k) (Asked id' since k') a b e h = absurd e
      check_alike (Ready id was x k) (On p behind_at) a b e h = absurd e
      check_alike (On p behind_at) Off a b e h = absurd e
      check_alike (On p behind_at) (Asked id since k) a b e h = absurd e
      check_alike (On p behind_at) (Ready id was x k) a b e h = absurd e

      pub checks_alike : (a : SessionState B N) (b : SessionState C M) → Alike R S a b
          → Alike R S (checks w c top a) (checks v c top b)
      checks_alike a b h = check_alike (a.subs c) (b.subs c) a b (h.subs c) h
