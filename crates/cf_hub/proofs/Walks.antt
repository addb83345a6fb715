-- A walk over the sessions of a channel, while rows go that it has passed.
use Rattle.std.proofs.Common.{◌≡◌, ◌≢◌, ℕ, ◌+◌, ◌==◌, ◌||◌, not, Bool, true, false, Option, Some, None, List, [], ◌∷◌}
use Rattle.std.proofs.Common.{◌++◌, arith, refl, sym, ap, ◌∙◌, subst, slice_get}
use Rattle.std.proofs.lemmas.Bool.Decides.{nat_tests, Decides-eqb}
use Rattle.cf_protocol.specs.Datum.{Placed}
use Rattle.cf_subscribers.specs.Follows.{Follow, follows, after_in}
use Rattle.cf_hub.specs.declared.fate.Fate.{Fate}
use Rattle.cf_hub.specs.declared.fate.Fate.TheVariants as fate
use Rattle.cf_hub.specs.declared.delivered.Delivered.{Delivered}
use Rattle.cf_hub.specs.Delivery.{fate_at, one_more, tally, total}
use Rattle.cf_hub.specs.Hub.{Brings}
use Rattle.cf_hub.specs.Rows.{Agrees, sub_in, rows_after, off_after}
use Rattle.cf_hub.specs.Session.{Attached}
use Rattle.cf_model.specs.Sessions.{is_off}
use Rattle.cf_hub.specs.WantOfMemory.{Both}
use Rattle.cf_hub.specs.Wordings.{at_offset, delivering}
use Rattle.cf_hub.proofs.Rows.{has, without, Once, follows_without_follow, follows_without_session}
use Rattle.cf_hub.proofs.States.{served_off}

-- ---- lists of sessions

pub once_rest : (xs ys : List ℕ) → Once (xs ++ ys) → Once ys
once_rest [] ys h = h
once_rest (x ∷ xs) ys h = once_rest xs ys h.1

pub has_append : (k : ℕ) (xs ys : List ℕ) → has k (xs ++ ys) ≡ (has k xs || has k ys)
has_append k [] ys = refl
has_append k (x ∷ xs) ys = grind (arith, has_append k xs ys)

pub once_before : (k : ℕ) (xs ys : List ℕ) → Once (xs ++ k ∷ ys) → has k xs ≡ false
once_before k [] ys h = refl
once_before k (x ∷ xs) ys h = let joined = has_append x xs (k ∷ ys) in
    grind (arith, nat_tests, joined, h.0, once_before k xs ys h.1)

pub after_split : (k : ℕ) (xs ys : List ℕ) → has k xs ≡ false → after_in k (xs ++ k ∷ ys) ≡ slice_get ys 0
after_split k [] ys h = grind (arith, nat_tests)
after_split k (x ∷ xs) ys h = grind (arith, nat_tests, after_split k xs ys)

without_none : (k : ℕ) (xs : List ℕ) → has k xs ≡ false → without k xs ≡ xs
without_none k [] h = refl
without_none k (x ∷ xs) h = grind (arith, nat_tests, without_none k xs)

pub without_split : (k : ℕ) (xs ys : List ℕ) → has k xs ≡ false → has k ys ≡ false → without k (xs ++ k ∷ ys) ≡ xs ++ ys
without_split k [] ys h g = let rest = without_none k ys g in grind (arith, nat_tests, rest)
without_split k (x ∷ xs) ys h g = grind (arith, nat_tests, without_split k xs ys)

pub middle : (k : ℕ) (xs ys : List ℕ) → (xs ++ k ∷ []) ++ ys ≡ xs ++ k ∷ ys
middle k [] ys = refl
middle k (x ∷ xs) ys = ap (λ zs. x ∷ zs) (middle k xs ys)

-- one of them goes
pub once_drop : (k : ℕ) (xs ys : List ℕ) → Once (xs ++ k ∷ ys) → Once (xs ++ ys)
once_drop k [] ys h = h.1
once_drop k (x ∷ xs) ys h = let long = has_append x xs (k ∷ ys) in let short = has_append x xs ys in
    (grind (arith, long, short, h.0), once_drop k xs ys h.1)

-- ---- counts

pub tally_snoc : (f : ℕ → Fate) (ks : List ℕ) (k : ℕ) (d : Delivered)
    → tally f (ks ++ k ∷ []) d ≡ one_more (f k) (tally f ks d)
tally_snoc f [] k d = refl
tally_snoc f (j ∷ ks) k d = tally_snoc f ks k (one_more (f j) d)

has_head : (j : ℕ) (ks : List ℕ) → has j (j ∷ ks) ≡ true
has_head j ks = grind (arith, nat_tests)

has_more : (j k : ℕ) (ks : List ℕ) → has k ks ≡ true → has k (j ∷ ks) ≡ true
has_more j k ks h = grind (arith)

pub tally_same : (f g : ℕ → Fate) (ks : List ℕ) (d : Delivered) → ((j : ℕ) → has j ks ≡ true → f j ≡ g j)
    → tally f ks d ≡ tally g ks d
tally_same f g [] d h = refl
tally_same f g (k ∷ ks) d h =
    ap (λ x. tally f ks (one_more x d)) (h k (has_head k ks))
    ∙ tally_same f g ks (one_more (g k) d) (λ j m. h j (has_more k j ks m))

pub total_more : (f : Fate) (d : Delivered) → total (one_more f d) ≡ total d + 1
total_more fate.Passed d = omega arith
total_more fate.Kept d = omega arith
total_more fate.Dropped d = omega arith
total_more fate.Ended d = omega arith
total_more fate.Closed d = omega arith

-- ---- rows and lines agree

pub off_at : (c d e : List ℕ) (refused : Bool) (p : Placed) (a b : Option Attached) → Both (Brings refused c e p) a b
    → is_off (sub_in b d) ≡ off_after (fate_at c (at_offset e p) a b) c d (is_off (sub_in a d))
off_at c d e refused p None None h = refl
off_at c d e refused p None (Some b) h = absurd h
off_at c d e refused p (Some a) None h = absurd h
off_at c d e refused p (Some a) (Some b) h = served_off c d refused (delivering p) (at_offset e p) a.state b.state h.0

pub twice : (b : Bool) → b ≡ not (not b)
twice true = refl
twice false = refl

-- the rows of the session that was met
pub rows_here : (f : Fate) (c : List ℕ) (k : ℕ) (d : List ℕ) (rows : List Follow)
    → follows (rows_after f c k rows) d k ≡ not (off_after f c d (not (follows rows d k)))
rows_here fate.Passed c k d rows = twice (follows rows d k)
rows_here fate.Kept c k d rows = twice (follows rows d k)
rows_here fate.Dropped c k d rows = twice (follows rows d k)
rows_here fate.Ended c k d rows = let e = follows_without_follow rows c k d k in grind (arith, nat_tests, e)
rows_here fate.Closed c k d rows = let e = follows_without_session rows k d k in grind (arith, nat_tests, e)

-- those of another
pub rows_there : (f : Fate) (c : List ℕ) (k : ℕ) (d : List ℕ) (j : ℕ) (rows : List Follow) → (j == k) ≡ false
    → follows (rows_after f c k rows) d j ≡ follows rows d j
rows_there fate.Passed c k d j rows h = refl
rows_there fate.Kept c k d j rows h = refl
rows_there fate.Dropped c k d j rows h = refl
rows_there fate.Ended c k d j rows h = let e = follows_without_follow rows c k d j in grind (arith, e)
rows_there fate.Closed c k d j rows h = let e = follows_without_session rows k d j in grind (arith, e)

abbrev Sessions : Type 0
Sessions = ℕ → Option Attached

-- rows and lines go on agreeing where one session changes so
pub agrees_by : (f : Fate) (c : List ℕ) (k : ℕ) (old new : Sessions) (rows : List Follow) → Agrees old rows
    → ((d : List ℕ) → is_off (sub_in (new k) d) ≡ off_after f c d (is_off (sub_in (old k) d)))
    → ((j : ℕ) → j ≢ k → new j ≡ old j)
    → Agrees new (rows_after f c k rows)
agrees_by f c k old new rows agrees offs others d j = by_value (j == k) refl (Decides-eqb j k)
  where
    at_k : follows (rows_after f c k rows) d k ≡ not (is_off (sub_in (new k) d))
    at_k = rows_here f c k d rows ∙ ap (λ b. not (off_after f c d (not b))) (agrees d k)
        ∙ ap (λ b. not (off_after f c d b)) (sym (twice (is_off (sub_in (old k) d)))) ∙ ap not (sym (offs d))

    by_value : (t : Bool) → (j == k) ≡ t → (t ≡ true → j ≡ k) × (j ≡ k → t ≡ true)
        → follows (rows_after f c k rows) d j ≡ not (is_off (sub_in (new j) d))
    by_value true is e =
        subst (λ i. follows (rows_after f c k rows) d i ≡ not (is_off (sub_in (new i) d))) (sym (e.0 refl)) at_k
    by_value false is e =
        rows_there f c k d j rows is ∙ agrees d j ∙ ap (λ o. not (is_off (sub_in o d)))
        (sym (others j (λ h. absurd (let g = e.1 h in cc))))

pub still_agrees : (c e : List ℕ) (k : ℕ) (refused : Bool) (p : Placed) (old new : Sessions) (rows : List Follow)
    → Agrees old rows
    → Both (Brings refused c e p) (old k) (new k) → ((j : ℕ) → j ≢ k → new j ≡ old j)
    → Agrees new (rows_after (fate_at c (at_offset e p) (old k) (new k)) c k rows)
still_agrees c e k refused p old new rows agrees here others =
    agrees_by (fate_at c (at_offset e p) (old k) (new k)) c k old new rows agrees
    (λ d. off_at c d e refused p (old k) (new k) here) others
