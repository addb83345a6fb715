-- Which sessions follow a channel, and what is left of them where rows go.
use Rattle.std.proofs.Common.{◌≡◌, ℕ, ◌==◌, ◌&&◌, ◌||◌, ◌≤◌, not, Bool, true, false, cond, List, [], ◌∷◌, length, map}
use Rattle.std.proofs.Common.{arith, refl, sym, ap, ◌∙◌, subst}
use Rattle.std.specs.Prelude.{filter}
use Rattle.std.specs.List.{list_any}
use Rattle.std.proofs.lemmas.Bool.Decides.{nat_tests}
use Rattle.std.proofs.lemmas.List.{length-map}
use Rattle.std.proofs.lemmas.List.Filters.{length-filter_both}
use Rattle.std.specs.Str.{bytes_eq}
use Rattle.std.specs.Cmp.Lexicographic.{bytes_decides}
use Rattle.cf_subscribers.specs.Follows.{Follow, follows, sessions_of, without_follow, without_session, AreOnce}
use Rattle.cf_model.specs.Streams.{most_rows}

abbrev pub has : ℕ → List ℕ → Bool
has k ks = list_any (λ j. j == k) ks

abbrev pub without : ℕ → List ℕ → List ℕ
without k ks = filter (λ j. not (j == k)) ks

abbrev pub Once : List ℕ → Type 0
Once [] = Unit {0}
Once (k ∷ ks) = (has k ks ≡ false) × Once ks

pub follows_has : (rows : List Follow) (c : List ℕ) (k : ℕ) → follows rows c k ≡ has k (sessions_of rows c)
follows_has [] c k = refl
follows_has (r ∷ rows) c k = by_value (bytes_eq r.channel c) (follows_has rows c k)
  where
    by_value : (t : Bool) → follows rows c k ≡ has k (sessions_of rows c)
        → ((t && (r.session == k)) || follows rows c k)
        ≡ has k (map (λ x. x.session) (cond t (r ∷ filter (λ x. bytes_eq x.channel c) rows)
        (filter (λ x. bytes_eq x.channel c) rows)))
    by_value true h = ap (λ b. (r.session == k) || b) h
    by_value false h = h

pub once_sessions : (rows : List Follow) (c : List ℕ) → AreOnce rows → Once (sessions_of rows c)
once_sessions [] c h = tt
once_sessions (r ∷ rows) c h =
    by_value (bytes_eq r.channel c) ((bytes_decides r.channel c).0) (once_sessions rows c h.1)
  where
    by_value : (t : Bool) → (t ≡ true → r.channel ≡ c) → Once (sessions_of rows c)
        → Once (map (λ x. x.session) (cond t (r ∷ filter (λ x. bytes_eq x.channel c) rows)
        (filter (λ x. bytes_eq x.channel c) rows)))
    by_value true e g =
        (sym (follows_has rows c r.session) ∙ subst (λ d. follows rows d r.session ≡ false) (e refl) h.0, g)
    by_value false e g = g

pub few_sessions : (rows : List Follow) (c : List ℕ) → length rows ≤ most_rows → length (sessions_of rows c) ≤ most_rows
few_sessions rows c few =
    let mine : List Follow = filter (λ r. bytes_eq r.channel c) rows in
    let counted = length-map mine (λ r. r.session) in
    omega (
      arith,
      counted,
      length-filter_both (λ r. bytes_eq r.channel c) (λ r. not (bytes_eq r.channel c)) (λ _. refl)
          rows,
      few,
    )

pub sessions_without_follow : (rows : List Follow) (c : List ℕ) (k : ℕ)
    → sessions_of (without_follow rows c k) c ≡ without k (sessions_of rows c)
sessions_without_follow [] c k = refl
sessions_without_follow (r ∷ rows) c k =
    by_value (bytes_eq r.channel c) (r.session == k) refl refl (sessions_without_follow rows c k)
  where
    by_value : (t u : Bool) → bytes_eq r.channel c ≡ t → (r.session == k) ≡ u
        → sessions_of (without_follow rows c k) c ≡ without k (sessions_of rows c)
        → sessions_of (without_follow (r ∷ rows) c k) c ≡ without k (sessions_of (r ∷ rows) c)
    by_value true true e f h = grind (arith, e, f, h)
    by_value true false e f h = grind (arith, e, f, h)
    by_value false true e f h = grind (arith, e, f, h)
    by_value false false e f h = grind (arith, e, f, h)

pub sessions_without_session : (rows : List Follow) (c : List ℕ) (k : ℕ)
    → sessions_of (without_session rows k) c ≡ without k (sessions_of rows c)
sessions_without_session [] c k = refl
sessions_without_session (r ∷ rows) c k =
    by_value (bytes_eq r.channel c) (r.session == k) refl refl (sessions_without_session rows c k)
  where
    by_value : (t u : Bool) → bytes_eq r.channel c ≡ t → (r.session == k) ≡ u
        → sessions_of (without_session rows k) c ≡ without k (sessions_of rows c)
        → sessions_of (without_session (r ∷ rows) k) c ≡ without k (sessions_of (r ∷ rows) c)
    by_value true true e f h = grind (arith, e, f, h)
    by_value true false e f h = grind (arith, e, f, h)
    by_value false true e f h = grind (arith, e, f, h)
    by_value false false e f h = grind (arith, e, f, h)

pub follows_without_follow : (rows : List Follow) (c : List ℕ) (k : ℕ) (d : List ℕ) (j : ℕ)
    → follows (without_follow rows c k) d j ≡ (not (bytes_eq d c && (j == k)) && follows rows d j)
follows_without_follow [] c k d j = grind (arith)
follows_without_follow (r ∷ rows) c k d j =
    let dc = bytes_decides d c in let rc = bytes_decides r.channel c in let rd = bytes_decides r.channel d in
    grind (arith, nat_tests, dc, rc, rd, follows_without_follow rows c k d j)

pub follows_without_session : (rows : List Follow) (k : ℕ) (d : List ℕ) (j : ℕ)
    → follows (without_session rows k) d j ≡ (not (j == k) && follows rows d j)
follows_without_session [] k d j = grind (arith)
follows_without_session (r ∷ rows) k d j = grind (arith, nat_tests, follows_without_session rows k d j)
