-- Membership in a table's rows and in their walks, and what is left of both where rows go.
use Rattle.std.proofs.Common.{◌≡◌, ◌≢◌, ℕ, ◌==◌, ◌&&◌, ◌||◌, not, Bool, true, false, cond, ◌≤◌, List, [], ◌∷◌, length}
use Rattle.std.proofs.Common.{map, arith, refl, ap, ◌∙◌, subst}
use Rattle.std.specs.Prelude.{is_some, filter, slice_get}
use Rattle.std.proofs.lemmas.Bool.Decides.{nat_tests, Decides-eqb}
use Rattle.std.proofs.lemmas.List.{length-map}
use Rattle.std.proofs.lemmas.List.Filters.{length-filter_both}
use Rattle.cf_subs.specs.declared.table.Row.{Row}
use Rattle.cf_subs.specs.Rows.{follows, has_channel, is_among, is_of, row, sessions_of, channels_of, with_row, without}
use Rattle.cf_subs.specs.Rows.{without_row, without_session, AreDistinct, AreOnce, most_rows}

-- a session follows a channel exactly where the channel's walk has it
pub among_sessions : (rows : List Row) (c s : ℕ) → is_among s (sessions_of rows c) ≡ follows rows c s
among_sessions [] c s = refl
among_sessions (r ∷ rows) c s = by_value (r.channel == c) (among_sessions rows c s)
  where
    by_value : (t : Bool) → is_among s (sessions_of rows c) ≡ follows rows c s
        → is_among s (map (λ x. x.session) (cond t (r ∷ filter (λ x. x.channel == c) rows)
        (filter (λ x. x.channel == c) rows))) ≡ ((t && (r.session == s)) || follows rows c s)
    by_value true h = ap (λ b. (r.session == s) || b) h
    by_value false h = h

-- and where the session's walk has the channel
pub among_channels : (rows : List Row) (c s : ℕ) → is_among c (channels_of rows s) ≡ follows rows c s
among_channels [] c s = refl
among_channels (r ∷ rows) c s = by_value (r.session == s) (among_channels rows c s)
  where
    by_value : (t : Bool) → is_among c (channels_of rows s) ≡ follows rows c s
        → is_among c (map (λ x. x.channel) (cond t (r ∷ filter (λ x. x.session == s) rows)
        (filter (λ x. x.session == s) rows))) ≡ (((r.channel == c) && t) || follows rows c s)
    by_value true h = grind (arith, h)
    by_value false h = grind (arith, h)

pub distinct_sessions : (rows : List Row) (c : ℕ) → AreOnce rows → AreDistinct (sessions_of rows c)
distinct_sessions [] c h = tt
distinct_sessions (r ∷ rows) c h =
    by_value (r.channel == c) ((Decides-eqb r.channel c).0) (distinct_sessions rows c h.1)
  where
    by_value : (t : Bool) → (t ≡ true → r.channel ≡ c) → AreDistinct (sessions_of rows c)
        → AreDistinct (map (λ x. x.session) (cond t (r ∷ filter (λ x. x.channel == c) rows)
        (filter (λ x. x.channel == c) rows)))
    by_value true e g =
        (among_sessions rows c r.session ∙ subst (λ d. follows rows d r.session ≡ false) (e refl) h.0, g)
    by_value false e g = g

pub distinct_channels : (rows : List Row) (s : ℕ) → AreOnce rows → AreDistinct (channels_of rows s)
distinct_channels [] s h = tt
distinct_channels (r ∷ rows) s h =
    by_value (r.session == s) ((Decides-eqb r.session s).0) (distinct_channels rows s h.1)
  where
    by_value : (t : Bool) → (t ≡ true → r.session ≡ s) → AreDistinct (channels_of rows s)
        → AreDistinct (map (λ x. x.channel) (cond t (r ∷ filter (λ x. x.session == s) rows)
        (filter (λ x. x.session == s) rows)))
    by_value true e g =
        (among_channels rows r.channel s ∙ subst (λ d. follows rows r.channel d ≡ false) (e refl) h.0, g)
    by_value false e g = g

-- what a removal of one row leaves of the walk of its channel, and of another's
pub sessions-without_row : (rows : List Row) (c s : ℕ)
    → sessions_of (without_row rows c s) c ≡ without s (sessions_of rows c)
sessions-without_row [] c s = refl
sessions-without_row (r ∷ rows) c s =
    by_value (r.channel == c) (r.session == s) refl refl (sessions-without_row rows c s)
  where
    by_value : (t u : Bool) → (r.channel == c) ≡ t → (r.session == s) ≡ u
        → sessions_of (without_row rows c s) c ≡ without s (sessions_of rows c)
        → sessions_of (without_row (r ∷ rows) c s) c ≡ without s (sessions_of (r ∷ rows) c)
    by_value true true e f h = grind (arith, e, f, h)
    by_value true false e f h = grind (arith, e, f, h)
    by_value false true e f h = grind (arith, e, f, h)
    by_value false false e f h = grind (arith, e, f, h)

pub others-without_row : (rows : List Row) (c s d : ℕ) → d ≢ c
    → sessions_of (without_row rows c s) d ≡ sessions_of rows d
others-without_row [] c s d n = refl
others-without_row (r ∷ rows) c s d n = grind (arith, nat_tests, others-without_row rows c s d)

pub sessions-without_session : (rows : List Row) (c s : ℕ)
    → sessions_of (without_session rows s) c ≡ without s (sessions_of rows c)
sessions-without_session [] c s = refl
sessions-without_session (r ∷ rows) c s =
    by_value (r.channel == c) (r.session == s) refl refl (sessions-without_session rows c s)
  where
    by_value : (t u : Bool) → (r.channel == c) ≡ t → (r.session == s) ≡ u
        → sessions_of (without_session rows s) c ≡ without s (sessions_of rows c)
        → sessions_of (without_session (r ∷ rows) s) c ≡ without s (sessions_of (r ∷ rows) c)
    by_value true true e f h = grind (arith, e, f, h)
    by_value true false e f h = grind (arith, e, f, h)
    by_value false true e f h = grind (arith, e, f, h)
    by_value false false e f h = grind (arith, e, f, h)

pub follows-without_row : (rows : List Row) (c s d j : ℕ)
    → follows (without_row rows c s) d j ≡ (follows rows d j && not (is_of d j (row c s)))
follows-without_row [] c s d j = grind (arith)
follows-without_row (r ∷ rows) c s d j = grind (arith, nat_tests, follows-without_row rows c s d j)

pub follows-without_session : (rows : List Row) (s d j : ℕ)
    → follows (without_session rows s) d j ≡ (follows rows d j && not (j == s))
follows-without_session [] s d j = grind (arith)
follows-without_session (r ∷ rows) s d j = grind (arith, nat_tests, follows-without_session rows s d j)

pub follows-with_row : (rows : List Row) (c s d j : ℕ)
    → follows (with_row rows c s) d j ≡ (is_of d j (row c s) || follows rows d j)
follows-with_row [] c s d j = grind (arith)
follows-with_row (r ∷ rows) c s d j = grind (arith, follows-with_row rows c s d j)

-- what was just added, and goes again, leaves what was there
pub without-with_row : (rows : List Row) (c s : ℕ) → follows rows c s ≡ false
    → without_row (with_row rows c s) c s ≡ rows
without-with_row [] c s h = grind (arith, nat_tests)
without-with_row (r ∷ rows) c s h = grind (arith, without-with_row rows c s)

-- a channel without a session has an empty walk
pub no_sessions : (rows : List Row) (c : ℕ) → has_channel rows c ≡ false → sessions_of rows c ≡ []
no_sessions [] c h = refl
no_sessions (r ∷ rows) c h = grind (arith, no_sessions rows c)

pub no_channel : (rows : List Row) (c : ℕ) → sessions_of rows c ≡ [] → has_channel rows c ≡ false
no_channel [] c h = refl
no_channel (r ∷ rows) c h = by_value (r.channel == c) (no_channel rows c) h
  where
    by_value : (t : Bool) → (sessions_of rows c ≡ [] → has_channel rows c ≡ false)
        → map (λ x. x.session) (cond t (r ∷ filter (λ x. x.channel == c) rows) (filter (λ x. x.channel == c) rows)) ≡ []
        → (t || has_channel rows c) ≡ false
    by_value true g e = cc
    by_value false g e = g e

pub no_followers : (rows : List Row) (c s : ℕ) → has_channel rows c ≡ false → follows rows c s ≡ false
no_followers [] c s h = refl
no_followers (r ∷ rows) c s h = grind (arith, no_followers rows c s)

-- the first of a walk is there exactly where the channel has a session
pub first_is_some : (rows : List Row) (c : ℕ) → is_some (slice_get (sessions_of rows c) 0) ≡ has_channel rows c
first_is_some [] c = refl
first_is_some (r ∷ rows) c = by_value (r.channel == c) (first_is_some rows c)
  where
    by_value : (t : Bool) → is_some (slice_get (sessions_of rows c) 0) ≡ has_channel rows c
        → is_some (slice_get (map (λ x. x.session) (cond t (r ∷ filter (λ x. x.channel == c) rows)
        (filter (λ x. x.channel == c) rows))) 0) ≡ (t || has_channel rows c)
    by_value true h = refl
    by_value false h = h

pub few_channels : (rows : List Row) (s : ℕ) → length rows ≤ most_rows → length (channels_of rows s) ≤ most_rows
few_channels rows s few =
    let mine : List Row = filter (λ r. r.session == s) rows in
    let counted = length-map mine (λ r. r.channel) in
    omega (arith, counted, length-filter_both (λ r. r.session == s) (λ r. not (r.session == s)) (λ _. refl) rows, few)
