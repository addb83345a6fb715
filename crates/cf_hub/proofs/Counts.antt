-- Rows are counted by session, and by channel.
use Rattle.std.proofs.Common.{◌≡◌, inl, inr, ◌<◌, ◌≤◌, is_some, ℕ, zero, suc, ◌+◌, ◌==◌, ◌&&◌, ◌||◌, not, Bool, true}
use Rattle.std.proofs.Common.{false, cond, if◌then◌else◌, List, [], ◌∷◌, length, map, arith, refl, sym, ap, ◌∙◌, subst}
use Rattle.std.specs.Prelude.{filter, sum_by}
use Rattle.std.specs.Str.{bytes_eq}
use Rattle.std.specs.Cmp.Lexicographic.{bytes_decides}
use Rattle.std.proofs.lemmas.Bool.Decides.{nat_tests}
use Rattle.std.proofs.lemmas.Bool.{cases_lt}
use Rattle.std.proofs.lemmas.List.Sums.{sum_by-cons}
use Rattle.cf_protocol.specs.Names.{is_among}
use Rattle.cf_protocol.specs.Position.{Position}
use Rattle.cf_subscribers.specs.Follows.{AreOnce, Follow, channels_of, follows, is_of, without_follow, without_session}
use Rattle.cf_hub.specs.Counts.{AreNamesOnce, AreNumbersOnce, CountsAll, CountsSession, CountsSessions, count_on}
use Rattle.cf_hub.specs.Hub.{attached_at, is_in}
use Rattle.cf_model.specs.Streams.{most_sessions}
use Rattle.cf_model.specs.Sessions.{Subscription, is_off}
use Rattle.cf_hub.proofs.Rows.{follows_without_follow, follows_without_session}

abbrev one_if : Bool → ℕ
one_if true = 1
one_if false = 0

-- ---- rows that go

either_no : (a b : Bool) → (a || b) ≡ false → (a ≡ false) × (b ≡ false)
either_no true b h = absurd (cc)
either_no false b h = (refl, h)

absent : (p : Follow → Bool) (c : List ℕ) (k : ℕ) (fs : List Follow) → follows fs c k ≡ false
    → follows (filter p fs) c k ≡ false
absent p c k [] g = refl
absent p c k (f ∷ fs) g = pick (p f) (either_no (is_of c k f) (follows fs c k) g) (absent p c k fs)
  where
    pick : (t : Bool) → (is_of c k f ≡ false) × (follows fs c k ≡ false)
        → (follows fs c k ≡ false → follows (filter p fs) c k ≡ false)
        → follows (cond t (f ∷ filter p fs) (filter p fs)) c k ≡ false
    pick true h more = ap (λ b. b || follows (filter p fs) c k) h.0 ∙ more h.1
    pick false h more = more h.1

once_filter : (p : Follow → Bool) (rows : List Follow) → AreOnce rows → AreOnce (filter p rows)
once_filter p [] h = tt
once_filter p (r ∷ rows) h = by_value (p r) (once_filter p rows h.1)
  where
    by_value : (t : Bool) → AreOnce (filter p rows) → AreOnce (cond t (r ∷ filter p rows) (filter p rows))
    by_value true g = (absent p r.channel r.session rows h.0, g)
    by_value false g = g

one_less : (rows : List Follow) (c : List ℕ) (k : ℕ) → AreOnce rows
    → length (channels_of rows k) ≡ one_if (follows rows c k) + length (channels_of (without_follow rows c k) k)
one_less [] c k h = refl
one_less (r ∷ rows) c k h = by_value (bytes_eq r.channel c) (r.session == k) refl refl (one_less rows c k h.1)
  where
    gone : bytes_eq r.channel c ≡ true → (r.session == k) ≡ true → follows rows c k ≡ false
    gone e f =
        let is : r.session ≡ k = grind (arith, nat_tests, f) in
        subst (λ d. follows rows d k ≡ false) ((bytes_decides r.channel c).0 e)
        (subst (λ j. follows rows r.channel j ≡ false) is h.0)

    by_value : (t u : Bool) → bytes_eq r.channel c ≡ t → (r.session == k) ≡ u
        → length (channels_of rows k) ≡ one_if (follows rows c k) + length (channels_of (without_follow rows c k) k)
        → length (channels_of (r ∷ rows) k) ≡ one_if (follows (r ∷ rows) c k)
        + length (channels_of (without_follow (r ∷ rows) c k) k)
    by_value true true e f g = let z = rw (gone e f) at g in rw (e, f) (omega (arith, z))
    by_value true false e f g = rw (e, f) (rw f g)
    by_value false true e f g = rw (e, f) (omega (arith, g))
    by_value false false e f g = rw (e, f) g

rows_less : (rows : List Follow) (k : ℕ) → length rows ≡ length (channels_of rows k) + length (without_session rows k)
rows_less [] k = refl
rows_less (r ∷ rows) k = by_value (r.session == k) (rows_less rows k)
  where
    by_value : (u : Bool) → length rows ≡ length (channels_of rows k) + length (without_session rows k)
        → suc (length rows) ≡ length (map (λ f. f.channel)
        (cond u (r ∷ filter (λ f. f.session == k) rows) (filter (λ f. f.session == k) rows)))
        + length (cond (not u) (r ∷ without_session rows k) (without_session rows k))
    by_value true g = omega (arith, g)
    by_value false g = omega (arith, g)

same_left : (rows : List Follow) (j k : ℕ) → (j == k) ≡ false
    → channels_of (without_session rows k) j ≡ channels_of rows j
same_left [] j k h = refl
same_left (r ∷ rows) j k h = by_value (r.session == k) (r.session == j) refl refl (same_left rows j k h)
  where
    by_value : (t u : Bool) → (r.session == k) ≡ t → (r.session == j) ≡ u
        → channels_of (without_session rows k) j ≡ channels_of rows j
        → channels_of (without_session (r ∷ rows) k) j ≡ channels_of (r ∷ rows) j
    by_value true true e f g = absurd (grind (arith, nat_tests, e, f, h))
    by_value true false e f g = rw (e, f) g
    by_value false true e f g = rw (e, f) (ap (λ cs. r.channel ∷ cs) g)
    by_value false false e f g = rw (e, f) g

-- ---- a session's channels

is_own : (c : List ℕ) → bytes_eq c c ≡ true
is_own c = (bytes_decides c c).1 refl

nobody_left : (rows : List Follow) (k : ℕ) → ((c : List ℕ) → follows rows c k ≡ true → ⊥)
    → length (channels_of rows k) ≡ 0
nobody_left [] k h = refl
nobody_left (r ∷ rows) k h = by_value (r.session == k) refl (nobody_left rows k (λ c g. h c (rw g (grind (arith)))))
  where
    by_value : (u : Bool) → (r.session == k) ≡ u → length (channels_of rows k) ≡ 0
        → length (map (λ f. f.channel) (cond u (r ∷ filter (λ f. f.session == k) rows)
        (filter (λ f. f.session == k) rows))) ≡ 0
    by_value true e g = absurd (h r.channel (rw (is_own r.channel, e) refl))
    by_value false e g = g

abbrev count : (List ℕ → Bool) → List (List ℕ) → ℕ
count f [] = 0
count f (c ∷ cs) = one_if (f c) + count f cs

count_same : (f g : List ℕ → Bool) (cs : List (List ℕ)) → ((c : List ℕ) → is_among c cs ≡ true → f c ≡ g c)
    → count f cs ≡ count g cs
count_same f g [] h = refl
count_same f g (c ∷ cs) h =
    λ i. one_if (h c (ap (λ b. b || is_among c cs) (is_own c)) i)
    + count_same f g cs (λ d k. h d (rw k (grind (arith)))) i

session_counted : (cs : List (List ℕ)) (rows : List Follow) (k : ℕ) → AreNamesOnce cs → AreOnce rows
    → ((c : List ℕ) → follows rows c k ≡ true → is_among c cs ≡ true)
    → length (channels_of rows k) ≡ count (λ c. follows rows c k) cs
session_counted [] rows k once all h = nobody_left rows k (λ c g. let no : false ≡ true = h c g in cc)
session_counted (c ∷ cs) rows k once all h =
    one_less rows c k all
    ∙ ap (λ n. one_if (follows rows c k) + n)
    (session_counted cs (without_follow rows c k) k once.1 (once_filter (λ f. not (is_of c k f)) rows all) left
    ∙ count_same (λ d. follows (without_follow rows c k) d k) (λ d. follows rows d k) cs same)
  where
    is_same : (k == k) ≡ true
    is_same = grind (arith, nat_tests)

    left : (d : List ℕ) → follows (without_follow rows c k) d k ≡ true → is_among d cs ≡ true
    left d g = by_value (bytes_eq d c) (follows rows d k) (is_among d cs) refl refl refl
      where
        by_value : (t u v : Bool) → bytes_eq d c ≡ t → follows rows d k ≡ u → is_among d cs ≡ v → v ≡ true
        by_value t u v e f w =
            let kept : (not (bytes_eq d c && (k == k)) && follows rows d k) ≡ true =
            sym (follows_without_follow rows c k d k) ∙ g in
            let there : (follows rows d k ≡ true) → (bytes_eq c d || is_among d cs) ≡ true = h d in
            let one = bytes_decides c d in
            let other = bytes_decides d c in
            grind (arith, is_same, kept, there, one, other, e, f, w)

    same : (d : List ℕ) → is_among d cs ≡ true → follows (without_follow rows c k) d k ≡ follows rows d k
    same d g =
        follows_without_follow rows c k d k ∙ by_value (bytes_eq d c) ((bytes_decides d c).0)
      where
        by_value : (t : Bool) → (t ≡ true → d ≡ c) → (not (t && (k == k)) && follows rows d k) ≡ follows rows d k
        by_value true e =
            absurd (let yes : is_among c cs ≡ true = subst (λ x. is_among x cs ≡ true) (e refl)
            g in let no = once.0 in cc)
        by_value false e = refl

-- ---- the channels that are not off

counts_on : (subs : List ℕ → Subscription (List Position)) (cs : List (List ℕ))
    → count (λ c. not (is_off (subs c))) cs ≡ count_on subs cs
counts_on subs [] = refl
counts_on subs (c ∷ cs) = by_value (is_off (subs c)) (counts_on subs cs)
  where
    by_value : (t : Bool) → count (λ c. not (is_off (subs c))) cs ≡ count_on subs cs
        → one_if (not t) + count (λ c. not (is_off (subs c))) cs
        ≡ (if t then count_on subs cs else suc (count_on subs cs))
    by_value true g = omega (arith, g)
    by_value false g = omega (arith, g)

pub counts_session : CountsSession
counts_session h k subs asked hub same once all =
    session_counted asked h.rows k once hub.rows.once (λ c g. all c (off c g))
    ∙ count_same (λ c. follows h.rows c k) (λ c. not (is_off (subs c))) asked (λ c g. is c)
    ∙ counts_on subs asked
  where
    is : (c : List ℕ) → follows h.rows c k ≡ not (is_off (subs c))
    is c = hub.agrees c k ∙ ap not (same c)

    off : (c : List ℕ) → follows h.rows c k ≡ true → is_off (subs c) ≡ false
    off c g = by_value (is_off (subs c)) (sym (is c) ∙ g)
      where
        by_value : (t : Bool) → not t ≡ true → t ≡ false
        by_value true e = absurd (cc)
        by_value false e = refl

-- ---- all sessions

number_own : (k : ℕ) → (k == k) ≡ true
number_own k = grind (arith, nat_tests)

nobody_rows : (rows : List Follow) → ((c : List ℕ) (k : ℕ) → follows rows c k ≡ true → ⊥) → length rows ≡ 0
nobody_rows [] h = refl
nobody_rows (r ∷ rows) h = absurd (h r.channel r.session (rw (is_own r.channel, number_own r.session) refl))

sums_same : (f g : ℕ → ℕ) (ks : List ℕ) → ((k : ℕ) → is_in k ks ≡ true → f k ≡ g k) → sum_by f ks ≡ sum_by g ks
sums_same f g [] h = refl
sums_same f g (k ∷ ks) h =
    sum_by-cons f k ks ∙ (λ i. h k (ap (λ b. b || is_in k ks) (number_own k)) i
    + sums_same f g ks (λ j e. h j (rw e (grind (arith)))) i) ∙ sym (sum_by-cons g k ks)

all_counted : (ks : List ℕ) (rows : List Follow) → AreNumbersOnce ks
    → ((c : List ℕ) (k : ℕ) → follows rows c k ≡ true → is_in k ks ≡ true)
    → length rows ≡ sum_by (λ k. length (channels_of rows k)) ks
all_counted [] rows once h = nobody_rows rows (λ c k g. let no : false ≡ true = h c k g in cc)
all_counted (k ∷ ks) rows once h =
    rows_less rows k
    ∙ ap (λ n. length (channels_of rows k) + n)
    (all_counted ks (without_session rows k) once.1 left
    ∙ sums_same (λ j. length (channels_of (without_session rows k) j)) (λ j. length (channels_of rows j)) ks
    (λ j g. ap length (same_left rows j k (apart j g))))
    ∙ sym (sum_by-cons (λ j. length (channels_of rows j)) k ks)
  where
    apart : (j : ℕ) → is_in j ks ≡ true → (j == k) ≡ false
    apart j g = by_value (j == k) refl
      where
        by_value : (t : Bool) → (j == k) ≡ t → t ≡ false
        by_value true e =
            absurd (let is : j ≡ k = grind (arith, nat_tests, e) in let yes : is_in k ks
            ≡ true = subst (λ x. is_in x ks ≡ true) is g in let no = once.0 in cc)
        by_value false e = refl

    left : (c : List ℕ) (j : ℕ) → follows (without_session rows k) c j ≡ true → is_in j ks ≡ true
    left c j g =
        let kept : (not (j == k) && follows rows c j) ≡ true = sym (follows_without_session rows k c j) ∙ g in
        let there : (follows rows c j ≡ true) → ((k == j) || is_in j ks) ≡ true = h c j in
        by_value (j == k) (follows rows c j) (is_in j ks) refl refl refl kept there
      where
        by_value : (t u v : Bool) → (j == k) ≡ t → follows rows c j ≡ u → is_in j ks ≡ v
            → (not (j == k) && follows rows c j) ≡ true → ((follows rows c j ≡ true) → ((k == j) || is_in j ks) ≡ true)
            → v ≡ true
        by_value t u v e f w kept there = grind (arith, nat_tests, kept, there, e, f, w)

pub counts_all : CountsAll
counts_all h numbers hub once all = all_counted numbers h.rows once all

-- ---- all numbers below a bound

abbrev drop_number : ℕ → List ℕ → List ℕ
drop_number k ks = filter (λ j. not (j == k)) ks

is_in_less : (k : ℕ) (ks : List ℕ) (j : ℕ) → is_in j (drop_number k ks) ≡ (not (j == k) && is_in j ks)
is_in_less k [] j = grind (arith)
is_in_less k (i ∷ ks) j = grind (arith, nat_tests, is_in_less k ks j)

once_less : (k : ℕ) (ks : List ℕ) → AreNumbersOnce ks → AreNumbersOnce (drop_number k ks)
once_less k [] h = tt
once_less k (i ∷ ks) h = by_value (i == k) (once_less k ks h.1)
  where
    none : is_in i (drop_number k ks) ≡ false
    none = is_in_less k ks i ∙ (let no = h.0 in rw no (grind (arith)))

    by_value : (t : Bool) → AreNumbersOnce (drop_number k ks)
        → AreNumbersOnce (cond (not t) (i ∷ drop_number k ks) (drop_number k ks))
    by_value true g = g
    by_value false g = (none, g)

missing_same : (k : ℕ) (ks : List ℕ) → is_in k ks ≡ false → length (drop_number k ks) ≡ length ks
missing_same k [] h = refl
missing_same k (i ∷ ks) h = by_value (i == k) refl (either_no (i == k) (is_in k ks) h) (missing_same k ks)
  where
    by_value : (t : Bool) → (i == k) ≡ t → ((i == k) ≡ false) × (is_in k ks ≡ false)
        → (is_in k ks ≡ false → length (drop_number k ks) ≡ length ks)
        → length (cond (not t) (i ∷ drop_number k ks) (drop_number k ks)) ≡ suc (length ks)
    by_value true e f g = let no = f.0 in absurd (cc)
    by_value false e f g = ap suc (g f.1)

found_less : (k : ℕ) (ks : List ℕ) → AreNumbersOnce ks → is_in k ks ≡ true → suc (length (drop_number k ks)) ≡ length ks
found_less k [] o h = absurd (cc)
found_less k (i ∷ ks) o h = by_value (i == k) refl (found_less k ks o.1)
  where
    by_value : (t : Bool) → (i == k) ≡ t → (is_in k ks ≡ true → suc (length (drop_number k ks)) ≡ length ks)
        → suc (length (cond (not t) (i ∷ drop_number k ks) (drop_number k ks))) ≡ suc (length ks)
    by_value true e g =
        let is : i ≡ k = grind (arith, nat_tests, e) in
        ap suc (missing_same k ks (subst (λ x. is_in x ks ≡ false) is o.0))
    by_value false e g = ap suc (g (let there : ((i == k) || is_in k ks) ≡ true = h in grind (arith, there, e)))

-- as many as there are numbers, at most
not_more : (n : ℕ) (ks : List ℕ) → AreNumbersOnce ks → ((k : ℕ) → is_in k ks ≡ true → k < n) → length ks ≤ n
not_more zero [] o h = omega arith
not_more zero (k ∷ ks) o h = absurd (let no = h k (ap (λ b. b || is_in k ks) (number_own k)) in omega (arith, no))
not_more (suc n) ks o h =
    by_value (is_in n ks) refl
    (not_more n (drop_number n ks) (once_less n ks o) (λ k g.
    let both : (not (k == n) && is_in k ks) ≡ true = sym (is_in_less n ks k) ∙ g in
    below k (k == n) (is_in k ks) refl refl both))
  where
    below : (k : ℕ) (t u : Bool) → (k == n) ≡ t → is_in k ks ≡ u → (not (k == n) && is_in k ks) ≡ true → k < n
    below k t u e f g =
        let there : is_in k ks ≡ true = grind (arith, g, e, f) in
        let apart : (k == n) ≡ false = grind (arith, g, e, f) in
        let near : k < suc n = h k there in
        grind (arith, nat_tests, apart, near)

    by_value : (t : Bool) → is_in n ks ≡ t → length (drop_number n ks) ≤ n → length ks ≤ suc n
    by_value true e g = let less = found_less n ks o e in omega (arith, less, g)
    by_value false e g = let same = missing_same n ks e in omega (arith, same, g)

-- all numbers below this one are there
at_least : (n : ℕ) (ks : List ℕ) → AreNumbersOnce ks → ((k : ℕ) → k < n → is_in k ks ≡ true) → n ≤ length ks
at_least zero ks o h = omega arith
at_least (suc n) ks o h =
    let there : is_in n ks ≡ true = h n (omega arith) in
    let less = found_less n ks o there in
    let more = at_least n (drop_number n ks) (once_less n ks o)
    (λ k g. is_in_less n ks k ∙ left k (h k (omega (arith, g))) g) in
    omega (arith, less, more)
  where
    left : (k : ℕ) → is_in k ks ≡ true → k < n → (not (k == n) && is_in k ks) ≡ true
    left k e g = let apart : (k == n) ≡ false = grind (arith, nat_tests, g) in rw (e, apart) refl

pub counts_sessions : CountsSessions
counts_sessions h ks bounded once is = (all, there)
  where
    all : ((k : ℕ) → k < most_sessions → is_some (attached_at h k) ≡ true) → most_sessions ≤ length ks
    all f = at_least most_sessions ks once (λ k g. sym (is k) ∙ f k g)

    below : (k : ℕ) → is_in k ks ≡ true → k < most_sessions
    below k g = elim (cases_lt k most_sessions) [
      | inl l ↦ l
      | inr l ↦ absurd (let none : false ≡ true = sym (ap is_some (bounded k l)) ∙ is k ∙ g in cc)
    ]

    there : most_sessions ≤ length ks → (k : ℕ) → k < most_sessions → is_some (attached_at h k) ≡ true
    there many k l = is k ∙ by_value (is_in k ks) refl
      where
        by_value : (t : Bool) → is_in k ks ≡ t → t ≡ true
        by_value true e = refl
        by_value false e =
            absurd (let more = not_more most_sessions (k ∷ ks) (e, once) inside in omega (arith, more, many))
          where
            inside : (j : ℕ) → is_in j (k ∷ ks) ≡ true → j < most_sessions
            inside j g = pick (k == j) refl
              where
                pick : (t : Bool) → (k == j) ≡ t → j < most_sessions
                pick true f = let same : k ≡ j = grind (arith, nat_tests, f) in subst (λ n. n < most_sessions) same l
                pick false f = below j (let in_all : ((k == j) || is_in j ks) ≡ true = g in grind (arith, in_all, f))
