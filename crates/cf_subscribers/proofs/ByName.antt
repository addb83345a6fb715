-- Rows by number and the same by name.
use Rattle.std.proofs.Common.{◌≡◌, ℕ, ◌==◌, ◌&&◌, ◌||◌, not, Bool, true, false, cond, Option, Some, None, List, [], ◌∷◌}
use Rattle.std.proofs.Common.{◌++◌, map, length, refl, sym, ap, ◌∙◌, subst, arith, is_some, if◌then◌else◌}
use Rattle.std.specs.Prelude.{Decides, filter, unwrap_or, slice_get}
use Rattle.std.specs.List.{list_any, AllByRecursion}
use Rattle.std.specs.Cmp.Lexicographic.{bytes_decides}
use Rattle.std.specs.Str.{bytes_eq}
use Rattle.std.proofs.lemmas.Bool.Decides.{Decides-eqb, nat_tests}
use Rattle.std.proofs.lemmas.List.{length-map, map-append}
use Rattle.std.proofs.lemmas.List.Folds.{list_any-append}
use Rattle.cf_subs.specs.declared.table.Row.{Row}
use Rattle.cf_subs.specs.Rows as rows
use Rattle.cf_subs.specs.Rows.{has_channel, row}
use Rattle.cf_subscribers.specs.Follows.{follow, follows, is_of, sessions_of, channels_of, with_follow, without_follow}
use Rattle.cf_subscribers.specs.Follows.{without_session, after_in}
use Rattle.cf_subscribers.specs.Names.{Inverts, Covers, by_name}

-- a test after a map, and before it
filter_map_same : {X Y : Type 0} (f : X → Y) (p : Y → Bool) (q : X → Bool) (xs : List X)
    → AllByRecursion (λ x. p (f x) ≡ q x) xs → filter p (map f xs) ≡ map f (filter q xs)
filter_map_same f p q [] h = refl
filter_map_same f p q (x ∷ xs) h = by_value (p (f x)) (q x) h.0 (filter_map_same f p q xs h.1)
  where
    by_value : (t u : Bool) → t ≡ u → filter p (map f xs) ≡ map f (filter q xs)
        → cond t (f x ∷ filter p (map f xs)) (filter p (map f xs)) ≡ map f (cond u (x ∷ filter q xs) (filter q xs))
    by_value true true e g = ap (λ l. f x ∷ l) g
    by_value true false e g = absurd (cc)
    by_value false true e g = absurd (cc)
    by_value false false e g = g

any_map_same : {X Y : Type 0} (f : X → Y) (p : Y → Bool) (q : X → Bool) (xs : List X)
    → AllByRecursion (λ x. p (f x) ≡ q x) xs → list_any p (map f xs) ≡ list_any q xs
any_map_same f p q [] h = refl
any_map_same f p q (x ∷ xs) h = let here = h.0 in grind (arith, here, any_map_same f p q xs h.1)

filter_none : {X : Type 0} (p : X → Bool) (xs : List X) → ((x : X) → p x ≡ false) → filter p xs ≡ []
filter_none p [] h = refl
filter_none p (x ∷ xs) h = let here = h x in grind (arith, here, filter_none p xs h)

filter_all : {X : Type 0} (p : X → Bool) (xs : List X) → ((x : X) → p x ≡ true) → filter p xs ≡ xs
filter_all p [] h = refl
filter_all p (x ∷ xs) h = let here = h x in grind (arith, here, filter_all p xs h)

any_none : {X : Type 0} (p : X → Bool) (xs : List X) → ((x : X) → p x ≡ false) → list_any p xs ≡ false
any_none p [] h = refl
any_none p (x ∷ xs) h = let here = h x in grind (arith, here, any_none p xs h)

map_twice : {X Y Z : Type 0} (g : Y → Z) (f : X → Y) (xs : List X) → map g (map f xs) ≡ map (λ x. g (f x)) xs
map_twice g f [] = refl
map_twice g f (x ∷ xs) = ap (λ l. g (f x) ∷ l) (map_twice g f xs)

pub after_same : (s : ℕ) (js : List ℕ) → rows.after_in s js ≡ after_in s js
after_same s [] = refl
after_same s (j ∷ js) = ap (λ o. if j == s then slice_get js 0 else o) (after_same s js)

-- whether a number is this one, where there is one
abbrev matches : Option ℕ → ℕ → Bool
matches None m = false
matches (Some n) m = m == n

-- the numbers of these rows have names
abbrev HaveNames : (ℕ → Option (List ℕ)) → List Row → Type 0
HaveNames name rs = (m : ℕ) → has_channel rs m ≡ true → is_some (name m) ≡ true

have_names : (name : ℕ → Option (List ℕ)) (rs : List Row) → Covers name rs → HaveNames name rs
have_names name rs h = λ m e. h m ∙ e

tail_has : (name : ℕ → Option (List ℕ)) (r : Row) (rs : List Row) → HaveNames name (r ∷ rs) → HaveNames name rs
tail_has name r rs h = λ m e. h m (by_value (r.channel == m) (has_channel rs m) e)
  where
    by_value : (t u : Bool) → u ≡ true → (t || u) ≡ true
    by_value true u e = refl
    by_value false u e = e

head_has : (name : ℕ → Option (List ℕ)) (r : Row) (rs : List Row) → HaveNames name (r ∷ rs)
    → is_some (name r.channel) ≡ true
head_has name r rs h =
    h r.channel (by_value (r.channel == r.channel) (has_channel rs r.channel)
    ((Decides-eqb r.channel r.channel).1 refl))
  where
    by_value : (t u : Bool) → t ≡ true → (t || u) ≡ true
    by_value true u e = refl
    by_value false u e = absurd (cc)

module _ (number : List ℕ → Option ℕ) (name : ℕ → Option (List ℕ)) (h : Inverts number name) (c : List ℕ) where
  same_name : (m : ℕ) → is_some (name m) ≡ true → bytes_eq (unwrap_or (name m) []) c ≡ matches (number c) m
  same_name m e = by_name_of (name m) refl e
    where
      by_test : (b : List ℕ) (t : Bool) (o : Option ℕ) → name m ≡ Some b → Decides t (b ≡ c) → number c ≡ o
          → t ≡ matches o m
      by_test b true None w d k =
          absurd (let f : name m ≡ Some c = w ∙ ap Some (d.0 refl) in let g : number c ≡ Some m = h.back c m f in cc)
      by_test b true (Some n) w d k =
          let f : name m ≡ Some c = w ∙ ap Some (d.0 refl) in let g : number c ≡ Some m = h.back c m f in
          let same : m ≡ n = cc in sym ((Decides-eqb m n).1 same)
      by_test b false None w d k = refl
      by_test b false (Some n) w d k = by_equal (m == n) (Decides-eqb m n)
        where
          by_equal : (u : Bool) → Decides u (m ≡ n) → false ≡ u
          by_equal true v = let f : name n ≡ Some c = h.there c n k in let g : name m ≡ Some c =
              subst (λ (j : ℕ). name j ≡ Some c) (sym (v.0 refl)) f in let same : b ≡ c = cc in d.1 same
          by_equal false v = refl

      by_name_of : (o : Option (List ℕ)) → name m ≡ o → is_some o ≡ true
          → bytes_eq (unwrap_or o []) c ≡ matches (number c) m
      by_name_of None w e = absurd (cc)
      by_name_of (Some b) w e = by_test b (bytes_eq b c) (number c) w (bytes_decides b c) refl

  on_channel : (rs : List Row) → HaveNames name rs
      → AllByRecursion (λ r. bytes_eq (unwrap_or (name r.channel) []) c ≡ matches (number c) r.channel) rs
  on_channel [] e = tt
  on_channel (r ∷ rs) e = (same_name r.channel (head_has name r rs e), on_channel rs (tail_has name r rs e))

  of_row : (s : ℕ) (rs : List Row) → HaveNames name rs
      → AllByRecursion (λ r. is_of c s (follow (unwrap_or (name r.channel) []) r.session)
      ≡ (matches (number c) r.channel && (r.session == s))) rs
  of_row s [] e = tt
  of_row s (r ∷ rs) e =
      (ap (λ b. b && (r.session == s)) (same_name r.channel (head_has name r rs e)), of_row s rs (tail_has name r rs e))

  not_of_row : (s : ℕ) (rs : List Row) → HaveNames name rs
      → AllByRecursion (λ r. not (is_of c s (follow (unwrap_or (name r.channel) []) r.session))
      ≡ not (matches (number c) r.channel && (r.session == s))) rs
  not_of_row s [] e = tt
  not_of_row s (r ∷ rs) e = (
    ap (λ b. not (b && (r.session == s))) (same_name r.channel (head_has name r rs e)),
    not_of_row s rs (tail_has name r rs e),
  )

  sessions_by : (rs : List Row) → HaveNames name rs
      → sessions_of (by_name name rs) c ≡ map (λ r. r.session) (filter (λ r. matches (number c) r.channel) rs)
  sessions_by rs e =
      ap (map (λ f. f.session)) (filter_map_same (λ r. follow (unwrap_or (name r.channel) []) r.session)
      (λ f. bytes_eq f.channel c) (λ r. matches (number c) r.channel) rs (on_channel rs e))
      ∙ map_twice (λ f. f.session) (λ r. follow (unwrap_or (name r.channel) []) r.session)
      (filter (λ r. matches (number c) r.channel) rs)

  follows_by : (rs : List Row) (s : ℕ) → HaveNames name rs
      → follows (by_name name rs) c s ≡ list_any (λ r. matches (number c) r.channel && (r.session == s)) rs
  follows_by rs s e =
      any_map_same (λ r. follow (unwrap_or (name r.channel) []) r.session) (is_of c s)
      (λ r. matches (number c) r.channel && (r.session == s)) rs (of_row s rs e)

  without_by : (rs : List Row) (s : ℕ) → HaveNames name rs
      → without_follow (by_name name rs) c s ≡ by_name name
      (filter (λ r. not (matches (number c) r.channel && (r.session == s))) rs)
  without_by rs s e =
      filter_map_same (λ r. follow (unwrap_or (name r.channel) []) r.session) (λ f. not (is_of c s f))
      (λ r. not (matches (number c) r.channel && (r.session == s))) rs (not_of_row s rs e)

  -- a channel that has a number
  pub sessions_known : (rs : List Row) (n : ℕ) → Covers name rs → number c ≡ Some n
      → sessions_of (by_name name rs) c ≡ rows.sessions_of rs n
  sessions_known rs n e k =
      sessions_by rs (have_names name rs e) ∙ ap (λ o. map (λ r. r.session) (filter (λ r. matches o r.channel) rs)) k

  pub follows_known : (rs : List Row) (n s : ℕ) → Covers name rs → number c ≡ Some n
      → follows (by_name name rs) c s ≡ rows.follows rs n s
  follows_known rs n s e k =
      follows_by rs s (have_names name rs e) ∙ ap (λ o. list_any (λ r. matches o r.channel && (r.session == s)) rs) k

  pub without_known : (rs : List Row) (n s : ℕ) → Covers name rs → number c ≡ Some n
      → without_follow (by_name name rs) c s ≡ by_name name (rows.without_row rs n s)
  without_known rs n s e k =
      without_by rs s (have_names name rs e) ∙ ap (λ o. by_name name
      (filter (λ r. not (matches o r.channel && (r.session == s))) rs)) k

  -- one that has none
  pub sessions_unknown : (rs : List Row) → Covers name rs → number c ≡ None → sessions_of (by_name name rs) c ≡ []
  sessions_unknown rs e k =
      sessions_by rs (have_names name rs e) ∙ ap (map (λ r. r.session))
      (filter_none (λ r. matches (number c) r.channel) rs (λ r. ap (λ o. matches o r.channel) k))

  pub follows_unknown : (rs : List Row) (s : ℕ) → Covers name rs → number c ≡ None
      → follows (by_name name rs) c s ≡ false
  follows_unknown rs s e k =
      follows_by rs s (have_names name rs e) ∙ any_none (λ r. matches (number c) r.channel && (r.session == s)) rs
      (λ r. ap (λ o. matches o r.channel && (r.session == s)) k)

  pub without_unknown : (rs : List Row) (s : ℕ) → Covers name rs → number c ≡ None
      → without_follow (by_name name rs) c s ≡ by_name name rs
  without_unknown rs s e k =
      without_by rs s (have_names name rs e) ∙ ap (by_name name)
      (filter_all (λ r. not (matches (number c) r.channel && (r.session == s))) rs
      (λ r. ap (λ o. not (matches o r.channel && (r.session == s))) k))

-- the rows of a session
all_sessions : (name : ℕ → Option (List ℕ)) (test : Bool → Bool) (s : ℕ) (rs : List Row)
    → AllByRecursion (λ r. test ((follow (unwrap_or (name r.channel) []) r.session).session == s)
    ≡ test (r.session == s)) rs
all_sessions name test s [] = tt
all_sessions name test s (r ∷ rs) = (refl, all_sessions name test s rs)

pub without_session_named : (name : ℕ → Option (List ℕ)) (rs : List Row) (s : ℕ)
    → without_session (by_name name rs) s ≡ by_name name (rows.without_session rs s)
without_session_named name rs s =
    filter_map_same (λ r. follow (unwrap_or (name r.channel) []) r.session) (λ f. not (f.session == s))
    (λ r. not (r.session == s)) rs (all_sessions name not s rs)

pub channels_named : (name : ℕ → Option (List ℕ)) (rs : List Row) (s : ℕ)
    → length (channels_of (by_name name rs) s) ≡ length (rows.channels_of rs s)
channels_named name rs s =
    length-map (filter (λ f. f.session == s) (by_name name rs)) (λ f. f.channel)
    ∙ ap length (filter_map_same (λ r. follow (unwrap_or (name r.channel) []) r.session) (λ f. f.session == s)
    (λ r. r.session == s) rs (all_sessions name (λ b. b) s rs))
    ∙ length-map (filter (λ r. r.session == s) rs) (λ r. follow (unwrap_or (name r.channel) []) r.session)
    ∙ sym (length-map (filter (λ r. r.session == s) rs) (λ r. r.channel))

-- ---- other names

-- of the channels that have rows the names are the same
abbrev SameWhere : (ℕ → Option (List ℕ)) → (ℕ → Option (List ℕ)) → List Row → Type 0
SameWhere name new rs = (m : ℕ) → has_channel rs m ≡ true → new m ≡ name m

same_named : (name new : ℕ → Option (List ℕ)) (rs : List Row) → SameWhere name new rs → by_name new rs ≡ by_name name rs
same_named name new [] e = refl
same_named name new (r ∷ rs) e =
    let here : new r.channel ≡ name r.channel =
    e r.channel (by_head (r.channel == r.channel) (has_channel rs r.channel)
    ((Decides-eqb r.channel r.channel).1 refl)) in
    let there : by_name new rs ≡ by_name name rs =
    same_named name new rs (λ m k. e m (by_tail (r.channel == m) (has_channel rs m) k)) in
    ap (λ o. follow (unwrap_or o []) r.session ∷ by_name new rs) here
    ∙ ap (λ l. follow (unwrap_or (name r.channel) []) r.session ∷ l) there
  where
    by_head : (t u : Bool) → t ≡ true → (t || u) ≡ true
    by_head true u k = refl
    by_head false u k = absurd (cc)

    by_tail : (t u : Bool) → u ≡ true → (t || u) ≡ true
    by_tail true u k = refl
    by_tail false u k = k

module _ (name new : ℕ → Option (List ℕ)) (n : ℕ) (w : Option (List ℕ))
    (is : (m : ℕ) → new m ≡ (if m == n then w else name m)) where
  -- a number that no row has changes its name
  pub named_elsewhere : (rs : List Row) → has_channel rs n ≡ false → by_name new rs ≡ by_name name rs
  named_elsewhere rs none = same_named name new rs (λ m e. is m ∙ by_value m (m == n) ((Decides-eqb m n).0) e)
    where
      by_value : (m : ℕ) (t : Bool) → (t ≡ true → m ≡ n) → has_channel rs m ≡ true → (if t then w else name m) ≡ name m
      by_value m true d e =
          absurd (let f : has_channel rs n ≡ true = subst (λ (j : ℕ). has_channel rs j ≡ true) (d refl) e in cc)
      by_value m false d e = refl

  named_here : new n ≡ w
  named_here = is n ∙ ap (λ b. if b then w else name n) ((Decides-eqb n n).1 refl)

  pub named_at : new n ≡ w
  named_at = named_here

-- ---- a row comes or goes

has_more : (rs : List Row) (n s m : ℕ) → has_channel (rows.with_row rs n s) m ≡ (has_channel rs m || (n == m))
has_more rs n s m =
    list_any-append (λ r. r.channel == m) rs (row n s ∷ []) ∙ ap (λ b. has_channel rs m || b) (by_value (n == m))
  where
    by_value : (t : Bool) → (t || false) ≡ t
    by_value true = refl
    by_value false = refl

pub with_named : (name : ℕ → Option (List ℕ)) (rs : List Row) (n s : ℕ) (c : List ℕ) → name n ≡ Some c
    → by_name name (rows.with_row rs n s) ≡ with_follow (by_name name rs) c s
with_named name rs n s c k =
    map-append (λ r. follow (unwrap_or (name r.channel) []) r.session) rs (row n s ∷ [])
    ∙ ap (λ o. by_name name rs ++ follow (unwrap_or o []) s ∷ []) k

-- one more row of a number that has a name
pub covers_known : (name : ℕ → Option (List ℕ)) (rs : List Row) (n s : ℕ) (c : List ℕ) → Covers name rs
    → name n ≡ Some c → Covers name (rows.with_row rs n s)
covers_known name rs n s c h k m = by_value (n == m) ((Decides-eqb n m).0) (h m) ∙ sym (has_more rs n s m)
  where
    by_value : (t : Bool) → (t ≡ true → n ≡ m) → is_some (name m) ≡ has_channel rs m
        → is_some (name m) ≡ (has_channel rs m || t)
    by_value true d e = let f : is_some (name m) ≡ true =
        subst (λ (j : ℕ). is_some (name j) ≡ true) (d refl) (ap is_some k) in grind (arith, e, f)
    by_value false d e = grind (arith, e)

-- the first row of a number that takes a name
pub covers_new : (name new : ℕ → Option (List ℕ)) (rs : List Row) (n s : ℕ) (c : List ℕ) → Covers name rs
    → name n ≡ None → ((m : ℕ) → new m ≡ (if m == n then Some c else name m)) → Covers new (rows.with_row rs n s)
covers_new name new rs n s c h free is m =
    by_value (m == n) (n == m) (Decides-eqb m n) (Decides-eqb n m) (is m) ∙ sym (has_more rs n s m)
  where
    by_value : (t u : Bool) → Decides t (m ≡ n) → Decides u (n ≡ m) → new m ≡ (if t then Some c else name m)
        → is_some (new m) ≡ (has_channel rs m || u)
    by_value true true d e g = let f = ap is_some g in grind (arith, f)
    by_value true false d e g = absurd (let w : false ≡ true = e.1 (sym (d.0 refl)) in cc)
    by_value false true d e g = absurd (let w : false ≡ true = d.1 (sym (e.0 refl)) in cc)
    by_value false false d e g = let f : is_some (new m) ≡ has_channel rs m = ap is_some g ∙ h m in grind (arith, f)

has_less : (rs : List Row) (c s m : ℕ) → (m == c) ≡ false → has_channel (rows.without_row rs c s) m ≡ has_channel rs m
has_less [] c s m e = refl
has_less (r ∷ rs) c s m e = grind (arith, nat_tests, has_less rs c s m)

has_still : (rs : List Row) (c s : ℕ) → has_channel (rows.without_row rs c s) c ≡ true → has_channel rs c ≡ true
has_still [] c s e = e
has_still (r ∷ rs) c s e = grind (arith, nat_tests, has_still rs c s)

-- a row goes, and the number has others
pub covers_less : (name : ℕ → Option (List ℕ)) (rs : List Row) (c s : ℕ) → Covers name rs
    → has_channel (rows.without_row rs c s) c ≡ true → Covers name (rows.without_row rs c s)
covers_less name rs c s h e m = by_value (m == c) ((Decides-eqb m c).0) refl
  where
    by_value : (t : Bool) → (t ≡ true → m ≡ c) → (m == c) ≡ t
        → is_some (name m) ≡ has_channel (rows.without_row rs c s) m
    by_value true d k =
        subst (λ (j : ℕ). is_some (name j) ≡ has_channel (rows.without_row rs c s) j) (sym (d refl))
        (h c ∙ has_still rs c s e ∙ sym e)
    by_value false d k = h m ∙ sym (has_less rs c s m k)

-- the last row of a number goes, and its name with it
pub covers_last : (name new : ℕ → Option (List ℕ)) (rs : List Row) (c s : ℕ) → Covers name rs
    → has_channel (rows.without_row rs c s) c ≡ false → ((m : ℕ) → new m ≡ (if m == c then None else name m))
    → Covers new (rows.without_row rs c s)
covers_last name new rs c s h e is m = by_value (m == c) ((Decides-eqb m c).0) refl (is m)
  where
    by_value : (t : Bool) → (t ≡ true → m ≡ c) → (m == c) ≡ t → new m ≡ (if t then None else name m)
        → is_some (new m) ≡ has_channel (rows.without_row rs c s) m
    by_value true d k g = ap is_some g ∙ sym (ap (has_channel (rows.without_row rs c s)) (d refl) ∙ e)
    by_value false d k g = ap is_some g ∙ h m ∙ sym (has_less rs c s m k)

-- a number without a name has no row
pub no_row : (name : ℕ → Option (List ℕ)) (rs : List Row) (n : ℕ) → Covers name rs → name n ≡ None
    → has_channel rs n ≡ false
no_row name rs n h e = sym (h n) ∙ ap is_some e

pub no_follow : (rs : List Row) (n s : ℕ) → has_channel rs n ≡ false → rows.follows rs n s ≡ false
no_follow [] n s h = refl
no_follow (r ∷ rs) n s h = grind (arith, no_follow rs n s)

no_rows : (rs : List Row) (s : ℕ) → rows.channels_of rs s ≡ [] → rows.without_session rs s ≡ rs
no_rows [] s h = refl
no_rows (r ∷ rs) s h = by_value (r.session == s) (no_rows rs s) h
  where
    by_value : (t : Bool) → (rows.channels_of rs s ≡ [] → rows.without_session rs s ≡ rs)
        → map (λ x. x.channel) (cond t (r ∷ filter (λ x. x.session == s) rs) (filter (λ x. x.session == s) rs)) ≡ []
        → cond (not t) (r ∷ rows.without_session rs s) (rows.without_session rs s) ≡ r ∷ rs
    by_value true g e = absurd (cc)
    by_value false g e = ap (λ l. r ∷ l) (g e)

-- a session without rows has gone
pub none_left : (name : ℕ → Option (List ℕ)) (rs : List Row) (s : ℕ) → rows.channels_of rs s ≡ []
    → without_session (by_name name rs) s ≡ by_name name rs
none_left name rs s h = without_session_named name rs s ∙ ap (by_name name) (no_rows rs s h)

one_less : (rs : List Row) (c s : ℕ) → rows.without_session (rows.without_row rs c s) s ≡ rows.without_session rs s
one_less [] c s = refl
one_less (r ∷ rs) c s = by_value (r.channel == c) (r.session == s) refl (one_less rs c s)
  where
    by_value : (t u : Bool) → (r.session == s) ≡ u
        → rows.without_session (rows.without_row rs c s) s ≡ rows.without_session rs s
        → rows.without_session (cond (not (t && u)) (r ∷ rows.without_row rs c s) (rows.without_row rs c s)) s
        ≡ cond (not u) (r ∷ rows.without_session rs s) (rows.without_session rs s)
    by_value true true e g = g
    by_value true false e g = rw e (ap (λ l. r ∷ l) g)
    by_value false true e g = rw e g
    by_value false false e g = rw e (ap (λ l. r ∷ l) g)

-- a row of a session goes, and what is without that session stays
pub one_gone : (name : ℕ → Option (List ℕ)) (rs : List Row) (c s : ℕ)
    → without_session (by_name name (rows.without_row rs c s)) s ≡ without_session (by_name name rs) s
one_gone name rs c s =
    without_session_named name (rows.without_row rs c s) s ∙ ap (by_name name) (one_less rs c s)
    ∙ sym (without_session_named name rs s)

-- a walk's first channel is followed
pub first_follows : (rs : List Row) (n s : ℕ) (js : List ℕ)
    → rows.HasEachOnce (rows.channels_of rs s) (rows.follows_by rs s) → rows.channels_of rs s ≡ n ∷ js
    → rows.follows rs n s ≡ true
first_follows rs n s js h e =
    sym (h.members n) ∙ ap (rows.is_among n) e ∙ ap (λ b. b || rows.is_among n js) ((Decides-eqb n n).1 refl)

pub same_names : (name new : ℕ → Option (List ℕ)) (rs : List Row) → ((m : ℕ) → new m ≡ name m)
    → by_name new rs ≡ by_name name rs
same_names name new rs h = same_named name new rs (λ m e. h m)

pub covers_same : (name new : ℕ → Option (List ℕ)) (rs : List Row) → Covers name rs → ((m : ℕ) → new m ≡ name m)
    → Covers new rs
covers_same name new rs h e = λ m. ap is_some (e m) ∙ h m

-- a name that was put in a free place goes again
pub undone : (name new last : ℕ → Option (List ℕ)) (n : ℕ) (w : Option (List ℕ)) → name n ≡ None
    → ((m : ℕ) → new m ≡ (if m == n then w else name m)) → ((m : ℕ) → last m ≡ (if m == n then None else new m))
    → (m : ℕ) → last m ≡ name m
undone name new last n w free is gone m = by_value (m == n) ((Decides-eqb m n).0) (is m) (gone m)
  where
    by_value : (t : Bool) → (t ≡ true → m ≡ n) → new m ≡ (if t then w else name m)
        → last m ≡ (if t then None else new m) → last m ≡ name m
    by_value true d e f = f ∙ sym (ap name (d refl) ∙ free)
    by_value false d e f = f ∙ e
