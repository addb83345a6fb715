-- The rows of what ended go, once all followers of a channel were met.
use Rattle.std.proofs.Common.{◌≡◌, ℕ, ◌==◌, ◌<◌, not, Bool, true, false, if◌then◌else◌, Option, Some, None, List, []}
use Rattle.std.proofs.Common.{◌∷◌, ◌++◌, length, arith, refl, sym, ap, ◌∙◌, subst, slice_get}
use Rattle.std.proofs.lemmas.Bool.Decides.{Decides-eqb, nat_tests}
use Rattle.cf_subscribers.specs.Follows.{AreFollows, Follow, after_in, follows, sessions_of}
use Rattle.cf_hub.specs.declared.fate.Fate.{Fate}
use Rattle.cf_hub.specs.declared.fate.Fate.TheVariants as fate
use Rattle.cf_hub.specs.Rows.{AgreedBefore, Agrees, TellsFate, WentOff, off_after, rows_after, sub_in}
use Rattle.cf_hub.specs.Session.{Attached}
use Rattle.cf_model.specs.Sessions.{is_off}
use Rattle.cf_hub.proofs.Rows.{has, without, Once, follows_has, once_sessions, sessions_without_follow}
use Rattle.cf_hub.proofs.Rows.{sessions_without_session}
use Rattle.cf_hub.proofs.Walks.{after_split, has_append, middle, once_before, once_drop, once_rest, rows_here}
use Rattle.cf_hub.proofs.Walks.{rows_there, without_split}

-- what is off tells what ended
pub tells_ended : (c : List ℕ) (o : Option Attached) → is_off (sub_in o c) ≡ true
    → (((d : List ℕ) → is_off (sub_in o d) ≡ true) → ⊥) → TellsFate fate.Ended c o
tells_ended c o off some k rows fate.Passed on h = absurd (let e : true ≡ false = sym off ∙ h c ∙ ap not on in cc)
tells_ended c o off some k rows fate.Kept on h = absurd (let e : true ≡ false = sym off ∙ h c ∙ ap not on in cc)
tells_ended c o off some k rows fate.Dropped on h = absurd (let e : true ≡ false = sym off ∙ h c ∙ ap not on in cc)
tells_ended c o off some k rows fate.Ended on h = h
tells_ended c o off some k rows fate.Closed on h = absurd (some h)

-- ---- how many are still to come

abbrev pub from_on : Option ℕ → List ℕ → ℕ
from_on None ks = 0
from_on (Some k) [] = 0
from_on (Some k) (j ∷ js) = if j == k then length (j ∷ js) else from_on (Some k) js

from_here : (k : ℕ) (xs ys : List ℕ) → has k xs ≡ false → from_on (Some k) (xs ++ k ∷ ys) ≡ length (k ∷ ys)
from_here k [] ys h = grind (arith, nat_tests)
from_here k (x ∷ xs) ys h = grind (arith, nat_tests, from_here k xs ys)

to_come : (xs ys : List ℕ) → Once (xs ++ ys) → from_on (slice_get ys 0) (xs ++ ys) ≡ length ys
to_come xs [] h = refl
to_come xs (k ∷ ys) h = from_here k xs ys (once_before k xs ys h)

-- ---- the rows on the way

-- the rows of the sessions before this one are settled, and those behind it are as they were
pub record IsSettling (c : List ℕ) (sessions : ℕ → Option Attached) (rows : List Follow) (next : Option ℕ) : Type
    0 where
  pub stay : List ℕ
  pub todo : List ℕ
  pub left : sessions_of rows c ≡ stay ++ todo
  pub once : Once (stay ++ todo)
  pub first : next ≡ slice_get todo 0
  pub met : (k : ℕ) → has k todo ≡ true → (f : Fate) × WentOff f c k (sessions k) rows
  pub settled : (k : ℕ) → has k todo ≡ false → (d : List ℕ) → follows rows d k ≡ not (is_off (sub_in (sessions k) d))

pub begins_settling : (c : List ℕ) (sessions : ℕ → Option Attached) (rows : List Follow) → AreFollows rows
    → AgreedBefore c sessions rows → IsSettling c sessions rows (slice_get (sessions_of rows c) 0)
begins_settling c sessions rows are before =
    record {
      stay = [];
      todo = sessions_of rows c;
      left = refl;
      once = once_sessions rows c are.once;
      first = refl;
      met = λ k m. before.met k (follows_has rows c k ∙ m);
      settled = λ k m. before.others k (follows_has rows c k ∙ m);
    }

-- the channel's sessions after the one that was met
record Left (f : Fate) (c : List ℕ) (k : ℕ) (rows : List Follow) (rest : List ℕ) : Type 0 where
  more : List ℕ
  all : sessions_of (rows_after f c k rows) c ≡ more ++ rest
  once : Once (more ++ rest)

module _ (c : List ℕ) (k : ℕ) (rows : List Follow) (stay rest : List ℕ) (left : sessions_of rows c ≡ stay ++ k ∷ rest)
    (once : Once (stay ++ k ∷ rest)) where
  ahead : has k stay ≡ false
  ahead = once_before k stay rest once

  behind : has k rest ≡ false
  behind = (once_rest stay (k ∷ rest) once).0

  left_of : (f : Fate) → Left f c k rows rest
  left_of fate.Passed =
      record {
        more = stay ++ k ∷ [];
        all = left ∙ sym (middle k stay rest);
        once = subst Once (sym (middle k stay rest)) once;
      }
  left_of fate.Kept =
      record {
        more = stay ++ k ∷ [];
        all = left ∙ sym (middle k stay rest);
        once = subst Once (sym (middle k stay rest)) once;
      }
  left_of fate.Dropped =
      record {
        more = stay ++ k ∷ [];
        all = left ∙ sym (middle k stay rest);
        once = subst Once (sym (middle k stay rest)) once;
      }
  left_of fate.Ended =
      record {
        more = stay;
        all = sessions_without_follow rows c k ∙ ap (without k) left
            ∙ without_split k stay rest ahead behind;
        once = once_drop k stay rest once;
      }
  left_of fate.Closed =
      record {
        more = stay;
        all = sessions_without_session rows c k ∙ ap (without k) left
            ∙ without_split k stay rest ahead behind;
        once = once_drop k stay rest once;
      }

head : (k : ℕ) (ks : List ℕ) → has k (k ∷ ks) ≡ true
head k ks = grind (arith, nat_tests)

later : (j k : ℕ) (ks : List ℕ) → has j ks ≡ true → has j (k ∷ ks) ≡ true
later j k ks h = grind (arith)

neither : (j k : ℕ) (ks : List ℕ) → (j == k) ≡ false → has j ks ≡ false → has j (k ∷ ks) ≡ false
neither j k ks e h = grind (arith, nat_tests)

apart : (j k : ℕ) (ks : List ℕ) → has j ks ≡ true → has k ks ≡ false → (j == k) ≡ false
apart j k ks h g = by_value (j == k) (Decides-eqb j k)
  where
    by_value : (t : Bool) → (t ≡ true → j ≡ k) × (j ≡ k → t ≡ true) → t ≡ false
    by_value true e = absurd (let no = subst (λ l. has l ks ≡ true) (e.0 refl) h in cc)
    by_value false e = refl

some_is : (k j : ℕ) → ◌≡◌ {A = Option ℕ} (Some k) (Some j) → k ≡ j
some_is k j e = cc

module _ (c : List ℕ) (sessions : ℕ → Option Attached) (rows : List Follow) (k : ℕ) (f : Fate)
    (tells : TellsFate f c (sessions k)) where
  settled_here : (w : IsSettling c sessions rows (Some k)) (rest : List ℕ) → w.todo ≡ k ∷ rest
      → WentOff f c k (sessions k) rows
  settled_here w rest is =
      let met = w.met k (subst (λ ks. has k ks ≡ true) (sym is) (head k rest)) in
      let all : sessions_of rows c ≡ w.stay ++ k ∷ rest = w.left ∙ ap (λ ks. w.stay ++ ks) is in
      let among : has k (w.stay ++ k ∷ rest) ≡ true = let joined = has_append k w.stay (k ∷ rest) in let here =
      head k rest in grind (arith, joined, here) in
      tells k rows met.0 (follows_has rows c k ∙ ap (has k) all ∙ among) met.1

  settles_by : (w : IsSettling c sessions rows (Some k)) (rest : List ℕ) → w.todo ≡ k ∷ rest → (new : List Follow)
      → new ≡ rows_after f c k rows → IsSettling c sessions new (after_in k (sessions_of rows c))
  settles_by w rest is new gone =
      let all : sessions_of rows c ≡ w.stay ++ k ∷ rest = w.left ∙ ap (λ ks. w.stay ++ ks) is in
      let once : Once (w.stay ++ k ∷ rest) = subst (λ ks. Once (w.stay ++ ks)) is w.once in
      let now = left_of c k rows w.stay rest all once f in
      subst (λ (rs : List Follow). IsSettling c sessions rs (after_in k (sessions_of rows c))) (sym gone)
      record {
        stay = now.more;
        todo = rest;
        left = now.all;
        once = now.once;
        first = ap (after_in k) all ∙ after_split k w.stay rest (once_before k w.stay rest once);
        met = λ j m. let old = w.met j (subst (λ ks. has j ks ≡ true) (sym is) (later j k rest m)) in (
          old.0,
          λ d. old.1 d ∙ ap (λ b. off_after old.0 c d (not b))
              (sym (rows_there f c k d j rows (apart j k rest m (once_rest w.stay (k ∷ rest) once).0))),
        );
        settled = λ j m d. settled_at w rest is j m d (j == k) refl;
      }
    where
      settled_at : (w : IsSettling c sessions rows (Some k)) (rest : List ℕ) → w.todo ≡ k ∷ rest → (j : ℕ)
          → has j rest ≡ false → (d : List ℕ) → (t : Bool) → (j == k) ≡ t
          → follows (rows_after f c k rows) d j ≡ not (is_off (sub_in (sessions j) d))
      settled_at w rest is j m d true same =
          subst (λ i. follows (rows_after f c k rows) d i ≡ not (is_off (sub_in (sessions i) d)))
          (sym ((Decides-eqb j k).0 same)) (rows_here f c k d rows ∙ ap not (sym (settled_here w rest is d)))
      settled_at w rest is j m d false same =
          rows_there f c k d j rows same ∙ w.settled j (subst (λ ks. has j ks ≡ false) (sym is)
          (neither j k rest same m)) d

  head_of : (w : IsSettling c sessions rows (Some k)) (ks : List ℕ) → w.todo ≡ ks → (rest : List ℕ)
      × (w.todo ≡ k ∷ rest)
  head_of w [] is = absurd (let e : ◌≡◌ {A = Option ℕ} (Some k) None = w.first ∙ ap (λ ks. slice_get ks 0) is in cc)
  head_of w (j ∷ rest) is = (rest, is ∙ ap (λ i. i ∷ rest) (sym (some_is k j (w.first ∙ ap (λ ks. slice_get ks 0) is))))

  pub settles : IsSettling c sessions rows (Some k) → (new : List Follow) → new ≡ rows_after f c k rows
      → IsSettling c sessions new (after_in k (sessions_of rows c))
  settles w new gone = let h = head_of w w.todo refl in settles_by w h.0 h.1 new gone

  pub comes_nearer : IsSettling c sessions rows (Some k) → (new : List Follow) → new ≡ rows_after f c k rows
      → from_on (after_in k (sessions_of rows c)) (sessions_of new c) < from_on (Some k) (sessions_of rows c)
  comes_nearer w new gone =
      let h = head_of w w.todo refl in let rest = h.0 in
      let all : sessions_of rows c ≡ w.stay ++ k ∷ rest = w.left ∙ ap (λ ks. w.stay ++ ks) h.1 in
      let once : Once (w.stay ++ k ∷ rest) = subst (λ ks. Once (w.stay ++ ks)) h.1 w.once in
      let now = left_of c k rows w.stay rest all once f in
      let was : from_on (Some k) (sessions_of rows c) ≡ length (k ∷ rest) =
      ap (from_on (Some k)) all ∙ from_here k w.stay rest (once_before k w.stay rest once) in
      let next : after_in k (sessions_of rows c) ≡ slice_get rest 0 =
      ap (after_in k) all ∙ after_split k w.stay rest (once_before k w.stay rest once) in
      let is : from_on (after_in k (sessions_of rows c)) (sessions_of new c) ≡ length rest =
      ap (λ rs. from_on (after_in k (sessions_of rows c)) (sessions_of rs c)) gone
      ∙ ap (from_on (after_in k (sessions_of rows c))) now.all ∙ ap (λ o. from_on o (now.more ++ rest)) next
      ∙ to_come now.more rest now.once in
      omega (arith, was, is)

nothing_left : (ks : List ℕ) → None ≡ slice_get ks 0 → ks ≡ []
nothing_left [] e = refl
nothing_left (k ∷ ks) e = absurd (cc)

pub ends_settling : (c : List ℕ) (sessions : ℕ → Option Attached) (rows : List Follow) → IsSettling c sessions rows None
    → Agrees sessions rows
ends_settling c sessions rows w d k = w.settled k (ap (has k) (nothing_left w.todo w.first)) d
