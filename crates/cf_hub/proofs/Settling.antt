-- Whether all subscriptions of a session are finished, and whether it has none.
use Rattle.std.proofs.Common.{◌≡◌, ◌↔◌, ℕ, Bool, true, false, cond, Option, Some, List, [], ◌∷◌, refl, sym, ap, ◌∙◌}
use Rattle.std.proofs.Common.{subst, String, Global, string_bytes, not, ◌&&◌, rules, length, ◌==◌, arith}
use Rattle.std.specs.Prelude.{IsTrue, Box}
use Rattle.std.specs.Cmp.Lexicographic.{bytes_decides}
use Rattle.std.specs.List.{list_all, IsDistinct}
use Rattle.std.specs.Str.{bytes_eq}
use Rattle.std.specs.String.{string_eq, string_eq_equiv}
use Rattle.std.proofs.lemmas.Bool.Decides.{nat_tests}
use Rattle.std.proofs.lemmas.Map.{lookup-none}
use Rattle.std.proofs.lemmas.Map.Entries.{none_past_head}
use Rattle.std.proofs.lemmas.Map.Keys.{IsDistinct-tail}
use Rattle.std.specs.Map.{lookup, keys_of}
use Rattle.indexmap.specs.IndexMap.{IsUnique}
use Rattle.cf_model.specs.Sessions.{Subscription, Off, is_off, is_unfinished}
use Rattle.cf_hub.specs.Subscriptions.{Subscriptions, in_box, progress_at, sub_of}
use Rattle.cf_hub.specs.Wordings.{Held}
use Rattle.cf_hub.specs.declared.subscription.Progress.{Progress}
use Rattle.cf_hub.specs.declared.subscription.Progress.TheVariants as code

is-here : (bs : List ℕ) → bytes_eq bs bs ≡ true
is-here bs = (bytes_decides bs bs).1 refl

abbrev Entries : Type 0
Entries = List (String Global × Box Progress Global)

-- the channel c in these entries
abbrev in_entries : Entries → List ℕ → Subscription Held
in_entries es c = sub_of (in_box (lookup (λ k. bytes_eq c (string_bytes k)) es))

in_cond : (b : Bool) (w o : Option (Box Progress Global)) → in_box (cond b w o) ≡ cond b (in_box w) (in_box o)
in_cond true w o = refl
in_cond false w o = refl

-- ---- all are finished

abbrev finished : Progress → Bool
finished s = not (is_unfinished (sub_of (Some s)))

abbrev finished-entry : String Global × Box Progress Global → Bool
finished-entry e = finished e.1.value

finished-in : (s : Progress) (b r : Bool) (o : Option Progress) → (finished s && r) ≡ true
    → (r ≡ true → is_unfinished (sub_of o) ≡ false) → is_unfinished (sub_of (cond b (Some s) o)) ≡ false
finished-in (code.Asked id since waiting) b r o h k = absurd (cc)
finished-in (code.Ready id was recovery waiting) b r o h k = absurd (cc)
finished-in (code.On at behind_at) true r o h k = refl
finished-in (code.On at behind_at) false r o h k = k h

ready_each : (es : Entries) → list_all finished-entry es ≡ true → (c : List ℕ) → is_unfinished (in_entries es c) ≡ false
ready_each [] h c = refl
ready_each (e ∷ es) h c =
    let here = bytes_eq c (string_bytes e.0) in
    let rest = lookup (λ k. bytes_eq c (string_bytes k)) es in
    ap (λ o. is_unfinished (sub_of o)) (in_cond here (Some e.1) rest)
    ∙ finished-in e.1.value here (list_all finished-entry es) (in_box rest) h (λ k. ready_each es k c)

finished-head : (s : Progress) (b r : Bool) (o : Option Progress) → b ≡ true
    → is_unfinished (sub_of (cond b (Some s) o)) ≡ false → r ≡ true → (finished s && r) ≡ true
finished-head (code.Asked id since waiting) true r o t h k = absurd (cc)
finished-head (code.Ready id was recovery waiting) true r o t h k = absurd (cc)
finished-head (code.On at behind_at) true r o t h k = k
finished-head s false r o t h k = absurd (cc)

abbrev Distinct : Entries → Type 0
Distinct es = IsDistinct string_eq (keys_of es)

-- nothing is found twice
past-head : (e : String Global × Box Progress Global) (es : Entries) → Distinct (e ∷ es) → (c : List ℕ)
    → bytes_eq c (string_bytes e.0) ≡ true → in_entries es c ≡ Off
past-head e es d c t =
    let same : c ≡ string_bytes e.0 = (bytes_decides c (string_bytes e.0)).0 t in
    let none = none_past_head string_eq_equiv e.0 e es d (is-here (string_bytes e.0)) in
    subst (λ x. in_entries es x ≡ Off) (sym same) (ap (λ o. sub_of (in_box o)) (lookup-none (string_eq e.0) es none))

unfinished-tail : (s : Progress) (b : Bool) (o : Option Progress) → (b ≡ true → sub_of o ≡ Off)
    → is_unfinished (sub_of (cond b (Some s) o)) ≡ false → is_unfinished (sub_of o) ≡ false
unfinished-tail s true o k h = rw (k refl) refl
unfinished-tail s false o k h = h

each_ready : (es : Entries) → Distinct es → ((c : List ℕ) → is_unfinished (in_entries es c) ≡ false)
    → list_all finished-entry es ≡ true
each_ready [] d h = refl
each_ready (e ∷ es) d h =
    finished-head e.1.value (here (string_bytes e.0)) (list_all finished-entry es) (in_box (rest (string_bytes e.0)))
    (is-here (string_bytes e.0)) (at_head (string_bytes e.0))
    (each_ready es (IsDistinct-tail string_eq e.0 (keys_of es) d)
    (λ c. unfinished-tail e.1.value (here c) (in_box (rest c)) (past-head e es d c) (at_head c)))
  where
    here : List ℕ → Bool
    here c = bytes_eq c (string_bytes e.0)

    rest : List ℕ → Option (Box Progress Global)
    rest c = lookup (λ k. bytes_eq c (string_bytes k)) es

    at_head : (c : List ℕ) → is_unfinished (sub_of (cond (here c) (Some e.1.value) (in_box (rest c)))) ≡ false
    at_head c = ap (λ o. is_unfinished (sub_of o)) (sym (in_cond (here c) (Some e.1) (rest c))) ∙ h c

pub ready : (m : Subscriptions) → IsUnique string_eq m
    → IsTrue (list_all finished-entry m.entries) ↔ ((c : List ℕ) → is_unfinished (sub_of (progress_at m c)) ≡ false)
ready m d = (λ t. ready_each m.entries (is-true _ t), λ h. true-is _ (each_ready m.entries d h))
  where
    is-true : (b : Bool) → IsTrue b → b ≡ true
    is-true b t = search rules

    true-is : (b : Bool) → b ≡ true → IsTrue b
    true-is b t = search rules

-- ---- there is none

one_on : (s : Progress) → is_off (sub_of (Some s)) ≡ false
one_on (code.Asked id since waiting) = refl
one_on (code.Ready id was recovery waiting) = refl
one_on (code.On at behind_at) = refl

first_on : (e : String Global × Box Progress Global) (es : Entries)
    → is_off (in_entries (e ∷ es) (string_bytes e.0)) ≡ false
first_on e es =
    let rest = lookup (λ k. bytes_eq (string_bytes e.0) (string_bytes k)) es in
    ap (λ o. is_off (sub_of o)) (in_cond (bytes_eq (string_bytes e.0) (string_bytes e.0)) (Some e.1) rest)
    ∙ by_value (bytes_eq (string_bytes e.0) (string_bytes e.0)) (is-here (string_bytes e.0)) (in_box rest)
  where
    by_value : (t : Bool) → t ≡ true → (o : Option Progress) → is_off (sub_of (cond t (Some e.1.value) o)) ≡ false
    by_value true h o = one_on e.1.value
    by_value false h o = absurd (cc)

none_in : (es : Entries) (b : Bool) → b ≡ (length es == 0) → IsTrue b ↔ ((c : List ℕ) → is_off (in_entries es c) ≡ true)
none_in [] b h = (λ t c. refl, λ g. let e : b ≡ true = grind (arith, nat_tests, h) in subst IsTrue (sym e) refl)
none_in (e ∷ es) b h =
    let some : b ≡ false = grind (arith, nat_tests, h) in (
      λ t. absurd (let no = subst IsTrue some t in cc),
      λ g. absurd (let no = sym (g (string_bytes e.0)) ∙ first_on e es in cc),
    )

pub has_none : (m : Subscriptions) (b : Bool) → b ≡ (length m.entries == 0)
    → IsTrue b ↔ ((c : List ℕ) → is_off (sub_of (progress_at m c)) ≡ true)
has_none m b h = none_in m.entries b h
