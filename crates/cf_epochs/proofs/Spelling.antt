-- The epochs of two sources, or of one at two counts, differ.
use Rattle.std.proofs.Common.{◌≡◌, ◌≢◌, ℕ, ◌+◌, ◌^◌, ◌≤◌, ◌<◌, true, List, [], ◌∷◌, ◌++◌, length, refl, sym, ap, ◌∙◌}
use Rattle.std.proofs.Common.{arith, inl, inr, length-append, append_assoc, rules}
use Rattle.std.specs.Fmt.{decimal}
use Rattle.std.specs.Str.Parse.{AllDigits}
use Rattle.std.specs.List.{All, AllPairs, list_all}
use Rattle.std.specs.Int.{IsInRange}
use Rattle.std.specs.Char.{is_ascii_alphanumeric}
use Rattle.std.proofs.lemmas.Bool.Decides.{nat_tests}
use Rattle.std.proofs.lemmas.Fmt.{decimal_is_IsNumeral, decimal_injective, length-decimal-le}
use Rattle.std.proofs.lemmas.Str.Parse.{tells_digits}
use Rattle.std.proofs.lemmas.List.Elements.{All-nil, All-cons}
use Rattle.std.proofs.lemmas.List.Folds.{list_all-append}
use Rattle.std.proofs.lemmas.List.Kept.{AllPairs-cons}
use Rattle.cf_protocol.specs.Epoch.{IsEpoch, epoch_of}
use Rattle.cf_epochs.specs.Source.{Source, IsSource, AreOthers, Gives, epoch_at, next}

-- ---- digits between one x and the next

digits_of : (n : ℕ) → n < 2 ^ 64 → AllDigits 10 (decimal n)
digits_of n h = (decimal_is_IsNumeral n h).0.1

is_digit : (c : ℕ) (cs : List ℕ) → AllDigits 10 (c ∷ cs) → IsInRange 48 57 c
is_digit c cs h = (tells_digits.parts c cs h).0

others : (c : ℕ) (cs : List ℕ) → AllDigits 10 (c ∷ cs) → AllDigits 10 cs
others c cs h = (tells_digits.parts c cs h).1

-- what stands before the first x, and behind it
cut : (a b c d : List ℕ) → AllDigits 10 a → AllDigits 10 b → a ++ 120 ∷ c ≡ b ++ 120 ∷ d → (a ≡ b) × (c ≡ d)
cut [] [] c d h k e = (refl, cc)
cut [] (y ∷ b) c d h k e = let found : 120 ≡ y = cc in let digit = is_digit y b k in absurd (omega arith)
cut (x ∷ a) [] c d h k e = let found : x ≡ 120 = cc in let digit = is_digit x a h in absurd (omega arith)
cut (x ∷ a) (y ∷ b) c d h k e =
    let first : x ≡ y = cc in
    let rest : a ++ 120 ∷ c ≡ b ++ 120 ∷ d = cc in
    let same = cut a b c d (others x a h) (others y b k) rest in
    (rw (first, same.0) refl, same.1)

abbrev source : ℕ → ℕ → ℕ → Source
source x y z = record { boot = x; shard = y; count = z }

same_source : (s t : Source) → s.boot ≡ t.boot → s.shard ≡ t.shard → s.count ≡ t.count → s ≡ t
same_source s t b n c =
    let of_fields : (x y z : ℕ) → x ≡ t.boot → y ≡ t.shard → z ≡ t.count
    → source x y z ≡ source t.boot t.shard t.count = λ x y z p q r. rw (p, q, r) refl in
    of_fields s.boot s.shard s.count b n c

pub told_apart : (s t : Source) → IsSource s → IsSource t → epoch_at s ≡ epoch_at t → s ≡ t
told_apart s t h k e =
    let first = cut (decimal s.boot) (decimal t.boot) (decimal s.shard ++ 120 ∷ decimal s.count)
    (decimal t.shard ++ 120 ∷ decimal t.count)
    (digits_of s.boot (omega arith)) (digits_of t.boot (omega arith)) e in
    let second = cut (decimal s.shard) (decimal t.shard) (decimal s.count) (decimal t.count)
    (digits_of s.shard (omega arith)) (digits_of t.shard (omega arith)) first.1 in
    same_source s t
    (decimal_injective s.boot t.boot (omega arith) (omega arith) first.0)
    (decimal_injective s.shard t.shard (omega arith) (omega arith) second.0)
    (decimal_injective s.count t.count (omega arith) (omega arith) second.1)

-- ---- an epoch's form

letters : (ds : List ℕ) → AllDigits 10 ds → list_all is_ascii_alphanumeric ds ≡ true
letters [] h = refl
letters (c ∷ cs) h =
    let digit = is_digit c cs h in
    let rest = letters cs (others c cs h) in
    let first : is_ascii_alphanumeric c ≡ true = grind (arith, nat_tests) in
    rw (first, rest) refl

pub length-epoch_at : (s : Source) → IsSource s → length (epoch_at s) ≤ 32
length-epoch_at s h =
    omega (
      arith,
      length-append (decimal s.boot) (120 ∷ (decimal s.shard ++ 120 ∷ decimal s.count)),
      length-append (decimal s.shard) (120 ∷ decimal s.count),
      length-decimal-le 15 s.boot (omega arith) (omega arith) (omega arith),
      length-decimal-le 3 s.shard (omega arith) (omega arith) (omega arith),
      length-decimal-le 12 s.count (omega arith) (omega arith) (omega arith),
    )

pub IsEpoch-epoch_at : (s : Source) → IsSource s → IsEpoch (epoch_at s)
IsEpoch-epoch_at s h =
    let short = length-epoch_at s h in
    let all : list_all is_ascii_alphanumeric (epoch_at s) ≡ true =
    rw (
      list_all-append is_ascii_alphanumeric (decimal s.boot) (120 ∷ (decimal s.shard ++ 120 ∷ decimal s.count)),
      letters (decimal s.boot) (digits_of s.boot (omega arith)),
      list_all-append is_ascii_alphanumeric (decimal s.shard) (120 ∷ decimal s.count),
      letters (decimal s.shard) (digits_of s.shard (omega arith)),
      letters (decimal s.count) (digits_of s.count (omega arith)),
    ) refl in
    grind (arith, nat_tests)

-- what is written piece by piece
pub spelled : (b s c : List ℕ) → (((([] ++ b) ++ 120 ∷ []) ++ s) ++ 120 ∷ []) ++ c ≡ b ++ 120 ∷ (s ++ 120 ∷ c)
spelled b s c = search (rules, append_assoc)

pub epoch_of-epoch_at : (s : Source) → IsSource s → epoch_of (epoch_at s) ≡ epoch_at s
epoch_of-epoch_at s h = rw (IsEpoch-epoch_at s h) refl

-- ---- one draw after another

-- an epoch that a source gave on its way from one state to another
record Given (s t : Source) (e : List ℕ) : Type 0 where
  at : Source
  is : e ≡ epoch_at at
  boot : at.boot ≡ s.boot
  shard : at.shard ≡ s.shard
  above : s.count < at.count
  within : at.count ≤ t.count

record Leads (s t : Source) : Type 0 where
  boot : t.boot ≡ s.boot
  shard : t.shard ≡ s.shard
  count : s.count ≤ t.count

leads : (s t : Source) (es : List (List ℕ)) → Gives s es t → Leads s t
leads s t [] g = rw g (record { boot = refl; shard = refl; count = omega arith })
leads s t (e ∷ es) g =
    let rest = leads g.0 t es g.2 in
    let step = g.1.1 in
    record {
      boot = rest.boot ∙ ap (λ u. u.boot) step;
      shard = rest.shard ∙ ap (λ u. u.shard) step;
      count = let counted : g.0.count ≡ s.count + 1 = ap (λ u. u.count) step in let more = rest.count in omega arith;
    }

further : (s m t : Source) (e : List ℕ) → m ≡ next s → Given m t e → Given s t e
further s m t e step g =
    record {
      at = g.at;
      is = g.is;
      boot = g.boot ∙ ap (λ u. u.boot) step;
      shard = g.shard ∙ ap (λ u. u.shard) step;
      above = let counted : m.count ≡ s.count + 1 = ap (λ u. u.count) step in let more = g.above in omega arith;
      within = g.within;
    }

given : (s t : Source) (es : List (List ℕ)) → Gives s es t → All (Given s t) es
given s t [] g = All-nil (Given s t)
given s t (e ∷ es) g =
    let rest = leads g.0 t es g.2 in
    let step = g.1.1 in
    let first : Given s t e = record {
      at = g.0;
      is = g.1.0.0;
      boot = ap (λ u. u.boot) step;
      shard = ap (λ u. u.shard) step;
      above = let counted : g.0.count ≡ s.count + 1 = ap (λ u. u.count) step in omega arith;
      within = rest.count;
    } in
    All-cons (Given s t) e es first (λ k d l. further s g.0 t _ step (given g.0 t es g.2 k d l))

-- a state between is a source, if the last is
between : (s t : Source) → IsSource t → s.boot ≡ t.boot → s.shard ≡ t.shard → s.count ≤ t.count → IsSource s
between s t h b n c = (rw b h.0, rw n h.1, omega arith)

is_source : (s t : Source) (es : List (List ℕ)) (e : List ℕ) → IsSource t → Gives s es t → (g : Given s t e)
    → IsSource g.at
is_source s t es e h gives g =
    let on = leads s t es gives in
    between g.at t h (g.boot ∙ sym on.boot) (g.shard ∙ sym on.shard) g.within

pub never_twice : (s t : Source) (es : List (List ℕ)) → IsSource t → Gives s es t → AllPairs ◌≢◌ es
never_twice s t [] h g = λ i j d l m. absurd (omega arith)
never_twice s t (e ∷ es) h g =
    let on = leads g.0 t es g.2 in
    let here = between g.0 t h (sym on.boot) (sym on.shard) on.count in
    let differs : All (λ f. e ≢ f) es = λ k d l twice.
    let later = given g.0 t es g.2 k d l in
    let same = told_apart g.0 later.at here (is_source g.0 t es _ h g.2 later) (sym g.1.0.0 ∙ twice ∙ later.is) in
    let counted : g.0.count ≡ later.at.count = ap (λ u. u.count) same in
    let above = later.above in
    absurd (omega arith) in
    AllPairs-cons ◌≢◌ e es differs (never_twice g.0 t es h g.2)

pub never_both : (s t u v : Source) (es fs : List (List ℕ)) → AreOthers s u → IsSource t → IsSource v → Gives s es t
    → Gives u fs v → All (λ e. All (λ f. e ≢ f) fs) es
never_both s t u v es fs apart h k g i =
    λ n d l m x o twice.
    let one = given s t es g n d l in
    let other = given u v fs i m x o in
    let same = told_apart one.at other.at (is_source s t es _ h g one) (is_source u v fs _ k i other)
    (sym one.is ∙ twice ∙ other.is) in
    elim apart [
      | inl boots ↦ boots (sym one.boot ∙ ap (λ w. w.boot) same ∙ other.boot)
      | inr shards ↦ shards (sym one.shard ∙ ap (λ w. w.shard) same ∙ other.shard)
    ]
