-- Epochs that are given one after another, none twice.
use Rattle.std.proofs.Common.{◌≡◌, ◌≢◌, ℕ, suc, ◌<◌, Bool, false, List, [], ◌∷◌, ◌++◌, length, get_or, take, drop, refl}
use Rattle.std.proofs.Common.{sym, ap, ◌∙◌, arith, inl, inr}
use Rattle.std.specs.Prelude.{◌==◌}
use Rattle.std.specs.List.{All, AllPairs, list_any}
use Rattle.std.specs.Str.{bytes_eq}
use Rattle.std.proofs.Math.Seq.{split_at}
use Rattle.std.proofs.lemmas.Bool.{cases_Bool, ne_eqb}
use Rattle.std.proofs.lemmas.Slice.Eq.{bytes_eq-Decides}
use Rattle.std.proofs.lemmas.List.{nil_from_length}
use Rattle.std.proofs.lemmas.List.Elements.{All-nil, All-cons, All-head, All-tail, All-push}
use Rattle.std.proofs.lemmas.List.Folds.{list_any_none}
use Rattle.std.proofs.lemmas.List.Quantifiers.{all_pairs_push}
use Rattle.cf_protocol.specs.Epoch.{IsEpoch, is_epoch, epoch_of}
use Rattle.cf_speak.specs.Drawing.{IsGiven, AreGiven, CanFollow}

-- ---- one more

-- an epoch is read as itself
pub epoch_kept : (w : List ℕ) → IsEpoch w → epoch_of w ≡ w
epoch_kept w h = rw h refl

passes_none : {X : Type 0} (p : X → Bool) (xs : List X) → list_any p xs ≡ false → All (λ x. p x ≡ false) xs
passes_none p [] h = All-nil (λ x. p x ≡ false)
passes_none p (x ∷ xs) h =
    elim (cases_Bool (p x)) [
      | inl passes ↦ absurd (cc)
      | inr fails ↦ All-cons (λ y. p y ≡ false) x xs fails (passes_none p xs (rw fails at h))
    ]

pub can_follow : (es : List (List ℕ)) (w : List ℕ) → (length (epoch_of w) == 0) ≡ false
    → list_any (bytes_eq (epoch_of w)) es ≡ false → CanFollow es w
can_follow es w some fresh =
    elim (cases_Bool (is_epoch w)) [
      | inl epoch ↦
          let same = epoch_kept w epoch in
          let others = passes_none (bytes_eq w) es (rw same at fresh) in (
            (epoch, λ none. let long : (length w == 0) ≡ false = rw same at some in absurd (cc)),
            λ k d l twice. let found = (bytes_eq-Decides w (get_or es k d)).1 (sym twice) in let other = others k d l in
                absurd (cc),
          )
      | inr other ↦ absurd (cc)
    ]

pub follows_so : (es : List (List ℕ)) (w : List ℕ) → CanFollow es w → ((length (epoch_of w) == 0) ≡ false)
    × (list_any (bytes_eq (epoch_of w)) es ≡ false)
follows_so es w h =
    rw (epoch_kept w h.0.0) (
      ne_eqb (length w) 0 (λ l. h.0.1 (nil_from_length w l)),
      list_any_none (bytes_eq w) es
          (λ k d l. elim (cases_Bool (bytes_eq w (get_or es k d))) [
            | inl same ↦ absurd (h.1 k d l (sym ((bytes_eq-Decides w (get_or es k d)).0 same)))
            | inr other ↦ other
          ]),
    )

-- those given so far, and one more
pub given_more : (es : List (List ℕ)) (w : List ℕ) → AreGiven es → CanFollow es w → AreGiven (es ++ w ∷ [])
given_more es w given h =
    record {
      each = All-push IsGiven es w given.each h.0;
      apart = all_pairs_push ◌≢◌ es w given.apart (λ k d l. h.1 k d l);
    }

-- the word at a place
pub word_at : (words : List (List ℕ)) (x : List ℕ) (seen : List (List ℕ)) (n : ℕ) → seen ≡ take n words
    → n < length words → x ≡ get_or words n x → words ≡ seen ++ x ∷ drop (suc n) words
word_at words x seen n so_far within is =
    split_at words n x within ∙ ap (λ s. s ++ get_or words n x ∷ drop (suc n) words) (sym so_far)
    ∙ ap (λ y. seen ++ y ∷ drop (suc n) words) (sym is)

-- ---- of those that are given, each could follow those before it

at_element : {X : Type 0} (P : X → Type 0) (seen : List X) (x : X) (rest : List X) → All P (seen ++ x ∷ rest) → P x
at_element P [] x rest h = All-head P x rest h
at_element P (y ∷ seen) x rest h = at_element P seen x rest (All-tail P y (seen ++ x ∷ rest) h)

apart_before : (seen : List (List ℕ)) (x : List ℕ) (rest : List (List ℕ)) → AllPairs ◌≢◌ (seen ++ x ∷ rest)
    → All (λ d. d ≢ x) seen
apart_before [] x rest h = All-nil (λ d. d ≢ x)
apart_before (y ∷ seen) x rest h =
    All-cons (λ d. d ≢ x) y seen
    (at_element (λ j. y ≢ j) seen x rest (λ i d l. h 0 (suc i) d (omega arith) (omega arith)))
    (apart_before seen x rest (λ i j d l m. h (suc i) (suc j) d (omega arith) (omega arith)))

pub follows_at : (seen : List (List ℕ)) (x : List ℕ) (rest : List (List ℕ)) → AreGiven (seen ++ x ∷ rest)
    → CanFollow seen x
follows_at seen x rest h = (at_element IsGiven seen x rest h.each, apart_before seen x rest h.apart)
