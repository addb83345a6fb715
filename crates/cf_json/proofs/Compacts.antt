-- A compact text is read back as the value that it was written from.
use Rattle.std.proofs.Common.{◌≡◌, ℕ, List, [], ◌∷◌, ◌++◌, length, Bool, true, false, refl, sym, ap, ◌∙◌, subst}
use Rattle.std.proofs.Common.{append_assoc}
use Rattle.cf_json.specs.Grammar.{Tree, null, boolean, number, text, array, object, Parts, no_parts, part, Key, Place}
use Rattle.cf_json.specs.Grammar.{Value, Inside, More}
use Rattle.cf_json.specs.Compact.{key_text, compact_text, first_text, more_text, IsKey, IsRegular, AreRegular}
use Rattle.cf_json.proofs.Tokens.{no_space}

key_read : (keyed : Bool) (k s : List ℕ) → IsKey keyed k → Key keyed k (key_text keyed k ++ s) s
key_read false k s h = (h, refl)
key_read true k s h =
    (58 ∷ s, s, (h, ap (λ t. 34 ∷ t) (append_assoc k (34 ∷ 58 ∷ []) s)), no_space (58 ∷ s), no_space s)

-- a part's text before what follows the part
three : (a b c r : List ℕ) → (a ++ (b ++ c)) ++ r ≡ a ++ (b ++ (c ++ r))
three a b c r = append_assoc a (b ++ c) r ∙ ap (λ t. a ++ t) (append_assoc b c r)

mutual
  pub compact_value : (t : Tree) (r : List ℕ) → IsRegular t → Value t (compact_text t ++ r) r
  compact_value null r h = refl
  compact_value (boolean true) r h = refl
  compact_value (boolean false) r h = refl
  compact_value (number n) r h = (h, refl)
  compact_value (text c) r h = (h, ap (λ t. 34 ∷ t) (append_assoc c (34 ∷ []) r))
  compact_value (array ps) r h =
      let i = inside_value ps false (93 ∷ r) h in (
        (first_text false ps ++ 93 ∷ []) ++ r,
        i.0,
        refl,
        subst (λ s. Inside false ps i.0 s (93 ∷ r)) (sym (append_assoc (first_text false ps) (93 ∷ []) r)) i.1,
      )
  compact_value (object ps) r h =
      let i = inside_value ps true (125 ∷ r) h in (
        (first_text true ps ++ 125 ∷ []) ++ r,
        i.0,
        refl,
        subst (λ s. Inside true ps i.0 s (125 ∷ r)) (sym (append_assoc (first_text true ps) (125 ∷ []) r)) i.1,
      )

  inside_value : (ps : Parts) (keyed : Bool) (r : List ℕ) → AreRegular keyed ps → (places : List Place)
      × Inside keyed ps places (first_text keyed ps ++ r) r
  inside_value no_parts keyed r h = ([], (refl, no_space r))
  inside_value (part k t ps) keyed r h =
      let m = more_value ps keyed r h.2 in
      let s3 : List ℕ = more_text keyed ps ++ r in
      let s2 : List ℕ = compact_text t ++ s3 in
      let s1 : List ℕ = key_text keyed k ++ s2 in
      let whole : Inside keyed (part k t ps) ((length s2, length s3) ∷ m.0) s1 r =
      (s1, s2, s3, s3, m.0, no_space s1, key_read keyed k s2 h.0, compact_value t s3 h.1, no_space s3, m.1, refl) in (
        (length s2, length s3) ∷ m.0,
        subst (λ s. Inside keyed (part k t ps) ((length s2, length s3) ∷ m.0) s r)
            (sym (three (key_text keyed k) (compact_text t) (more_text keyed ps) r)) whole,
      )

  more_value : (ps : Parts) (keyed : Bool) (r : List ℕ) → AreRegular keyed ps → (places : List Place)
      × More keyed ps places (more_text keyed ps ++ r) r
  more_value no_parts keyed r h = ([], (refl, refl))
  more_value (part k t ps) keyed r h =
      let m = more_value ps keyed r h.2 in
      let s3 : List ℕ = more_text keyed ps ++ r in
      let s2 : List ℕ = compact_text t ++ s3 in
      let s1 : List ℕ = key_text keyed k ++ s2 in
      let whole : More keyed (part k t ps) ((length s2, length s3) ∷ m.0) (44 ∷ s1) r = (
        s1,
        s1,
        s2,
        s3,
        s3,
        m.0,
        refl,
        no_space s1,
        key_read keyed k s2 h.0,
        compact_value t s3 h.1,
        no_space s3,
        m.1,
        refl,
      ) in (
        (length s2, length s3) ∷ m.0,
        subst (λ s. More keyed (part k t ps) ((length s2, length s3) ∷ m.0) (44 ∷ s) r)
            (sym (three (key_text keyed k) (compact_text t) (more_text keyed ps) r)) whole,
      )

-- ---- what is read is regular

key_regular : (keyed : Bool) (k s r : List ℕ) → Key keyed k s r → IsKey keyed k
key_regular false k s r h = h.0
key_regular true k s r h = h.2.0

mutual
  pub value_regular : (t : Tree) (s r : List ℕ) → Value t s r → IsRegular t
  value_regular null s r h = tt
  value_regular (boolean b) s r h = tt
  value_regular (number n) s r h = h.0
  value_regular (text c) s r h = h.0
  value_regular (array ps) s r h = inside_regular ps false h.1 h.0 (93 ∷ r) h.3
  value_regular (object ps) s r h = inside_regular ps true h.1 h.0 (125 ∷ r) h.3

  inside_regular : (ps : Parts) (keyed : Bool) (places : List Place) (s r : List ℕ) → Inside keyed ps places s r
      → AreRegular keyed ps
  inside_regular no_parts keyed places s r h = tt
  inside_regular (part k t ps) keyed places s r h =
      (key_regular keyed k h.0 h.1 h.6, value_regular t h.1 h.2 h.7, more_regular ps keyed h.4 h.3 r h.9)

  more_regular : (ps : Parts) (keyed : Bool) (places : List Place) (s r : List ℕ) → More keyed ps places s r
      → AreRegular keyed ps
  more_regular no_parts keyed places s r h = tt
  more_regular (part k t ps) keyed places s r h =
      (key_regular keyed k h.1 h.2 h.8, value_regular t h.2 h.3 h.9, more_regular ps keyed h.5 h.4 r h.11)
