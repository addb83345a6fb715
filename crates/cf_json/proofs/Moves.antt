-- What a rule says of the bytes at hand it says before any other rest too.
use Rattle.std.proofs.Common.{◌≡◌, ℕ, List, [], ◌∷◌, ◌++◌, length, Bool, true, false, refl, sym, ap, ◌∙◌, subst}
use Rattle.std.proofs.Common.{append_assoc}
use Rattle.std.specs.Prelude.{codes}
use Rattle.cf_json.specs.Grammar.{Tree, null, boolean, number, text, array, object, Parts, no_parts, part, Space}
use Rattle.cf_json.specs.Grammar.{Quoted, Key, Place, Value, Inside, More}

abbrev pub Rule : Type 1
Rule = List ℕ → List ℕ → Type 0

-- the bytes of its own, which may stand before anything
abbrev pub Moves : Rule → List ℕ → List ℕ → Type 0
Moves R s r = (own : List ℕ) × (s ≡ own ++ r) × ((z : List ℕ) → R (own ++ z) z)

-- one rule and then the other
abbrev pub Then : Rule → Rule → List ℕ → List ℕ → Type 0
Then R S a c = (b : List ℕ) × R a b × S b c

abbrev pub One : ℕ → List ℕ → List ℕ → Type 0
One x a b = a ≡ x ∷ b

pub moves_then : (R S : Rule) (s m r : List ℕ) → Moves R s m → Moves S m r → Moves (Then R S) s r
moves_then R S s m r p q = (
  p.0 ++ q.0,
  p.1 ∙ ap (λ t. p.0 ++ t) q.1 ∙ sym (append_assoc p.0 q.0 r),
  λ z. subst (λ u. Then R S u z) (sym (append_assoc p.0 q.0 z)) (q.0 ++ z, p.2 (q.0 ++ z), q.2 z),
)

pub moves_as : (R S : Rule) (s r : List ℕ) → ((a b : List ℕ) → R a b → S a b) → Moves R s r → Moves S s r
moves_as R S s r f p = (p.0, p.1, λ z. f (p.0 ++ z) z (p.2 z))

pub one_moves : (x : ℕ) (s r : List ℕ) → s ≡ x ∷ r → Moves (One x) s r
one_moves x s r e = (x ∷ [], e, λ z. refl)

pub space_moves : (s r : List ℕ) → Space s r → Moves Space s r
space_moves s r h = (h.0, h.2, λ z. (h.0, h.1, refl))

quoted_moves : (c s r : List ℕ) → Quoted c s r → Moves (Quoted c) s r
quoted_moves c s r h = (
  34 ∷ (c ++ 34 ∷ []),
  h.1 ∙ ap (λ t. 34 ∷ t) (sym (append_assoc c (34 ∷ []) r)),
  λ z. (h.0, ap (λ t. 34 ∷ t) (append_assoc c (34 ∷ []) z)),
)

pub key_moves : (keyed : Bool) (k s r : List ℕ) → Key keyed k s r → Moves (Key keyed k) s r
key_moves false k s r h = ([], h.1, λ z. (h.0, refl))
key_moves true k s r h =
    moves_as (Then (Quoted k) (Then Space (Then (One 58) Space))) (Key true k) s r
    (λ a b m. let c = m.2 in let d = c.2 in (m.0, d.0, m.1, subst (Space m.0) d.1 c.1, d.2))
    (moves_then (Quoted k) (Then Space (Then (One 58) Space)) s h.0 r (quoted_moves k s h.0 h.2)
    (moves_then Space (Then (One 58) Space) h.0 (58 ∷ h.1) r (space_moves h.0 (58 ∷ h.1) h.3)
    (moves_then (One 58) Space (58 ∷ h.1) h.1 r (one_moves 58 (58 ∷ h.1) h.1 refl) (space_moves h.1 r h.4))))

-- the same, whatever the places
abbrev pub Insides : Bool → Parts → List ℕ → List ℕ → Type 0
Insides keyed ps s r = (places : List Place) × Inside keyed ps places s r

abbrev pub Mores : Bool → Parts → List ℕ → List ℕ → Type 0
Mores keyed ps s r = (places : List Place) × More keyed ps places s r

-- a part, the white space behind it and the parts that follow
abbrev Rest : Bool → List ℕ → Tree → Parts → List ℕ → List ℕ → Type 0
Rest keyed k t ps = Then Space (Then (Key keyed k) (Then (Value t) (Then Space (Mores keyed ps))))

rest_moves : (keyed : Bool) (k : List ℕ) (t : Tree) (ps : Parts) (s s1 s2 s3 s4 r : List ℕ) → Space s s1
    → Key keyed k s1 s2 → Moves (Value t) s2 s3 → Space s3 s4 → Moves (Mores keyed ps) s4 r
    → Moves (Rest keyed k t ps) s r
rest_moves keyed k t ps s s1 s2 s3 s4 r space key value after more =
    moves_then Space (Then (Key keyed k) (Then (Value t) (Then Space (Mores keyed ps)))) s s1 r (space_moves s s1 space)
    (moves_then (Key keyed k) (Then (Value t) (Then Space (Mores keyed ps))) s1 s2 r (key_moves keyed k s1 s2 key)
    (moves_then (Value t) (Then Space (Mores keyed ps)) s2 s3 r value
    (moves_then Space (Mores keyed ps) s3 s4 r (space_moves s3 s4 after) more)))

mutual
  pub value_moves : (t : Tree) (s r : List ℕ) → Value t s r → Moves (Value t) s r
  value_moves null s r h = (codes "null", h, λ z. refl)
  value_moves (boolean true) s r h = (codes "true", h, λ z. refl)
  value_moves (boolean false) s r h = (codes "false", h, λ z. refl)
  value_moves (number n) s r h = (n, h.1, λ z. (h.0, refl))
  value_moves (text c) s r h = quoted_moves c s r h
  value_moves (array ps) s r h =
      moves_as (Then (One 91) (Then (Insides false ps) (One 93))) (Value (array ps)) s r
      (λ a b m. let i = m.2 in (m.0, i.1.0, m.1, subst (Inside false ps i.1.0 m.0) i.2 i.1.1))
      (moves_then (One 91) (Then (Insides false ps) (One 93)) s h.0 r (one_moves 91 s h.0 h.2)
      (moves_then (Insides false ps) (One 93) h.0 (93 ∷ r) r (inside_moves false ps h.1 h.0 (93 ∷ r) h.3)
      (one_moves 93 (93 ∷ r) r refl)))
  value_moves (object ps) s r h =
      moves_as (Then (One 123) (Then (Insides true ps) (One 125))) (Value (object ps)) s r
      (λ a b m. let i = m.2 in (m.0, i.1.0, m.1, subst (Inside true ps i.1.0 m.0) i.2 i.1.1))
      (moves_then (One 123) (Then (Insides true ps) (One 125)) s h.0 r (one_moves 123 s h.0 h.2)
      (moves_then (Insides true ps) (One 125) h.0 (125 ∷ r) r (inside_moves true ps h.1 h.0 (125 ∷ r) h.3)
      (one_moves 125 (125 ∷ r) r refl)))

  pub inside_moves : (keyed : Bool) (ps : Parts) (places : List Place) (s r : List ℕ) → Inside keyed ps places s r
      → Moves (Insides keyed ps) s r
  inside_moves keyed no_parts places s r h =
      moves_as Space (Insides keyed no_parts) s r (λ a b m. ([], (refl, m))) (space_moves s r h.1)
  inside_moves keyed (part k t ps) places s r h =
      moves_as (Rest keyed k t ps) (Insides keyed (part k t ps)) s r
      (λ a b m. let u = m.2 in let v = u.2 in let w = v.2 in (
        (length u.0, length v.0) ∷ w.2.0,
        (m.0, u.0, v.0, w.0, w.2.0, m.1, u.1, v.1, w.1, w.2.1, refl),
      ))
      (rest_moves keyed k t ps s h.0 h.1 h.2 h.3 r h.5 h.6 (value_moves t h.1 h.2 h.7) h.8
      (more_moves keyed ps h.4 h.3 r h.9))

  pub more_moves : (keyed : Bool) (ps : Parts) (places : List Place) (s r : List ℕ) → More keyed ps places s r
      → Moves (Mores keyed ps) s r
  more_moves keyed no_parts places s r h = ([], h.1, λ z. ([], (refl, refl)))
  more_moves keyed (part k t ps) places s r h =
      moves_as (Then (One 44) (Rest keyed k t ps)) (Mores keyed (part k t ps)) s r
      (λ a b m. let u = m.2 in let v = u.2 in let w = v.2 in let x = w.2 in (
        (length v.0, length w.0) ∷ x.2.0,
        (m.0, u.0, v.0, w.0, x.0, x.2.0, m.1, u.1, v.1, w.1, x.1, x.2.1, refl),
      ))
      (moves_then (One 44) (Rest keyed k t ps) s h.0 r (one_moves 44 s h.0 h.6)
      (rest_moves keyed k t ps h.0 h.1 h.2 h.3 h.4 r h.7 h.8 (value_moves t h.2 h.3 h.9) h.10
      (more_moves keyed ps h.5 h.4 r h.11)))
