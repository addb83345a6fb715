-- Where a node's sessions stand after a place is written, or more are made.
use Rattle.std.proofs.Common.{◌≡◌, ◌≢◌, ◌<◌, ◌≤◌, ℕ, zero, suc, Bool, true, false, if◌then◌else◌, List, [], ◌∷◌, Option}
use Rattle.std.proofs.Common.{Some, None, map, option_map, is_some, sym, subst, length, arith, refl, ap, ◌∙◌, slice_set}
use Rattle.std.proofs.Common.{Box, Global}
use Rattle.std.specs.Str.{bytes_eq}
use Rattle.std.proofs.lemmas.List.{get_or-set_other, get_or-set_same, length-map, map-set}
use Rattle.cf_protocol.specs.Position.{Position}
use Rattle.cf_hub.specs.Delivery.{fate_at, fate_of}
use Rattle.cf_hub.specs.declared.fate.Fate.{Fate}
use Rattle.cf_hub.specs.declared.fate.Fate.TheVariants as fate
use Rattle.cf_hub.specs.declared.session.AttachedSession.{AttachedSession}
use Rattle.cf_hub.specs.Hub.{attached_in, moves}
use Rattle.cf_hub.specs.Places.{Places, session_in, unboxed, unboxed_all}
use Rattle.cf_hub.specs.Rows.{off_after, sub_in}
use Rattle.cf_hub.specs.Session.{Attached, attached_of, badge_of, state_of}
use Rattle.cf_hub.specs.Sessions.{EndsAs, EndsIn, MeetsIn, Move, OthersStayIn}
use Rattle.cf_hub.specs.WantOfMemory.{Both}
use Rattle.cf_model.specs.Sessions.{is_off}

abbrev Boxed : Type 0
Boxed = Option (Box AttachedSession Global)

pub written : (os : List Boxed) (k : ℕ) (o : Boxed) → k < length os
    → session_in (unboxed_all (slice_set os k o)) k ≡ unboxed o
written os k o h =
    rw (map-set unboxed os k o) (get_or-set_same (map unboxed os) k (unboxed o) None
    (omega (arith, length-map os unboxed, h)))

pub others_stay : (os : List Boxed) (k : ℕ) (o : Boxed) (j : ℕ) → j ≢ k
    → session_in (unboxed_all (slice_set os k o)) j ≡ session_in (unboxed_all os) j
others_stay os k o j h = rw (map-set unboxed os k o) (get_or-set_other (map unboxed os) k j (unboxed o) None h)

pub less_than : (k n : ℕ) → k ≤ n → (k ≡ n → ⊥) → k < n
less_than zero zero h e = absurd (e refl)
less_than zero (suc n) h e = omega arith
less_than (suc k) zero h e = absurd (omega (arith, h))
less_than (suc k) (suc n) h e = let less = less_than k n (omega (arith, h)) (λ q. e (ap suc q)) in omega (arith, less)

-- there is a place for each number below which each has a session
pub has_place : (ps : Places) (n : ℕ) → ((j : ℕ) → j < n → is_some (attached_in ps j) ≡ true) → n ≤ length ps
has_place ps zero h = omega arith
has_place [] (suc n) h = absurd (let none = h zero (omega arith) in cc)
has_place (p ∷ ps) (suc n) h = let rest = has_place ps n (λ j l. h (suc j) (omega (arith, l))) in omega (arith, rest)

within : (ps : Places) (k : ℕ) (s : AttachedSession) → session_in ps k ≡ Some s → k < length ps
within [] k s e = absurd (cc)
within (p ∷ ps) zero s e = omega arith
within (p ∷ ps) (suc k) s e = let less = within ps k s e in omega (arith, less)

-- a session that is there moves
pub moved_here : (ps : Places) (k : ℕ) (old new : AttachedSession) (move : Move) → session_in ps k ≡ Some old
    → state_of new ≡ move (state_of old) → badge_of new ≡ badge_of old
    → attached_in (slice_set ps k (Some new)) k ≡ option_map (moves move) (attached_in ps k)
moved_here ps k old new move there state badge =
    ap (option_map attached_of) (get_or-set_same ps k (Some new) None (within ps k old there))
    ∙ (λ i. Some (record { badge = badge i; state = state i }))
    ∙ sym (ap (λ (o : Option AttachedSession). option_map (moves move) (option_map attached_of o)) there)

-- ---- what a call makes of a session that is there

module _ (ps : Places) (k : ℕ) (old new : AttachedSession) (there : session_in ps k ≡ Some old) where
  pub stands : session_in (slice_set ps k (Some new)) k ≡ Some new
  stands = get_or-set_same ps k (Some new) None (within ps k old there)

  pub met_here : (R : Attached → Attached → Type 0) → R (attached_of old) (attached_of new)
      → MeetsIn k R ps (slice_set ps k (Some new))
  met_here R h =
      subst (λ (o : Option AttachedSession). Both R (attached_in ps k) (option_map attached_of o)) (sym stands)
      (subst (λ (o : Option AttachedSession). Both R (option_map attached_of o) (Some (attached_of new))) (sym there) h)

  pub ends_here : (f : Fate) (c : List ℕ) → EndsAs f c old new → EndsIn k f c ps (slice_set ps k (Some new))
  ends_here f c h = λ d.
      ap (λ (o : Option AttachedSession). is_off (sub_in (option_map attached_of o) d)) stands
      ∙ h d
      ∙ sym (ap (λ (o : Option AttachedSession). off_after f c d (is_off (sub_in (option_map attached_of o) d))) there)

  pub fate_here : (c : List ℕ) (q : Position) → fate_of c q (state_of old) (state_of new)
      ≡ fate_at c q (attached_in ps k) (attached_in (slice_set ps k (Some new)) k)
  fate_here c q =
      sym
      (ap (λ (o : Option AttachedSession). fate_at c q (attached_in ps k) (option_map attached_of o)) stands
      ∙ ap (λ (o : Option AttachedSession). fate_at c q (option_map attached_of o) (Some (attached_of new))) there)

  pub others_here : OthersStayIn k ps (slice_set ps k (Some new))
  others_here = λ j h. ap (option_map attached_of) (get_or-set_other ps k j (Some new) None h)

-- ---- where there is none, and nothing changes

off_stays : (f : Fate) (c d : List ℕ) → off_after f c d true ≡ true
off_stays fate.Passed c d = refl
off_stays fate.Kept c d = refl
off_stays fate.Dropped c d = refl
off_stays fate.Ended c d = either_way (bytes_eq d c)
  where
    either_way : (b : Bool) → (if b then true else true) ≡ true
    either_way true = refl
    either_way false = refl
off_stays fate.Closed c d = refl

module _ (ps : Places) (k : ℕ) (none : session_in ps k ≡ None) where
  pub met_none : (R : Attached → Attached → Type 0) → MeetsIn k R ps ps
  met_none R =
      subst (λ (o : Option AttachedSession). Both R (option_map attached_of o) (option_map attached_of o)) (sym none) tt

  pub ends_none : (f : Fate) (c : List ℕ) → EndsIn k f c ps ps
  ends_none f c = λ d.
      subst (λ (o : Option AttachedSession). is_off (sub_in (option_map attached_of o) d)
      ≡ off_after f c d (is_off (sub_in (option_map attached_of o) d))) (sym none)
      (sym (off_stays f c d))

  pub fate_none : (c : List ℕ) (q : Position) → fate.Dropped ≡ fate_at c q (attached_in ps k) (attached_in ps k)
  fate_none c q =
      subst (λ (o : Option AttachedSession). fate.Dropped
      ≡ fate_at c q (option_map attached_of o) (option_map attached_of o)) (sym none) refl
