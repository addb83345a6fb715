-- One hub of all is changed.
use Rattle.std.proofs.Common.{◌≡◌, ◌≢◌, ◌<◌, ℕ, zero, suc, ◌==◌, not, true, false, Option, Some, None, List, [], ◌∷◌}
use Rattle.std.proofs.Common.{refl, sym, ap, ◌∙◌, subst, slice_get, slice_set, slice_index_or, length, inl, inr, Vec}
use Rattle.std.proofs.Common.{Global, arith}
use Rattle.std.proofs.lemmas.Bool.Decides.{nat_tests}
use Rattle.std.proofs.lemmas.Option.{slice_get-get_or, slice_get_past}
use Rattle.std.proofs.lemmas.Bool.{cases_lt}
use Rattle.std.specs.Vec.{vec_len}
use Rattle.cf_queue.specs.OutQueue.{Text}
use Rattle.cf_hub.specs.Hub.{InState, IsRefused, Node, after_refusal, attached_at, counted, one_if}
use Rattle.cf_hub.specs.Session.{Attached}
use Rattle.cf_model.specs.Sessions.{push}
use Rattle.cf_hub.specs.WantOfMemory.{Both, OrCloses}
use Rattle.cf_hub.specs.Wordings.{plain}
use Rattle.cf_hub.specs.declared.refusal.HubRefusal.{HubRefusal}
use Rattle.cf_world.specs.HubCalls.{AtHub, Moves, Told}
use Rattle.cf_world.proofs.AtHubs.{moved}

pub set-here : {X : Type 0} (xs : List X) (n : ℕ) (x y : X) → slice_get xs n ≡ Some y
    → slice_get (slice_set xs n x) n ≡ Some x
set-here [] n x y h = cc
set-here (z ∷ xs) zero x y h = refl
set-here (z ∷ xs) (suc n) x y h = set-here xs n x y h

pub set-other : {X : Type 0} (xs : List X) (n m : ℕ) (x : X) → m ≢ n → slice_get (slice_set xs n x) m ≡ slice_get xs m
set-other [] n m x h = refl
set-other (z ∷ xs) zero zero x h = absurd (h refl)
set-other (z ∷ xs) zero (suc m) x h = refl
set-other (z ∷ xs) (suc n) zero x h = refl
set-other (z ∷ xs) (suc n) (suc m) x h = set-other xs n m x (λ e. h (ap suc e))

-- the hub that is lent is the one at its place
pub found : (hubs : Vec Node Global) (n : ℕ) (h : Node) → n < vec_len hubs → h ≡ slice_index_or hubs.items n h
    → slice_get hubs.items n ≡ Some h
found hubs n h within e = slice_get-get_or hubs.items n h (subst (λ l. n < l) hubs.ok.0 within) ∙ ap Some (sym e)

-- the lent hub goes from `lent` to `g`
pub lends : (hubs : Vec Node Global) (n : ℕ) (lent g : Node) → n < vec_len hubs
    → lent ≡ slice_index_or hubs.items n lent
    → Moves n lent g (slice_get hubs.items) (slice_get (slice_set hubs.items n g))
lends hubs n lent g within e =
    let here = found hubs n lent within e in
    record { was = here; now = set-here hubs.items n g lent here; others = λ j ne. set-other hubs.items n j g ne }

pub changed : (hubs : Vec Node Global) (n : ℕ) (lent g : Node) (P : Node → Node → Type 0) → n < vec_len hubs
    → lent ≡ slice_index_or hubs.items n lent
    → P lent g → AtHub n P (slice_get hubs.items) (slice_get (slice_set hubs.items n g))
changed hubs n lent g P within e does = moved (lends hubs n lent g within e) P does

-- there is no hub of this number
pub none-there : (hubs : Vec Node Global) (n : ℕ) → (n < vec_len hubs → false ≡ true) → slice_get hubs.items n ≡ None
none-there hubs n past =
    slice_get_past hubs.items n (elim (cases_lt n (length hubs.items))
    [ inl l ↦ absurd (let e = past (subst (λ m. n < m) (sym hubs.ok.0) l) in cc) | inr l ↦ l ])

pub missing : (hubs : Vec Node Global) (n : ℕ) (P : Node → Node → Type 0) (new : ℕ → Option Node)
    → (n < vec_len hubs → false ≡ true) → AtHub n P (slice_get hubs.items) new
missing hubs n P new h = λ hub is. let none = none-there hubs n h in absurd (cc)

pub unrefused : (n : ℕ) → not (n == 0) ≡ false → n ≡ 0
unrefused n h = grind (arith, nat_tests, h)

-- ---- a text is queued after a call that was refused

pub told_after : (e : HubRefusal) (k : ℕ) (text : List ℕ) (h mid g : Node) → IsRefused e h mid
    → after_refusal e h.refused ≡ h.refused → Told k text mid g → Told k text h g
told_after e k text h mid g refused counts told =
    let does = told.does in
    record {
      does = record {
        hit = does.hit;
        here = subst (λ (o : Option Attached). Both (InState (OrCloses does.hit plain (push plain (Text text)))) o
            (attached_at g k)) (refused.sessions k) does.here;
        others = λ j ne. does.others j ne ∙ refused.sessions j;
        count = does.count ∙ ap (counted (one_if does.hit)) (refused.refused ∙ counts);
        agrees = does.agrees;
      };
      same = record {
        node = told.same.node ∙ refused.rest.node;
        boot = told.same.boot ∙ refused.rest.boot;
        used = told.same.used ∙ refused.rest.used;
      };
      none = told.none;
    }
