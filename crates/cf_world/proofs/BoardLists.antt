-- Lists that grow, and what was accepted into them.
use Rattle.std.proofs.Common.{◌≡◌, ℕ, zero, suc, ◌+◌, Some, List, [], ◌∷◌, ◌++◌, length, length-append, slice_get}
use Rattle.std.proofs.Common.{append_assoc, add-one, refl, sym, ap, subst, ◌∙◌}
use Rattle.std.specs.List.{AllZip}
use Rattle.std.specs.String.{string_bytes}
use Rattle.std.proofs.lemmas.List.{append-nil}
use Rattle.cf_protocol.specs.Datum.{Datum, Placed}
use Rattle.cf_protocol.specs.Names.{with}
use Rattle.cf_protocol.specs.Note.{Lists, placed_at}
use Rattle.cf_protocol.specs.Regular.{IsPlaced, IsBody}
use Rattle.cf_world.specs.BrokerTie.{IsAccepted, Stands}
use Rattle.cf_hub.specs.InNotes.{Grown}
use Rattle.cf_machine.specs.PublicationList.{Place, Broker, Keys, keys_with, list_with, publication}
use Rattle.cf_world.specs.declared.broker.AcceptedPublication.{AcceptedPublication}
use Rattle.cf_machine.proofs.Names.{itself, with-both, with-two}

pub grown-refl : (lists : Lists) → Grown lists lists
grown-refl lists = record { later = λ c e. ([], sym (append-nil (lists c e))) }

pub grown-trans : (old new later : Lists) → Grown old new → Grown new later → Grown old later
grown-trans old new later g h = record {
  later = λ c e.
      let first = g.later c e in
      let second = h.later c e in (
        first.0 ++ second.0,
        second.1 ∙ (ap (λ (ds : List Datum). ds ++ second.0) first.1
            ∙ append_assoc (old c e) first.0 second.0),
      );
}

pub grown-list_with : (lists : Lists) (c e : List ℕ) (d : Datum) → Grown lists (list_with c e d lists)
grown-list_with lists c e d = record {
  later = λ x i.
      with-two (λ x i (l : List Datum). (ds : List Datum) × (l ≡ lists x i ++ ds)) lists c e (lists c e ++ d ∷ [])
      (d ∷ [], refl) (λ x i. ([], sym (append-nil (lists x i)))) x i;
}

pub listed_here : (lists : Lists) (c e : List ℕ) (d : Datum) → list_with c e d lists c e ≡ lists c e ++ d ∷ []
listed_here lists c e d = rw (itself c, itself e) refl

pub keyed_here : (keys : Keys) (c e key : List ℕ) → keys_with c e key keys c e ≡ keys c e ++ key ∷ []
keyed_here keys c e key = rw (itself c, itself e) refl

-- as many keys as data, with one more of both
pub keyed-with : (lists : Lists) (keys : Keys) (c e key : List ℕ) (d : Datum)
    → ((x i : List ℕ) → length (keys x i) ≡ length (lists x i))
    → (x i : List ℕ) → length (keys_with c e key keys x i) ≡ length (list_with c e d lists x i)
keyed-with lists keys c e key d same x i =
    with-both (λ x (f : List ℕ → List (List ℕ)) (g : List ℕ → List Datum). (i : List ℕ) → length (f i) ≡ length (g i))
    keys lists c
    (with (keys c) e (keys c e ++ key ∷ [])) (with (lists c) e (lists c e ++ d ∷ []))
    (λ i. with-both (λ i (ks : List (List ℕ)) (ds : List Datum). length ks ≡ length ds) (keys c) (lists c) e
    (keys c e ++ key ∷ []) (lists c e ++ d ∷ [])
    (length-append (keys c e) (key ∷ []) ∙ (ap (λ n. n + 1) (same c e) ∙ sym (length-append (lists c e) (d ∷ []))))
    (λ i ne. same c i) i)
    (λ x ne. same x) x i

-- what was accepted stays where it is
accepted-later : (old new : Lists) (a : AcceptedPublication) (p : Place) → Grown old new → IsAccepted old a p
    → IsAccepted new a p
accepted-later old new a p g h = record {
  place = h.place;
  stands = λ later k. h.stands later (grown-trans old new later g k);
  regular = h.regular;
}

pub all-accepted-later : (old new : Lists) (xs : List AcceptedPublication) (ps : List Place) → Grown old new
    → AllZip (IsAccepted old) xs ps → AllZip (IsAccepted new) xs ps
all-accepted-later old new [] [] g h = tt
all-accepted-later old new [] (p ∷ ps) g h = absurd h
all-accepted-later old new (a ∷ xs) [] g h = absurd h
all-accepted-later old new (a ∷ xs) (p ∷ ps) g h =
    (accepted-later old new a p g h.0, all-accepted-later old new xs ps g h.1)

pub all-zip-snoc : {A B : Type 0} (R : A → B → Type 0) (xs : List A) (ys : List B) (x : A) (y : B) → AllZip R xs ys
    → R x y → AllZip R (xs ++ x ∷ []) (ys ++ y ∷ [])
all-zip-snoc R [] [] x y h r = (r, tt)
all-zip-snoc R [] (z ∷ ys) x y h r = absurd h
all-zip-snoc R (z ∷ xs) [] x y h r = absurd h
all-zip-snoc R (z ∷ xs) (w ∷ ys) x y h r = (h.0, all-zip-snoc R xs ys x y h.1 r)

slice_get-seam : {A : Type 0} (xs : List A) (x : A) (ys : List A)
    → slice_get ((xs ++ x ∷ []) ++ ys) (length xs) ≡ Some x
slice_get-seam [] x ys = refl
slice_get-seam (z ∷ xs) x ys = slice_get-seam xs x ys

placed_at-seam : (xs ys : List Datum) (d : Datum)
    → placed_at ((xs ++ d ∷ []) ++ ys) (length xs + 1) ≡ Some (record { offset = length xs + 1; datum = d })
placed_at-seam xs ys d = rw (add-one, slice_get-seam xs d ys) refl

-- what is put behind a list stands there
pub accepted-now : (lists : Lists) (c e : List ℕ) (d : Datum) (n : ℕ) (a : AcceptedPublication)
    → n ≡ length (lists c e) → string_bytes a.channel ≡ c → a.epoch ≡ e
    → a.publication ≡ record { offset = n + 1; datum = d } → IsPlaced IsBody a.publication
    → IsAccepted (list_with c e d lists) a (record { channel = c; at = record { epoch = e; offset = n + 1 } })
accepted-now lists c e d n a top channel epoch publication regular = record {
  place = rw (channel, epoch, publication) refl;
  stands = λ later g.
      let more = g.later c e in
      let xs : List Datum = lists c e in
      let list : later c e ≡ (xs ++ d ∷ []) ++ more.0 =
      more.1 ∙ ap (λ (ds : List Datum). ds ++ more.0) (listed_here lists c e d) in
      let here : placed_at (later c e) (length xs + 1) ≡ Some (record { offset = length xs + 1; datum = d }) =
      subst (λ (ds : List Datum). placed_at ds (length xs + 1) ≡ Some (record { offset = length xs + 1; datum = d }))
      (sym list) (placed_at-seam xs more.0 d) in
      subst (λ (k : ℕ). placed_at (later c e) (k + 1) ≡ Some (record { offset = k + 1; datum = d })) (sym top) here
      ∙ ap (λ (p : Placed). Some p) (sym publication);
  regular = regular;
}

-- the publication of a number
stands-get : (lists : Lists) (xs : List AcceptedPublication) (ps : List Place) (i : ℕ) → AllZip (IsAccepted lists) xs ps
    → Stands lists (slice_get xs i) (slice_get ps i)
stands-get lists [] [] i h = tt
stands-get lists [] (p ∷ ps) i h = absurd h
stands-get lists (a ∷ xs) [] i h = absurd h
stands-get lists (a ∷ xs) (p ∷ ps) zero h = h.0
stands-get lists (a ∷ xs) (p ∷ ps) (suc i) h = stands-get lists xs ps i h.1

pub stands-at : (m : Broker) (xs : List AcceptedPublication) (i : ℕ) → AllZip (IsAccepted m.lists) xs m.accepted
    → Stands m.lists (slice_get xs i) (publication (suc i) m)
stands-at m xs i h = stands-get m.lists xs m.accepted i h
