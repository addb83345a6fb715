-- Asks that are out have ids of their own.
use Rattle.std.proofs.Common.{◌≡◌, ◌∙◌, ◌<◌, ◌==◌, ◌||◌, ℕ, Bool, true, false, if◌then◌else◌, Option, List, [], ◌∷◌}
use Rattle.std.proofs.Common.{◌++◌, refl, sym, ap, subst, arith, inl, inr, ◌⊎◌}
use Rattle.std.specs.Str.{bytes_eq}
use Rattle.std.proofs.lemmas.Bool.Decides.{nat_tests}
use Rattle.cf_protocol.specs.Names.{with}
use Rattle.cf_protocol.specs.Position.{Position}
use Rattle.cf_protocol.specs.Datum.{Placed}
use Rattle.cf_protocol.specs.Outgoing.{Outcome, Connected, Subscribed, Unsubscribed, Published, Present, Counted, Past}
use Rattle.cf_protocol.specs.Outgoing.{Pinged, Failed, Publication, Unsubscribe, Outgoing, Ping, Answer, Push}
use Rattle.cf_model.specs.Clients.{Client, Mode, Idle, Asking, Live, idle, is_out, without}
use Rattle.cf_client.specs.ClientCalls.{State, asks_under, moves, answered, asked, left, called, reconnected, NoAsk}
use Rattle.cf_client.specs.ClientCalls.{AnswersAsk, Takes, TakesAnswer, TakesPublication, TakesEnd, TakesAll}
use Rattle.cf_client.specs.AppItem.{AppItem}
use Rattle.cf_client.specs.OneAnswer.{AreApart, Keeps, TextsKeep, OneOutcome}
use Rattle.cf_client.proofs.Moves.{text_tells}

-- ---- fewer asks

pub fewer : (x y : Client) → ((c : List ℕ) (id : ℕ) → asks_under id (y.modes c) ≡ true
    → asks_under id (x.modes c) ≡ true)
    → ((id : ℕ) → is_out id y.calls ≡ true → is_out id x.calls ≡ true) → ((n : ℕ) → n < x.fresh → n < y.fresh)
    → AreApart x → AreApart y
fewer x y sub less later h = record {
  older = λ c id a. later id (h.older c id (sub c id a));
  apart = λ c d id a b. h.apart c d id (sub c id a) (sub d id b);
  calls_older = λ id o. later id (h.calls_older id (less id o));
  calls_apart = λ c id a. not_out (is_out id y.calls) (is_out id x.calls) (less id) (h.calls_apart c id (sub c id a));
}
  where
    not_out : (a b : Bool) → (a ≡ true → b ≡ true) → b ≡ false → a ≡ false
    not_out true b up none = let t = up refl in absurd (cc)
    not_out false b up none = refl

-- a channel that is set to a mode that asks for nothing
with_none : (f : List ℕ → Mode) (c : List ℕ) (m : Mode) → ((id : ℕ) → asks_under id m ≡ false) → (d : List ℕ) (id : ℕ)
    → asks_under id (with f c m d) ≡ true → asks_under id (f d) ≡ true
with_none f c m none d id h =
    by_test (bytes_eq d c) h
  where
    by_test : (b : Bool) → asks_under id (if b then m else f d) ≡ true → asks_under id (f d) ≡ true
    by_test true h = let n = none id in absurd (cc)
    by_test false h = h

pub moved_apart : (c : List ℕ) (m : Mode) (s : State) → ((id : ℕ) → asks_under id m ≡ false) → AreApart s.client
    → AreApart (moves c m s).client
moved_apart c m s none h =
    fewer s.client (moves c m s).client (λ d id a. with_none s.client.modes c m none d id a) (λ id o. o) (λ n l. l) h

pub left_apart : (c : List ℕ) → Keeps (left c)
left_apart c s h =
    fewer s.client (left c s).client (λ d id a. with_none s.client.modes c (idle (s.client.modes c)) (λ i. refl) d id a)
    (λ id o. o) (λ n l. omega arith) h

either_out : (n id : ℕ) (is : List ℕ) → is_out id (n ∷ is) ≡ true → (id ≡ n) ⊎ (is_out id is ≡ true)
either_out n id is h = by_test (n == id) refl h
  where
    by_test : (b : Bool) → (n == id) ≡ b → (b || is_out id is) ≡ true → (id ≡ n) ⊎ (is_out id is ≡ true)
    by_test true e h = inl (grind (arith, nat_tests))
    by_test false e h = inr h

other_out : (n id : ℕ) (is : List ℕ) → id < n → is_out id is ≡ false → is_out id (n ∷ is) ≡ false
other_out n id is less none = by_test (n == id) refl
  where
    by_test : (b : Bool) → (n == id) ≡ b → (b || is_out id is) ≡ false
    by_test true e = absurd (grind (arith, nat_tests))
    by_test false e = none

pub called_apart : (c : List ℕ) → Keeps (called c)
called_apart c s h = record {
  older = λ d id a. let i : id < s.client.fresh = h.older d id a in omega arith;
  apart = h.apart;
  calls_older = λ id o.
      elim (either_out s.client.fresh id s.client.calls o) [
        | inl e ↦ let i : id ≡ s.client.fresh = e in omega arith
        | inr e ↦ let i : id < s.client.fresh = h.calls_older id e in omega arith
      ];
  calls_apart = λ d id a. other_out s.client.fresh id s.client.calls (h.older d id a) (h.calls_apart d id a);
}

pub reconnected_apart : Keeps reconnected
reconnected_apart s h = record {
  older = λ c id a. absurd (cc);
  apart = λ c d id a b. absurd (cc);
  calls_older = λ id o. absurd (cc);
  calls_apart = λ c id a. absurd (cc);
}

-- ---- one ask more

asks_new : (f : List ℕ → Mode) (c : List ℕ) (n : ℕ) (from last : Option Position) (d : List ℕ) (id : ℕ)
    → asks_under id (with f c (Asking n from last) d) ≡ true → ((d ≡ c) × (id ≡ n)) ⊎ (asks_under id (f d) ≡ true)
asks_new f c n from last d id h =
    elim (text_tells d c) [
      | inl e ↦ inl (e.1, same (bytes_eq d c) e.0 h)
      | inr e ↦ inr (other (bytes_eq d c) e.0 h)
    ]
  where
    same : (b : Bool) → b ≡ true → asks_under id (if b then Asking n from last else f d) ≡ true → id ≡ n
    same true e h = grind (arith, nat_tests)
    same false e h = absurd (cc)

    other : (b : Bool) → b ≡ false → asks_under id (if b then Asking n from last else f d) ≡ true
        → asks_under id (f d) ≡ true
    other true e h = absurd (cc)
    other false e h = h

pub asked_apart : (c : List ℕ) (from : Option Position) → Keeps (asked c from)
asked_apart c from s h =
    let x = s.client in
    record {
      older = λ d id a.
          elim (asks_new x.modes c x.fresh from _ d id a) [
            | inl e ↦ let i : id ≡ x.fresh = e.1 in omega arith
            | inr e ↦ let i : id < x.fresh = h.older d id e in omega arith
          ];
      apart = λ d e id a b.
          elim (asks_new x.modes c x.fresh from _ d id a) [
            | inl p ↦ elim (asks_new x.modes c x.fresh from _ e id b) [
              | inl q ↦ p.0 ∙ sym q.0
              | inr q ↦ let i : id < x.fresh = h.older e id q in let j : id ≡ x.fresh = p.1 in absurd (omega arith)
            ]
            | inr p ↦ elim (asks_new x.modes c x.fresh from _ e id b) [
              | inl q ↦ let i : id < x.fresh = h.older d id p in let j : id ≡ x.fresh = q.1 in absurd (omega arith)
              | inr q ↦ h.apart d e id p q
            ]
          ];
      calls_older = λ id o. let i : id < x.fresh = h.calls_older id o in omega arith;
      calls_apart = λ d id a.
          elim (asks_new x.modes c x.fresh from _ d id a) [
            | inl e ↦ subst (λ n. is_out n x.calls ≡ false) (sym e.1)
                (never_out x.fresh x.calls (h.calls_older x.fresh))
            | inr e ↦ h.calls_apart d id e
          ];
    }
  where
    never_out : (n : ℕ) (is : List ℕ) → (is_out n is ≡ true → n < n) → is_out n is ≡ false
    never_out n is h = by_value (is_out n is) h
      where
        by_value : (b : Bool) → (b ≡ true → n < n) → b ≡ false
        by_value true h = let l = h refl in absurd (omega arith)
        by_value false h = refl

-- ---- what is taken

same_apart : (s t : State) → t ≡ s → AreApart s.client → AreApart t.client
same_apart s t e h = subst (λ (x : State). AreApart x.client) (sym e) h

answer_apart : (id : ℕ) (b : Mode → Mode) (items : List ℕ → List AppItem) (s t : State) (told : List AppItem)
    → ((m : Mode) (i : ℕ) → asks_under i (b m) ≡ false) → AnswersAsk id b items s t told → AreApart s.client
    → AreApart t.client
answer_apart id b items s t told none a h =
    subst (λ (x : State). AreApart x.client) (sym a.moves)
    (moved_apart a.channel (b (s.client.modes a.channel)) s (none (s.client.modes a.channel)) h)

later_out : (k i : ℕ) (a : Bool) (is rest : List ℕ) → (is_out k rest ≡ true → is_out k is ≡ true)
    → is_out k (if a then rest else i ∷ rest) ≡ true → is_out k (i ∷ is) ≡ true
later_out k i true is rest up h = by_test (i == k) (up h)
  where
    by_test : (b : Bool) → is_out k is ≡ true → (b || is_out k is) ≡ true
    by_test true o = refl
    by_test false o = o
later_out k i false is rest up h = by_test (i == k) h
  where
    by_test : (b : Bool) → (b || is_out k rest) ≡ true → (b || is_out k is) ≡ true
    by_test true o = refl
    by_test false o = up o

out_before : (id : ℕ) (is : List ℕ) (k : ℕ) → is_out k (without id is) ≡ true → is_out k is ≡ true
out_before id [] k h = h
out_before id (i ∷ is) k h = later_out k i (i == id) is (without id is) (out_before id is k) h

answered_apart : (id : ℕ) (s t : State) → t ≡ answered id s → AreApart s.client → AreApart t.client
answered_apart id s t e h =
    subst (λ (x : State). AreApart x.client) (sym e)
    (fewer s.client (answered id s).client (λ c i a. a) (out_before id s.client.calls) (λ n l. l) h)

outcome_apart : (id : ℕ) (o : Outcome) (s t : State) (told : List AppItem) → TakesAnswer id o s t told
    → AreApart s.client → AreApart t.client
outcome_apart id (Subscribed at ps recovered was) s t told (inl a) h = answer_apart id _ _ s t told (λ m i. refl) a h
outcome_apart id (Subscribed at ps recovered was) s t told (inr a) h = same_apart s t a.1.0 h
outcome_apart id (Failed code) s t told (inl a) h = answer_apart id _ _ s t told (λ m i. refl) a h
outcome_apart id (Failed code) s t told (inr a) h = answered_apart id s t a.1.0 h
outcome_apart id Published s t told a h = answered_apart id s t a.0 h
outcome_apart id (Past at ps) s t told a h = answered_apart id s t a.0 h
outcome_apart id (Connected client) s t told a h = same_apart s t a.0 h
outcome_apart id Unsubscribed s t told a h = same_apart s t a.0 h
outcome_apart id (Present users) s t told a h = same_apart s t a.0 h
outcome_apart id (Counted clients users) s t told a h = same_apart s t a.0 h
outcome_apart id Pinged s t told a h = same_apart s t a.0 h

publication_apart : (c : List ℕ) (q : Placed) (m : Mode) (s t : State) (told : List AppItem)
    → TakesPublication c q m s t told → AreApart s.client → AreApart t.client
publication_apart c q (Idle last) s t told a h = same_apart s t a.0 h
publication_apart c q (Asking id from last) s t told a h = same_apart s t a.0 h
publication_apart c q (Live p) s t told a h =
    subst (λ (x : State). AreApart x.client) (sym a.0) (moved_apart c _ s (λ i. refl) h)

end_apart : (c : List ℕ) (k : ℕ) (m : Mode) (s t : State) (told : List AppItem) → TakesEnd c k m s t told
    → AreApart s.client → AreApart t.client
end_apart c k (Idle last) s t told a h = same_apart s t a.0 h
end_apart c k (Asking id from last) s t told a h = same_apart s t a.0 h
end_apart c k (Live p) s t told a h =
    subst (λ (x : State). AreApart x.client) (sym a.0) (moved_apart c _ s (λ i. refl) h)

one_apart : (o : Outgoing) (s t : State) (told : List AppItem) → Takes o s t told → AreApart s.client
    → AreApart t.client
one_apart Ping s t told a h = same_apart s t a.0 h
one_apart (Answer id o) s t told a h = outcome_apart id o s t told a h
one_apart (Push c (Publication q)) s t told a h = publication_apart c q (s.client.modes c) s t told a h
one_apart (Push c (Unsubscribe k)) s t told a h = end_apart c k (s.client.modes c) s t told a h

pub texts_apart : TextsKeep
texts_apart [] s t told h a = same_apart s t a.0 h
texts_apart (o ∷ os) s t told h (mid, first, rest, one, all, tells) =
    texts_apart os mid t rest (one_apart o s mid first one h) all

-- ---- one outcome

abbrev Same : State → State → List AppItem → List AppItem → Type 0
Same t u told also = (t ≡ u) × (told ≡ also)

both : {A : Type 0} (x a b : A) → a ≡ x → b ≡ x → a ≡ b
both x a b h k = h ∙ sym k

asks_one : (id : ℕ) (b : Mode → Mode) (items : List ℕ → List AppItem) (s t u : State) (told also : List AppItem)
    → AreApart s.client
    → AnswersAsk id b items s t told → AnswersAsk id b items s u also → Same t u told also
asks_one id b items s t u told also h x y =
    let e : x.channel ≡ y.channel = h.apart x.channel y.channel id x.asks y.asks in (
      x.moves ∙ ap (λ (c : List ℕ). moves c (b (s.client.modes c)) s) e ∙ sym y.moves,
      x.tells ∙ ap items e ∙ sym y.tells,
    )

none_and_one : {A : Type 0} (id : ℕ) (b : Mode → Mode) (items : List ℕ → List AppItem) (s t : State)
    (told : List AppItem) → NoAsk id s → AnswersAsk id b items s t told → A
none_and_one id b items s t told none x = let n = none x.channel in let y = x.asks in absurd (cc)

outcome_one : (id : ℕ) (o : Outcome) (s t u : State) (told also : List AppItem) → AreApart s.client
    → TakesAnswer id o s t told → TakesAnswer id o s u also → Same t u told also
outcome_one id (Subscribed at ps recovered was) s t u told also h (inl x) (inl y) =
    asks_one id _ _ s t u told also h x y
outcome_one id (Subscribed at ps recovered was) s t u told also h (inl x) (inr y) = none_and_one id _ _ s t told y.0 x
outcome_one id (Subscribed at ps recovered was) s t u told also h (inr x) (inl y) = none_and_one id _ _ s u also x.0 y
outcome_one id (Subscribed at ps recovered was) s t u told also h (inr x) (inr y) =
    (both _ _ _ x.1.0 y.1.0, both _ _ _ x.1.1 y.1.1)
outcome_one id (Failed code) s t u told also h (inl x) (inl y) = asks_one id _ _ s t u told also h x y
outcome_one id (Failed code) s t u told also h (inl x) (inr y) = none_and_one id _ _ s t told y.0 x
outcome_one id (Failed code) s t u told also h (inr x) (inl y) = none_and_one id _ _ s u also x.0 y
outcome_one id (Failed code) s t u told also h (inr x) (inr y) = (both _ _ _ x.1.0 y.1.0, both _ _ _ x.1.1 y.1.1)
outcome_one id Published s t u told also h x y = (both _ _ _ x.0 y.0, both _ _ _ x.1 y.1)
outcome_one id (Past at ps) s t u told also h x y = (both _ _ _ x.0 y.0, both _ _ _ x.1 y.1)
outcome_one id (Connected client) s t u told also h x y = (both _ _ _ x.0 y.0, both _ _ _ x.1 y.1)
outcome_one id Unsubscribed s t u told also h x y = (both _ _ _ x.0 y.0, both _ _ _ x.1 y.1)
outcome_one id (Present users) s t u told also h x y = (both _ _ _ x.0 y.0, both _ _ _ x.1 y.1)
outcome_one id (Counted clients users) s t u told also h x y = (both _ _ _ x.0 y.0, both _ _ _ x.1 y.1)
outcome_one id Pinged s t u told also h x y = (both _ _ _ x.0 y.0, both _ _ _ x.1 y.1)

publication_one : (c : List ℕ) (q : Placed) (m : Mode) (s t u : State) (told also : List AppItem)
    → TakesPublication c q m s t told → TakesPublication c q m s u also → Same t u told also
publication_one c q (Idle last) s t u told also x y = (both _ _ _ x.0 y.0, both _ _ _ x.1 y.1)
publication_one c q (Asking id from last) s t u told also x y = (both _ _ _ x.0 y.0, both _ _ _ x.1 y.1)
publication_one c q (Live p) s t u told also x y = (both _ _ _ x.0 y.0, both _ _ _ x.1 y.1)

end_one : (c : List ℕ) (k : ℕ) (m : Mode) (s t u : State) (told also : List AppItem) → TakesEnd c k m s t told
    → TakesEnd c k m s u also → Same t u told also
end_one c k (Idle last) s t u told also x y = (both _ _ _ x.0 y.0, both _ _ _ x.1 y.1)
end_one c k (Asking id from last) s t u told also x y = (both _ _ _ x.0 y.0, both _ _ _ x.1 y.1)
end_one c k (Live p) s t u told also x y = (both _ _ _ x.0 y.0, both _ _ _ x.1 y.1)

one_one : (o : Outgoing) (s t u : State) (told also : List AppItem) → AreApart s.client → Takes o s t told
    → Takes o s u also → Same t u told also
one_one Ping s t u told also h x y = (both _ _ _ x.0 y.0, both _ _ _ x.1 y.1)
one_one (Answer id o) s t u told also h x y = outcome_one id o s t u told also h x y
one_one (Push c (Publication q)) s t u told also h x y = publication_one c q (s.client.modes c) s t u told also x y
one_one (Push c (Unsubscribe k)) s t u told also h x y = end_one c k (s.client.modes c) s t u told also x y

pub one_outcome : OneOutcome
one_outcome [] s t u told also h x y = (both _ _ _ x.0 y.0, both _ _ _ x.1 y.1)
one_outcome (o ∷ os) s t u told also h (mid, first, rest, one, all, tells) (mid', first', rest', one', all', tells') =
    let now = one_one o s mid mid' first first' h one one' in
    let all'' : TakesAll os mid u rest' = subst (λ (x : State). TakesAll os x u rest') (sym now.0) all' in
    let later = one_outcome os mid t u rest rest' (one_apart o s mid first one h) all all'' in (
      later.0,
      tells ∙ ap (λ (xs : List AppItem). xs ++ rest) now.1 ∙ ap (λ (xs : List AppItem). first' ++ xs) later.1
          ∙ sym tells',
    )
