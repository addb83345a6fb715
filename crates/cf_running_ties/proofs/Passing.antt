-- What says no note is passed over, and may as well be left out.
use Rattle.std.proofs.Common.{◌≡◌, ◌≢◌, inl, inr, ℕ, ◌==◌, ◌||◌, not, Bool, true, false, if◌then◌else◌, cond, map}
use Rattle.std.proofs.Common.{Option, Some, None, List, [], ◌∷◌, ◌++◌, refl, sym, ap, ◌∙◌, subst}
use Rattle.std.specs.List.{AllZip, filter}
use Rattle.std.specs.Option.{option_map, option_to_list}
use Rattle.cf_protocol.specs.Frame.{IsReplies}
use Rattle.cf_protocol.specs.Note.{Lists, Note, Reply, Pub, End, Fails, Put, Left, Listed, PingDue, outgoing_of}
use Rattle.cf_protocol.specs.Note.{placed_at}
use Rattle.cf_protocol.specs.Note as note
use Rattle.cf_protocol.specs.Datum.{Placed}
use Rattle.cf_protocol.specs.Outgoing.{Outcome, Connected, Subscribed, Unsubscribed, Published, Present, Counted, Past}
use Rattle.cf_protocol.specs.Outgoing.{Pinged, Failed, Publication, Outgoing, Ping, Answer, Push}
use Rattle.cf_protocol.specs.Regular.{IsRegular}
use Rattle.cf_protocol.specs.Written.{outgoing_text}
use Rattle.cf_queue.specs.OutQueue.{Item, Text, Close}
use Rattle.cf_hub.specs.InNotes.{SaysNote}
use Rattle.cf_client.specs.AppItem as item
use Rattle.cf_client.specs.AppItem.{AppItem}
use Rattle.cf_client.specs.ClientCalls.{Call, PassesOver, State, Takes, TakesAll, answered, channel_under}
use Rattle.cf_model.specs.Clients.{is_out, without}
use Rattle.cf_hub_moves.specs.HubAsides.{IsAside, SaysSome}
use Rattle.cf_hub_moves.specs.Asides.{IsAsideAnswer, IsPassedOver, SaysAside}
use Rattle.cf_running_ties.specs.Passing.{AllPassed, AreEnough, IsUnasked, TakesItems, TakesText}

by_answer : (id : ℕ) (r : Outcome) → IsAsideAnswer r → (old new : State) (told : List AppItem)
    → Takes (Answer id r) old new told → PassesOver old new told
by_answer id (Connected client) p old new told h = h
by_answer id (Present users) p old new told h = h
by_answer id (Counted clients users) p old new told h = h
by_answer id Pinged p old new told h = h
by_answer id (Subscribed at publications recovered was) p old new told h = absurd p
by_answer id Unsubscribed p old new told h = absurd p
by_answer id Published p old new told h = absurd p
by_answer id (Past at publications) p old new told h = absurd p
by_answer id (Failed code) p old new told h = absurd p

one : (o : Outgoing) → IsPassedOver o → (old new : State) (told : List AppItem) → Takes o old new told
    → PassesOver old new told
one Ping p old new told h = absurd p
one (Answer id result) p old new told h = by_answer id result p old new told h
one (Push channel push) p old new told h = absurd p

both : (old mid new : State) (first rest told : List AppItem) → PassesOver old mid first → PassesOver mid new rest
    → told ≡ first ++ rest → PassesOver old new told
both old mid new first rest told h k e = (k.0 ∙ h.0, e ∙ (λ i. h.1 i ++ k.1 i))

pub all_passed : (os : List Outgoing) (old new : State) (told : List AppItem) → AllPassed os → TakesAll os old new told
    → PassesOver old new told
all_passed [] old new told p h = h
all_passed (o ∷ os) old new told p h =
    both old h.0 new h.1 h.2 told (one o p.0 old h.0 h.1 h.3) (all_passed os h.0 new h.2 p.1 h.4) h.5

-- ---- an error under an id that nothing has

without_none : (id : ℕ) (is : List ℕ) → is_out id is ≡ false → without id is ≡ is
without_none id [] h = refl
without_none id (i ∷ is) h = by_test (i == id) h (without_none id is)
  where
    by_test : (b : Bool) → (b || is_out id is) ≡ false → (is_out id is ≡ false → without id is ≡ is)
        → (if b then without id is else i ∷ without id is) ≡ i ∷ is
    by_test true k f = absurd (cc)
    by_test false k f = ap (λ js. i ∷ js) (f k)

none_under : (id : ℕ) (ks : List Call) → channel_under id ks ≡ None → filter (λ k. not (k.id == id)) ks ≡ ks
none_under id [] h = refl
none_under id (k ∷ ks) h = by_test (k.id == id) h (none_under id ks)
  where
    by_test : (b : Bool) → (if b then Some k.channel else channel_under id ks) ≡ None
        → (channel_under id ks ≡ None → filter (λ x. not (x.id == id)) ks ≡ ks)
        → cond (not b) (k ∷ filter (λ x. not (x.id == id)) ks) (filter (λ x. not (x.id == id)) ks) ≡ k ∷ ks
    by_test true i f = absurd (cc)
    by_test false i f = ap (λ xs. k ∷ xs) (f i)

unanswered : (id : ℕ) (s : State) → IsUnasked id s → answered id s ≡ s
unanswered id s u i =
    record s {
      client = record s.client { calls = without_none id s.client.calls u.calls i };
      out = none_under id s.out u.out i;
    }

pub errors : (id code : ℕ) (old new : State) (told : List AppItem) → IsUnasked id old
    → Takes (Answer id (Failed code)) old new told → PassesOver old new told
errors id code old new told u (inl k) =
    absurd (let no : true ≡ false = sym k.asks ∙ u.asks k.channel in cc)
errors id code old new told u (inr k) =
    (k.1.0 ∙ unanswered id old u, k.1.1 ∙ none_told (channel_under id old.out) u.out)
  where
    none_told : (o : Option (List ℕ)) → o ≡ None → map (λ c. item.Refused c code) (option_to_list o) ≡ []
    none_told None e = refl
    none_told (Some c) e = absurd (cc)

-- ---- no note says it

abbrev IsAsideOf : Option Outgoing → Type 0
IsAsideOf None = ⊥
IsAsideOf (Some o) = IsPassedOver o

none_says : (lists : Lists) (n : Note) → IsAsideOf (outgoing_of lists n) → ⊥
none_says lists (Reply c id was r) h = h
none_says lists (Pub c p) h = by_place (placed_at (lists c p.epoch) p.offset) h
  where
    by_place : (o : Option Placed) → IsAsideOf (option_map (λ d. Push c (Publication d)) o) → ⊥
    by_place None k = k
    by_place (Some d) k = k
none_says lists (End c) h = h
none_says lists (Fails c id code) h = h
none_says lists (Put id) h = h
none_says lists (Left id) h = h
none_says lists (Listed c id p low count) h = h
none_says lists PingDue h = h
none_says lists (note.Close code) h = h

pub no_note : (lists : Lists) (n : Note) (o : Outgoing) → IsPassedOver o → outgoing_of lists n ≢ Some o
no_note lists n o p e = none_says lists n (subst IsAsideOf (sym e) p)

-- ---- left out

module _ (read : (o : Outgoing) → IsRegular o → IsReplies (outgoing_text o) (o ∷ [])) where
  pub text : (t : List ℕ) (old new : State) (told : List AppItem) → SaysAside t → TakesText t old new told
      → PassesOver old new told
  text t old new told a h =
      all_passed (a.said ∷ []) old new told (a.passed, tt)
      (h (a.said ∷ []) (subst (λ x. IsReplies x (a.said ∷ [])) (sym a.text) (read a.said a.regular)))

  module _ (A : List ℕ → Type 0) (lists : Lists) (asides : (t : List ℕ) → A t → SaysAside t) where
    -- the items that say notes
    kept_of : (is : List Item) (ns : List Note) → SaysSome A lists is ns → List Item
    kept_of [] [] h = []
    kept_of [] (n ∷ ns) h = []
    kept_of (i ∷ is) [] h = kept_of is [] h.1
    kept_of (i ∷ is) (n ∷ ns) (inl h) = i ∷ kept_of is ns h.1
    kept_of (i ∷ is) (n ∷ ns) (inr h) = kept_of is (n ∷ ns) h.1

    kept_says : (is : List Item) (ns : List Note) (h : SaysSome A lists is ns)
        → AllZip (SaysNote lists) (kept_of is ns h) ns
    unfolding kept_of
    kept_says [] [] h = tt
    kept_says [] (n ∷ ns) h = absurd h
    kept_says (i ∷ is) [] h = kept_says is [] h.1
    kept_says (i ∷ is) (n ∷ ns) (inl h) = (h.0, kept_says is ns h.1)
    kept_says (i ∷ is) (n ∷ ns) (inr h) = kept_says is (n ∷ ns) h.1

    -- an aside before others
    first_passed : (i : Item) (is rest : List Item) (old new : State) (told : List AppItem) → IsAside A i
        → TakesItems (i ∷ is) old new told
        → ((mid : State) (more : List AppItem) → TakesItems is mid new more → TakesItems rest mid new more)
        → TakesItems rest old new told
    first_passed (Close code) is rest old new told a h f = absurd a
    first_passed (Text t) is rest old new told a h f =
        let p = text t old h.0 h.1 (asides t a) h.3 in
        subst (λ (x : List AppItem). TakesItems rest old new x) (sym (h.5 ∙ ap (λ (x : List AppItem). x ++ h.2) p.1))
        (subst (λ (s : State). TakesItems rest s new h.2) p.0 (f h.0 h.2 h.4))

    kept_takes : (is : List Item) (ns : List Note) (h : SaysSome A lists is ns) (old new : State) (told : List AppItem)
        → TakesItems is old new told → TakesItems (kept_of is ns h) old new told
    unfolding kept_of
    kept_takes [] [] h old new told k = k
    kept_takes [] (n ∷ ns) h old new told k = absurd h
    kept_takes (i ∷ is) [] h old new told k =
        first_passed i is (kept_of is [] h.1) old new told h.0 k (λ mid more. kept_takes is [] h.1 mid new more)
    kept_takes (i ∷ is) (n ∷ ns) (inr h) old new told k =
        first_passed i is (kept_of is (n ∷ ns) h.1) old new told h.0 k
        (λ mid more. kept_takes is (n ∷ ns) h.1 mid new more)
    kept_takes (Close code ∷ is) (n ∷ ns) (inl h) old new told k = k
    kept_takes (Text t ∷ is) (n ∷ ns) (inl h) old new told k =
        (k.0, k.1, k.2, k.3, kept_takes is ns h.1 k.0 new k.2 k.4, k.5)

    pub left_out : (is : List Item) (ns : List Note) (old new : State) (told : List AppItem) → SaysSome A lists is ns
        → TakesItems is old new told → AreEnough lists ns old new told
    left_out is ns old new told h k =
        record { kept = kept_of is ns h; says = kept_says is ns h; takes = kept_takes is ns h old new told k }
