-- What the entries of a trace say of one client at one channel is what befalls it.
use Rattle.std.proofs.Common.{◌≡◌, ℕ, zero, suc, ◌-◌, ◌∙◌, ◌==◌, ◌||◌, ◌&&◌, Bool, true, false, List, [], ◌∷◌, ◌++◌}
use Rattle.std.proofs.Common.{refl, sym, ap, subst, ◌≢◌, inl, inr, if◌then◌else◌}
use Rattle.std.proofs.lemmas.List.{append-nil}
use Rattle.std.specs.Str.{bytes_eq}
use Rattle.cf_protocol.specs.Position.{Position}
use Rattle.cf_protocol.specs.Note.{Lists, Reading, Note, Reply, Pub, End, Fails, Put as PutDone, Left}
use Rattle.cf_protocol.specs.Note.{Listed as Listing, PingDue, Close}
use Rattle.cf_model.specs.Recovery.{next}
use Rattle.cf_model.specs.Clients.{Mode, Idle, Asking, Live, Client, read_to, is_out}
use Rattle.cf_machine.specs.Config.{Config}
use Rattle.cf_machine.specs.Event.{Event, Ask, AskFrom, Read, Take, Break, Leave, Restart}
use Rattle.cf_machine.specs.ClientLink.{holds}
use Rattle.cf_machine.specs.World.{World, start}
use Rattle.cf_machine.specs.LooseRun.{Happening, Scheduled, SendAsk, SendAskFrom, SendLeave, Receive, loosely_allows}
use Rattle.cf_machine.specs.LooseRun.{befalls}
use Rattle.cf_machine.specs.Trace.{Item, Refused, Listed}
use Rattle.cf_machine.specs.Told.{run_items, reading_items, reply_items, pub_items, end_items, asks_under, error_items}
use Rattle.cf_machine.specs.Told.{listing_items, items, first_items, entries, told_first as tells_first, tells}
use Rattle.cf_machine.specs.Told.{loosely_tells, loosely_writes}
use Rattle.cf_machine.specs.ClientSteps.{ClientStep, Subscribed, Published, Stops, only, item_steps, entry_steps}
use Rattle.cf_machine.specs.ClientSteps.{event_steps}
use Rattle.cf_machine.specs.ClientSteps.{own_steps, allowed_steps}
use Rattle.cf_machine.specs.StreamSafety.{places}
use Rattle.cf_machine.proofs.Automaton.{IsSafe, nothing_seen}
use Rattle.cf_machine.proofs.Names.{text_tells, itself, not_this, by_test}
use Rattle.cf_machine.proofs.Telling.{told_by_reading, told, told_first}
use Rattle.cf_machine.proofs.Stepping.{scheduled_steps, loose_steps, client_steps}
use Rattle.cf_machine.proofs.Steps.{history, safe_history}

abbrev items_steps : List ℕ → List Item → List ClientStep
items_steps c [] = []
items_steps c (i ∷ is) = item_steps c i ++ items_steps c is

-- items of another channel
module _ (lists : Lists) (c d : List ℕ) (ne : d ≢ c) where
  away-run : (n : ℕ) (p : Position) → items_steps c (run_items lists d p n) ≡ []
  away-run zero p = refl
  away-run (suc n) p = rw (not_this d c ne) (away-run n (next p))

  away-reading : (was : Bool) (r : Reading) → items_steps c (reading_items lists d was r) ≡ []
  away-reading was r =
      rw (not_this d c ne)
      (by_test (λ is. items_steps c is ≡ []) r.recovered
      (run_items lists d (record { epoch = r.epoch; offset = r.low }) (r.top - r.low)) []
      (λ h. away-run (r.top - r.low) _) (λ h. refl))

  away-reply : (k : ℕ) (was : Bool) (r : Reading) (m : Mode) → items_steps c (reply_items lists d k was r m) ≡ []
  away-reply k was r (Idle last) = refl
  away-reply k was r (Live p) = refl
  away-reply k was r (Asking id from last) =
      by_test (λ is. items_steps c is ≡ []) (k == id) (reading_items lists d was r) [] (λ h. away-reading was r)
      (λ h. refl)

  away-pub : (q : Position) (m : Mode) → items_steps c (pub_items lists d q m) ≡ []
  away-pub q (Idle last) = refl
  away-pub q (Asking id from last) = refl
  away-pub q (Live p) = rw (not_this d c ne) refl

  away-end : (m : Mode) → items_steps c (end_items d m) ≡ []
  away-end (Idle last) = refl
  away-end (Asking id from last) = refl
  away-end (Live p) = rw (not_this d c ne) refl

  told-reply : (k : ℕ) (was : Bool) (r : Reading) (m : Mode) → told c m (Reply d k was r) ≡ []
  told-reply k was r (Idle last) = refl
  told-reply k was r (Asking id from last) = rw (not_this d c ne) refl
  told-reply k was r (Live p) = refl

  told-pub : (q : Position) (m : Mode) → told c m (Pub d q) ≡ []
  told-pub q (Idle last) = refl
  told-pub q (Asking id from last) = refl
  told-pub q (Live p) = rw (not_this d c ne) refl

  told-end : (m : Mode) → told c m (End d) ≡ []
  told-end (Idle last) = refl
  told-end (Asking id from last) = refl
  told-end (Live p) = rw (not_this d c ne) refl

-- items of the channel itself
module _ (lists : Lists) (c : List ℕ) where
  here-run : (n : ℕ) (p : Position) → items_steps c (run_items lists c p n) ≡ places p n
  here-run zero p = refl
  here-run (suc n) p = rw (itself c) (ap (λ ms. Published (next p) ∷ ms) (here-run n (next p)))

  here-reading : (was : Bool) (r : Reading) → items_steps c (reading_items lists c was r) ≡ told_by_reading r
  here-reading was r = rw (itself c) (ap (λ ms. Subscribed r.recovered (read_to r) ∷ ms) (of_test r.recovered))
    where
      of_test : (v : Bool) → items_steps c (if v then run_items lists c (record { epoch = r.epoch; offset = r.low })
          (r.top - r.low) else [])
          ≡ (if v then places (record { epoch = r.epoch; offset = r.low }) (r.top - r.low) else [])
      of_test true = here-run (r.top - r.low) _
      of_test false = refl

  here-reply : (k : ℕ) (was : Bool) (r : Reading) (m : Mode)
      → items_steps c (reply_items lists c k was r m) ≡ told c m (Reply c k was r)
  here-reply k was r (Idle last) = refl
  here-reply k was r (Live p) = refl
  here-reply k was r (Asking id from last) = rw (itself c) (of_test (k == id))
    where
      of_test : (v : Bool) → items_steps c (if v then reading_items lists c was r else [])
          ≡ (if true && v then told_by_reading r else [])
      of_test true = here-reading was r
      of_test false = refl

  here-pub : (q : Position) (m : Mode) → items_steps c (pub_items lists c q m) ≡ told c m (Pub c q)
  here-pub q (Idle last) = refl
  here-pub q (Asking id from last) = refl
  here-pub q (Live p) = rw (itself c) refl

  here-end : (m : Mode) → items_steps c (end_items c m) ≡ told c m (End c)
  here-end (Idle last) = refl
  here-end (Asking id from last) = refl
  here-end (Live p) = rw (itself c) refl

error-steps : (c d : List ℕ) (k code : ℕ) (m : Mode) (calls : List ℕ)
    → items_steps c (error_items d k code m calls) ≡ []
error-steps c d k code m calls =
    by_test (λ is. items_steps c is ≡ []) (asks_under k m || is_out k calls) (Refused d code ∷ []) [] (λ h. refl)
    (λ h. refl)

listing-steps : (c d : List ℕ) (k : ℕ) (at : Position) (count : ℕ) (calls : List ℕ)
    → items_steps c (listing_items d k at count calls) ≡ []
listing-steps c d k at count calls =
    by_test (λ is. items_steps c is ≡ []) (is_out k calls) (Listed d at count ∷ []) [] (λ h. refl) (λ h. refl)

-- notes that tell a channel nothing
told-error : (c d : List ℕ) (k code : ℕ) (m : Mode) → [] ≡ told c m (Fails d k code)
told-error c d k code (Idle last) = refl
told-error c d k code (Asking id from last) = refl
told-error c d k code (Live p) = refl

told-listing : (c d : List ℕ) (k : ℕ) (at : Position) (low count : ℕ) (m : Mode)
    → [] ≡ told c m (Listing d k at low count)
told-listing c d k at low count (Idle last) = refl
told-listing c d k at low count (Asking id from last) = refl
told-listing c d k at low count (Live p) = refl

told-put : (c : List ℕ) (k : ℕ) (m : Mode) → [] ≡ told c m (PutDone k)
told-put c k (Idle last) = refl
told-put c k (Asking id from last) = refl
told-put c k (Live p) = refl

told-left : (c : List ℕ) (k : ℕ) (m : Mode) → [] ≡ told c m (Left k)
told-left c k (Idle last) = refl
told-left c k (Asking id from last) = refl
told-left c k (Live p) = refl

told-ping : (c : List ℕ) (m : Mode) → [] ≡ told c m PingDue
told-ping c (Idle last) = refl
told-ping c (Asking id from last) = refl
told-ping c (Live p) = refl

told-close : (c : List ℕ) (code : ℕ) (m : Mode) → (Stops ∷ []) ≡ told c m (Close code)
told-close c code (Idle last) = refl
told-close c code (Asking id from last) = refl
told-close c code (Live p) = refl

note-steps : (lists : Lists) (c : List ℕ) (x : Client) (n : Note)
    → items_steps c (items lists x n) ≡ told c (x.modes c) n
note-steps lists c x (Reply d k was r) =
    elim (text_tells d c) [
      | inl e ↦ subst (λ y. items_steps c (reply_items lists y k was r (x.modes y))
          ≡ told c (x.modes c) (Reply y k was r)) (sym e.1) (here-reply lists c k was r (x.modes c))
      | inr e ↦ away-reply lists c d e.1 k was r (x.modes d) ∙ sym (told-reply lists c d e.1 k was r (x.modes c))
    ]
note-steps lists c x (Pub d q) =
    elim (text_tells d c) [
      | inl e ↦ subst (λ y. items_steps c (pub_items lists y q (x.modes y)) ≡ told c (x.modes c) (Pub y q)) (sym e.1)
          (here-pub lists c q (x.modes c))
      | inr e ↦ away-pub lists c d e.1 q (x.modes d) ∙ sym (told-pub lists c d e.1 q (x.modes c))
    ]
note-steps lists c x (End d) =
    elim (text_tells d c) [
      | inl e ↦ subst (λ y. items_steps c (end_items y (x.modes y)) ≡ told c (x.modes c) (End y)) (sym e.1)
          (here-end lists c (x.modes c))
      | inr e ↦ away-end lists c d e.1 (x.modes d) ∙ sym (told-end lists c d e.1 (x.modes c))
    ]
note-steps lists c x (Fails d k code) =
    error-steps c d k code (x.modes d) x.calls ∙ told-error c d k code (x.modes c)
note-steps lists c x (PutDone k) = told-put c k (x.modes c)
note-steps lists c x (Left k) = told-left c k (x.modes c)
note-steps lists c x (Listing d k at low count) =
    listing-steps c d k at count x.calls ∙ told-listing c d k at low count (x.modes c)
note-steps lists c x PingDue = told-ping c (x.modes c)
note-steps lists c x (Close code) = told-close c code (x.modes c)

first-steps : (lists : Lists) (c : List ℕ) (x : Client) (ns : List Note)
    → items_steps c (first_items lists x ns) ≡ told_first c (x.modes c) ns
first-steps lists c x [] = refl
first-steps lists c x (n ∷ ns) = note-steps lists c x n

-- entries of one client
entries-steps : (x c : List ℕ) (n : ℕ) (y : List ℕ) (is : List Item)
    → entry_steps x c (entries n y is) ≡ only x y (items_steps c is)
entries-steps x c n y [] = by_test (λ ms. [] ≡ ms) (bytes_eq x y) [] [] (λ h. refl) (λ h. refl)
entries-steps x c n y (i ∷ is) =
    elim (text_tells x y) [
      | inl e ↦ rw e.0 (ap (λ ms. item_steps c i ++ ms) (entries-steps x c n y is ∙ rw e.0 refl))
      | inr e ↦ rw e.0 (entries-steps x c n y is ∙ rw e.0 refl)
    ]

told-here : (x c : List ℕ) (n : ℕ) (y : List ℕ) (w : World) (ns : List Note)
    → entry_steps x c (tells_first n y w ns) ≡ only x y (told_first c ((w.links y).client.modes c) ns)
told-here x c n y w ns =
    entries-steps x c n y (first_items w.broker.lists (w.links y).client ns)
    ∙ ap (only x y) (first-steps w.broker.lists c (w.links y).client ns)

-- what an event does, and what is told in it
event-steps : (x c : List ℕ) (n : ℕ) (w : World) (e : Event)
    → (event_steps x c w e ++ entry_steps x c (tells n w e)) ≡ scheduled_steps x c w e
event-steps x c n w (Take y) = told-here x c n y w (holds (w.links y)).way
event-steps x c n w (Ask y d) = append-nil _
event-steps x c n w (AskFrom y d) = append-nil _
event-steps x c n w (Read y d) = append-nil _
event-steps x c n w (Break y) = append-nil _
event-steps x c n w (Leave y d) = append-nil _
event-steps x c n w (Restart m) = append-nil _
event-steps x c n w e = refl

happening-steps : (x c : List ℕ) (n : ℕ) (w : World) (h : Happening)
    → (own_steps x c w h ++ entry_steps x c (loosely_tells n w h)) ≡ loose_steps x c w h
happening-steps x c n w (Scheduled e) = event-steps x c n w e
happening-steps x c n w (Receive y) = told-here x c n y w (w.links y).way
happening-steps x c n w (SendAsk y d) = append-nil _
happening-steps x c n w (SendAskFrom y d) = append-nil _
happening-steps x c n w (SendLeave y d) = append-nil _
happening-steps x c n w h = refl

step-steps : (cfg : Config) (x c : List ℕ) (n : ℕ) (w : World) (h : Happening)
    → (allowed_steps cfg x c w h ++ entry_steps x c (loosely_writes cfg n w h)) ≡ client_steps cfg x c w h
step-steps cfg x c n w h = of_test (loosely_allows cfg w h)
  where
    of_test : (t : Bool) → ((if t then own_steps x c w h else [])
        ++ entry_steps x c (if t then loosely_tells n w h else [])) ≡ (if t then loose_steps x c w h else [])
    of_test true = happening-steps x c n w h
    of_test false = refl

-- what befalls client x at channel c, event by event
abbrev pub tale : Config → List ℕ → List ℕ → ℕ → World → List Happening → List (List ClientStep)
tale cfg x c n w [] = []
tale cfg x c n w (h ∷ hs) =
    (allowed_steps cfg x c w h ++ entry_steps x c (loosely_writes cfg n w h))
    ∷ tale cfg x c (suc n) (befalls cfg w h) hs

tale-history : (cfg : Config) (x c : List ℕ) (n : ℕ) (w : World) (hs : List Happening)
    → tale cfg x c n w hs ≡ history cfg x c w hs
tale-history cfg x c n w [] = refl
tale-history cfg x c n w (h ∷ hs) =
    rw (step-steps cfg x c n w h) (ap (λ rest. client_steps cfg x c w h ∷ rest)
    (tale-history cfg x c (suc n) (befalls cfg w h) hs))

pub safe_tale : (cfg : Config) (hs : List Happening) (x c : List ℕ) → IsSafe nothing_seen (tale cfg x c 1 start hs)
safe_tale cfg hs x c = rw (tale-history cfg x c 1 start hs) (safe_history cfg hs x c)
