-- What an application is told when a note reaches its client, and so the trace of a run. A body is the datum that
-- stands at the publication's place at that moment.
use Rattle.std.specs.Prelude.{ℕ, zero, suc, ◌-◌, ◌==◌, ◌||◌, Bool, false, if◌then◌else◌, List, [], ◌∷◌, ◌++◌}
use Rattle.cf_protocol.specs.Position.{Position}
use Rattle.cf_protocol.specs.Note.{Lists, Reading, Note, Reply, Pub, End, Fails, Put as Accepted, Left}
use Rattle.cf_protocol.specs.Note.{Listed as Listing, PingDue, Close, insufficient}
use Rattle.cf_model.specs.Recovery.{next}
use Rattle.cf_model.specs.Clients.{Client, Mode, Idle, Asking, Live, moved_on, read_to, is_out}
use Rattle.cf_machine.specs.Config.{Config}
use Rattle.cf_machine.specs.Trace.{Item, Subscribed, Published, Resubscribing, Refused, Listed, Closed, Entry}
use Rattle.cf_machine.specs.Event.{Event, Take}
use Rattle.cf_machine.specs.PublicationList.{body_at}
use Rattle.cf_machine.specs.ClientLink.{holds}
use Rattle.cf_machine.specs.World.{World}
use Rattle.cf_machine.specs.IntervalMachine.{allows, happens}
use Rattle.cf_machine.specs.LooseRun.{Happening, Scheduled, Receive, loosely_allows, befalls}

-- so many publications after a position
abbrev pub run_items : Lists → List ℕ → Position → ℕ → List Item
run_items lists c p zero = []
run_items lists c p (suc n) = Published c (next p) (body_at lists c (next p)) ∷ run_items lists c (next p) n

-- a reply, and if it recovered what it brings
abbrev pub reading_items : Lists → List ℕ → Bool → Reading → List Item
reading_items lists c was r =
    Subscribed c was r.recovered (read_to r)
    ∷ (if r.recovered then run_items lists c (record { epoch = r.epoch; offset = r.low }) (r.top - r.low) else [])

abbrev pub reply_items : Lists → List ℕ → ℕ → Bool → Reading → Mode → List Item
reply_items lists c id was r (Idle last) = []
reply_items lists c id was r (Asking k from last) = if id == k then reading_items lists c was r else []
reply_items lists c id was r (Live p) = []

abbrev pub pub_items : Lists → List ℕ → Position → Mode → List Item
pub_items lists c q (Idle last) = []
pub_items lists c q (Asking k from last) = []
pub_items lists c q (Live p) = Published c (moved_on p q) (body_at lists c q) ∷ []

abbrev pub end_items : List ℕ → Mode → List Item
end_items c (Idle last) = []
end_items c (Asking k from last) = []
end_items c (Live p) = Resubscribing c insufficient ∷ []

-- whether the ask of this id is out
abbrev pub asks_under : ℕ → Mode → Bool
asks_under id (Idle last) = false
asks_under id (Asking k from last) = id == k
asks_under id (Live p) = false

abbrev pub error_items : List ℕ → ℕ → ℕ → Mode → List ℕ → List Item
error_items c id code m calls = if asks_under id m || is_out id calls then Refused c code ∷ [] else []

abbrev pub listing_items : List ℕ → ℕ → Position → ℕ → List ℕ → List Item
listing_items c id at count calls = if is_out id calls then Listed c at count ∷ [] else []

-- what the application of a client is told when a note reaches it
abbrev pub items : Lists → Client → Note → List Item
items lists x (Reply c id was r) = reply_items lists c id was r (x.modes c)
items lists x (Pub c q) = pub_items lists c q (x.modes c)
items lists x (End c) = end_items c (x.modes c)
items lists x (Fails c id code) = error_items c id code (x.modes c) x.calls
items lists x (Accepted id) = []
items lists x (Left id) = []
items lists x (Listing c id at low count) = listing_items c id at count x.calls
items lists x PingDue = []
items lists x (Close code) = Closed code ∷ []

abbrev pub first_items : Lists → Client → List Note → List Item
first_items lists x [] = []
first_items lists x (n ∷ ns) = items lists x n

abbrev pub entries : ℕ → List ℕ → List Item → List Entry
entries n x [] = []
entries n x (i ∷ is) = record { at = n; client = x; item = i } ∷ entries n x is

-- what client x is told when the first of these notes reaches it, in event n
abbrev pub told_first : ℕ → List ℕ → World → List Note → List Entry
told_first n x w ns = entries n x (first_items w.broker.lists (w.links x).client ns)

-- what event number n writes: only a take tells something
abbrev pub tells : ℕ → World → Event → List Entry
tells n w (Take x) = told_first n x w (holds (w.links x)).way
tells n w e = []

abbrev pub writes : Config → ℕ → World → Event → List Entry
writes cfg n w e = if allows cfg w e then tells n w e else []

abbrev pub trace : Config → ℕ → World → List Event → List Entry
trace cfg n w [] = []
trace cfg n w (e ∷ es) = writes cfg n w e ++ trace cfg (suc n) (happens cfg w e) es

-- the same for a loose run, when a note that was on its way tells something when it is received
abbrev pub loosely_tells : ℕ → World → Happening → List Entry
loosely_tells n w (Scheduled e) = tells n w e
loosely_tells n w (Receive x) = told_first n x w (w.links x).way
loosely_tells n w h = []

abbrev pub loosely_writes : Config → ℕ → World → Happening → List Entry
loosely_writes cfg n w h = if loosely_allows cfg w h then loosely_tells n w h else []

abbrev pub loose_trace : Config → ℕ → World → List Happening → List Entry
loose_trace cfg n w [] = []
loose_trace cfg n w (h ∷ hs) = loosely_writes cfg n w h ++ loose_trace cfg (suc n) (befalls cfg w h) hs
