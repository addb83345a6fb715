-- What befalls one client at one channel, as the events and a trace tell it. An event says that it asks, that its node
-- reads, or that it stops; an entry says what its application was told.
use Rattle.std.specs.Prelude.{ℕ, suc, ◌==◌, Bool, true, false, if◌then◌else◌, Option, Some, None, List, [], ◌∷◌, ◌++◌}
use Rattle.std.specs.Str.{bytes_eq}
use Rattle.cf_protocol.specs.Position.{Position}
use Rattle.cf_model.specs.Streams.{StreamState}
use Rattle.cf_model.specs.Sessions.{Asked}
use Rattle.cf_machine.specs.Config.{Config}
use Rattle.cf_machine.specs.Event.{Event, Ask, AskFrom, Read, Break, Leave, Restart}
use Rattle.cf_machine.specs.PublicationList.{opened}
use Rattle.cf_machine.specs.Session.{Sub}
use Rattle.cf_machine.specs.World.{World, on_node}
use Rattle.cf_machine.specs.LooseRun.{Happening, Scheduled, SendAsk, SendAskFrom, SendLeave, loosely_allows, befalls}
use Rattle.cf_machine.specs.Trace.{Item, Subscribed as ToldSubscribed, Published as ToldPublished, Resubscribing}
use Rattle.cf_machine.specs.Trace.{Refused, Listed, Closed, Entry}

pub data ClientStep : Type 0 where
  -- it asks: from its last position, or from none
  Asks : (from : Bool) → ClientStep
  -- its node reads the stream for it, and finds it so
  Reads : (found : StreamState) → ClientStep
  -- its application is told that it is subscribed, and of a publication
  Subscribed : (recovered : Bool) → (at : Position) → ClientStep
  Published : (at : Position) → ClientStep
  -- its application is told of an end or a close, or it leaves, breaks or is restarted
  Stops : ClientStep

-- steps that befall one client or one channel alone
abbrev pub only : List ℕ → List ℕ → List ClientStep → List ClientStep
only x y ms = if bytes_eq x y then ms else []

-- what an item says of channel c
abbrev pub item_steps : List ℕ → Item → List ClientStep
item_steps c (ToldSubscribed d was recovered at) = only d c (Subscribed recovered at ∷ [])
item_steps c (ToldPublished d at body) = only d c (Published at ∷ [])
item_steps c (Resubscribing d code) = only d c (Stops ∷ [])
item_steps c (Refused d code) = []
item_steps c (Listed d at count) = []
item_steps c (Closed code) = Stops ∷ []

-- what entries say of client x at channel c
abbrev pub entry_steps : List ℕ → List ℕ → List Entry → List ClientStep
entry_steps x c [] = []
entry_steps x c (e ∷ es) = only x e.client (item_steps c e.item) ++ entry_steps x c es

abbrev pub found_step : Option StreamState → List ClientStep
found_step None = []
found_step (Some s) = Reads s ∷ []

abbrev pub found_steps : Sub → Option StreamState → List ClientStep
found_steps (Asked id since arrived) s = found_step s
found_steps t s = []

-- what an event itself does to client x at channel c
abbrev pub event_steps : List ℕ → List ℕ → World → Event → List ClientStep
event_steps x c w (Ask y d) = only x y (only c d (Asks false ∷ []))
event_steps x c w (AskFrom y d) = only x y (only c d (Asks true ∷ []))
event_steps x c w (Read y d) =
    only x y (only c d (found_steps ((w.links y).session.subs d) ((opened d w.broker).streams d)))
event_steps x c w (Break y) = only x y (Stops ∷ [])
event_steps x c w (Leave y d) = only x y (only c d (Stops ∷ []))
event_steps x c w (Restart n) = if on_node n (w.links x).node then Stops ∷ [] else []
event_steps x c w e = []

abbrev pub own_steps : List ℕ → List ℕ → World → Happening → List ClientStep
own_steps x c w (Scheduled e) = event_steps x c w e
own_steps x c w (SendAsk y d) = only x y (only c d (Asks false ∷ []))
own_steps x c w (SendAskFrom y d) = only x y (only c d (Asks true ∷ []))
own_steps x c w (SendLeave y d) = only x y (only c d (Stops ∷ []))
own_steps x c w h = []

abbrev pub allowed_steps : Config → List ℕ → List ℕ → World → Happening → List ClientStep
allowed_steps cfg x c w h = if loosely_allows cfg w h then own_steps x c w h else []

-- the entries of event n
abbrev pub numbered : ℕ → List Entry → List Entry
numbered n [] = []
numbered n (e ∷ es) = if e.at == n then e ∷ numbered n es else numbered n es

-- what befalls client x at channel c, event by event: what the events do, and then what these entries tell
abbrev pub befell_from : Config → List ℕ → List ℕ → List Entry → ℕ → World → List Happening
    → List (List ClientStep)
befell_from cfg x c t n w [] = []
befell_from cfg x c t n w (h ∷ hs) =
    (allowed_steps cfg x c w h ++ entry_steps x c (numbered n t)) ∷ befell_from cfg x c t (suc n) (befalls cfg w h) hs
