-- What a note makes of a client is what the text that is written for it makes of it: the machine's words and the
-- wire's say one thing. A text names no channel in an answer, and no epoch in a push: the client has both of itself.
use Rattle.std.specs.Prelude.{◌≡◌, ℕ, ◌-◌, ◌==◌, ◌||◌, Bool, true, if◌then◌else◌, Some, option_to_list, List, [], ◌∷◌}
use Rattle.std.specs.Prelude.{map, length}
use Rattle.cf_protocol.specs.Position.{Position}
use Rattle.cf_protocol.specs.Note.{Lists, Reading, Note, Reply, Pub, End, Fails, Put, Left, Listed as Listing}
use Rattle.cf_protocol.specs.Note.{PingDue, Close, placed_from, placed_at, outgoing_of, insufficient}
use Rattle.cf_protocol.specs.Outgoing.{Outgoing}
use Rattle.cf_model.specs.Clients.{Client, Mode, Idle, Asking, Live, read_to, is_out, hears}
use Rattle.cf_client.specs.ClientCalls.{State, asks_under, channel_under, Takes}
use Rattle.cf_client.specs.ClientView.{ids_of}
use Rattle.cf_client.specs.AppItem.{AppItem, Subscribed, Resubscribing, Refused, Listed, PongDue, published}
use Rattle.cf_client.specs.OneAnswer.{AreApart}

-- ---- what the application is told when a note reaches its client

abbrev pub reply_items : Lists → List ℕ → ℕ → Bool → Reading → Mode → List AppItem
reply_items lists c id was r (Idle last) = []
reply_items lists c id was r (Asking k from last) =
    if id == k then Subscribed c was r.recovered (read_to r)
    ∷ map (published c r.epoch) (placed_from (lists c r.epoch) r.low (r.top - r.low)) else []
reply_items lists c id was r (Live p) = []

abbrev pub pub_items : Lists → List ℕ → Position → Mode → List AppItem
pub_items lists c q (Idle last) = []
pub_items lists c q (Asking k from last) = []
pub_items lists c q (Live p) = map (published c p.epoch) (option_to_list (placed_at (lists c q.epoch) q.offset))

abbrev pub end_items : List ℕ → Mode → List AppItem
end_items c (Idle last) = []
end_items c (Asking k from last) = []
end_items c (Live p) = Resubscribing c insufficient ∷ []

abbrev pub items_of : Lists → Client → Note → List AppItem
items_of lists x (Reply c id was r) = reply_items lists c id was r (x.modes c)
items_of lists x (Pub c q) = pub_items lists c q (x.modes c)
items_of lists x (End c) = end_items c (x.modes c)
items_of lists x (Fails c id code) =
    if asks_under id (x.modes c) || is_out id x.calls then Refused c code ∷ [] else []
items_of lists x (Put id) = []
items_of lists x (Left id) = []
items_of lists x (Listing c id at low count) =
    if is_out id x.calls then Listed c at (length (placed_from (lists c at.epoch) low count)) ∷ [] else []
items_of lists x PingDue = PongDue ∷ []
items_of lists x (Close code) = []

-- ---- a note answers what was asked for its channel

-- what asks under this id is this channel
abbrev pub AsksAt : ℕ → List ℕ → State → Type 0
AsksAt id d s = (c : List ℕ) → asks_under id (s.client.modes c) ≡ true → c ≡ d

-- the call of this id is for this channel
abbrev pub CallsAt : ℕ → List ℕ → State → Type 0
CallsAt id d s = (c : List ℕ) → channel_under id s.out ≡ Some c → c ≡ d

abbrev pub AnswersOwn : Note → State → Type 0
AnswersOwn (Reply d id was r) s = AsksAt id d s
AnswersOwn (Fails d id code) s = AsksAt id d s × CallsAt id d s
AnswersOwn (Listing d id at low count) s = CallsAt id d s
AnswersOwn (Pub d q) s = Unit {0}
AnswersOwn (End d) s = Unit {0}
AnswersOwn (Put id) s = Unit {0}
AnswersOwn (Left id) s = Unit {0}
AnswersOwn PingDue s = Unit {0}
AnswersOwn (Close code) s = Unit {0}

-- the state after the text is `hears` of the one before, and what is told are the note's items
abbrev pub OneMeaning : Type 0
OneMeaning =
    (lists : Lists) (n : Note) (o : Outgoing) (s t : State) (told : List AppItem) → outgoing_of lists n ≡ Some o
    → AreApart s.client → s.client.calls ≡ ids_of s.out → AnswersOwn n s → Takes o s t told
    → (t.client ≡ hears n s.client) × (told ≡ items_of lists s.client n)
