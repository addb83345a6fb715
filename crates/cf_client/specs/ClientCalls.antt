-- What the calls of a client make of it, and what its application gets, in the words of what a client knows.
-- (Centrifugo's client protocol: subscription states, positions, codes of unsubscribe pushes.)
use Rattle.std.specs.Prelude.{◌≡◌, ℕ, ◌==◌, nat_le, not, Bool, true, false, if◌then◌else◌, Option, Some, None}
use Rattle.std.specs.Prelude.{option_to_list, Result, Err, IfErr, List, [], ◌∷◌, ◌++◌, map, filter, length, ◌⊎◌}
use Rattle.cf_protocol.specs.Names.{with}
use Rattle.cf_protocol.specs.Position.{Position}
use Rattle.cf_protocol.specs.Datum.{Placed}
use Rattle.cf_protocol.specs.Outgoing.{Outcome, Connected, Subscribed, Unsubscribed, Published, Present, Counted}
use Rattle.cf_protocol.specs.Outgoing.{Past, Pinged, Failed, Pushed, Publication, Unsubscribe, Outgoing, Ping, Answer}
use Rattle.cf_protocol.specs.Outgoing.{Push}
use Rattle.cf_model.specs.Clients.{Client, Mode, Idle, Asking, Live, idle, is_idle, new_client, asks, leaves}
use Rattle.cf_model.specs.Clients.{calls_for, reconnects, without}
use Rattle.cf_client.specs.AppItem as item
use Rattle.cf_client.specs.AppItem.{AppItem, published}
use Rattle.cf_client.specs.declared.fault.ClientFault.{ClientFault}
use Rattle.cf_client.specs.declared.fault.ClientFault.TheVariants.{NotNow, AtLastId, Memory}
use Rattle.cf_model.specs.Streams.{last_id}

-- a publish or a history that isn't answered yet
pub record Call : Type 0 where
  pub id : ℕ
  pub channel : List ℕ

pub record State : Type 0 where
  pub connected : Bool
  pub client : Client
  -- the calls whose ids the client has, oldest first
  pub out : List Call

-- ---- what a call makes of it

abbrev pub new_state : State
new_state = record { connected = false; client = new_client; out = [] }

abbrev pub connected : State → State
connected s = record s { connected = true }

abbrev pub asked : List ℕ → Option Position → State → State
asked c from s = record s { client = asks c from s.client }

abbrev pub left : List ℕ → State → State
left c s = record s { client = leaves c s.client }

-- it publishes to the channel, or asks for its history
abbrev pub called : List ℕ → State → State
called c s = record s { client = calls_for s.client; out = s.out ++ record { id = s.client.fresh; channel = c } ∷ [] }

abbrev pub reconnected : State → State
reconnected s = record { connected = false; client = reconnects s.client; out = [] }

-- ---- why a call is refused; None: it isn't

abbrev pub connect_fault : State → Option ClientFault
connect_fault s = if s.connected then Some NotNow else None

-- a call that gives a text other than that of the connect
abbrev pub call_fault : State → Option ClientFault
call_fault s = if not s.connected then Some NotNow else if nat_le s.client.fresh last_id then None else Some AtLastId

abbrev pub ask_fault : List ℕ → State → Option ClientFault
ask_fault c s = if is_idle (s.client.modes c) then call_fault s else Some NotNow

abbrev pub leave_fault : List ℕ → State → Option ClientFault
leave_fault c s = if is_idle (s.client.modes c) then Some NotNow else call_fault s

-- refused just so; or else carried out, unless memory is refused
abbrev pub RefusedBy : {T : Type 0} → Option ClientFault → Result T ClientFault → Type 0
RefusedBy (Some fault) r = r ≡ Err fault
RefusedBy None r = IfErr r (λ fault. fault ≡ Memory)

-- ---- what it takes: the state before and after, and what the application is told

-- the ask of this id is out
abbrev pub asks_under : ℕ → Mode → Bool
asks_under id (Idle last) = false
asks_under id (Asking k from last) = id == k
asks_under id (Live p) = false

-- the channel of the call of this id that is out
abbrev pub channel_under : ℕ → List Call → Option (List ℕ)
channel_under id [] = None
channel_under id (k ∷ ks) = if k.id == id then Some k.channel else channel_under id ks

abbrev pub moves : List ℕ → Mode → State → State
moves c m s = record s { client = record s.client { modes = with s.client.modes c m } }

-- the call of this id is no longer out
abbrev pub answered : ℕ → State → State
answered id s = record s {
  client = record s.client { calls = without id s.client.calls };
  out = filter (λ k. not (k.id == id)) s.out;
}

-- nothing comes of it
abbrev pub PassesOver : State → State → List AppItem → Type 0
PassesOver old new told = (new ≡ old) × (told ≡ [])

-- what the answer makes of the channel that asks under its id, and of what its application is told
pub record AnswersAsk (id : ℕ) (becomes : Mode → Mode) (items : List ℕ → List AppItem) (old new : State)
    (told : List AppItem) : Type 0 where
  pub channel : List ℕ
  pub asks : asks_under id (old.client.modes channel) ≡ true
  pub moves : new ≡ moves channel (becomes (old.client.modes channel)) old
  pub tells : told ≡ items channel

-- no channel asks under this id
abbrev pub NoAsk : ℕ → State → Type 0
NoAsk id s = (c : List ℕ) → asks_under id (s.client.modes c) ≡ false

-- a call is answered if it is out, and nothing else changes
abbrev pub AnswersCall : ℕ → (List ℕ → AppItem) → State → State → List AppItem → Type 0
AnswersCall id tells old new told =
    (new ≡ answered id old) × (told ≡ map tells (option_to_list (channel_under id old.out)))

abbrev pub TakesAnswer : ℕ → Outcome → State → State → List AppItem → Type 0
TakesAnswer id (Subscribed at ps recovered was) old new told =
    AnswersAsk id (λ _. Live at)
    (λ c. item.Subscribed c was recovered at ∷ map (published c at.epoch) ps) old new told
    ⊎ (NoAsk id old × PassesOver old new told)
TakesAnswer id (Failed code) old new told =
    AnswersAsk id idle (λ c. item.Refused c code ∷ []) old new told
    ⊎ (NoAsk id old × AnswersCall id (λ c. item.Refused c code) old new told)
TakesAnswer id Published old new told = (new ≡ answered id old) × (told ≡ [])
TakesAnswer id (Past at ps) old new told = AnswersCall id (λ c. item.Listed c at (length ps)) old new told
TakesAnswer id (Connected client) old new told = PassesOver old new told
TakesAnswer id Unsubscribed old new told = PassesOver old new told
TakesAnswer id (Present users) old new told = PassesOver old new told
TakesAnswer id (Counted clients users) old new told = PassesOver old new told
TakesAnswer id Pinged old new told = PassesOver old new told

-- a live channel passes on every publication, and goes on to its offset
abbrev pub TakesPublication : List ℕ → Placed → Mode → State → State → List AppItem → Type 0
TakesPublication c q (Idle last) old new told = PassesOver old new told
TakesPublication c q (Asking id from last) old new told = PassesOver old new told
TakesPublication c q (Live p) old new told =
    (new ≡ moves c (Live (record { epoch = p.epoch; offset = q.offset })) old)
    × (told ≡ published c p.epoch q ∷ [])

-- after these codes a client asks again
abbrev pub asks_again : ℕ → Bool
asks_again code = nat_le 2500 code

-- a live channel becomes idle, and keeps its position
abbrev pub TakesEnd : List ℕ → ℕ → Mode → State → State → List AppItem → Type 0
TakesEnd c code (Idle last) old new told = PassesOver old new told
TakesEnd c code (Asking id from last) old new told = PassesOver old new told
TakesEnd c code (Live p) old new told =
    (new ≡ moves c (Idle (Some p)) old)
    × (told ≡ (if asks_again code then item.Resubscribing c code ∷ [] else []))

abbrev pub TakesPush : List ℕ → Pushed → State → State → List AppItem → Type 0
TakesPush c (Publication q) old new told = TakesPublication c q (old.client.modes c) old new told
TakesPush c (Unsubscribe code) old new told = TakesEnd c code (old.client.modes c) old new told

abbrev pub Takes : Outgoing → State → State → List AppItem → Type 0
Takes Ping old new told = (new ≡ old) × (told ≡ item.PongDue ∷ [])
Takes (Answer id result) old new told = TakesAnswer id result old new told
Takes (Push c push) old new told = TakesPush c push old new told

-- one after another
abbrev pub TakesAll : List Outgoing → State → State → List AppItem → Type 0
TakesAll [] old new told = PassesOver old new told
TakesAll (o ∷ os) old new told =
    (mid : State) × (first : List AppItem) × (rest : List AppItem) × Takes o old mid first
    × TakesAll os mid new rest
    × (told ≡ first ++ rest)
