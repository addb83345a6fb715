-- What a client makes of texts that say no note: nothing. (Centrifugo's client protocol: replies to a connect,
-- presence, and errors.)
use Rattle.std.specs.Prelude.{◌≡◌, ⊤, ℕ, false, None, List, [], ◌∷◌, ◌++◌}
use Rattle.std.specs.List.{AllZip}
use Rattle.cf_protocol.specs.Frame.{IsReplies}
use Rattle.cf_protocol.specs.Note.{Lists, Note}
use Rattle.cf_protocol.specs.Outgoing.{Outgoing}
use Rattle.cf_queue.specs.OutQueue.{Item, Text, Close}
use Rattle.cf_hub.specs.InNotes.{SaysNote}
use Rattle.cf_client.specs.AppItem.{AppItem}
use Rattle.cf_client.specs.ClientCalls.{NoAsk, PassesOver, State, TakesAll, channel_under, reconnected}
use Rattle.cf_model.specs.Clients.{is_out}
use Rattle.cf_hub_moves.specs.Asides.{IsPassedOver}

abbrev pub AllPassed : List Outgoing → Type 0
AllPassed [] = ⊤
AllPassed (o ∷ os) = IsPassedOver o × AllPassed os

-- no ask and no call of the client has this id
pub record IsUnasked (id : ℕ) (s : State) : Type 0 where
  pub asks : NoAsk id s
  pub calls : is_out id s.client.calls ≡ false
  pub out : channel_under id s.out ≡ None

-- what a text that is taken makes of a client, and what its application is told, by the contract of `on_text`
abbrev pub TakesText : List ℕ → State → State → List AppItem → Type 0
TakesText t old new told = (os : List Outgoing) → IsReplies t os → TakesAll os old new told

-- what comes over a connection, one after another; behind a close nothing counts
abbrev pub TakesItems : List Item → State → State → List AppItem → Type 0
TakesItems [] old new told = PassesOver old new told
TakesItems (Text t ∷ is) old new told =
    (mid : State) × (first : List AppItem) × (rest : List AppItem) × TakesText t old mid first
    × TakesItems is mid new rest × (told ≡ first ++ rest)
TakesItems (Close code ∷ is) old new told = (new ≡ reconnected old) × (told ≡ [])

-- the items that say the notes, without those between, make the same of the client
pub record AreEnough (lists : Lists) (notes : List Note) (old new : State) (told : List AppItem) : Type 0 where
  pub kept : List Item
  pub says : AllZip (SaysNote lists) kept notes
  pub takes : TakesItems kept old new told
