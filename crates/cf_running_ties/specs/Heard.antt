-- What the commands of a text bring. (Centrifugo's client protocol: commands and their ids; the data is this
-- project's own profile.)
use Rattle.std.specs.Prelude.{⊤, ℕ, List}
use Rattle.std.specs.List.{AllByRecursion}
use Rattle.cf_protocol.specs.Note.{Fails, Left, Lists, Put}
use Rattle.cf_protocol.specs.Outgoing.{Answer, Failed, Published, Unsubscribed}
use Rattle.cf_protocol.specs.Regular.{IsBody, IsCode}
use Rattle.cf_protocol.specs.Request.{Body, Command, Data, Absent, TooDeep, Request, Pong, Connect, Subscribe}
use Rattle.cf_protocol.specs.Request.{Unsubscribe, Publish, Presence, PresenceStats, History, Ping, Send, Other}
use Rattle.cf_protocol.specs.Written.{outgoing_text}
use Rattle.cf_hub.specs.InNotes.{IsSaid}

-- the data can be read back, if there is some
abbrev pub IsReadBack : Data → Type 0
IsReadBack Absent = ⊤
IsReadBack TooDeep = ⊤
IsReadBack (Body b) = IsBody b

-- a command that is answered has an id, and what it publishes can be read back
abbrev pub IsHeardAs : ℕ → Request → Type 0
IsHeardAs id Pong = ⊤
IsHeardAs id Send = ⊤
IsHeardAs id (Publish channel key body) = IsCode id × IsReadBack body
IsHeardAs id (Connect token) = IsCode id
IsHeardAs id (Subscribe channel since) = IsCode id
IsHeardAs id (Unsubscribe channel) = IsCode id
IsHeardAs id (Presence channel) = IsCode id
IsHeardAs id (PresenceStats channel) = IsCode id
IsHeardAs id (History channel limit since reverse) = IsCode id
IsHeardAs id Ping = IsCode id
IsHeardAs id Other = IsCode id

abbrev pub AreHeard : List Command → Type 0
AreHeard = AllByRecursion (λ k. IsHeardAs k.id k.request)

-- the replies that bring nothing say their notes
pub record SayTheirNotes (lists : Lists) (c : List ℕ) (id code : ℕ) : Type 0 where
  pub published : IsSaid lists (outgoing_text (Answer id Published)) (Put id)
  pub left : IsSaid lists (outgoing_text (Answer id Unsubscribed)) (Left id)
  pub failed : IsSaid lists (outgoing_text (Answer id (Failed code))) (Fails c id code)
