-- What a session's script still asks for in a command, and what its worker has in hand in the running server.
-- (This project's own profile.)
use Rattle.std.specs.Prelude.{◌≡◌, ◌||◌, ⊤, ℕ, Bool, true, Option, Some, None, List, [], ◌∷◌}
use Rattle.cf_protocol.specs.Codes.{code_of}
use Rattle.cf_protocol.specs.Datum.{Datum, Placed, Who}
use Rattle.cf_protocol.specs.LogEntry.Entry.{Publish as PublishEntry}
use Rattle.cf_protocol.specs.Note.{Fails, Left, Listed, Lists, Note, Put}
use Rattle.cf_protocol.specs.Outgoing.{Answer as Reply, Outcome, Past}
use Rattle.cf_protocol.specs.Position.{Position}
use Rattle.cf_protocol.specs.declared.codes.ErrorCode.{ErrorCode}
use Rattle.cf_model.specs.Sessions.{is_off}
use Rattle.cf_session.specs.Calls.{Answer, Done, History as ListCall, Leave, Publish as PublishCall, Refused}
use Rattle.cf_session.specs.CommandScripts.{after_lost, after_read, replies, to_finish, to_read}
use Rattle.cf_session.specs.Script.{Ask, Say, Script}
use Rattle.cf_machine.specs.ClientRequest.{ClientRequest, SentCommand, Subscribe, Unsubscribe, Publish, History}
use Rattle.cf_running.specs.Server.{AsksShard, Began, Connection, Errs, Free, HasRead, Says, Server, Site, ToFinish}
use Rattle.cf_running.specs.Server.{ToGiveUp, ToList, ToPublish, ToSay, Work, server_after, can_gain, life_of, lists_of}
use Rattle.cf_running.specs.Server.{ran}
use Rattle.cf_running.specs.Server.{repeats}
use Rattle.cf_running_ties.specs.Reads.{SaysLater}

-- The script goes on with what the worker has in hand; `after` is what it does behind the command. What was read is in
-- hand amid a call, before it is answered; so is the reply to a history (`ListsFor`).
abbrev pub InHand : Lists → Who → (after : Script) → Work → Script → Type 0
InHand lists who after Free script = script ≡ after
InHand lists who after (Began c id since) script = script ≡ to_read id c since after
InHand lists who after (HasRead c r) script = ⊥
InHand lists who after (ToFinish c) script = script ≡ to_finish c after
InHand lists who after (ToGiveUp c id code) script =
    (e : ErrorCode) × (code ≡ code_of e) × (script ≡ Ask (Leave c) (after_lost id e after))
InHand lists who after (ToPublish c id key d) script =
    (d.info ≡ Some who) × (script ≡ Ask (PublishCall c key d.body who) (replies id after))
InHand lists who after (ToList c id limit) script =
    script ≡ Ask (ListCall c id limit None) (replies id after)
InHand lists who after (ToSay c n) script =
    (id : ℕ) × (outcome : Outcome) × SaysLater lists n (Reply id outcome) × (script ≡ Say id outcome after)

abbrev pub HasInHand : Site → Server → ℕ → Who → (after : Script) → Script → Type 0
HasInHand site s k who after script = InHand (lists_of site s) who after (s.connections k).work script

-- the worker of a connection is free, and this command is the first that came there
pub record Hears (x : Connection) (c : SentCommand) : Type 0 where
  pub attached : x.attached ≡ true
  pub free : x.work ≡ Free
  pub rest : List SentCommand
  pub up : x.up ≡ c ∷ rest

-- what may be refused: an unsubscribe only from a channel that the session hasn't got
abbrev pub MayBeRefused : Connection → ClientRequest → Type 0
MayBeRefused x (Subscribe c since) = ⊤
MayBeRefused x (Unsubscribe c) = is_off (x.session.subs c) ≡ true
MayBeRefused x (Publish c key body) = ⊤
MayBeRefused x (History c limit) = ⊤

-- the broker is to be asked, once the command is heard
abbrev pub AsksBroker : ClientRequest → Type 0
AsksBroker (Subscribe c since) = ⊥
AsksBroker (Unsubscribe c) = ⊥
AsksBroker (Publish c key body) = ⊤
AsksBroker (History c limit) = ⊤

-- a publish is answered: it repeats one, or may be accepted
abbrev pub is_published : Site → Server → (channel key : List ℕ) → Datum → Bool
is_published site s c key d = repeats key (life_of site s c) || can_gain site (site.shard_of c) (PublishEntry c key d) s

-- what the script does for each answer of the broker
abbrev pub by_answer : (after : Script) → Work → Option (Answer → Script)
by_answer after (Began c id since) = Some (after_read id c after)
by_answer after (ToPublish c id key d) = Some (replies id after)
by_answer after (ToList c id limit) = Some (replies id after)
by_answer after other = None

-- A history's stream is listed: the reply that brings this is in hand then, amid the call. It is said, or an error
-- takes its place; either is the call's answer.
pub record ListsFor (site : Site) (s : Server) (k : ℕ) (who : Who) (next : Script) (c : List ℕ) (id : ℕ)
    (p : Position) (items : List Placed) : Type 0 where
  pub note : Note
  pub in_hand : ((server_after site (AsksShard k) s).connections k).work ≡ ToSay c note
  pub says : SaysLater (lists_of site s) note (Reply id (Past p items))
  pub said : HasInHand site (ran site s (AsksShard k ∷ Says k ∷ [])) k who next (replies id next Done)
  pub fails : (e : ErrorCode)
      → HasInHand site (ran site s (AsksShard k ∷ Errs k (code_of e) ∷ [])) k who next (replies id next (Refused e))

-- the command that an answer answers
abbrev pub id_of : Note → Option ℕ
id_of (Put id) = Some id
id_of (Left id) = Some id
id_of (Listed c id at low count) = Some id
id_of (Fails c id code) = Some id
id_of other = None
