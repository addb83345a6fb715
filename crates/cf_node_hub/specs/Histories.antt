-- The reply to a history, which says what its channel's shard answered. (This project's own profile.)
use Rattle.std.specs.Prelude.{◌≡◌, ℕ, ℤ, List, Option}
use Rattle.cf_protocol.specs.LogEntry.{Entry}
use Rattle.cf_protocol.specs.Outgoing.{Answer, Past}
use Rattle.cf_protocol.specs.Position.{Position}
use Rattle.cf_protocol.specs.Regular.{IsCode}
use Rattle.cf_protocol.specs.Settings.{NamespaceTable}
use Rattle.cf_protocol.specs.Written.{outgoing_text}
use Rattle.cf_stream.specs.declared.answer.History.{History}
use Rattle.cf_shard.specs.LogAnswer.{IsHistoryAnswer}

-- this was answered to a history of the channel, which has the log then
pub record IsListedIn (t : NamespaceTable) (log : List Entry) (channel : List ℕ) (h : History) : Type 0 where
  pub since : Option Position
  pub limit : ℤ
  pub seen : List Entry
  pub answered : IsHistoryAnswer t seen log channel since limit h.position h.publications.items

-- the text is the reply to a command of a history, and brings what was answered
pub record RepliesHistory (t : NamespaceTable) (log : List Entry) (channel text : List ℕ) : Type 0 where
  pub id : ℕ
  pub is_code : IsCode id
  pub history : History
  pub listed : IsListedIn t log channel history
  pub says : text ≡ outgoing_text (Answer id (Past history.position history.publications.items))

-- the text is such a reply wherever this was answered
abbrev pub SaysHistory : History → List ℕ → Type 0
SaysHistory h text =
    (t : NamespaceTable) (log : List Entry) (channel : List ℕ) → IsListedIn t log channel h
    → RepliesHistory t log channel text
