-- A subscription that has begun, and the answer of the read that was made for it. (This project's own profile.)
use Rattle.std.specs.Prelude.{◌≡◌, ℕ, List, Option, Some}
use Rattle.cf_protocol.specs.LogEntry.{Entry}
use Rattle.cf_protocol.specs.Position.{Position}
use Rattle.cf_protocol.specs.Settings.{NamespaceTable}
use Rattle.cf_model.specs.Sessions.{Subscription}
use Rattle.cf_stream.specs.declared.answer.Recovery.{Recovery}
use Rattle.cf_hub.specs.Asking.{asked_of}
use Rattle.cf_hub.specs.Hub.{Begins}
use Rattle.cf_hub.specs.Wordings.{Held}
use Rattle.cf_shard.specs.LogAnswer.{IsReadAnswer}
use Rattle.cf_node_hub.specs.Seen.{log_at}
use Rattle.cf_node_hub.specs.Told.{Knowing}

-- which session it is of, and which channel; from where it asked; and what its node had seen of the channel's shard as
-- it began
pub record Ask : Type 0 where
  pub session : ℕ
  pub channel : List ℕ
  pub since : Option Position
  pub seen : List Entry

-- what was read for it, at some point of the log that has all that was seen as it began
abbrev pub Answers : NamespaceTable → Ask → (after : List Entry) → Recovery → Type 0
Answers t a after r = IsReadAnswer t a.seen after a.channel a.since r.position r.recovered r.publications.items

-- the session asks from there, and the stream was not read yet
abbrev pub IsAskedFrom : Option Position → Subscription Held → Type 0
IsAskedFrom since s = asked_of s ≡ Some (record { since = since })

-- session k has begun it
pub record IsBegun (a : Ask) (k : ℕ) (c : List ℕ) (id : ℕ) (since : Option Position) (old new : Knowing) : Type 0 where
  pub begins : Begins k c id since old.node new.node
  pub is : a ≡ record { session = k; channel = c; since = since; seen = log_at old.seen c }
