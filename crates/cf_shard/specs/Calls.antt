-- What calls make of a lent shard, why they are refused, and what stays as it was. (This project's own profile.)
use Rattle.std.specs.Prelude.{◌≡◌, ◌≢◌, ◌↔◌, ◌++◌, ℕ, true, false, List, [], Option, Some, None, Result, Ok, IfErr}
use Rattle.std.specs.Prelude.{IsErrOf}
use Rattle.std.specs.FinMap as fin
use Rattle.std.specs.Option.{option_map}
use Rattle.cf_protocol.specs.declared.position.Position.{Position}
use Rattle.cf_protocol.specs.Datum.{Datum}
use Rattle.cf_protocol.specs.Settings.{NamespaceTable}
use Rattle.cf_order.specs.Passes.{PassState}
use Rattle.cf_presence.specs.Presence.{clients_of, still}
use Rattle.cf_stream.specs.declared.answer.Published.{Published}
use Rattle.cf_stream.specs.ChannelLists.{PublishesAt, StandsAt}
use Rattle.cf_stream.specs.Stream.{IsAtLast, trimmed}
use Rattle.cf_stream.specs.Streams.{IsOfAnother, after_tick, put_at, repeat_at, seconds_at, stream_of}
use Rattle.cf_shard.specs.Shard.{Draw, DrawsFor, FindsNoEpoch, IsFull, IsResized, IsStateOf, Lent}
use Rattle.cf_shard.specs.Shard.{streams_after_publish}
use Rattle.cf_shard.specs.Shard.{after_use}
use Rattle.cf_shard.specs.LogAnswer.{Follows}
use Rattle.cf_shard.specs.ShardLog.{entries_of_forget, entries_of_publish, entries_of_size, entries_of_tick}
use Rattle.cf_shard.specs.ShardLog.{entries_of_trim, entries_of_use}
use Rattle.cf_shard.specs.declared.refusal.Refused.{Refused}
use Rattle.cf_shard.specs.declared.refusal.Refused.TheVariants.{AtLastOffset, WrongEpoch, NoEpoch, AtLastCount}

-- ---- `makes`: streams, log and epochs after a call that succeeds

-- a publish with this answer: the channel's stream is given the datum under the key; if it opens, an epoch was drawn
pub record HasPublished {E : Type 0} (draws : Draw E) (channel key : List ℕ) (d : Datum) (now : ℕ)
    (old new : Lent E)
    (p : Published) : Type 0 where
  pub streams : new.streams ≡ streams_after_publish old.streams channel p.position.epoch key d now
  pub log : new.log ≡ old.log ++ entries_of_publish p.repeated old.streams channel p.position.epoch key d
  pub drawn : DrawsFor draws channel p.position.epoch old new

-- a read or a history with this position: the channel's stream is used; if it opens, an epoch was drawn
pub record HasUsed {E : Type 0} (draws : Draw E) (channel : List ℕ) (now : ℕ) (old new : Lent E)
    (p : Position) : Type 0 where
  pub streams : new.streams ≡ after_use old.streams channel p.epoch now
  pub log : new.log ≡ old.log ++ entries_of_use old.streams channel p.epoch
  pub drawn : DrawsFor draws channel p.epoch old new

-- a trim: the channel's stream, if it has one, keeps so many of the newest
pub record HasTrimmed {E : Type 0} (channel : List ℕ) (count : ℕ) (old new : Lent E) : Type 0 where
  pub streams : new.streams ≡ put_at old.streams channel (option_map (trimmed count) (stream_of old.streams channel))
  pub log : new.log ≡ old.log ++ entries_of_trim old.streams channel count
  pub undrawn : new.epochs ≡ old.epochs

-- a forget: the channel has no stream
pub record HasForgotten {E : Type 0} (channel : List ℕ) (old new : Lent E) : Type 0 where
  pub streams : new.streams ≡ put_at old.streams channel None
  pub log : new.log ≡ old.log ++ entries_of_forget old.streams channel
  pub undrawn : new.epochs ≡ old.epochs

-- another size for a namespace: its streams are held to it
pub record HasSized {E : Type 0} (name : List ℕ) (size : ℕ) (old new : Lent E) : Type 0 where
  pub streams : IsResized name size old.streams new.streams
  pub log : new.log ≡ old.log ++ entries_of_size name size
  pub undrawn : new.epochs ≡ old.epochs

-- a tick: each channel's stream is as the moment leaves it, and so are the clients that are there in each channel
pub record HasTicked {E : Type 0} (t : NamespaceTable) (now : ℕ) (old new : Lent E) : Type 0 where
  pub streams : (q : List ℕ) → stream_of new.streams q ≡ after_tick now (seconds_at t q) (stream_of old.streams q)
  pub log : new.log ≡ old.log ++ entries_of_tick old.streams now
  pub undrawn : new.epochs ≡ old.epochs
  pub presence : (q : List ℕ) → clients_of new.presence q ≡ still now (clients_of old.presence q)
  pub nowhere_none : (q : List ℕ) → fin.get new.presence q ≢ Some fin.empty

-- ---- `answer`: what is answered off the lent streams

-- a publish: the answer is that of the channel's list, and if it is no repeat, the stream then stands there
pub record AnswersPublishOn {E : Type 0} (channel key : List ℕ) (old new : Lent E) (p : Published) : Type 0 where
  pub is : PublishesAt old.streams channel key p.position p.repeated
  pub stands : p.repeated ≡ false → StandsAt new.streams channel (Some p.position)

-- ---- `refusals`: when each is given, and which is never

-- of a publish: a repeat has none; the last offset exactly if the stream is there; no epoch only if no stream
-- stood and none was drawn; the last count only if the log has no room; never a wrong epoch
pub record RefusalsOfPublish {E : Type 0} (draws : Draw E) (channel key : List ℕ) (d : Datum) (old new : Lent E)
    (result : Result Published Refused) : Type 0 where
  pub repeat : (p : Position) → repeat_at (stream_of old.streams channel) key ≡ Some p
      → result ≡ Ok (record { position = p; repeated = true })
  pub last : IsErrOf result AtLastOffset ↔ IsAtLast (stream_of old.streams channel) key
  pub no_epoch : IsErrOf result NoEpoch → FindsNoEpoch draws channel old new
  pub count : IsErrOf result AtLastCount → IsFull old.log (entries_of_publish false old.streams channel [] key d)
  pub never : IfErr result (λ e. e ≢ WrongEpoch)

-- of a read: no epoch and the last count as for a publish; never the last offset, never a wrong epoch
pub record RefusalsOfRead {E X : Type 0} (draws : Draw E) (channel : List ℕ) (old new : Lent E)
    (result : Result X Refused) : Type 0 where
  pub no_epoch : IsErrOf result NoEpoch → FindsNoEpoch draws channel old new
  pub count : IsErrOf result AtLastCount → IsFull old.log (entries_of_use old.streams channel [])
  pub never : IfErr result (λ e. (e ≢ AtLastOffset) × (e ≢ WrongEpoch))

-- of a history: a wrong epoch exactly if the position is of another epoch, or there is no stream for it; no epoch
-- and the last count as for a publish; never the last offset
pub record RefusalsOfHistory {E X : Type 0} (draws : Draw E) (channel : List ℕ) (since : Option Position)
    (old new : Lent E) (result : Result X Refused) : Type 0 where
  pub wrong_epoch : IsErrOf result WrongEpoch ↔ IsOfAnother (stream_of old.streams channel) since
  pub no_epoch : IsErrOf result NoEpoch → FindsNoEpoch draws channel old new
  pub count : IsErrOf result AtLastCount → IsFull old.log (entries_of_use old.streams channel [])
  pub never : IfErr result (λ e. e ≢ AtLastOffset)

-- ---- `err`: what a refused call leaves as it was

-- the streams and the log; and the epochs, unless it is refused as none was drawn
pub record Leaves {E : Type 0} (old new : Lent E) (e : Refused) : Type 0 where
  pub streams : new.streams ≡ old.streams
  pub log : new.log ≡ old.log
  pub undrawn : e ≢ NoEpoch → new.epochs ≡ old.epochs

-- a publish leaves the links too, and the pass has seen the log and gained nothing
pub record LeavesAll {E L : Type 0} (old new : Lent E) (before after : L) (p q : PassState) (e : Refused) : Type 0 where
  pub lent : Leaves old new e
  pub links : after ≡ before
  pub seen : Follows p q 0

-- ---- `stays`: what holds whatever is answered

-- presence is as it was, the pass has the whole log, and the streams were what the log leaves
pub record Stays {E : Type 0} (t : NamespaceTable) (old new : Lent E) (pass : PassState) : Type 0 where
  pub presence : new.presence ≡ old.presence
  pub whole : pass.log ≡ new.log
  pub state : IsStateOf t old
