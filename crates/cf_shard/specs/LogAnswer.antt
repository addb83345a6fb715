-- What calls of the broker make of a shard's log, and what they answer: what one thread's broker does at some point
-- of the log, which begins with all that the caller's pass had seen. (This project's own profile.)
use Rattle.std.specs.Prelude.{◌≡◌, ◌≢◌, ◌↔◌, ℕ, ◌+◌, ℤ, Bool, false, List, [], ◌∷◌, ◌++◌, length, Option, Some, None}
use Rattle.std.specs.Prelude.{IsSomeAnd}
use Rattle.std.specs.Option.{option_map, option_and_then}
use mathlib.Core.List.{IsPrefix}
use Rattle.cf_protocol.specs.declared.position.Position.{Position}
use Rattle.cf_protocol.specs.Datum.{Datum, Placed}
use Rattle.cf_protocol.specs.LogEntry.{Entry}
use Rattle.cf_protocol.specs.LogEntry.Entry.{Publish, Trim, Forget, Size}
use Rattle.cf_protocol.specs.Settings.{NamespaceTable}
use Rattle.cf_order.specs.Passes.{PassState}
use Rattle.cf_stream.specs.declared.due.Due.{Due}
use Rattle.cf_stream.specs.ChannelLists.{life_or, repeats_at, stands_at}
use Rattle.cf_stream.specs.LogState.{life_in, opening, publishing, if_stands, due_entries}
use Rattle.cf_stream.specs.PublicationList.{IsPublished as IsPublishedIn, IsRead, IsListed}
use Rattle.cf_model.specs.Streams.{Life}
use Rattle.cf_model.specs.Streams.{last_offset}
use Rattle.cf_stream.specs.declared.answer.Published.{Published}
use Rattle.cf_shard.specs.Shard.{IsFull}
use Rattle.cf_shard.specs.declared.refusal.Refused.{Refused}
use Rattle.cf_shard.specs.declared.refusal.Refused.TheVariants.{AtLastOffset, WrongEpoch, NoEpoch, AtLastCount}

-- the pass has seen a log that begins with all that it had seen, and so many publishes more are its own
pub record Follows (old new : PassState) (own : ℕ) : Type 0 where
  pub begins : IsPrefix old.log new.log
  pub found : new.found ≡ new.log
  pub word : new.word ≡ old.word
  pub looks : new.looks ≡ old.looks
  pub share : new.share ≡ old.share + own

-- a call at some point of the log: all that was seen stands before it, the log after it has the call's entries more,
-- and this holds of its answer
pub record IsCall (seen after : List Entry) (entries : List Entry → List Entry)
    (answer : List Entry → Type 0) : Type 0 where
  pub before : List Entry
  pub begins : IsPrefix seen before
  pub gained : after ≡ before ++ entries before
  pub answered : answer before

-- where the channel's stream stands after the log
abbrev pub IsPosition : NamespaceTable → (log : List Entry) → (channel : List ℕ) → Option Position → Type 0
IsPosition t log c position = position ≡ option_map stands_at (life_in t log c)

-- the answer to a publish between two logs: that of the channel's list as it was, and but for a repeat if the
-- stream stands then
pub record AnswersPublish (t : NamespaceTable) (before after : List Entry) (channel key : List ℕ)
    (p : Published) : Type 0 where
  pub is : IsPublishedIn (life_or (life_in t before channel) p.position.epoch) key p.position p.repeated
  pub stands : p.repeated ≡ false → IsPosition t after channel (Some p.position)

-- an accepted publish: the log ends with its one entry, after the opening if the stream opened; a repeat has none
abbrev pub IsPublished : NamespaceTable → (seen after : List Entry) → (channel key : List ℕ) → Datum
    → Published
    → Type 0
IsPublished t seen after c key d p =
    IsCall seen after (λ log. publishing p.repeated (life_in t log c) c p.position.epoch key d)
    (λ log. AnswersPublish t log after c key p)

-- a read
abbrev pub IsReadAnswer : NamespaceTable → (seen after : List Entry) → (channel : List ℕ)
    → (since : Option Position)
    → Position → (recovered : Bool) → List Placed → Type 0
IsReadAnswer t seen after c since p recovered items =
    IsCall seen after (λ log. opening (life_in t log c) c p.epoch [])
    (λ log. IsRead (life_or (life_in t log c) p.epoch) since p recovered items)

-- a history
abbrev pub IsHistoryAnswer : NamespaceTable → (seen after : List Entry) → (channel : List ℕ)
    → (since : Option Position) → (limit : ℤ) → Position → List Placed → Type 0
IsHistoryAnswer t seen after c since limit p items =
    IsCall seen after (λ log. opening (life_in t log c) c p.epoch [])
    (λ log. IsListed (life_or (life_in t log c) p.epoch) since limit p items)

-- a trim and a forget: one entry if the channel has a stream
abbrev pub IsTrimmed : NamespaceTable → (seen after : List Entry) → (channel : List ℕ) → (count : ℕ)
    → Type 0
IsTrimmed t seen after c n = IsCall seen after (λ log. if_stands (life_in t log c) (Trim c n)) (λ log. Unit {0})

abbrev pub IsForgotten : NamespaceTable → (seen after : List Entry) → (channel : List ℕ) → Type 0
IsForgotten t seen after c = IsCall seen after (λ log. if_stands (life_in t log c) (Forget c)) (λ log. Unit {0})

-- another size for a namespace: one entry
abbrev pub IsSized : (seen after : List Entry) → (name : List ℕ) → (size : ℕ) → Type 0
IsSized seen after name n = IsCall seen after (λ log. Size name n ∷ []) (λ log. Unit {0})

-- a tick: entries of what was due, which are trims to none and forgets
abbrev pub IsTicked : (seen after : List Entry) → Type 0
IsTicked seen after = (due : List (List ℕ × Due)) × IsCall seen after (λ log. due_entries due) (λ log. Unit {0})

-- ---- why a call is refused after a log; want of memory has no reason there

-- the key is none of those that the channel's stream remembers, or there is no stream
abbrev pub IsNew : NamespaceTable → (log : List Entry) → (channel key : List ℕ) → Type 0
IsNew t log c key = option_and_then (repeats_at key) (life_in t log c) ≡ None

-- the channel's stream is at the last offset
abbrev pub IsAtLast : NamespaceTable → (log : List Entry) → (channel : List ℕ) → Type 0
IsAtLast t log c = IsSomeAnd (life_in t log c) (λ l. length l.list ≡ last_offset)

-- the channel has no stream
abbrev pub HasNone : NamespaceTable → (log : List Entry) → (channel : List ℕ) → Type 0
HasNone t log c = life_in t log c ≡ None

-- the position is of another epoch than the channel's stream, or there is none
abbrev pub IsOutside : Option Life → Option Position → Type 0
IsOutside l None = ⊥
IsOutside None (Some p) = Unit {0}
IsOutside (Some l) (Some p) = p.epoch ≢ l.epoch

-- the log has no room for the entries of a call, after the opening of the channel's stream if there is none
abbrev pub HasNoRoom : NamespaceTable → (log : List Entry) → (channel : List ℕ) → (entries : List Entry)
    → Type 0
HasNoRoom t log c entries = IsFull log (opening (life_in t log c) c [] entries)

-- no repeat is refused
pub record RefusesPublish (t : NamespaceTable) (log : List Entry) (c key : List ℕ) (d : Datum)
    (e : Refused) : Type 0 where
  pub is_new : IsNew t log c key
  pub last : (e ≡ AtLastOffset) ↔ IsAtLast t log c
  pub epoch : e ≡ NoEpoch → HasNone t log c
  pub count : e ≡ AtLastCount → HasNoRoom t log c (Publish c key d ∷ [])
  pub other : e ≢ WrongEpoch

pub record RefusesRead (t : NamespaceTable) (log : List Entry) (c : List ℕ) (e : Refused) : Type 0 where
  pub epoch : e ≡ NoEpoch → HasNone t log c
  pub count : e ≡ AtLastCount → HasNoRoom t log c []
  pub others : (e ≢ AtLastOffset) × (e ≢ WrongEpoch)

pub record RefusesHistory (t : NamespaceTable) (log : List Entry) (c : List ℕ) (since : Option Position)
    (e : Refused) : Type 0 where
  pub outside : (e ≡ WrongEpoch) ↔ IsOutside (life_in t log c) since
  pub epoch : e ≡ NoEpoch → HasNone t log c
  pub count : e ≡ AtLastCount → HasNoRoom t log c []
  pub other : e ≢ AtLastOffset

-- a trim or a forget has no room for its entry
abbrev pub RefusesEntry : NamespaceTable → (log : List Entry) → (channel : List ℕ) → Entry → Refused
    → Type 0
RefusesEntry t log c x e = (e ≡ AtLastCount) × IsFull log (if_stands (life_in t log c) x)

-- another size for a namespace has no room for its entry
abbrev pub RefusesSize : (log : List Entry) → (name : List ℕ) → (size : ℕ) → Refused → Type 0
RefusesSize log name n e = (e ≡ AtLastCount) × IsFull log (Size name n ∷ [])
