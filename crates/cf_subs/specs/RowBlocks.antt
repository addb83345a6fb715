-- The rows' blocks: in the order of adding, and threaded by channel and by session.
use Rattle.std.specs.Prelude.{◌≡◌, ℕ, ◌==◌, List, [], ◌∷◌, ◌++◌, map, filter, cond, Option, Some, None}
use Rattle.cf_subs.specs.declared.blocks.At.{At}
use Rattle.cf_subs.specs.declared.table.Row.{Row}
use Rattle.cf_subs.specs.declared.linked_row.LinkedRow.{LinkedRow}
use Rattle.cf_subs.specs.Held.{Held, found, held}
use Rattle.cf_subs.specs.Rows.{is_of}
use Rattle.cf_subs.specs.Threads.{AreThreaded, nowhere, leads_to, first_of, last_of, at}

abbrev pub channel_of : LinkedRow → ℕ
channel_of s = s.row.channel

abbrev pub session_of : LinkedRow → ℕ
session_of s = s.row.session

abbrev pub rows_of : List (Held LinkedRow) → List Row
rows_of = map (λ h. h.value.row)

-- of each channel, the blocks lead from one to the next in order of adding
abbrev pub AreLinkedByChannel : List (Held LinkedRow) → Type 0
AreLinkedByChannel = AreThreaded channel_of (λ s. s.before_in_channel) (λ s. s.after_in_channel) nowhere

-- and of each session
abbrev pub AreLinkedBySession : List (Held LinkedRow) → Type 0
AreLinkedBySession = AreThreaded session_of (λ s. s.before_in_session) (λ s. s.after_in_session) nowhere

-- what always holds of the blocks
abbrev pub AreLinked : List (Held LinkedRow) → Type 0
AreLinked hs = AreLinkedByChannel hs × AreLinkedBySession hs

abbrev pub before_in_channel : Option At → LinkedRow → LinkedRow
before_in_channel o s = record s { before_in_channel = o }

abbrev pub after_in_channel : Option At → LinkedRow → LinkedRow
after_in_channel o s = record s { after_in_channel = o }

abbrev pub before_in_session : Option At → LinkedRow → LinkedRow
before_in_session o s = record s { before_in_session = o }

abbrev pub after_in_session : Option At → LinkedRow → LinkedRow
after_in_session o s = record s { after_in_session = o }

-- of each number the first block and the last one lie at the same places
abbrev pub SameEnds : (LinkedRow → ℕ) → List (Held LinkedRow) → List (Held LinkedRow) → Type 0
SameEnds key hs ws =
    (k : ℕ) → (first_of key k hs ≡ first_of key k ws) × (last_of key nowhere hs k ≡ last_of key nowhere ws k)

-- the rows are the same, and so are the ends of each list
pub record SameLists (hs ws : List (Held LinkedRow)) : Type 0 where
  pub rows : rows_of hs ≡ rows_of ws
  pub channels : SameEnds channel_of hs ws
  pub sessions : SameEnds session_of hs ws

-- one block more, behind all others
abbrev pub with_block : List (Held LinkedRow) → At → LinkedRow → List (Held LinkedRow)
with_block hs a s = hs ++ held a.ptr s ∷ []

-- the lists are those from before with this block behind all others
abbrev pub LinksIn : List (Held LinkedRow) → List (Held LinkedRow) → At → LinkedRow → Type 0
LinksIn old new a s = SameLists new (with_block old a s)

-- where the row of this channel and this session lies
abbrev pub place_of : ℕ → ℕ → List (Held LinkedRow) → Option At
place_of c s [] = None
place_of c s (h ∷ hs) = cond (is_of c s h.value.row) (Some (at h.at)) (place_of c s hs)

-- the blocks from the one on to which a pointer leads
abbrev pub onward : List (Held LinkedRow) → Option At → List (Held LinkedRow)
onward [] o = []
onward (h ∷ hs) o = cond (leads_to o h.at) (h ∷ hs) (onward hs o)

-- the blocks of the number k
abbrev pub of_number : (LinkedRow → ℕ) → ℕ → List (Held LinkedRow) → List (Held LinkedRow)
of_number key k = filter (λ h. key h.value == k)

-- a pointer, if there is one, leads to a block of the number k
abbrev pub StandsIn : (LinkedRow → ℕ) → List (Held LinkedRow) → ℕ → Option At → Type 0
StandsIn key hs k None = Unit {0}
StandsIn key hs k (Some a) = (s : LinkedRow) × (found hs a.ptr ≡ Some s) × (key s ≡ k)

-- what always holds of a walk over the blocks of a channel, and of a session
abbrev pub IsChannelWalk : List (Held LinkedRow) → ℕ → Option At → Type 0
IsChannelWalk hs k o = AreLinkedByChannel hs × StandsIn channel_of hs k o

abbrev pub IsSessionWalk : List (Held LinkedRow) → ℕ → Option At → Type 0
IsSessionWalk hs k o = AreLinkedBySession hs × StandsIn session_of hs k o

-- the sessions that a walk over a channel has left, and the channels that one over a session has
abbrev pub sessions_onward : List (Held LinkedRow) → ℕ → Option At → List ℕ
sessions_onward hs c o = map (λ h. h.value.row.session) (of_number channel_of c (onward hs o))

abbrev pub channels_onward : List (Held LinkedRow) → ℕ → Option At → List ℕ
channels_onward hs s o = map (λ h. h.value.row.channel) (of_number session_of s (onward hs o))

-- a row's block that leads back to the last ones of its channel and of its session, and on to none
pub record IsUnlinked (hs : List (Held LinkedRow)) (s : LinkedRow) : Type 0 where
  pub channel : s.before_in_channel ≡ last_of channel_of nowhere hs s.row.channel
  pub channel_ends : s.after_in_channel ≡ None
  pub session : s.before_in_session ≡ last_of session_of nowhere hs s.row.session
  pub session_ends : s.after_in_session ≡ None
