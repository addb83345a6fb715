-- What an application is told of its subscription: what was read of the stream for its ask, and after it. It is said
-- of sections alone. (Centrifugo, history and recovery; that at most 300 are recovered is this project's own profile.)
use Rattle.std.specs.Prelude.{◌≡◌, ◌<◌, ◌≤◌, ◌↔◌, ◌-◌, IsTrue, ℕ, Bool, true, false, is_some, Option, Some, None, List}
use Rattle.std.specs.Prelude.{[], ◌∷◌, length, slice_get, take}
use Rattle.cf_protocol.specs.Position.{Position}
use Rattle.cf_protocol.specs.Note.{Lists}
use Rattle.cf_model.specs.Clients.{Mode, Idle, Asking, Live}
use Rattle.cf_model.specs.Streams.{Life}
use Rattle.cf_model.specs.Streams.{position_of}
use Rattle.cf_stream.specs.PublicationList.{state_of}
use Rattle.cf_machine.specs.ClientRequest.{Subscribe}
use Rattle.cf_machine.specs.StreamSafety.{StillHeld}
use Rattle.cf_machine.specs.Told.{run_items}
use Rattle.cf_machine.specs.Trace.{Item, Subscribed}
use Rattle.cf_running.specs.Server.{Section, AsksShard, Receives, Sends, ClientCommand, Server, Site, life_of, lists_of}
use Rattle.cf_running.specs.Server.{ran, request_by, start, tells, telling, told}

-- after the first so many of the sections: the server, and how a client stands with a channel
abbrev pub after_first : Site → List Section → ℕ → Server
after_first site sections n = ran site start (take n sections)

abbrev pub mode_after : Site → List Section → (client channel : List ℕ) → ℕ → Mode
mode_after site sections x c n = ((after_first site sections n).clients x).modes c

-- the client waits for the answer to its command of this id, which asked from there
abbrev pub IsOut : ℕ → Option Position → Mode → Type 0
IsOut id since (Idle last) = ⊥
IsOut id since (Asking k from last) = (k ≡ id) × (from ≡ since)
IsOut id since (Live at) = ⊥

-- all that was published above the position from which the client asked, if it recovered
abbrev pub missed : Lists → List ℕ → Bool → Option Position → Position → List Item
missed lists c true (Some p) at = run_items lists c p (at.offset - p.offset)
missed lists c true None at = []
missed lists c false since at = []

-- That client x is told of channel c that it is subscribed, as the item of this number, is what was read for its ask.
pub record IsWhatWasRead (site : Site) (sections : List Section) (number : ℕ) (x c : List ℕ)
    (was_recovering recovered : Bool) (at : Position) : Type 0 where
  -- a section is the client's ask, from this position, or from none
  pub asked : ℕ
  pub command : ClientCommand
  pub since : Option Position
  pub sent : slice_get sections asked ≡ Some (Sends x command)
  pub request : request_by ((after_first site sections asked).clients x) command ≡ Subscribe c since
  -- a later one tells the item, first of all that it tells; and what follows there is all that was missed
  pub told_by : ℕ
  pub receives : slice_get sections told_by ≡ Some (Receives x)
  pub first : length (told site start (take told_by sections)) ≡ number
  pub brings : tells site (Receives x) (after_first site sections told_by)
      ≡ telling x (Subscribed c was_recovering recovered at
      ∷ missed (lists_of site (after_first site sections told_by)) c recovered since at)
  -- all the while between it is this ask that the client waits for
  pub id : ℕ
  pub out : (n : ℕ) → asked < n → n ≤ told_by → IsOut id since (mode_after site sections x c n)
  -- in between its connection asked the shard, whose stream of the channel then was this one
  pub read : ℕ
  pub connection : ℕ
  pub life : Life
  pub after : asked < read
  pub before : read < told_by
  pub asks : slice_get sections read ≡ Some (AsksShard connection)
  pub its_own : (after_first site sections read).connection_of x ≡ Some connection
  pub stood : life_of site (after_first site sections read) c ≡ Some life
  -- What is told is whether it asked from a position, where that stream stood, and whether that stream was of the
  -- position's epoch and held all above it, 300 at most.
  pub from : was_recovering ≡ is_some since
  pub position : at ≡ position_of (state_of life)
  pub exact : IsTrue recovered ↔ StillHeld since (state_of life)
