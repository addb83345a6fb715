-- One client's session on a node of its own, as the definitions of hub, streams and presence have it.
use Rattle.std.specs.Prelude.{ℕ, ◌==◌, ◌||◌, ◌++◌, not, Bool, false, Option, Some, None, is_some, List, [], ◌∷◌}
use Rattle.std.specs.FinMap as fin
use Rattle.cf_protocol.specs.Codes.{close_code_of}
use Rattle.cf_protocol.specs.Settings.{NamespaceTable}
use Rattle.cf_protocol.specs.declared.codes.CloseCode.{CloseCode}
use Rattle.cf_stream.specs.Streams.{StreamMap}
use Rattle.cf_presence.specs.Presence.{Channels}
use Rattle.cf_queue.specs.OutQueue.{Item, Close}
use Rattle.cf_hub.specs.Hub.{Node, attached_at, empty, is_open}
use Rattle.cf_hub.specs.Session.{Attached}

pub record Scene : Type 0 where
  pub hub : Node
  pub streams : StreamMap
  pub people : Channels
  -- the epochs that new streams are given, the next one first
  pub epochs : List (List ℕ)
  -- the session's number in the hub, from its connect on
  pub number : Option ℕ
  -- the code with which it was closed before that
  pub turned_away : Option CloseCode
  -- the channel to which the client published anything new, until its reply
  pub due : Option (List ℕ)
  -- memory was refused by streams or presence, or for a client id
  pub is_short : Bool

-- memory was refused
abbrev pub met_refused_memory : Scene → Bool
met_refused_memory s = s.is_short || not (s.hub.refused == 0)

-- node 0 at its first start
abbrev pub opening : NamespaceTable → List (List ℕ) → Scene
opening t epochs =
    record {
      hub = empty 0 1;
      streams = record { namespaces = t; streams = fin.empty };
      people = fin.empty;
      epochs = epochs;
      number = None;
      turned_away = None;
      due = None;
      is_short = false;
    }

-- the session on the node
abbrev pub member_in : Node → Option ℕ → Option Attached
member_in h None = None
member_in h (Some k) = attached_at h k

abbrev pub member : Scene → Option Attached
member s = member_in s.hub s.number

-- the session is closed
abbrev pub is_over_in : Node → Option ℕ → Option CloseCode → Bool
is_over_in h None away = is_some away
is_over_in h (Some k) away = not (is_open (attached_at h k))

abbrev pub is_over : Scene → Bool
is_over s = is_over_in s.hub s.number s.turned_away

-- ---- what waits for the client

abbrev pub notes_in : Option Attached → List Item
notes_in None = []
notes_in (Some a) = a.state.notes

abbrev pub close_of : Option CloseCode → List Item
close_of None = []
close_of (Some code) = Close (close_code_of code) ∷ []

abbrev pub waits : Scene → List Item
waits s = notes_in (member s) ++ close_of s.turned_away
