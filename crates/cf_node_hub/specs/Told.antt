-- What a node's sessions may say: notes whose publications stand in the logs that the node has seen, and replies that
-- bring none. (This project's own profile.)
use Rattle.std.specs.Prelude.{◌≡◌, ⊤, ℕ, Bool, true, false, List, Option, Some, None}
use Rattle.cf_protocol.specs.Note.{Lists}
use Rattle.cf_protocol.specs.Outgoing.{Answer, Outcome, Past, Subscribed}
use Rattle.cf_protocol.specs.Written.{outgoing_text}
use Rattle.cf_hub.specs.AlikeMoves.{Notes}
use Rattle.cf_hub.specs.Hub.{Node, attached_at}
use Rattle.cf_hub.specs.Session.{Attached}
use Rattle.cf_order.specs.Passes.{PassState}
use Rattle.cf_hub_moves.specs.HubAsides.{SaysAmong}
use Rattle.cf_node_hub.specs.Seen.{IsSound, seen_lists}

-- a node, and what it has seen of the shards' logs
pub record Knowing : Type 0 where
  pub node : Node
  pub seen : List PassState

-- the session, if there is one, says some notes of these lists
abbrev pub SaysSome : (List ℕ → Type 0) → Lists → Option Attached → Type 0
SaysSome A lists None = ⊤
SaysSome A lists (Some a) = (b : Notes) × SaysAmong A lists a.state b

-- each session says notes of what is seen alone
abbrev pub SpeaksOf : (List ℕ → Type 0) → List PassState → Node → Type 0
SpeaksOf A seen node = IsSound seen → (k : ℕ) → SaysSome A (seen_lists seen) (attached_at node k)

-- a reply that a session gives itself: any that brings no publications
abbrev pub is_own : Outcome → Bool
is_own (Subscribed position publications recovered was_recovering) = false
is_own (Past position publications) = false
is_own other = true

-- the text is one
abbrev pub IsReply : List ℕ → Type 0
IsReply text = (id : ℕ) × (o : Outcome) × (is_own o ≡ true) × (text ≡ outgoing_text (Answer id o))
