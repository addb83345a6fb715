-- A session as contracts see it: its state, and beside it whose it is and when it was pinged.
use Rattle.std.specs.Prelude.{◌-◌, ◌&&◌, nat_le, ℕ, Bool, true, false, if◌then◌else◌, List, map, string_bytes, Box}
use Rattle.std.specs.Map.{lookup}
use Rattle.std.specs.Str.{bytes_eq}
use Rattle.std.specs.declared.alloc.Global.{Global}
use Rattle.std.specs.declared.string.String.{String}
use Rattle.cf_queue.specs.OutQueue.{Item, OutQueue, waiting}
use Rattle.cf_model.specs.Sessions.{SessionState, Wording, closes_now, push, no_pong}
use Rattle.cf_hub.specs.Subscriptions.{in_box, sub_of}
use Rattle.cf_hub.specs.Wordings.{Held}
use Rattle.cf_hub.specs.declared.session.AttachedSession.{AttachedSession}
use Rattle.cf_hub.specs.declared.subscription.Progress.{Progress}

-- the client's id and user; the moment of the last ping, or of the attach, in seconds; and whether that ping has no
-- answer yet
pub record Badge : Type 0 where
  pub client : List ℕ
  pub user : List ℕ
  pub pinged : ℕ
  pub awaits_pong : Bool

pub record Shown : Type 0 where
  pub subs : List (String Global × Box Progress Global)
  pub queue : OutQueue
  pub badge : Badge

abbrev pub badge_of : AttachedSession → Badge
badge_of s = record {
  client = string_bytes s.client;
  user = string_bytes s.user;
  pinged = s.pinged;
  awaits_pong = s.awaits_pong;
}

abbrev pub shown : AttachedSession → Shown
shown s = record { subs = s.subscriptions.entries; queue = s.queue; badge = badge_of s }

abbrev pub state_shown : Shown → SessionState Held Item
state_shown s =
    record {
      subs = λ c. sub_of (in_box (lookup (λ k. bytes_eq c (string_bytes k)) s.subs));
      notes = waiting s.queue;
      closed = s.queue.closed;
    }

abbrev pub state_of : AttachedSession → SessionState Held Item
state_of s = state_shown (shown s)

-- an attached session: whose it is, and its state
pub record Attached : Type 0 where
  pub badge : Badge
  pub state : SessionState Held Item

abbrev pub attached_shown : Shown → Attached
attached_shown s = record { badge = s.badge; state = state_shown s }

abbrev pub attached_of : AttachedSession → Attached
attached_of s = attached_shown (shown s)

abbrev pub shown_all : List (ℕ × AttachedSession) → List (ℕ × Shown)
shown_all es = map (λ e. (e.0, shown e.1)) es

-- ---- pings (Centrifugo's client protocol; both times are this project's own profile)

-- a ping waits for its answer for 8 seconds or more
abbrev pub is_unanswered : ℕ → Badge → Bool
is_unanswered now b = b.awaits_pong && nat_le 8 (now - b.pinged)

-- the attach or the last ping was 25 seconds ago or more
abbrev pub is_ping_due : ℕ → Badge → Bool
is_ping_due now b = nat_le 25 (now - b.pinged)

abbrev pub ticks : {B N : Type 0} → Wording B N → ℕ → Badge → SessionState B N → SessionState B N
ticks w now b s =
    if is_unanswered now b then closes_now (w.close no_pong) s else if is_ping_due now b then push w w.ping s else s

abbrev pub ticked : ℕ → Badge → Badge
ticked now b =
    if is_unanswered now b then b else if is_ping_due now b then record b { pinged = now; awaits_pong = true } else b

abbrev pub ponged : Badge → Badge
ponged b = record b { awaits_pong = false }

abbrev pub badge_ponged : Attached → Attached
badge_ponged a = record a { badge = ponged a.badge }
