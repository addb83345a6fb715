-- How many subscriptions a session has, and how many all sessions of a node have: by the channels that were asked
-- for, and by the numbers of the sessions that there are.
use Rattle.std.specs.Prelude.{◌≡◌, ◌↔◌, ◌<◌, ◌≤◌, ℕ, suc, true, false, if◌then◌else◌, is_some, List, [], ◌∷◌, length}
use Rattle.std.specs.Prelude.{sum_by}
use Rattle.cf_protocol.specs.Names.{is_among}
use Rattle.cf_protocol.specs.Position.{Position}
use Rattle.cf_subscribers.specs.Follows.{AreFollows, channels_of, follows}
use Rattle.cf_hub.specs.Hub.{IsBounded, Node, attached_at, is_in, sub_at}
use Rattle.cf_model.specs.Streams.{most_sessions}
use Rattle.cf_hub.specs.Rows.{Agrees}
use Rattle.cf_model.specs.Sessions.{Subscription, is_off}

-- how many of these channels are not off
abbrev pub count_on : {B : Type 0} → (List ℕ → Subscription B) → List (List ℕ) → ℕ
count_on subs [] = 0
count_on subs (c ∷ cs) = if is_off (subs c) then count_on subs cs else suc (count_on subs cs)

-- each of these names, each of these numbers is there once
abbrev pub AreNamesOnce : List (List ℕ) → Type 0
AreNamesOnce [] = Unit {0}
AreNamesOnce (c ∷ cs) = (is_among c cs ≡ false) × AreNamesOnce cs

abbrev pub AreNumbersOnce : List ℕ → Type 0
AreNumbersOnce [] = Unit {0}
AreNumbersOnce (k ∷ ks) = (is_in k ks ≡ false) × AreNumbersOnce ks

-- what always holds of a hub
pub record IsHub (h : Node) : Type 0 where
  pub rows : AreFollows h.rows
  pub agrees : Agrees (attached_at h) h.rows

-- a session whose subscriptions are off where these are, and that was asked for these channels at most
abbrev pub CountsSession : Type 0
CountsSession =
    (h : Node) (k : ℕ) (subs : List ℕ → Subscription (List Position)) (asked : List (List ℕ))
    → IsHub h → ((c : List ℕ) → is_off (sub_at h k c) ≡ is_off (subs c))
    → AreNamesOnce asked → ((c : List ℕ) → is_off (subs c) ≡ false → is_among c asked ≡ true)
    → length (channels_of h.rows k) ≡ count_on subs asked

-- these are all sessions that follow a channel
abbrev pub CountsAll : Type 0
CountsAll =
    (h : Node) (numbers : List ℕ)
    → IsHub h → AreNumbersOnce numbers
    → ((c : List ℕ) (k : ℕ) → follows h.rows c k ≡ true → is_in k numbers ≡ true)
    → length h.rows ≡ sum_by (λ k. length (channels_of h.rows k)) numbers

-- these are the numbers of all sessions
abbrev pub CountsSessions : Type 0
CountsSessions =
    (h : Node) (numbers : List ℕ)
    → IsBounded (attached_at h) → AreNumbersOnce numbers
    → ((k : ℕ) → is_some (attached_at h k) ≡ is_in k numbers)
    → ((k : ℕ) → k < most_sessions → is_some (attached_at h k) ≡ true) ↔ (most_sessions ≤ length numbers)
