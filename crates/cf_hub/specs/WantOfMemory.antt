-- What a call makes of a session for which memory was refused.
use Rattle.std.specs.Prelude.{◌≡◌, ◌⊎◌, ⊤, Bool, true, false, Option, Some, None, List, ◌++◌, ℕ}
use Rattle.cf_model.specs.Sessions.{Subscription, Off, Asked, Ready, On, SessionState, Wording, closes, says}
use Rattle.cf_model.specs.Sessions.{put_sub, is_unfinished, no_memory}

-- the session was open, and is closed with this note
pub record ClosesWith {B N : Type 0} (n : N) (a b : SessionState B N) : Type 0 where
  pub was_open : a.closed ≡ false
  pub closed : b ≡ closes n a

abbrev pub without_buffer : {B N : Type 0} → Wording B N → Subscription B → Subscription B
without_buffer w Off = Off
without_buffer w (Asked id since b) = Asked id since (w.given_up b)
without_buffer w (Ready id was r b) = Ready id was r (w.given_up b)
without_buffer w (On p behind_at) = On p behind_at

-- the subscription waits for its reply, and what came for it is given up
pub record GivesUp {B N : Type 0} (w : Wording B N) (c : List ℕ) (a b : SessionState B N) : Type 0 where
  pub waits : is_unfinished (a.subs c) ≡ true
  pub given_up : b ≡ put_sub c (without_buffer w (a.subs c)) a

-- b is what the move makes of a; or memory was refused for this session, and in place of the move it is closed for
-- want of it, or what came for the channel is given up
abbrev pub Serves : {B N : Type 0} → Bool → Wording B N → List ℕ → (SessionState B N → SessionState B N)
    → SessionState B N → SessionState B N → Type 0
Serves refused w c move a b =
    (b ≡ move a) ⊎ ((refused ≡ true) × (ClosesWith (w.close no_memory) a b ⊎ GivesUp w c a b))

-- b is what the move makes of a; or memory was refused for this session, and in place of the move it is closed for
-- want of it
abbrev pub OrCloses : {B N : Type 0} → Bool → Wording B N → (SessionState B N → SessionState B N)
    → SessionState B N
    → SessionState B N → Type 0
OrCloses refused w move a b = (b ≡ move a) ⊎ ((refused ≡ true) × ClosesWith (w.close no_memory) a b)

-- the first of these notes were said, and then the session was closed for want of memory
pub record ClosesAmid {B N : Type 0} (w : Wording B N) (ns : List N) (a b : SessionState B N) : Type 0 where
  pub first : List N
  pub rest : List N
  pub all : ns ≡ first ++ rest
  pub was_open : (says w first a).closed ≡ false
  pub closed : b ≡ closes (w.close no_memory) (says w first a)

-- all of these notes were said; or memory was refused amid them
abbrev pub SaysAll : {B N : Type 0} → Bool → Wording B N → List N → SessionState B N → SessionState B N
    → Type 0
SaysAll refused w ns a b = (b ≡ says w ns a) ⊎ ((refused ≡ true) × ClosesAmid w ns a b)

-- none and none, or two that are related
abbrev pub Both : {X : Type 0} → (X → X → Type 0) → Option X → Option X → Type 0
Both P None None = ⊤
Both P None (Some b) = ⊥
Both P (Some a) None = ⊥
Both P (Some a) (Some b) = P a b
