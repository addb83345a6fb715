-- Which session of a node follows which channel: a list of rows in order of adding. A channel is its name, a session
-- its number. (Order and limit are this project's own profile.)
use Rattle.std.specs.Prelude.{◌≡◌, ℕ, ◌≤◌, ◌==◌, ◌&&◌, not, Bool, false, if◌then◌else◌, Option, None, List, [], ◌∷◌}
use Rattle.std.specs.Prelude.{◌++◌, length, map, filter, slice_get}
use Rattle.std.specs.List.{list_any}
use Rattle.std.specs.Str.{bytes_eq}
use Rattle.cf_model.specs.Streams.{most_rows}

pub record Follow : Type 0 where
  pub channel : List ℕ
  pub session : ℕ

abbrev pub follow : List ℕ → ℕ → Follow
follow c s = record { channel = c; session = s }

abbrev pub is_of : List ℕ → ℕ → Follow → Bool
is_of c s f = bytes_eq f.channel c && (f.session == s)

-- whether the session follows the channel
abbrev pub follows : List Follow → List ℕ → ℕ → Bool
follows fs c s = list_any (is_of c s) fs

-- the sessions that follow the channel
abbrev pub sessions_of : List Follow → List ℕ → List ℕ
sessions_of fs c = map (λ f. f.session) (filter (λ f. bytes_eq f.channel c) fs)

-- the channels that the session follows
abbrev pub channels_of : List Follow → ℕ → List (List ℕ)
channels_of fs s = map (λ f. f.channel) (filter (λ f. f.session == s) fs)

-- one more, behind all others
abbrev pub with_follow : List Follow → List ℕ → ℕ → List Follow
with_follow fs c s = fs ++ follow c s ∷ []

-- all but the one of this channel and this session
abbrev pub without_follow : List Follow → List ℕ → ℕ → List Follow
without_follow fs c s = filter (λ f. not (is_of c s f)) fs

-- all but those of this session
abbrev pub without_session : List Follow → ℕ → List Follow
without_session fs s = filter (λ f. not (f.session == s)) fs

-- the session behind this one among these
abbrev pub after_in : ℕ → List ℕ → Option ℕ
after_in s [] = None
after_in s (j ∷ js) = if j == s then slice_get js 0 else after_in s js

-- each of these is there once
abbrev pub AreOnce : List Follow → Type 0
AreOnce [] = Unit {0}
AreOnce (f ∷ fs) = (follows fs f.channel f.session ≡ false) × AreOnce fs

-- what always holds of a node's rows
pub record AreFollows (fs : List Follow) : Type 0 where
  pub once : AreOnce fs
  pub few : length fs ≤ most_rows
