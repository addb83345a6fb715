-- Who is there: for each channel, a map from client id to the client's user and the moment of its last enter.
-- Source: Centrifugo, presence; that an entry goes after 60 seconds is this project's own profile.
use Rattle.std.specs.Prelude.{◌≡◌, IsSomeAnd, ℕ, ◌+◌, ◌==◌, List, map, filter, Bool, not, nat_le, refl, if◌then◌else◌}
use Rattle.std.specs.Prelude.{unwrap_or}
use Rattle.std.specs.Coded.{Coded, code_by, coded×, coded_list, coded_ℕ}
use Rattle.std.specs.Ordering.{nat_cmp}
use Rattle.std.specs.Cmp.Lexicographic.{slice_cmp}
use Rattle.std.specs.Str.{bytes_eq}
use Rattle.std.specs.Set.{distinct_count}
use Rattle.std.specs.FinMap as fin

-- a client that is there: its user, and the moment of its last enter in seconds
pub record Seen : Type 0 where
  pub user : List ℕ
  pub at : ℕ

-- the clients that are there in one channel, by the bytes of their ids
abbrev pub Clients : Type 0
Clients = fin.FinMap (slice_cmp nat_cmp) Seen

-- those of each channel that has any, by the bytes of the channels
abbrev pub Channels : Type 0
Channels = fin.FinMap (slice_cmp nat_cmp) Clients

abbrev pub coded_seen : Coded Seen
coded_seen =
    code_by (List ℕ × ℕ) (coded× (coded_list coded_ℕ) coded_ℕ) (λ s. (s.user, s.at))
    (λ p. record { user = p.0; at = p.1 }) (λ _. refl)

abbrev pub coded_clients : Coded Clients
coded_clients = fin.code (coded_list coded_ℕ) coded_seen

abbrev pub coded_channels : Coded Channels
coded_channels = fin.code (coded_list coded_ℕ) coded_clients

-- the clients that are there in a channel
abbrev pub clients_of : Channels → List ℕ → Clients
clients_of p c = unwrap_or (fin.get p c) fin.empty

-- a client is there under this user
abbrev pub IsThere : Clients → (client user : List ℕ) → Type 0
IsThere m client user = IsSomeAnd (fin.get m client) (λ s. s.user ≡ user)

-- a client enters a channel at a moment, again or for the first time
abbrev pub entered : Channels → List ℕ → List ℕ → List ℕ → ℕ → Channels
entered p c client user now = fin.insert p c (fin.insert (clients_of p c) client (record { user = user; at = now }))

-- these clients in a channel; a channel with none is left out
abbrev pub put_at : Channels → List ℕ → Clients → Channels
put_at p c m = if fin.len m == 0 then fin.remove p c else fin.insert p c m

-- a client leaves a channel
abbrev pub left : Channels → List ℕ → List ℕ → Channels
left p c client = put_at p c (fin.remove (clients_of p c) client)

-- how long an entry stands after its last enter, in seconds
abbrev pub entry_seconds : ℕ
entry_seconds = 60

-- a client that was seen so is still there at a moment
abbrev pub stays : ℕ → Seen → Bool
stays now s = not (nat_le (s.at + entry_seconds) now)

-- the clients that are still there at a moment
abbrev pub still : ℕ → Clients → Clients
still now m = fin.from_entries (filter (λ e. stays now e.1) (fin.entries m))

-- the user of each client
abbrev pub users_of : Clients → fin.FinMap (slice_cmp nat_cmp) (List ℕ)
users_of m = fin.from_entries (map (λ e. (e.0, e.1.user)) (fin.entries m))

-- how many different users they are
abbrev pub user_count : Clients → ℕ
user_count m = distinct_count bytes_eq (map (λ s. s.user) (fin.values m))
