-- What each line of a schedule says. (This project's own format.)
-- A line ends at a line feed or at the end of the input; its bytes are those before the line feed.
use Rattle.std.specs.Prelude.{◌≡◌, ◌≢◌, ◌⊎◌, ℕ, ◌^◌, ◌-◌, ◌<◌, ◌≤◌, ℤ, pos, neg_ℤ, List, [], ◌∷◌, ◌++◌, codes}
use Rattle.std.specs.Fmt.{decimal}
use Rattle.cf_json.specs.Grammar.{Tree, depth}
use Rattle.cf_json.specs.Spans.{Span, Document}
use Rattle.cf_json.specs.Compact.{compact_text}
use Rattle.cf_protocol.specs.Epoch.{IsEpoch}
use Rattle.cf_protocol.specs.Settings.{largest_size}
use Rattle.cf_schedule.specs.Word.{IsClientName, IsChannelName, IsKey, IsNamespaceName}
use Rattle.cf_machine.specs.Event.{Event, Epoch, Connect, Ask, AskFrom, Read, Finish, Publish, PublishBy, Deliver}
use Rattle.cf_machine.specs.Event.{Take, Break, Leave, Trim, Forget, BrokerRestart, SetSize, Restart, Check}
use Rattle.cf_machine.specs.Event.{ListHistory}

-- ---- words

-- words separated by one space
abbrev pub spaced : List (List ℕ) → List ℕ
spaced [] = []
spaced (w ∷ []) = w
spaced (w ∷ v ∷ ws) = w ++ 32 ∷ spaced (v ∷ ws)

-- an epoch that a line names: 1 to 32 letters and digits
abbrev pub IsEpochWord : List ℕ → Type 0
IsEpochWord e = (e ≢ []) × IsEpoch e

-- the greatest number of a publication, and the most publications that a trim leaves: as many as a stream may hold
abbrev pub last_number : ℕ
last_number = 2 ^ 64 - 1

abbrev pub most_left : ℕ
most_left = largest_size

-- A limit is a whole number of 32 bits, perhaps with a minus sign. A number is written without leading zeros.
abbrev pub IsLimit : List ℕ → ℤ → Type 0
IsLimit s limit =
    (n : ℕ)
    × (((s ≡ decimal n) × (limit ≡ pos n) × (n < 2 ^ 31))
    ⊎ ((s ≡ 45 ∷ decimal n) × (limit ≡ neg_ℤ (pos n)) × (n ≤ 2 ^ 31)))

-- how deep the arrays and objects of a datum may nest
abbrev pub max_data_depth : ℕ
max_data_depth = 60

-- A datum is one JSON value, with white space round it, of which the compact text is kept.
abbrev pub IsData : List ℕ → List ℕ → Type 0
IsData s body =
    (t : Tree) × (at : Span) × Document s t at × (depth t ≤ max_data_depth) × (body ≡ compact_text t)

-- ---- lines

-- The line says this event, in a schedule over so many nodes. A publish that has no key has the empty one.
abbrev pub Says : ℕ → List ℕ → Event → Type 0
Says nodes line (Epoch e) = IsEpochWord e × (line ≡ spaced (codes "epoch" ∷ e ∷ []))
Says nodes line (Connect x n) =
    IsClientName x × (n < nodes) × (line ≡ spaced (codes "connect" ∷ x ∷ decimal n ∷ []))
Says nodes line (Ask x c) = IsClientName x × IsChannelName c × (line ≡ spaced (codes "ask" ∷ x ∷ c ∷ []))
Says nodes line (AskFrom x c) =
    IsClientName x × IsChannelName c × (line ≡ spaced (codes "askfrom" ∷ x ∷ c ∷ []))
Says nodes line (Read x c) = IsClientName x × IsChannelName c × (line ≡ spaced (codes "read" ∷ x ∷ c ∷ []))
Says nodes line (Finish x c) =
    IsClientName x × IsChannelName c × (line ≡ spaced (codes "finish" ∷ x ∷ c ∷ []))
Says nodes line (Publish c [] body) =
    IsChannelName c × (s : List ℕ) × IsData s body × (line ≡ spaced (codes "publish" ∷ c ∷ s ∷ []))
Says nodes line (Publish c key body) =
    IsChannelName c × IsKey key × (s : List ℕ) × IsData s body
    × (line ≡ spaced (codes "publishkey" ∷ c ∷ key ∷ s ∷ []))
Says nodes line (PublishBy x c [] body) =
    IsClientName x × IsChannelName c × (s : List ℕ) × IsData s body
    × (line ≡ spaced (codes "put" ∷ x ∷ c ∷ s ∷ []))
Says nodes line (PublishBy x c key body) =
    IsClientName x × IsChannelName c × IsKey key × (s : List ℕ) × IsData s body
    × (line ≡ spaced (codes "putkey" ∷ x ∷ c ∷ key ∷ s ∷ []))
Says nodes line (Deliver n i) =
    (n < nodes) × (i ≤ last_number) × (line ≡ spaced (codes "deliver" ∷ decimal n ∷ decimal i ∷ []))
Says nodes line (Take x) = IsClientName x × (line ≡ spaced (codes "take" ∷ x ∷ []))
Says nodes line (Break x) = IsClientName x × (line ≡ spaced (codes "break" ∷ x ∷ []))
Says nodes line (Leave x c) = IsClientName x × IsChannelName c × (line ≡ spaced (codes "leave" ∷ x ∷ c ∷ []))
Says nodes line (Trim c k) =
    IsChannelName c × (k ≤ most_left) × (line ≡ spaced (codes "trim" ∷ c ∷ decimal k ∷ []))
Says nodes line (Forget c) = IsChannelName c × (line ≡ spaced (codes "forget" ∷ c ∷ []))
Says nodes line BrokerRestart = line ≡ codes "brokerrestart"
Says nodes line (SetSize name n) =
    IsNamespaceName name × (1 ≤ n) × (n ≤ largest_size)
    × (line ≡ spaced (codes "size" ∷ (name ++ 61 ∷ decimal n) ∷ []))
Says nodes line (Restart n) = (n < nodes) × (line ≡ spaced (codes "restart" ∷ decimal n ∷ []))
Says nodes line (Check x c) = IsClientName x × IsChannelName c × (line ≡ spaced (codes "check" ∷ x ∷ c ∷ []))
Says nodes line (ListHistory x c limit) =
    IsClientName x × IsChannelName c × (s : List ℕ) × IsLimit s limit
    × (line ≡ spaced (codes "list" ∷ x ∷ c ∷ s ∷ []))

-- An empty line and one that begins with a number sign are passed over.
abbrev pub IsPassedOver : List ℕ → Type 0
IsPassedOver [] = Unit {0}
IsPassedOver (b ∷ bs) = b ≡ 35
