-- No epoch is drawn twice, and none is empty: the machine sees to that by itself, whatever epochs come.
use Rattle.std.specs.Prelude.{◌≡◌, ◌≢◌, ℕ, false, true, Some, List, [], ◌∷◌}
use Rattle.cf_protocol.specs.Names.{is_among}
use Rattle.cf_model.specs.Streams.{StreamState}
use Rattle.cf_machine.specs.PublicationList.{Broker}

abbrev pub AreDistinct : List (List ℕ) → Type 0
AreDistinct [] = Unit {0}
AreDistinct (e ∷ es) = (is_among e es ≡ false) × AreDistinct es

-- An epoch that waits to be drawn is not empty, no stream stands in it, and no channel ever had a publication in it.
abbrev pub IsUnused : Broker → List ℕ → Type 0
IsUnused b e =
    (e ≢ [])
    × ((c : List ℕ) (s : StreamState) → b.streams c ≡ Some s → s.epoch ≢ e)
    × ((c : List ℕ) → b.lists c e ≡ [])

-- All epochs that wait are such, and each waits once.
abbrev pub AreFresh : Broker → Type 0
AreFresh b = ((e : List ℕ) → is_among e b.waiting ≡ true → IsUnused b e) × AreDistinct b.waiting
