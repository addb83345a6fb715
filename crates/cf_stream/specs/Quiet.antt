-- Before which moment a tick does nothing. (This project's own profile.)
use Rattle.std.specs.Prelude.{◌≡◌, ◌<◌, ℕ, List, Option, None}
use Rattle.cf_protocol.specs.Settings.{NamespaceTable}
use Rattle.cf_stream.specs.Stream.{Shown}
use Rattle.cf_stream.specs.Streams.{due_at, due_of, seconds_at}

-- at no moment before this one a tick would do something to the stream
abbrev pub IsQuiet : ℕ → ℕ → Shown → Type 0
IsQuiet until seconds s = (now : ℕ) → now < until → due_of now seconds s ≡ None

-- nor to any stream
abbrev pub AreQuiet : ℕ → NamespaceTable → (List ℕ → Option Shown) → Type 0
AreQuiet until table streams =
    (now : ℕ) → now < until → (q : List ℕ) → due_at now (seconds_at table q) (streams q) ≡ None
