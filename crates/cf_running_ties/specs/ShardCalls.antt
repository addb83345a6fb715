-- The entries of a call of a lent shard, as its contract has them, may be gained one after another.
-- (This project's own profile.)
use Rattle.std.specs.Prelude.{◌≡◌, ◌≢◌, ℕ, true, false, Option, None, List, [], ◌∷◌, ◌++◌}
use Rattle.cf_protocol.specs.LogEntry.{Entry}
use Rattle.cf_protocol.specs.Names.{is_among}
use Rattle.cf_stream.specs.Stream.{IsAtLast, Shown}
use Rattle.cf_machine.specs.Config.{Config}
use Rattle.cf_running.specs.Server.{may_gain}
use Rattle.cf_running.specs.ShardLogs.{epochs_in}

abbrev pub MayAll : Config → List Entry → List Entry → Type 0
MayAll cfg log [] = Unit {0}
MayAll cfg log (x ∷ xs) = (may_gain cfg log x ≡ true) × MayAll cfg (log ++ x ∷ []) xs

-- the log was gained entry by entry
abbrev pub IsGained : Config → List Entry → Type 0
IsGained cfg log = MayAll cfg [] log

-- if no stream stood, the epoch is one, and was never the channel's
abbrev pub IsDrawn : Option Shown → List Entry → (channel epoch : List ℕ) → Type 0
IsDrawn stream log c e = stream ≡ None → (e ≢ []) × (is_among e (epochs_in log c) ≡ false)

-- a publish with this key isn't refused at the last offset
abbrev pub IsNotLast : Option Shown → (key : List ℕ) → Type 0
IsNotLast stream key = IsAtLast stream key → ⊥
