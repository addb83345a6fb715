-- The epochs in which a shard's log opens streams: none opens again, if the shard's source gives none twice. (This
-- project's own profile.)
use Rattle.std.specs.Prelude.{◌≡◌, ◌≢◌, ℕ, Option, Some, List, [], ◌∷◌, ◌++◌}
use Rattle.std.specs.List.{AllByRecursion}
use Rattle.cf_protocol.specs.LogEntry.{Entry}
use Rattle.cf_stream.specs.LogState.{opened_in}
use Rattle.cf_shard.specs.Shard.{Draw}

-- ---- a source

-- a source in this state gives the epoch at some draw
pub data WillGive {E : Type 0} (draws : Draw E) (epoch : List ℕ) : E → Type 0 where
  now : (s t : E) → draws s (Some epoch) t → WillGive draws epoch s
  later : (s t : E) (r : Option (List ℕ)) → draws s r t → WillGive draws epoch t → WillGive draws epoch s

-- once it gave an epoch, it won't give that again
abbrev pub GivesNoneTwice : {E : Type 0} → Draw E → Type 0
GivesNoneTwice {E} draws = (epoch : List ℕ) (s t : E) → draws s (Some epoch) t → WillGive draws epoch t → ⊥

-- ---- a log

-- no entry opens a stream in the epoch
abbrev pub NeverOpens : List ℕ → List Entry → Type 0
NeverOpens epoch log = AllByRecursion (λ x. opened_in x ≢ Some epoch) log

-- if the entry opens a stream, then in an epoch that no entry before it did
abbrev pub OpensNew : (before : List Entry) → Entry → Type 0
OpensNew before x = (epoch : List ℕ) → opened_in x ≡ Some epoch → NeverOpens epoch before

abbrev pub OpenNew : (before entries : List Entry) → Type 0
OpenNew before [] = Unit {0}
OpenNew before (x ∷ xs) = OpensNew before x × OpenNew (before ++ x ∷ []) xs

-- no epoch opens again
abbrev pub OpensOnce : List Entry → Type 0
OpensOnce log = OpenNew [] log

-- ---- both

-- no epoch opened again, and none did that the source will give
pub record IsFresh {E : Type 0} (draws : Draw E) (source : E) (log : List Entry) : Type 0 where
  pub once : OpensOnce log
  pub ahead : (epoch : List ℕ) → WillGive draws epoch source → NeverOpens epoch log

-- so it is if the source gives none twice
abbrev pub StaysFresh : {E : Type 0} → Draw E → E → List Entry → Type 0
StaysFresh draws source log = GivesNoneTwice draws → IsFresh draws source log
