-- What each kind of step makes of a view, and what it tells.
use Rattle.std.specs.Prelude.{◌≡◌, ℕ, ◌+◌, ◌≤◌, true, false, List, [], ◌∷◌, ◌++◌, length}
use mathlib.Core.List.{IsPrefix}
use Rattle.atomic_table.specs.Table.{Me, Step}
use Rattle.cf_protocol.specs.LogEntry.{Entry}
use Rattle.cf_order.specs.Passes.{longer, shorter, publishes, published}
use Rattle.cf_order.specs.View.{View}

-- a look: the count was loaded of a log of that length
abbrev pub looked : View → List Entry → View
looked v found = record v { found = found; looks = v.looks + 1 }

-- an append: the owner's log has one entry more
abbrev pub added : View → Entry → View
added v e = record v { log = v.log ++ e ∷ []; found = v.found ++ e ∷ []; share = v.share + publishes e }

-- a split: what the new seat is given, with this share, and what the old one is left with
abbrev pub word_given : View → ℕ → View
word_given v n = record { owns = false; log = v.log; met = []; found = v.found; looks = 0; share = n }

abbrev pub with_share : View → ℕ → View
with_share v n = record v { share = n }

-- a join: a pass takes in another
abbrev pub joined : View → View → View
joined v w = record v {
  log = longer v.log w.log;
  met = shorter v.found w.found;
  found = longer v.found w.found;
  share = v.share + w.share;
}

-- a join: the owner takes in a pass, and compares what that was told of with its own log
abbrev pub compared : View → View → View
compared v w = record v { met = w.found; share = v.share + w.share }

-- the log found is no shorter than any that was seen, found or published before, and the count is its length
pub record Looked (v w : View) (n : ℕ) : Type 0 where
  pub same : w ≡ looked v w.found
  pub count : n ≡ length w.found
  pub seen : IsPrefix v.log w.found
  pub rises : IsPrefix v.found w.found
  pub share : v.share ≤ published w.found
  pub below : v.share ≤ n

-- what a view says of itself, if the word's count is n
pub record Knows (v : View) (n : ℕ) : Type 0 where
  pub met : IsPrefix v.met v.found
  pub seen : IsPrefix v.log v.found
  pub share : v.share ≤ n
  pub own : v.owns ≡ true → v.share ≤ published v.log

-- the owner's log begins with all that the pass has seen and was told of
pub record IsBehind (o v : View) : Type 0 where
  pub seen : IsPrefix v.log o.log
  pub found : IsPrefix v.found o.log
  pub share : o.share + v.share ≤ published o.log

-- what each step tells: of the step, the seat before, the count found, and the seat after
abbrev pub HasLooked : {S : Type 0} → Step S → Me S View → ℕ → Me S View → Type 0
HasLooked s v n w = Looked v.0 w.0 n × (w.1 ≡ v.1)

abbrev pub HasAdded : {S : Type 0} → Entry → Step S → Me S View → ℕ → Me S View → Type 0
HasAdded e s v n w = (w ≡ (added v.0 e, v.1)) × Knows v.0 n × (n ≡ length v.0.log)

-- nothing changed
abbrev pub HasTold : {S : Type 0} → Step S → Me S View → ℕ → Me S View → Type 0
HasTold s v n w = (w ≡ v) × Knows v.0 n

-- an owner's seat, and the count beside it
pub record IsOwner (me : Me ℕ View) (count : ℕ) : Type 0 where
  pub bare : me.1 ≡ []
  pub owns : me.0.owns ≡ true
  pub whole : me.0.found ≡ me.0.log
  pub share : me.0.share ≡ 0
  pub counted : count ≡ length me.0.log

-- a pass's seat, and the share beside it
pub record IsPass (me : Me ℕ View) (share : ℕ) : Type 0 where
  pub bare : me.1 ≡ []
  pub owns : me.0.owns ≡ false
  pub seen : IsPrefix me.0.log me.0.found
  pub own : share ≡ me.0.share
