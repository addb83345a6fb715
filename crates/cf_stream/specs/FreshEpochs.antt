-- Where the epochs of new streams come from. The empty epoch stands for none (this project's own profile).
use Rattle.std.specs.Prelude.{◌≡◌, ◌≢◌, ℕ, List, [], Option, Some, None}
use Rattle.cf_stream.specs.Stream.{Shown}

-- what was drawn is no epoch
abbrev pub IsNoEpoch : Option (List ℕ) → Type 0
IsNoEpoch None = Unit {0}
IsNoEpoch (Some e) = e ≡ []

-- a draw led from one state to the other, and gave no epoch
abbrev pub DrawsNone : {E : Type 0} → (E → Option (List ℕ) → E → Type 0) → E → E → Type 0
DrawsNone draws old new = (r : Option (List ℕ)) × draws old r new × IsNoEpoch r

-- a draw led from one state to the other, and gave this epoch
abbrev pub DrawsEpoch : {E : Type 0} → (E → Option (List ℕ) → E → Type 0) → List ℕ → E → E → Type 0
DrawsEpoch draws e old new = draws old (Some e) new × (e ≢ [])

-- the epoch of a channel's stream: if none stood it is drawn, else nothing is drawn
abbrev pub Draws : {E : Type 0} → (E → Option (List ℕ) → E → Type 0) → Option Shown → List ℕ → E → E
    → Type 0
Draws draws None e old new = DrawsEpoch draws e old new
Draws draws (Some s) e old new = (e ≡ s.epoch) × (new ≡ old)

-- there is no stream, and a draw gave no epoch for one
abbrev pub LacksEpoch : {E : Type 0} → (E → Option (List ℕ) → E → Type 0) → Option Shown → E → E
    → Type 0
LacksEpoch draws o old new = (o ≡ None) × DrawsNone draws old new
