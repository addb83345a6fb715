-- Epochs that are given in order. (This project's own profile.)
use Rattle.std.specs.Prelude.{◌≡◌, ◌≢◌, ◌==◌, ℕ, List, [], Option, drop, slice_get}
use Rattle.std.specs.List.{All, AllPairs, slice_split}
use Rattle.cf_protocol.specs.Epoch.{IsEpoch}

-- the front one, if one is left
abbrev pub draws_front : List (List ℕ) → Option (List ℕ) → List (List ℕ) → Type 0
draws_front old epoch new = (epoch ≡ slice_get old 0) × (new ≡ drop 1 old)

-- ---- the text that gives them

-- the texts between the commas of a text
abbrev pub words_of : List ℕ → List (List ℕ)
words_of text = slice_split (λ b. b == 44) text

-- a text is an epoch, and not the empty one
abbrev pub IsGiven : List ℕ → Type 0
IsGiven e = IsEpoch e × (e ≢ [])

-- each is an epoch, and none stands twice
pub record AreGiven (es : List (List ℕ)) : Type 0 where
  pub each : All IsGiven es
  pub apart : AllPairs ◌≢◌ es

-- a text is an epoch that isn't among these
abbrev pub CanFollow : List (List ℕ) → List ℕ → Type 0
CanFollow es e = IsGiven e × All (λ d. d ≢ e) es
