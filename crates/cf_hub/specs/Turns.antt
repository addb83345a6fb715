-- Which sessions have got something to send since they were last named.
use Rattle.std.specs.Prelude.{◌≡◌, ◌≤◌, ℕ, nat_lt, ◌==◌, Bool, if◌then◌else◌, Option, Some, None, List, [], ◌∷◌, ◌++◌}
use Rattle.std.specs.List.{list_any}

-- their numbers, the longest waiting first, all below `known`, as is each number that a session has had
pub record Turns : Type 0 where
  pub numbers : List ℕ
  pub known : ℕ

abbrev pub no_turns : Turns
no_turns = record { numbers = []; known = 0 }

abbrev pub is_in : ℕ → List ℕ → Bool
is_in k ks = list_any (λ j. j == k) ks

-- k comes behind all others, unless it is among them
abbrev pub with_turn : ℕ → List ℕ → List ℕ
with_turn k ks = if is_in k ks then ks else ks ++ k ∷ []

abbrev pub gets_turn : ℕ → Turns → Turns
gets_turn k t = if nat_lt k t.known then record t { numbers = with_turn k t.numbers } else t

-- each of these in turn
abbrev pub get_turns : List ℕ → Turns → Turns
get_turns [] t = t
get_turns (k ∷ ks) t = get_turns ks (gets_turn k t)

-- the first of these for which p holds
abbrev pub first_turn : (ℕ → Bool) → List ℕ → Option ℕ
first_turn p [] = None
first_turn p (k ∷ ks) = if p k then Some k else first_turn p ks

-- those behind it: it and those before it have had their turn
abbrev pub turns_left : (ℕ → Bool) → List ℕ → List ℕ
turns_left p [] = []
turns_left p (k ∷ ks) = if p k then ks else turns_left p ks

-- nobody got a turn or had one
pub record SameTurns (old new : Turns) : Type 0 where
  pub numbers : new.numbers ≡ old.numbers
  pub known : old.known ≤ new.known
