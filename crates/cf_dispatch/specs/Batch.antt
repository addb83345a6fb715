-- What is taken from a node's hub for the sessions that it names, one after another. (This project's own profile.)
use Rattle.std.specs.Prelude.{◌≡◌, ◌≤◌, ◌<◌, ◌==◌, ◌⊎◌, ℕ, ◌+◌, Some, None, Option, List, [], ◌∷◌, length}
use Rattle.std.specs.List.{count_by}
use Rattle.cf_hub.specs.Hub.{IsNextTurn, Node, attached_at}
use Rattle.cf_queue.specs.declared.queue.Out.{Out}
use Rattle.cf_dispatch.specs.Outlet.{Takes}

-- for so many sessions at most
abbrev pub most_at_once : ℕ
most_at_once = 64

-- how often k stands among these
abbrev pub times : ℕ → List ℕ → ℕ
times k ks = count_by (λ j. j == k) ks

-- the hub names this session, or none is left, and no session changes
pub record Names (k : Option ℕ) (old new : Node) : Type 0 where
  pub turn : IsNextTurn (attached_at old) old.turns new.turns k
  pub same : new ≡ record old { turns = new.turns }

module _ {S : Type 0} (gets : S → ℕ → List Out → List Out → S → Type 0) where
  -- session k has its turn: of what waits for its client some is taken, the first first, and stands behind what was
  -- taken for it before
  pub record TakesAt (k : ℕ) (old new : Node) (p q : S) : Type 0 where
    pub had : List Out
    pub has : List Out
    pub taking : Takes k old new had has
    pub getting : gets p k had has q

  -- these had their turns as the hub named them, the last first
  abbrev pub HadTurns : List ℕ → Node → Node → S → S → Type 0
  HadTurns [] old new p q = (new ≡ old) × (q ≡ p)
  HadTurns (k ∷ before) old new p q =
      (mid : Node) × (named : Node) × (s : S) × HadTurns before old mid p s × Names (Some k) mid named
      × TakesAt k named new s q

  -- so many had their turns: each as often at most as it stood in the hub's list, in which it stands once
  pub record TakesFor (count : ℕ) (old new : Node) (p q : S) : Type 0 where
    pub sessions : List ℕ
    pub counted : length sessions ≡ count
    pub turns : HadTurns sessions old new p q
    pub once : (k : ℕ) → times k sessions + times k new.turns.numbers ≤ times k old.turns.numbers

  -- fewer had their turns, and then none was left
  pub record TakesForAll (most : ℕ) (old new : Node) (p q : S) : Type 0 where
    pub count : ℕ
    pub fewer : count < most
    pub last : Node
    pub taken : TakesFor count old last p q
    pub none : Names None last new

  abbrev pub TakesBatch : ℕ → Node → Node → S → S → Type 0
  TakesBatch most old new p q = TakesFor most old new p q ⊎ TakesForAll most old new p q
