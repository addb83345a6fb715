-- Turns by cost: what a slot's turns cost is added to its virtual time, and who would have the least after one more
-- has the next turn. (This project's own profile.)
use Rattle.std.specs.Prelude.{◌≡◌, ◌≢◌, ◌≤◌, ◌<◌, ◌+◌, ◌-◌, ◌/◌, ◌^◌, ◌==◌, ◌||◌, ◌⊎◌, ℕ, nat_lt, length, max, min}
use Rattle.std.specs.Prelude.{Bool, true, false, if◌then◌else◌, List, [], ◌∷◌, get_or}
use Rattle.cf_fair.specs.Lane.{Ticket, with_ticket, is_there, without, AreOnce, IsFirst}

pub record Fair : Type 0 where
  -- who waits and may always be served, and who waits and may be served only while no link is crowded
  pub light : List Ticket
  pub held : List Ticket
  -- by slot, its virtual time and what its next turn is expected to cost
  pub accounts : List (ℕ × ℕ)
  -- nobody starts before it
  pub clock : ℕ
  -- what a turn may cost: the clock is no more than that behind those that are served
  pub budget : ℕ
  -- how many have come
  pub number : ℕ

-- virtual times end here, and stay
abbrev pub most : ℕ
most = 2 ^ 64 - 1

-- n and m more, or `most`
abbrev pub up : ℕ → ℕ → ℕ
up n m = min (n + m) most

abbrev pub account_at : Fair → ℕ → ℕ × ℕ
account_at f k = get_or f.accounts k (0, 0)

abbrev pub time_at : Fair → ℕ → ℕ
time_at f k = (account_at f k).0

abbrev pub cost_at : Fair → ℕ → ℕ
cost_at f k = (account_at f k).1

-- its virtual time after a turn that costs what is expected: the least has the next turn
abbrev pub due_at : Fair → ℕ → ℕ
due_at f k = up (time_at f k) (cost_at f k)

abbrev pub waits : ℕ → Fair → Bool
waits k f = is_there k f.light || is_there k f.held

-- where a slot starts that comes now: nobody saves up what it didn't use
abbrev pub start_at : Fair → ℕ → ℕ
start_at f k = max (time_at f k) f.clock

abbrev pub ticket_at : Fair → ℕ → Ticket
ticket_at f k = (up (start_at f k) (cost_at f k), f.number, k)

-- nothing changes
pub record IsSame (old new : Fair) : Type 0 where
  pub light : new.light ≡ old.light
  pub held : new.held ≡ old.held
  pub accounts : (j : ℕ) → account_at new j ≡ account_at old j
  pub clock : new.clock ≡ old.clock
  pub budget : new.budget ≡ old.budget
  pub number : new.number ≡ old.number

-- a slot that didn't wait comes
pub record Joins (k : ℕ) (is_held : Bool) (old new : Fair) : Type 0 where
  pub light : new.light ≡ (if is_held then old.light else with_ticket (ticket_at old k) old.light)
  pub held : new.held ≡ (if is_held then with_ticket (ticket_at old k) old.held else old.held)
  pub accounts : (j : ℕ) → account_at new j
      ≡ (if k == j then (start_at old k, cost_at old k) else account_at old j)
  pub clock : new.clock ≡ old.clock
  pub budget : new.budget ≡ old.budget
  pub number : new.number ≡ up old.number 1

-- if it waits already nothing changes
abbrev pub Comes : Bool → ℕ → Bool → Fair → Fair → Type 0
Comes true k is_held old new = IsSame old new
Comes false k is_held old new = Joins k is_held old new

-- the first of a class has its turn
pub record Leaves (t : Ticket) (old new : Fair) : Type 0 where
  pub lanes : ((old.light ≡ t ∷ new.light) × (new.held ≡ old.held))
      ⊎ ((new.light ≡ old.light) × (old.held ≡ t ∷ new.held))
  pub accounts : (j : ℕ) → account_at new j ≡ account_at old j
  pub clock : new.clock ≡ max old.clock (t.0 - old.budget)
  pub budget : new.budget ≡ old.budget
  pub number : new.number ≡ old.number

-- slot k has its turn: nobody that waits is due before it
pub record HasTurn (k : ℕ) (old new : Fair) : Type 0 where
  pub ticket : Ticket
  pub slot : ticket.2 ≡ k
  pub leaves : Leaves ticket old new
  pub first : IsFirst ticket new.light
  pub first_of_all : IsFirst ticket new.held

-- slot k has its turn while those that are held wait: of the others nobody is due before it
pub record HasLightTurn (k : ℕ) (old new : Fair) : Type 0 where
  pub ticket : Ticket
  pub slot : ticket.2 ≡ k
  pub leaves : Leaves ticket old new
  pub is_light : old.light ≡ ticket ∷ new.light
  pub first : IsFirst ticket new.light

-- what a turn's cost is for each, of those that wait, here and elsewhere, and the one that had it
abbrev pub share : ℕ → ℕ → Fair → ℕ
share cost others f = cost / up (up (length f.light + length f.held) others) 1

-- what the next turn of slot k is expected to cost, behind one that cost so much: no less, and no less than half of
-- what this one was expected to
abbrev pub expected : Fair → ℕ → ℕ → ℕ
expected f k cost = max cost (cost_at f k / 2)

-- what a turn of slot k cost: the clock goes on by each one's share
pub record Pays (k cost others : ℕ) (old new : Fair) : Type 0 where
  pub light : new.light ≡ old.light
  pub held : new.held ≡ old.held
  pub accounts : (j : ℕ) → account_at new j
      ≡ (if k == j then (up (time_at old k) cost, expected old k cost) else account_at old j)
  pub clock : new.clock ≡ up old.clock (share cost others old)
  pub budget : new.budget ≡ old.budget
  pub number : new.number ≡ old.number

-- a slot that never came has nothing to pay
abbrev pub PaysIf : Bool → ℕ → ℕ → ℕ → Fair → Fair → Type 0
PaysIf true k cost others old new = Pays k cost others old new
PaysIf false k cost others old new = IsSame old new

-- whether a slot came once
abbrev pub is_known : ℕ → Fair → Bool
is_known k f = nat_lt k (length f.accounts)

-- the connection at slot k ends
pub record Goes (k : ℕ) (old new : Fair) : Type 0 where
  pub light : new.light ≡ without k old.light
  pub held : new.held ≡ without k old.held
  pub accounts : (j : ℕ) → account_at new j ≡ (if k == j then (0, 0) else account_at old j)
  pub clock : new.clock ≡ old.clock
  pub budget : new.budget ≡ old.budget
  pub number : new.number ≡ old.number

-- nobody is ready
pub record IsIdle (old new : Fair) : Type 0 where
  pub light : old.light ≡ []
  pub held : old.held ≡ []
  pub same : IsSame old new

pub record IsLightIdle (old new : Fair) : Type 0 where
  pub light : old.light ≡ []
  pub same : IsSame old new

-- ---- runs

pub data Step : Type 0 where
  Adds : (slot : ℕ) → (is_held : Bool) → Step
  Turns : (slot : ℕ) → Step
  LightTurns : (slot : ℕ) → Step
  Charges : (slot cost others : ℕ) → Step
  Ends : (slot : ℕ) → Step

-- one step, as `FairQueue`'s calls have it; who had its turn is charged before it comes again
abbrev pub Steps : Step → Fair → Fair → Type 0
Steps (Adds k h) old new = Comes (waits k old) k h old new
Steps (Turns k) old new = HasTurn k old new
Steps (LightTurns k) old new = HasLightTurn k old new
Steps (Charges k c n) old new = (waits k old ≡ false) × Pays k c n old new
Steps (Ends k) old new = Goes k old new

-- steps one after another, the newest first
abbrev pub Stepped : List Step → Fair → Fair → Type 0
Stepped [] old new = new ≡ old
Stepped (step ∷ before) old new = (mid : Fair) × Stepped before old mid × Steps step mid new

abbrev pub is_end : ℕ → Step → Bool
is_end k (Adds j h) = false
is_end k (Turns j) = false
is_end k (LightTurns j) = false
is_end k (Charges j c n) = false
is_end k (Ends j) = j == k

abbrev pub is_turn : ℕ → Step → Bool
is_turn k (Adds j h) = false
is_turn k (Turns j) = j == k
is_turn k (LightTurns j) = j == k
is_turn k (Charges j c n) = false
is_turn k (Ends j) = false

abbrev pub cost_of : ℕ → Step → ℕ
cost_of k (Adds j h) = 0
cost_of k (Turns j) = 0
cost_of k (LightTurns j) = 0
cost_of k (Charges j c n) = if j == k then c else 0
cost_of k (Ends j) = 0

-- whether slot k's connection ended; whether it had a turn
abbrev pub has_ended : ℕ → List Step → Bool
has_ended k [] = false
has_ended k (step ∷ before) = is_end k step || has_ended k before

abbrev pub has_turn : ℕ → List Step → Bool
has_turn k [] = false
has_turn k (step ∷ before) = is_turn k step || has_turn k before

abbrev pub is_light_turn : Step → Bool
is_light_turn (Adds j h) = false
is_light_turn (Turns j) = false
is_light_turn (LightTurns j) = true
is_light_turn (Charges j c n) = false
is_light_turn (Ends j) = false

abbrev pub has_light_turn : List Step → Bool
has_light_turn [] = false
has_light_turn (step ∷ before) = is_light_turn step || has_light_turn before

-- all that was charged to slot k, and what was since its last turn
abbrev pub spent : ℕ → List Step → ℕ
spent k [] = 0
spent k (step ∷ before) = cost_of k step + spent k before

abbrev pub spent_lately : ℕ → List Step → ℕ
spent_lately k [] = 0
spent_lately k (step ∷ before) = if is_turn k step then 0 else cost_of k step + spent_lately k before

-- ---- the law

-- each waits once, in one class
pub record IsOnce (f : Fair) : Type 0 where
  pub light : AreOnce f.light
  pub held : AreOnce f.held
  pub apart : (k : ℕ) → is_there k f.light ≡ true → is_there k f.held ≡ false

-- the tickets of those that wait say when they are due
abbrev pub AreOnTime : Fair → List Ticket → Type 0
AreOnTime f [] = Unit {0}
AreOnTime f (t ∷ ts) = (t.0 ≡ due_at f t.2) × AreOnTime f ts

pub record IsTimed (f : Fair) : Type 0 where
  pub light : AreOnTime f f.light
  pub held : AreOnTime f f.held

-- Nobody waits twice.
abbrev pub NobodyWaitsTwice : Type 0
NobodyWaitsTwice = (steps : List Step) (old new : Fair) → IsOnce old → Stepped steps old new → IsOnce new

-- The tickets of those that wait go on saying when they are due. (What the others of these laws ask of a queue, is so
-- of a new one, and stays so.)
abbrev pub TicketsStayTrue : Type 0
TicketsStayTrue =
    (steps : List Step) (old new : Fair) → IsOnce old → IsTimed old → Stepped steps old new → IsTimed new

-- Bounded waiting: p waits, light, and is due then. If q has a turn meanwhile, q's virtual time at the outset, all that
-- it was charged since, and what that turn is expected to cost, come to no more than that. So nobody passes p whose
-- turns are expected to cost more than what is left until p is due.
abbrev pub TurnsAreCovered : Type 0
TurnsAreCovered =
    (p q due : ℕ) (during : List Step) (old mid new : Fair)
    → IsOnce old → IsTimed old → is_there p old.light ≡ true → due_at old p ≡ due → due < most
    → has_turn p during ≡ false → has_ended p during ≡ false → has_ended q during ≡ false → q ≢ p
    → Stepped during old mid → HasTurn q mid new ⊎ HasLightTurn q mid new
    → time_at old q + spent q during + cost_at mid q ≤ due

-- The same at any moment, whatever turns cost: all that q was charged, but for what it was since its last turn.
abbrev pub WaitsBriefly : Type 0
WaitsBriefly =
    (p q due : ℕ) (during : List Step) (old new : Fair)
    → IsOnce old → IsTimed old → is_there p old.light ≡ true → due_at old p ≡ due → due < most
    → has_turn p during ≡ false → has_ended p during ≡ false → has_ended q during ≡ false
    → Stepped during old new → spent q during ≤ (due - time_at old q) + spent_lately q during

-- The same by p's own excess: p comes, light, and q has used up its time to the clock. What q is charged until p has
-- its
-- turn is no more than that by which p's virtual time is above the clock, what p's turn is expected to cost, and what
-- one turn of q cost.
abbrev pub WaitsByExcess : Type 0
WaitsByExcess =
    (p q : ℕ) (during : List Step) (before old new : Fair)
    → IsOnce before → IsTimed before → waits p before ≡ false → Joins p false before old
    → (ticket_at before p).0 < most → before.clock ≤ time_at before q
    → has_turn p during ≡ false → has_ended p during ≡ false → has_ended q during ≡ false
    → Stepped during old new
    → spent q during ≤ (time_at before p - before.clock) + cost_at before p + spent_lately q during

-- Who has just come has used up its time to the clock: nobody saves up more than one budget.
abbrev pub NobodySavesUp : Type 0
NobodySavesUp = (k : ℕ) (is_held : Bool) (old new : Fair) → Joins k is_held old new → new.clock ≤ time_at new k

-- The same as `WaitsBriefly` of anybody, while no link is crowded.
abbrev pub AllWaitBriefly : Type 0
AllWaitBriefly =
    (p q due : ℕ) (during : List Step) (old new : Fair)
    → IsOnce old → IsTimed old → waits p old ≡ true → due_at old p ≡ due → due < most
    → has_turn p during ≡ false → has_ended p during ≡ false → has_ended q during ≡ false
    → has_light_turn during ≡ false
    → Stepped during old new → spent q during ≤ (due - time_at old q) + spent_lately q during

-- Order is kept where virtual times end: who was before stays no later.
abbrev pub KeepsOrder : Type 0
KeepsOrder = (a b cost : ℕ) → a ≤ b → up a cost ≤ up b cost
