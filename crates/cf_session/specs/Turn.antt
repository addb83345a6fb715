-- A part of a script's work: when a session can be carried on, what its acts cost, and what a turn makes of its units.
-- (This project's own profile.)
use Rattle.std.specs.Prelude.{◌≡◌, ◌≢◌, ◌-◌, ℕ, Option, None, Bool, true, false}
use Rattle.cf_session.specs.Calls.{Answer}
use Rattle.cf_session.specs.SessionMachine.{Act, Calls, Says, PassesPong, Closes, awaits}
use Rattle.cf_session.specs.Standing.{tables_of, progress_of, is_idle, met_refused_memory}
use Rattle.cf_session.specs.declared.session.Session.{Session}
use Rattle.cf_session.specs.Played.{AskStreams}
use Rattle.cf_session.specs.declared.budget.Budget.{Budget}

-- A session can be carried on: no call of it is out, and it asks for streams only where their namespace is set up. An
-- idle one can.
pub record CanGoOn (s : Session) : Type 0 where
  pub awaits : awaits (progress_of s) ≡ None
  pub asks : AskStreams (tables_of s).namespaces (progress_of s)

abbrev pub IdleCanGoOn : Type 0
IdleCanGoOn = (s : Session) → is_idle s ≡ true → CanGoOn s

-- it is set up as before, and stays short of memory once it was
pub record StaysSetUp (old new : Session) : Type 0 where
  pub tables : tables_of new ≡ tables_of old
  pub short : met_refused_memory old ≡ true → met_refused_memory new ≡ true

abbrev pub units_left : Budget → ℕ
units_left b = b.left

-- the units that an act costs: a call four times as many as what is only sent
abbrev pub cost : Act → ℕ
cost (Calls call) = 4
cost (Says text) = 1
cost PassesPong = 1
cost (Closes code) = 1

-- a node carries out an act, whatever it answers
pub record DoesAct {N : Type 0} (does : N → Act → Option Answer → N → Type 0) (n : N) (a : Act)
    (m : N) : Type 0 where
  pub answer : Option Answer
  pub done : does n a answer m

-- From a node and units left to another and what is left then, by acts alone. Before each the session isn't closed
-- and a unit is left; the last may cost more than is left.
pub data Spends {N : Type 0} (closed : N → Bool) (does : N → Act → Option Answer → N → Type 0) (n : N)
    (units : ℕ) : N
    → ℕ → Type 0 where
  rests : Spends closed does n units n units
  acts : (mid m : N) (left : ℕ) (a : Act)
      → Spends closed does n units mid left → closed mid ≡ false → left ≢ 0 → DoesAct does mid a m
      → Spends closed does n units m (left - cost a)
