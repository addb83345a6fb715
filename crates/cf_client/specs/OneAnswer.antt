-- Each ask that is out has an id of its own, so an answer counts for one channel alone, and what a text makes of a
-- client is one thing.
use Rattle.std.specs.Prelude.{◌≡◌, ℕ, ◌<◌, true, false, List}
use Rattle.cf_protocol.specs.Outgoing.{Outgoing}
use Rattle.cf_model.specs.Clients.{Client, is_out}
use Rattle.cf_client.specs.ClientCalls.{State, asks_under, TakesAll}
use Rattle.cf_client.specs.AppItem.{AppItem}

-- the ids that are out are older than the next id, no two channels ask under one, and no ask has that of a call
pub record AreApart (x : Client) : Type 0 where
  pub older : (c : List ℕ) (id : ℕ) → asks_under id (x.modes c) ≡ true → id < x.fresh
  pub apart : (c d : List ℕ) (id : ℕ) → asks_under id (x.modes c) ≡ true → asks_under id (x.modes d) ≡ true
      → c ≡ d
  pub calls_older : (id : ℕ) → is_out id x.calls ≡ true → id < x.fresh
  pub calls_apart : (c : List ℕ) (id : ℕ) → asks_under id (x.modes c) ≡ true → is_out id x.calls ≡ false

abbrev pub Keeps : (State → State) → Type 0
Keeps f = (s : State) → AreApart s.client → AreApart (f s).client

abbrev pub TextsKeep : Type 0
TextsKeep =
    (os : List Outgoing) (s t : State) (told : List AppItem) → AreApart s.client → TakesAll os s t told
    → AreApart t.client

abbrev pub OneOutcome : Type 0
OneOutcome =
    (os : List Outgoing) (s t u : State) (told also : List AppItem) → AreApart s.client
    → TakesAll os s t told → TakesAll os s u also → (t ≡ u) × (told ≡ also)
