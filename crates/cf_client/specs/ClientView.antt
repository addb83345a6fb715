-- What contracts see of a client: what it knows of its channels, by lists, and the same in the words of what a client
-- knows.
use Rattle.std.specs.Prelude.{ℕ, suc, Bool, None, List, [], ◌∷◌, map, reverse, if◌then◌else◌}
use Rattle.std.specs.Str.{bytes_eq}
use Rattle.cf_model.specs.Clients.{Mode, Idle}
use Rattle.cf_client.specs.ClientCalls.{Call, State}

pub record ClientView : Type 0 where
  pub connected : Bool
  -- the last command id that was used
  pub last_id : ℕ
  -- the channels that it has asked for
  pub channels : List (List ℕ × Mode)
  -- the calls that aren't answered yet, oldest first
  pub calls : List Call

-- a channel that it never asked for is idle
abbrev pub mode_in : List (List ℕ × Mode) → List ℕ → Mode
mode_in [] c = Idle None
mode_in (e ∷ es) c = if bytes_eq c e.0 then e.1 else mode_in es c

-- ids of calls, newest first
abbrev pub ids_of : List Call → List ℕ
ids_of ks = reverse (map (λ (k : Call). k.id) ks)

abbrev pub state_of : ClientView → State
state_of k = record {
  connected = k.connected;
  client = record { fresh = suc k.last_id; modes = mode_in k.channels; calls = ids_of k.calls };
  out = k.calls;
}
