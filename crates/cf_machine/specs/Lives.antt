-- A channel's stream with the list that it stands over, and the keys of that. (This project's own profile.)
use Rattle.std.specs.Prelude.{Option, option_map, ℕ, List}
use Rattle.cf_protocol.specs.Datum.{Datum}
use Rattle.cf_model.specs.Streams.{Life}
use Rattle.cf_model.specs.Streams.{StreamState}
use Rattle.cf_machine.specs.PublicationList.{Broker}

abbrev pub life_by : (lists : List ℕ → List Datum) → (keys : List ℕ → List (List ℕ)) → Option StreamState
    → Option Life
life_by lists keys o =
    option_map (λ s. record { epoch = s.epoch; list = lists s.epoch; keys = keys s.epoch; held = s.held }) o

abbrev pub life_at : Broker → List ℕ → Option Life
life_at b c = life_by (b.lists c) (b.keys c) (b.streams c)
