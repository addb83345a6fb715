-- Epochs that none comes twice of.
use Rattle.std.specs.Prelude.{ℕ, Bool, true, ◌&&◌, not, nat_eq, List, [], ◌∷◌, length}
use Rattle.std.specs.List.{list_any}
use Rattle.std.specs.Str.{bytes_eq}
use Rattle.cf_schedule.specs.declared.event.Event.{Event}
use Rattle.cf_schedule.specs.declared.event.Event.TheVariants.{Epoch}

-- whether the event brings this epoch
abbrev pub brings : List ℕ → Event → Bool
brings epoch (Epoch another) = bytes_eq another epoch
brings epoch _ = not true

-- whether the event brings no epoch, or one that isn't empty and that none of the others brings
abbrev pub is_new : Event → List Event → Bool
is_new (Epoch epoch) others = not (nat_eq (length epoch) 0) && not (list_any (brings epoch) others)
is_new _ others = true

-- whether no two of the events bring one epoch, and none an empty one
abbrev pub are_fresh : List Event → Bool
are_fresh [] = true
are_fresh (event ∷ later) = is_new event later && are_fresh later
