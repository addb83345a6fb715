-- What a read of a stream answers, as it reaches a hub. (This project's own profile.)
use Rattle.std.specs.Prelude.{◌-◌, Bool, List, length}
use Rattle.cf_protocol.specs.Datum.{Placed}
use Rattle.cf_protocol.specs.Note.{Reading}
use Rattle.cf_protocol.specs.Position.{Position}

-- what a read answers, in positions, as it reaches the hub
abbrev pub answered : Position → Bool → List Placed → Reading
answered p recovered items = record {
  epoch = p.epoch;
  low = p.offset - length items;
  top = p.offset;
  recovered = recovered;
}
