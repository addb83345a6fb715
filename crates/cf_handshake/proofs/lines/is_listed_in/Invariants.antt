use Rattle.std.proofs.Common.{◌≡◌, ◌-◌, ◌≤◌, take, drop}
use Rattle.std.specs.List.{list_any}
use Rattle.cf_handshake.specs.Lines.{is_item, listed_in, parts_from}
use Rattle.cf_handshake.proofs.lines.is_listed_in.Given as goal

abbrev pub invariant-loop-i : goal.invariant-loop-i
invariant-loop-i l =
    (l.start ≤ l.i)
    × (listed_in l.case l.item l.list
    ≡ list_any (is_item l.case l.item) (parts_from (take (l.i - l.start) (drop l.start l.list)) (drop l.i l.list)))
