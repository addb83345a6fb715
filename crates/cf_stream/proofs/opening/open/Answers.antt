-- With an epoch the stream is put under it; without one what was put is taken out again, and the map is as before.
use Rattle.std.proofs.Common.{None}
use Rattle.std.proofs.lemmas.Map.Text.{btree_map_updates_text}
use Rattle.cf_stream.specs.Stream.{in_epoch}
use Rattle.cf_stream.proofs.Standing.{set_changed, set_undone}
use Rattle.cf_stream.proofs.opening.open.Goals as goal

pub returns-in-Some-clause-ok : goal.returns-in-Some-clause-ok
returns-in-Some-clause-ok g c =
    set_changed c.args.map.now c.put.new.map c.name.new.map c.args.channel.now c.args.stream (in_epoch c.in-Some.epoch)
    c.in_ok-put.ensures.ok c.name.ensures

pub returns-in_default-clause-err : goal.returns-in_default-clause-err
returns-in_default-clause-err g c =
    set_undone c.args.map.now c.put.new.map c.remove.new.self c.args.channel.now c.args.stream c.requires
    c.in_ok-put.ensures.ok
    (btree_map_updates_text c.args.channel.now c.put.new.map c.remove.new.self None c.remove.ensures.updates)
