-- What the map promises of an insert, key by key, is read as an update of the definition's function.
use Rattle.std.proofs.Common.{Some, ap, string_bytes, ◌∙◌}
use Rattle.std.specs.BTreeMap.{get_by_text}
use Rattle.std.specs.Map.{update}
use Rattle.std.specs.Str.{bytes_eq}
use Rattle.std.proofs.lemmas.Map.Text.{btree_map_updates_text}
use Rattle.cf_presence.proofs.maps.put.Goals as goal

pub returns-in-Ok-clause-sets : goal.returns-in-Ok-clause-sets
returns-in-Ok-clause-sets g c =
    λ q. btree_map_updates_text (string_bytes c.in_ok-key.key) c.args.map.now c.insert.new.self (Some c.args.value)
    c.in-Ok.ensures.updates q
    ∙ ap (λ bs. update bytes_eq (get_by_text c.args.map.now) bs (Some c.args.value) q) c.in_ok-key.ensures.ok
