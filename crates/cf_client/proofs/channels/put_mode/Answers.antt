-- What the map promises of an insert, key by key, is read as an update of the definition's function.
use Rattle.std.proofs.Common.{Some, ap, string_bytes, ◌∙◌}
use Rattle.std.specs.BTreeMap.{get_by_text}
use Rattle.std.specs.Map.{update}
use Rattle.std.specs.Str.{bytes_eq}
use Rattle.std.proofs.lemmas.Map.Text.{btree_map_updates_text}
use Rattle.cf_client.proofs.channels.put_mode.Goals as goal

pub returns-in-Ok-clause-puts : goal.returns-in-Ok-clause-puts
returns-in-Ok-clause-puts c =
    λ q. btree_map_updates_text (string_bytes c.in_ok-key.key) c.args.channels.now c.insert.new.self (Some c.args.mode)
    c.in-Ok.ensures.updates q
    ∙ ap (λ bs. update bytes_eq (get_by_text c.args.channels.now) bs (Some c.args.mode) q) c.in_ok-key.ensures.ok
