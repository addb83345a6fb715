-- The loop keeps that the entries so far tell the items so far.
use Rattle.std.proofs.Common.{rules, ◌≡◌, ◌∙◌, [], ◌∷◌, ◌++◌, map, ap}
use Rattle.std.proofs.lemmas.List.{map-append}
use Rattle.cf_world.specs.Entries.{shown_entry}
use Rattle.cf_world.specs.declared.entry.Entry.{Entry}
use Rattle.cf_world.specs.declared.entry.Item.TheVariants as item
use Rattle.cf_world.proofs.Entering.{entry-told, told-after}
use Rattle.cf_world.proofs.taking.entries.Goals as goal

pub loop-event-preserved-in-Continue-branch-2 : goal.loop-event-preserved-in-Continue-branch-2
loop-event-preserved-in-Continue-branch-2 c =
    let x = c.args.name.now in
    let event = c.in-Some.event in
    let is : c.in-Some-item_of.item ≡ item.Told event = search rules in
    let e : Entry =
    record {
      at = c.args.at;
      client = c.in_ok-client.client;
      item = c.in-Some-item_of.item;
      is_got = search rules;
    } in
    record {
      told =
          ap (map shown_entry) c.in_ok-push.ensures.items
          ∙ map-append shown_entry c.loop-event.entries.items (e ∷ [])
          ∙ ap (λ es. es ++ shown_entry e ∷ []) c.loop-event.invariant.told
          ∙ told-after c.args.at x c.loop-event.yielded event (shown_entry e ∷ [])
          (entry-told e event x is c.in_ok-client.ensures.ok);
    }
