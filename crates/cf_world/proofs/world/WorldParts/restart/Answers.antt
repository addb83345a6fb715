-- By whether the node is there: a new hub with the next boot number stands in its place, which is the machine's step.
use Rattle.std.proofs.Common.{rules, ◌≡◌, ◌+◌, refl, slice_get, slice_set}
use Rattle.std.specs.BTreeMap.{get_by_text}
use Rattle.cf_hub.specs.Hub.{Node, empty}
use Rattle.cf_world.specs.HubCalls.{Renewed}
use Rattle.cf_world.proofs.Changed.{changed, found, none-there}
use Rattle.cf_world.proofs.Leaving.{restart-goes, restart-nowhere}
use Rattle.cf_world.proofs.Changed.{set-other}
use Rattle.cf_world.proofs.ServedStill.{served-left}
use Rattle.cf_world.proofs.world.WorldParts.restart.Goals as goal

pub returns-in_default : goal.returns-in_default
returns-in_default c =
    λ cfg past t. (
      restart-nowhere t.0 c.args.node
          (none-there c.args.self.now.hubs c.args.node c.in_default.ensures.variant.1),
      t.1,
    )

pub returns : goal.returns
returns c = λ cfg past t.
    let n = c.args.node in
    let h : Node = c.in-Some.hub.now in
    let g : Node = c.new.result in
    let next : g ≡ empty n (h.boot + 1) = search rules in (
      restart-goes t.0 n h (found c.args.self.now.hubs n h (c.in-Some.ensures.variant.0 refl) c.in-Some.ensures.value)
          (slice_get (slice_set c.args.self.now.hubs.items n g))
          (changed c.args.self.now.hubs n h g (Renewed n) (c.in-Some.ensures.variant.0 refl) c.in-Some.ensures.value
          next)
          (get_by_text c.clear_addresses.new.clients) c.clear_addresses.ensures,
      served-left cfg.namespaces (slice_get c.args.self.now.hubs.items)
          (slice_get (slice_set c.args.self.now.hubs.items n g)) (get_by_text c.args.self.now.clients)
          (get_by_text c.clear_addresses.new.clients) t.1 n (λ j ne. set-other c.args.self.now.hubs.items n j g ne)
          c.clear_addresses.ensures,
    )
