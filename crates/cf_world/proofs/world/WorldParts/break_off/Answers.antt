-- By whether the client is there, has an address, and has a hub: in each case the machine's step is the one taken.
use Rattle.std.proofs.Common.{rules, ◌≡◌, Some, None, refl, slice_get, slice_set}
use Rattle.std.specs.BTreeMap.{get_by_text}
use Rattle.cf_hub.specs.Hub.{Node}
use Rattle.cf_world.specs.Tie.{addresses_of}
use Rattle.cf_world.specs.HubCalls.{Gone}
use Rattle.cf_world.proofs.Breaking.{break-away, break-goes}
use Rattle.cf_world.proofs.Changed.{changed, none-there}
use Rattle.cf_world.proofs.Sitting.{hub_there}
use Rattle.cf_world.specs.declared.clients.SessionAddress.{SessionAddress}
use Rattle.cf_world.proofs.Changed.{lends}
use Rattle.cf_world.proofs.ServedStill.{served-gone}
use Rattle.cf_world.proofs.Sitting.{address_found}
use Rattle.cf_world.proofs.world.WorldParts.break_off.Goals as goal

pub returns-in_default : goal.returns-in_default
returns-in_default c = λ cfg past t.
    let none : addresses_of (get_by_text c.args.self.now.clients) c.args.name.now ≡ None = search rules in
    (break-away t.0 c.args.name.now none, t.1)

pub returns-in_default-get_mut : goal.returns-in_default-get_mut
returns-in_default-get_mut c = λ cfg past t.
    let sat : addresses_of (get_by_text c.args.self.now.clients) c.args.name.now ≡ Some c.in-Some.address =
    search rules in
    let there = hub_there t.0 c.args.name.now c.in-Some.address sat in
    let none = none-there c.args.self.now.hubs c.in-Some.address.node c.in_default-get_mut.ensures.variant.1 in
    absurd (cc)

pub returns-in-Some-get_mut : goal.returns-in-Some-get_mut
returns-in-Some-get_mut c = λ cfg past t.
    let sat : addresses_of (get_by_text c.args.self.now.clients) c.args.name.now ≡ Some c.in-Some.address =
    search rules in
    let g : Node = c.detach-gone.new.self in
    let s : SessionAddress = c.in-Some.address in
    let peer = address_found (get_by_text c.args.self.now.clients c.args.name.now) s sat in
    let gone = c.clear_address.ensures peer.0 peer.1 in (
      break-goes t.0 c.args.name.now s sat (slice_get (slice_set c.args.self.now.hubs.items s.node g))
          (changed c.args.self.now.hubs s.node c.in-Some-get_mut.hub.now g (Gone s.session)
          (c.in-Some-get_mut.ensures.variant.0 refl) c.in-Some-get_mut.ensures.value
          (record {
            gone = c.detach-gone.ensures.gone;
            others = c.detach-gone.ensures.others;
            same = c.detach-gone.ensures.rest;
          }))
          (get_by_text c.clear_address.new.clients) c.clear_address.ensures,
      served-gone cfg.namespaces t.1 t.0.nodes.apart c.args.name.now s
          (lends c.args.self.now.hubs s.node c.in-Some-get_mut.hub.now g (c.in-Some-get_mut.ensures.variant.0 refl)
          c.in-Some-get_mut.ensures.value) c.detach-gone.ensures.others
          peer.1 peer.2 (record peer.0 { client = gone.client; address = None }) refl gone.now,
    )
