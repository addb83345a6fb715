-- By whether the client is there, has an address, and has a hub: in each case the machine's step is the one taken.
use Rattle.std.proofs.Common.{rules, ◌≡◌, ◌∙◌, Some, None, refl, sym, slice_get, slice_set}
use Rattle.std.specs.BTreeMap.{get_by_text}
use Rattle.cf_hub.specs.Hub.{Node}
use Rattle.cf_machine.specs.IntervalMachine.{run}
use Rattle.cf_machine.specs.World.{World, start}
use Rattle.cf_world.specs.Tie.{addresses_of}
use Rattle.cf_world.specs.HubCalls.{Checked}
use Rattle.cf_world.proofs.BoardCalls.{top-stands}
use Rattle.cf_world.proofs.Changed.{changed, missing, unrefused}
use Rattle.cf_world.proofs.Served.{check-away, check-goes}
use Rattle.cf_hub.specs.Wordings.{plain}
use Rattle.cf_model.specs.Sessions.{checks}
use Rattle.cf_world.proofs.Changed.{lends}
use Rattle.cf_world.proofs.Staying.{checks-waits, keeps-one, served-each}
use Rattle.cf_world.proofs.Waiting.{keeps-or-closes}
use Rattle.cf_world.proofs.world.WorldParts.check.Goals as goal

pub returns-in_default : goal.returns-in_default
returns-in_default c = λ cfg past t.
    let none : addresses_of (get_by_text c.args.self.now.clients) c.args.name.now ≡ None = search rules in
    (check-away t.0 c.args.name.now c.args.channel.now none, t.1)

pub returns-in_default-get_mut : goal.returns-in_default-get_mut
returns-in_default-get_mut c = λ cfg past t.
    let w : World = run cfg start past in
    let sat : addresses_of (get_by_text c.args.self.now.clients) c.args.name.now ≡ Some c.in-Some.address =
    search rules in (
      check-goes t.0 (c.calls_are_alike.ensures w.broker.lists) (c.moves_are_alike.ensures w.broker.lists)
          c.args.name.now c.args.channel.now _ refl
          c.in-Some.address sat (slice_get c.args.self.now.hubs.items)
          (missing c.args.self.now.hubs c.in-Some.address.node (Checked c.in-Some.address.session c.args.channel.now _)
          _ c.in_default-get_mut.ensures.variant.1),
      t.1,
    )

pub returns : goal.returns
returns c = λ cfg past t.
    let w : World = run cfg start past in
    let sat : addresses_of (get_by_text c.args.self.now.clients) c.args.name.now ≡ Some c.in-Some.address =
    search rules in
    let g : Node = c.check-checked.new.self in
    let does : Checked c.in-Some.address.session c.args.channel.now c.position-top.result c.in-Some-get_mut.hub.now g =
    record {
      does = c.check-checked.ensures.session;
      same = c.check-checked.ensures.rest;
      none = unrefused g.refused (sym c.short.ensures ∙ c.if-short.false);
    } in (
      check-goes t.0 (c.calls_are_alike.ensures w.broker.lists) (c.moves_are_alike.ensures w.broker.lists)
          c.args.name.now c.args.channel.now c.position-top.result
          (top-stands cfg.namespaces c.args.self.now.broker w.broker t.0.broker c.args.channel.now c.position-top.result
          c.position-top.ensures.list_answer)
          c.in-Some.address sat (slice_get (slice_set c.args.self.now.hubs.items c.in-Some.address.node g))
          (changed c.args.self.now.hubs c.in-Some.address.node c.in-Some-get_mut.hub.now g
          (Checked c.in-Some.address.session c.args.channel.now c.position-top.result)
          (c.in-Some-get_mut.ensures.variant.0 refl) c.in-Some-get_mut.ensures.value does),
      served-each cfg.namespaces (slice_get c.args.self.now.hubs.items)
          (slice_get (slice_set c.args.self.now.hubs.items c.in-Some.address.node g)) t.1
          (keeps-one (lends c.args.self.now.hubs c.in-Some.address.node c.in-Some-get_mut.hub.now g
          (c.in-Some-get_mut.ensures.variant.0 refl) c.in-Some-get_mut.ensures.value) c.in-Some.address.session
          (keeps-or-closes does.does.hit (checks plain c.args.channel.now c.position-top.result)
          (checks-waits plain c.args.channel.now c.position-top.result) _ _ does.does.here) does.does.others),
    )
