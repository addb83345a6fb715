-- By whether the client is away, the node is there, and the hub has room: in each case the machine's step is the one
-- taken.
use Rattle.std.proofs.Common.{rules, ◌≡◌, ◌∙◌, ℕ, Result, Ok, Err, None, inl, inr, ap, refl, slice_get, slice_set}
use Rattle.std.proofs.Common.{string_bytes}
use Rattle.std.proofs.lemmas.Result.{on_ok_weaker}
use Rattle.std.specs.BTreeMap.{get_by_text}
use Rattle.std.specs.Result.{IsErrOf}
use Rattle.cf_hub.specs.Hub.{Node, after_refusal}
use Rattle.cf_hub.specs.declared.refusal.HubRefusal.{HubRefusal}
use Rattle.cf_hub.specs.declared.refusal.HubRefusal.TheVariants.{TooMany}
use Rattle.cf_machine.specs.IntervalMachine.{run}
use Rattle.cf_machine.specs.World.{World, start}
use Rattle.cf_world.specs.HubCalls.{Moves}
use Rattle.cf_world.specs.Tie.{addresses_of}
use Rattle.cf_world.proofs.Changed.{lends, none-there}
use Rattle.cf_world.proofs.Connecting.{connect-goes, connect-none}
use Rattle.std.proofs.Common.{Option, Some, List, [], ◌+◌, sym, subst}
use Rattle.cf_session.specs.CommandScripts.{Tables}
use Rattle.cf_session.specs.Script.{Served}
use Rattle.cf_session.specs.SessionMachine.{Todo}
use Rattle.cf_world.specs.NodesTie.{name_of}
use Rattle.cf_world.proofs.Greeting.{fresh-served, served-joined}
use Rattle.cf_hub.specs.Hub.{attached_at, client_id}
use Rattle.cf_hub.specs.Session.{Attached}
use Rattle.cf_world.specs.Waits.{KeepsAt}
use Rattle.cf_world.proofs.Staying.{keeps-all, served-each}
use Rattle.cf_world.proofs.Waiting.{keeps-same}
use Rattle.cf_world.proofs.world.WorldParts.connect.Goals as goal

no_err : (r : Result ℕ HubRefusal) (k : ℕ) → r ≡ Ok k → IsErrOf r TooMany → ⊥
no_err r k e h = cc

is_err : (r : Result ℕ HubRefusal) (f : HubRefusal) → r ≡ Err f → f ≡ TooMany → IsErrOf r TooMany
is_err r f e is = e ∙ ap Err is

pub returns-in_default-get_mut : goal.returns-in_default-get_mut
returns-in_default-get_mut c = λ cfg past t.
    let none : addresses_of (get_by_text c.args.self.now.clients) c.args.name.now ≡ None = search rules in (
      connect-none t.0 c.args.name.now c.args.node c.sessions_are_counted.ensures none
          (slice_get c.args.self.now.hubs.items)
          (inl (none-there c.args.self.now.hubs c.args.node c.in_default-get_mut.ensures.variant.1, λ j. refl)),
      t.1,
    )

pub returns-in_ok-id-in-Ok : goal.returns-in_ok-id-in-Ok
returns-in_ok-id-in-Ok c = on_ok_weaker c.join.result (λ joins. λ cfg past t.
    let w : World = run cfg start past in
    let none : addresses_of (get_by_text c.args.self.now.clients) c.args.name.now ≡ None = search rules in
    let h : Node = c.in-Some-get_mut.hub.now in
    let g : Node = c.attach.new.self in
    let v : Moves c.args.node h g (slice_get c.args.self.now.hubs.items)
    (slice_get (slice_set c.args.self.now.hubs.items c.args.node g)) =
    lends c.args.self.now.hubs c.args.node h g (c.in-Some-get_mut.ensures.variant.0 refl)
    c.in-Some-get_mut.ensures.value in
    let k : ℕ = c.in-Ok.session in
    let name : string_bytes c.in_ok-id-in-Ok.id ≡ client_id h.node h.boot (h.used + 1) =
    c.in_ok-id-in-Ok.ensures (client_id h.node h.boot (h.used + 1)) (ap name_of c.in-Ok.ensures.opens.here) in
    let met = joins.meets c.without_tokens-waits.ensures.progress in (
      connect-goes t.0 c.args.name.now c.args.node c.sessions_are_counted.ensures none
          (c.calls_are_alike.ensures w.broker.lists) (slice_get (slice_set c.args.self.now.hubs.items c.args.node g))
          c.in-Ok.session (
            h,
            v.was,
            record {
              hub = g;
              now = v.now;
              changes = record {
                sound = record {
                  rows = c.invariant.ensures.rows;
                  agrees = c.invariant.ensures.agrees;
                  bounded = c.invariant.ensures.bounded;
                };
                room = λ f. no_err c.attach.result c.in-Ok.session c.in-Ok.is (c.attach.ensures.too_many.1 f);
                free = c.in-Ok.ensures.number.free;
                user = string_bytes c.new.result;
                moment = 0;
                opens = c.in-Ok.ensures.opens;
              };
              others = v.others;
            },
          )
          (get_by_text c.join.new.clients) joins,
      served-joined t.0 t.1 c.args.name.now (record { node = c.args.node; session = k }) v c.in-Ok.ensures.opens.others
          c.in-Ok.ensures.number.free (record {
            client = joins.client;
            address = Some (record { node = c.args.node; session = k });
            session = joins.session;
          }) refl joins.now
          (fresh-served cfg.namespaces (attached_at g k) (client_id h.node h.boot (h.used + 1))
          (string_bytes c.new.result) 0 joins.session c.in-Ok.ensures.opens.here
          (ap (λ (z : Tables). z.namespaces) (met.0 ∙ c.without_tokens-waits.ensures.tables) ∙ t.0.namespaces) met.1
          (met.2 ∙ ap (λ (n : List ℕ). Todo (Served (Some (record { user = []; client = n })))) name)),
    ))
    c.join.ensures

pub returns-in-Err-TooMany : goal.returns-in-Err-TooMany
returns-in-Err-TooMany c = λ cfg past t.
    let none : addresses_of (get_by_text c.args.self.now.clients) c.args.name.now ≡ None = search rules in
    let h : Node = c.in-Some-get_mut.hub.now in
    let g : Node = c.attach.new.self in
    let v : Moves c.args.node h g (slice_get c.args.self.now.hubs.items)
    (slice_get (slice_set c.args.self.now.hubs.items c.args.node g)) =
    lends c.args.self.now.hubs c.args.node h g (c.in-Some-get_mut.ensures.variant.0 refl)
    c.in-Some-get_mut.ensures.value in (
      connect-none t.0 c.args.name.now c.args.node c.sessions_are_counted.ensures none
          (slice_get (slice_set c.args.self.now.hubs.items c.args.node g))
          (inr (
            h,
            v.was,
            record {
              hub = g;
              now = v.now;
              changes = record {
                sound = record {
                  rows = c.invariant.ensures.rows;
                  agrees = c.invariant.ensures.agrees;
                  bounded = c.invariant.ensures.bounded;
                };
                full = c.attach.ensures.too_many.0 (is_err c.attach.result c.in-Err-TooMany.field-0 c.in-Err-TooMany.is
                    c.in-Err-TooMany.field-0-is);
                stays = c.in-Err-TooMany.ensures.err.sessions;
                same = c.in-Err-TooMany.ensures.err.rest;
                refused = c.in-Err-TooMany.ensures.err.refused
                    ∙ ap (λ (e : HubRefusal). after_refusal e h.refused) c.in-Err-TooMany.field-0-is;
              };
              others = v.others;
            },
          )),
      served-each cfg.namespaces (slice_get c.args.self.now.hubs.items)
          (slice_get (slice_set c.args.self.now.hubs.items c.args.node g)) t.1
          (keeps-all v (λ k. subst (λ (o : Option Attached). KeepsAt (attached_at h k) o)
          (sym (c.in-Err-TooMany.ensures.err.sessions k)) (keeps-same (attached_at h k)))),
    )
