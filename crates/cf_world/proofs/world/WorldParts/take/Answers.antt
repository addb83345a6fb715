-- By what the hub has for the client: nothing, a text, or a close; what the client makes of it is what the trace says.
use Rattle.std.proofs.Common.{rules, ◌≡◌, ◌∙◌, ℕ, List, Option, Some, None, Result, Ok, Err, OnOk, map, refl, sym, ap}
use Rattle.std.proofs.Common.{subst, slice_get, slice_set}
use Rattle.std.proofs.lemmas.Result.{IfOk-weaker}
use Rattle.std.specs.BTreeMap.{get_by_text}
use Rattle.cf_client.specs.Shown.{shown_item}
use Rattle.cf_queue.specs.Meaning.{meaning}
use Rattle.cf_queue.specs.declared.queue.Out.{Out}
use Rattle.cf_queue.specs.declared.queue.Out.TheVariants as out
use Rattle.cf_hub.specs.Hub.{Node, attached_at}
use Rattle.cf_hub.specs.Session.{Attached}
use Rattle.cf_machine.specs.AnswersById.{AreForChannel}
use Rattle.cf_machine.specs.IntervalMachine.{run}
use Rattle.cf_machine.specs.Leading.{coming}
use Rattle.cf_machine.specs.LooseRun.{lines}
use Rattle.cf_machine.specs.World.{World, start}
use Rattle.cf_world.specs.HubCalls.{Gone, Taken}
use Rattle.cf_world.specs.Tie.{addresses_of}
use Rattle.cf_world.specs.declared.clients.Peer.{Peer}
use Rattle.cf_world.proofs.AtHubs.{after-another, moved}
use Rattle.cf_world.proofs.Changed.{lends}
use Rattle.cf_world.proofs.Looking.{TextFront, close_waits, none_waits, text_waits}
use Rattle.cf_world.proofs.Sitting.{address_found}
use Rattle.cf_world.proofs.TakenText.{take_goes, take_writes}
use Rattle.cf_world.proofs.Takes.{says-there, take-away, take-close, take-none, writes-close}
use Rattle.cf_session.specs.declared.session.Session.{Session}
use Rattle.cf_world.specs.Serving.{IsServedAt}
use Rattle.cf_world.proofs.ServedStill.{session_at-was, served-gone, served-one}
use Rattle.cf_world.proofs.Staying.{front-keeps, keeps-one, served-each}
use Rattle.cf_world.proofs.Waiting.{served-still}
use Rattle.cf_world.proofs.world.WorldParts.take.Goals as goal

on_ok_always : {T E P : Type 0} (r : Result T E) → P → OnOk r P
on_ok_always (Ok v) p = p
on_ok_always (Err e) p = tt

pub returns-in_default-clause-ok : goal.returns-in_default-clause-ok
returns-in_default-clause-ok c = λ cfg past t.
    let none : addresses_of (get_by_text c.args.self.now.clients) c.args.name.now ≡ None = search rules in
    (take-away t.0 c.args.name.now none, t.1)

pub returns-in-None-clause-ok : goal.returns-in-None-clause-ok
returns-in-None-clause-ok c = λ cfg past t.
    let w : World = run cfg start past in
    let x : List ℕ = c.args.name.now in
    let peers : List ℕ → Option Peer = get_by_text c.args.self.now.clients in
    let sat : addresses_of peers x ≡ Some c.in-Some.address = search rules in
    let h : Node = c.in-Some-get_mut.hub.now in
    let g : Node = c.take.new.self in
    let v = lends c.args.self.now.hubs c.in-Some.address.node h g (c.in-Some-get_mut.ensures.variant.0 refl)
    c.in-Some-get_mut.ensures.value in
    let says = says-there t.0 x c.in-Some.address sat h v.was in
    let o : Option Attached = attached_at h c.in-Some.address.session in
    let taken : Taken c.in-Some.address.session h g =
    record { does = c.take.ensures.sessions; same = c.take.ensures.rest } in
    let none = none_waits w.broker.lists o (w.links x).session says c.in-None.ensures.front in (
      take-none t.0 x c.in-Some.address sat none (c.calls_are_alike.ensures w.broker.lists)
          (c.moves_are_alike.ensures w.broker.lists) (slice_get
          (slice_set c.args.self.now.hubs.items c.in-Some.address.node g))
          (moved v (Taken c.in-Some.address.session) taken),
      served-each cfg.namespaces (slice_get c.args.self.now.hubs.items)
          (slice_get (slice_set c.args.self.now.hubs.items c.in-Some.address.node g)) t.1
          (keeps-one v c.in-Some.address.session (front-keeps c.in-Some.address.session h g taken.does)
          taken.does.others),
    )

pub returns-in_ok-told-in-Some-Text-clause-ok : goal.returns-in_ok-told-in-Some-Text-clause-ok
returns-in_ok-told-in-Some-Text-clause-ok c = on_ok_always c.entries.result (λ cfg past t.
    let w : World = run cfg start past in
    let x : List ℕ = c.args.name.now in
    let peers : List ℕ → Option Peer = get_by_text c.args.self.now.clients in
    let sat : addresses_of peers x ≡ Some c.in-Some.address = search rules in
    let h : Node = c.in-Some-get_mut.hub.now in
    let g : Node = c.take.new.self in
    let v = lends c.args.self.now.hubs c.in-Some.address.node h g (c.in-Some-get_mut.ensures.variant.0 refl)
    c.in-Some-get_mut.ensures.value in
    let says = says-there t.0 x c.in-Some.address sat h v.was in
    let o : Option Attached = attached_at h c.in-Some.address.session in
    let taken : Taken c.in-Some.address.session h g =
    record { does = c.take.ensures.sessions; same = c.take.ensures.rest } in
    let found = address_found (peers x) c.in-Some.address sat in
    let name : c.in-Some-Text.text ≡ c.as_str.result.now = search rules in
    let sent : c.in-Some-Text.field-0 ≡ out.Text c.in-Some-Text.text = search rules in
    let waits : TextFront w.broker.lists c.as_str.result.now (w.links x).session.notes =
    subst (λ (ts : List ℕ). TextFront w.broker.lists ts (w.links x).session.notes) name
    (text_waits w.broker.lists o (w.links x).session c.in-Some-Text.text says
    (sym (ap (λ (v : Out). Some (meaning v)) sent) ∙ c.in-Some-Text.ensures.front)) in
    let heard = c.in_ok-told-in-Some-Text.ensures found.0 found.1 in
    let for : (d : List ℕ) → AreForChannel d ((w.links x).client.modes d) (coming (w.links x)) =
    λ d. subst (λ (v : World). AreForChannel d ((v.links x).client.modes d) (coming (v.links x)))
    (c.schedules_are_loose_runs.ensures.world cfg past) (c.answers_by_id.ensures cfg (lines past) x d) in (
      take_goes t.0 x c.in-Some.address found.0 found.1 found.2 (c.calls_are_alike.ensures w.broker.lists)
          (c.moves_are_alike.ensures w.broker.lists) c.one_meaning.ensures
          c.replies_read_back.ensures.read for (c.what_waits_is_listed.ensures cfg past x) heard.apart
          c.as_str.result.now waits.note waits.rest waits.is waits.said
          (slice_get (slice_set c.args.self.now.hubs.items c.in-Some.address.node g))
          (moved v (Taken c.in-Some.address.session) taken) (get_by_text c.hear.new.clients)
          (map shown_item c.in_ok-told-in-Some-Text.told.items) heard,
      served-one t.1 t.0.nodes.apart x c.in-Some.address
          {q = record found.0 { client = heard.becomes.client; session = heard.becomes.session }} v taken.does.others
          (record { was = found.1; now = heard.becomes.now }) found.2 found.2
          (subst (λ (z : Session). IsServedAt cfg.namespaces (attached_at g c.in-Some.address.session) z)
          (sym heard.session)
          (served-still cfg.namespaces found.0.session o (attached_at g c.in-Some.address.session)
          (front-keeps c.in-Some.address.session h g taken.does)
          (subst (λ (z : Option Attached). IsServedAt cfg.namespaces z found.0.session)
          (session_at-was c.in-Some.address v)
          (t.1 x found.0 c.in-Some.address found.1 found.2)))),
    ))

pub returns-in_ok-told-in-Some-Text-clause-writes : goal.returns-in_ok-told-in-Some-Text-clause-writes
returns-in_ok-told-in-Some-Text-clause-writes c = IfOk-weaker c.entries.result _ _ (λ es is-entries. λ cfg past t.
    let w : World = run cfg start past in
    let x : List ℕ = c.args.name.now in
    let peers : List ℕ → Option Peer = get_by_text c.args.self.now.clients in
    let sat : addresses_of peers x ≡ Some c.in-Some.address = search rules in
    let h : Node = c.in-Some-get_mut.hub.now in
    let g : Node = c.take.new.self in
    let v = lends c.args.self.now.hubs c.in-Some.address.node h g (c.in-Some-get_mut.ensures.variant.0 refl)
    c.in-Some-get_mut.ensures.value in
    let says = says-there t.0 x c.in-Some.address sat h v.was in
    let o : Option Attached = attached_at h c.in-Some.address.session in
    let taken : Taken c.in-Some.address.session h g =
    record { does = c.take.ensures.sessions; same = c.take.ensures.rest } in
    let found = address_found (peers x) c.in-Some.address sat in
    let name : c.in-Some-Text.text ≡ c.as_str.result.now = search rules in
    let sent : c.in-Some-Text.field-0 ≡ out.Text c.in-Some-Text.text = search rules in
    let waits : TextFront w.broker.lists c.as_str.result.now (w.links x).session.notes =
    subst (λ (ts : List ℕ). TextFront w.broker.lists ts (w.links x).session.notes) name
    (text_waits w.broker.lists o (w.links x).session c.in-Some-Text.text says
    (sym (ap (λ (v : Out). Some (meaning v)) sent) ∙ c.in-Some-Text.ensures.front)) in
    let heard = c.in_ok-told-in-Some-Text.ensures found.0 found.1 in
    let for : (d : List ℕ) → AreForChannel d ((w.links x).client.modes d) (coming (w.links x)) =
    λ d. subst (λ (v : World). AreForChannel d ((v.links x).client.modes d) (coming (v.links x)))
    (c.schedules_are_loose_runs.ensures.world cfg past) (c.answers_by_id.ensures cfg (lines past) x d) in
    is-entries ∙ sym (take_writes t.0 x c.in-Some.address found.0 found.1 found.2
    (c.calls_are_alike.ensures w.broker.lists) (c.moves_are_alike.ensures w.broker.lists) c.one_meaning.ensures
    c.replies_read_back.ensures.read for (c.what_waits_is_listed.ensures cfg past x) heard.apart c.as_str.result.now
    waits.note waits.rest waits.is waits.said
    (slice_get (slice_set c.args.self.now.hubs.items c.in-Some.address.node g))
    (moved v (Taken c.in-Some.address.session) taken) (get_by_text c.hear.new.clients)
    (map shown_item c.in_ok-told-in-Some-Text.told.items) heard c.args.at))
    c.entries.ensures

pub returns-in-Some-Close-clause-ok : goal.returns-in-Some-Close-clause-ok
returns-in-Some-Close-clause-ok c = on_ok_always c.closed.result (λ cfg past t.
    let w : World = run cfg start past in
    let x : List ℕ = c.args.name.now in
    let peers : List ℕ → Option Peer = get_by_text c.args.self.now.clients in
    let sat : addresses_of peers x ≡ Some c.in-Some.address = search rules in
    let h : Node = c.in-Some-get_mut.hub.now in
    let g : Node = c.take.new.self in
    let v = lends c.args.self.now.hubs c.in-Some.address.node h g (c.in-Some-get_mut.ensures.variant.0 refl)
    c.in-Some-get_mut.ensures.value in
    let says = says-there t.0 x c.in-Some.address sat h v.was in
    let o : Option Attached = attached_at h c.in-Some.address.session in
    let taken : Taken c.in-Some.address.session h g =
    record { does = c.take.ensures.sessions; same = c.take.ensures.rest } in
    let z : Node = c.detach-gone.new.self in
    let sent : c.in-Some-Close.field-0 ≡ out.Close c.in-Some-Close.code = search rules in
    let closes =
    close_waits w.broker.lists o (w.links x).session c.in-Some-Close.code says
    (sym (ap (λ (v : Out). Some (meaning v)) sent) ∙ c.in-Some-Close.ensures.front) in
    let gone : Gone c.in-Some.address.session g z =
    record {
      gone = c.detach-gone.ensures.gone;
      others = c.detach-gone.ensures.others;
      same = c.detach-gone.ensures.rest;
    } in
    let last = lends c.args.self.now.hubs c.in-Some.address.node h z (c.in-Some-get_mut.ensures.variant.0 refl)
    c.in-Some-get_mut.ensures.value in
    let peer = address_found (peers x) c.in-Some.address sat in
    let left = c.clear_address.ensures peer.0 peer.1 in (
      take-close t.0 x c.in-Some.address sat c.in-Some-Close.code closes.0 closes.1
          (slice_get (slice_set c.args.self.now.hubs.items c.in-Some.address.node g))
          (slice_get (slice_set c.args.self.now.hubs.items c.in-Some.address.node z))
          (moved v (Taken c.in-Some.address.session) taken)
          (moved (after-another v last) (Gone c.in-Some.address.session) gone)
          (get_by_text c.clear_address.new.clients) c.clear_address.ensures,
      served-gone cfg.namespaces t.1 t.0.nodes.apart x c.in-Some.address last
          (λ j ne. gone.others j ne ∙ taken.does.others j ne) peer.1 peer.2
          (record peer.0 { client = left.client; address = None }) refl left.now,
    ))

pub returns-in-Some-Close-clause-writes : goal.returns-in-Some-Close-clause-writes
returns-in-Some-Close-clause-writes c = IfOk-weaker c.closed.result _ _ (λ es is-entries. λ cfg past t.
    let w : World = run cfg start past in
    let x : List ℕ = c.args.name.now in
    let peers : List ℕ → Option Peer = get_by_text c.args.self.now.clients in
    let sat : addresses_of peers x ≡ Some c.in-Some.address = search rules in
    let h : Node = c.in-Some-get_mut.hub.now in
    let g : Node = c.take.new.self in
    let v = lends c.args.self.now.hubs c.in-Some.address.node h g (c.in-Some-get_mut.ensures.variant.0 refl)
    c.in-Some-get_mut.ensures.value in
    let says = says-there t.0 x c.in-Some.address sat h v.was in
    let o : Option Attached = attached_at h c.in-Some.address.session in
    let sent : c.in-Some-Close.field-0 ≡ out.Close c.in-Some-Close.code = search rules in
    let closes =
    close_waits w.broker.lists o (w.links x).session c.in-Some-Close.code says
    (sym (ap (λ (v : Out). Some (meaning v)) sent) ∙ c.in-Some-Close.ensures.front) in
    is-entries ∙ writes-close t.0 x c.in-Some.address sat c.in-Some-Close.code closes.0 closes.1 c.args.at)
    c.closed.ensures
