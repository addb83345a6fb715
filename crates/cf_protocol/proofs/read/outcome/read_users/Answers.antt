-- The loop keeps that the users so far are gathered, each under its client; a value that is none is told.
use Rattle.std.proofs.Common.{◌≡◌, ◌∙◌, ◌≤◌, sym, length, string_bytes, rules, arith}
use Rattle.cf_protocol.specs.Reading.{IsMember}
use Rattle.cf_protocol.proofs.ItemsRead.{beside, zip_length}
use Rattle.cf_protocol.proofs.Users.{gathered_none, gathered_one, gathered_past, gathered_stops, gathered_all}
use Rattle.cf_protocol.proofs.read.outcome.read_users.Goals as goal

pub is_present-requires : goal.is_present-requires
is_present-requires c =
    let clients = c.args.clients.now in
    let same = c.deref-client-items.ensures.value in
    let at = beside (IsMember clients.text.now) clients.found.items c.requires.0 c.loop-client.client-index
    c.client-item.result c.client-item.result c.requires.1 (rw (← same) c.loop-client-test.true)
    (rw (← same) c.client-item.is) in
    (at.item.1, at.is.1)

pub read_client-requires : goal.read_client-requires
read_client-requires c =
    let clients = c.args.clients.now in
    let same = c.deref-client-items.ensures.value in
    let at = beside (IsMember clients.text.now) clients.found.items c.requires.0 c.loop-client.client-index
    c.client-item.result c.client-item.result c.requires.1 (rw (← same) c.loop-client-test.true)
    (rw (← same) c.client-item.is) in
    (at.item.1, at.is.1)

pub returns-in_err-user : goal.returns-in_err-user
returns-in_err-user c t fs is_object reads =
    let clients = c.args.clients.now in
    let same = c.deref-client-items.ensures.value in
    let at = beside (IsMember clients.text.now) clients.found.items fs c.loop-client.client-index c.client-item.result
    c.client-item.result reads (rw (← same) c.loop-client-test.true) (rw (← same) c.client-item.is) in
    let stops = gathered_stops fs c.loop-client.client-index c.loop-client.users at.item
    (c.loop-client.invariant t fs is_object reads) at.at
    (sym (c.is_present.ensures at.item.1 at.is.1) ∙ c.if-not-is_present.false) in
    let was = c.in_err-user.ensures at.item.1 at.is.1 in
    search (rules, stops)

pub loop-client-init : goal.loop-client-init
loop-client-init c t fs is_object reads = gathered_none t fs c.new-users.result is_object c.new-users.ensures.empty

pub loop-client-preserved : goal.loop-client-preserved
loop-client-preserved c t fs is_object reads =
    let clients = c.args.clients.now in
    let same = c.deref-client-items.ensures.value in
    let at = beside (IsMember clients.text.now) clients.found.items fs c.loop-client.client-index c.client-item.result
    c.client-item.result reads (rw (← same) c.loop-client-test.true) (rw (← same) c.client-item.is) in
    let cloned : string_bytes c.in_ok-clone.field-0 ≡ string_bytes c.client-item.result.0 =
    c.in_ok-clone.ensures.cases in
    let is_key = cloned ∙ at.is.0 in
    let is_user : string_bytes c.user.inside.user ≡ c.in_ok-user.field-0.user = search rules in
    gathered_one fs c.loop-client.client-index c.loop-client.users c.insert.new.self at.item c.in_ok-user.field-0
    c.in_ok-clone.field-0 c.user.inside.user (c.loop-client.invariant t fs is_object reads) at.at
    (sym (c.is_present.ensures at.item.1 at.is.1) ∙ c.if-not-is_present.false) is_key
    (c.in_ok-user.ensures at.item.1 at.is.1) is_user c.in_ok-insert.ensures.entries

pub returns : goal.returns
returns c t fs is_object reads =
    let ends : length c.args.clients.now.found.items ≤ c.loop-client.client-index =
    rw (← c.deref-client-items.ensures.value) c.loop-client-test.false in
    let same = zip_length (IsMember c.args.clients.now.text.now) c.args.clients.now.found.items fs reads in
    gathered_all fs c.loop-client.client-index c.loop-client.users (c.loop-client.invariant t fs is_object reads)
    (omega arith)

pub loop-client-preserved-then-not-is_present : goal.loop-client-preserved-then-not-is_present
loop-client-preserved-then-not-is_present c t fs is_object reads =
    let clients = c.args.clients.now in
    let same = c.deref-client-items.ensures.value in
    let at = beside (IsMember clients.text.now) clients.found.items fs c.loop-client.client-index c.client-item.result
    c.client-item.result reads (rw (← same) c.loop-client-test.true) (rw (← same) c.client-item.is) in
    gathered_past fs c.loop-client.client-index c.loop-client.users at.item
    (c.loop-client.invariant t fs is_object reads) at.at
    (sym (c.is_present.ensures at.item.1 at.is.1) ∙ c.if-not-is_present.true)
