-- The loop keeps that the clients so far are written as members; nobody is written as nothing.
use Rattle.std.proofs.Common.{◌≡◌, ◌<◌, length, arith, map, refl, rules, subst, string_bytes}
use Rattle.std.proofs.lemmas.Bool.{iff_false}
use Rattle.std.proofs.lemmas.Map.Iter.{iter_end}
use Rattle.std.specs.Map.Iter.{deref_pair}
use Rattle.cf_protocol.specs.Written.{client, object_of, info}
use Rattle.cf_protocol.specs.Writing.{Adds, bytes_of}
use Rattle.cf_protocol.proofs.Writings.{member, as_value}
use Rattle.cf_protocol.proofs.Clients.{presence_of, clients_stand, nobody, one_client, all_clients}
use Rattle.cf_protocol.proofs.Outgoings.{inside_inner}
use Rattle.cf_protocol.proofs.write.outgoing.write_clients.Goals as goal

pub loop-client-preserved : goal.loop-client-preserved
loop-client-preserved c =
    let id = string_bytes c.in-Some.client.now in
    let user = string_bytes c.in-Some.user.now in
    let key = rw c.as_str.ensures.value at c.text_key.ensures in
    let who = rw (c.as_str-in-loop-client.ensures.value, c.as_str-in-loop-client-2.ensures.value) at
    c.write_info.ensures in
    let one = member (object_of (info (record { client = id; user = user }))) key
    (as_value c.begin.ensures who c.value.ensures) in
    one_client c.loop-client.yielded (c.in-Some.client, c.in-Some.user) refl refl c.loop-client.invariant one

pub returns : goal.returns
returns c =
    let not_none : length c.args.users.now.entries ≡ 0 → ⊥ = iff_false c.is_empty.ensures c.if-is_empty.false in
    let some : 0 < length c.args.users.now.entries = omega (arith, not_none) in
    let e : map deref_pair c.loop-client.yielded ≡ c.args.users.now.entries = search (rules, iter_end) in
    let adds = subst (λ us. Adds c.open.new.self c.loop-client.writer (map client (bytes_of us))) e
    (rw (all_clients c.loop-client.yielded) c.loop-client.invariant) in
    presence_of c.args.users.now (search rules) (inside_inner (clients_stand c.args.users.now.entries some)
    c.open.ensures adds c.value-2.ensures)

pub returns-then-is_empty : goal.returns-then-is_empty
returns-then-is_empty c = nobody c.args.writer.now c.args.users.now (c.is_empty.ensures.0 c.if-is_empty.true)
