-- In the two arms that aren't answered at once no epoch can be opened, so whether one lacks is the channel's question.
use Rattle.std.proofs.Common.{rules, ◌≡◌, ◌∙◌, None, false, string_bytes, sym, ap}
use mir.Syntax.{w32}
use mir.Val.{of_z, to_z}
use Rattle.std.proofs.lemmas.Int.{to_z-of_z}
use Rattle.std.proofs.lemmas.Result.{IfOk-weaker}
use Rattle.cf_protocol.specs.Request as request
use Rattle.cf_client.specs.ClientView.{state_of}
use Rattle.cf_world.specs.ClientTie.{request_by}
use Rattle.cf_world.specs.declared.client_command.ClientCommand.{ClientCommand}
use Rattle.cf_world.specs.declared.clients.Peer.{Peer}
use Rattle.cf_world.proofs.Passing.{list-lacks, passes-by-id, put-lacks}
use Rattle.cf_world.proofs.sending.lacks_epoch.Goals as goal

pub returns-in_ok-from_str-in-Put-3 : goal.returns-in_ok-from_str-in-Put-3
returns-in_ok-from_str-in-Put-3 c =
    let closed : c.can_open.result ≡ false = c.if-can_open.false in
    IfOk-weaker c.passes.result _ _
    (λ lacks pass. λ table m shows may.
    let p : Peer = c.args.peer.now in
    passes-by-id c.args.namespaces.now (request.Publish (string_bytes c.in_ok-from_str-in-Put.field-0)
    (string_bytes c.in_ok-from_str-in-Put-2.field-0)
    (request.Body (string_bytes c.in_ok-from_str-in-Put-3.field-0)))
    c.in-Ok.id (state_of p.client).client.fresh c.in-Ok.ensures.ok lacks pass
    ∙ put-lacks c.args.namespaces.now c.args.command.now p m c.in-Put.channel.now c.in-Put.key.now c.in-Put.body.now
    _ _ _ (ap (λ (e : ClientCommand). request_by e (state_of p.client).client) c.in-Put.is)
    c.in_ok-from_str-in-Put.ensures.ok c.in_ok-from_str-in-Put-2.ensures.ok c.in_ok-from_str-in-Put-3.ensures.ok
    (sym (c.can_open.ensures table m shows) ∙ closed))
    c.passes.ensures

pub returns-in_ok-from_str-in-List : goal.returns-in_ok-from_str-in-List
returns-in_ok-from_str-in-List c =
    let back : to_z w32 (of_z w32 c.in-List.limit) ≡ c.in-List.limit = to_z-of_z w32 c.in-List.limit (search rules) in
    let closed : c.can_open-in-List.result ≡ false = c.if-can_open-2.false in
    IfOk-weaker c.passes-in-List.result _ _
    (λ lacks pass. λ table m shows may.
    let p : Peer = c.args.peer.now in
    passes-by-id c.args.namespaces.now (request.History (string_bytes c.in_ok-from_str-in-List.field-0)
    (to_z w32 (of_z w32 c.in-List.limit)) None false)
    c.in-Ok.id (state_of p.client).client.fresh c.in-Ok.ensures.ok lacks pass
    ∙ list-lacks c.args.namespaces.now c.args.command.now p m c.in-List.channel.now c.in-List.limit
    _ _ (ap (λ (e : ClientCommand). request_by e (state_of p.client).client) c.in-List.is)
    c.in_ok-from_str-in-List.ensures.ok back (sym (c.can_open-in-List.ensures table m shows) ∙ closed))
    c.passes-in-List.ensures
