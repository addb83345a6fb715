-- The loop keeps that what is told and what is still to come make the whole list.
use Rattle.std.proofs.Common.{◌∙◌, ap, arith}
use Rattle.std.proofs.lemmas.Map.Iter.{rest_more, rest_all}
use Rattle.std.proofs.lemmas.Map.Text.{text_keys}
use Rattle.cf_presence.specs.Presence.{Seen}
use Rattle.cf_presence.proofs.Lists.{lists_one, lists_all}
use Rattle.cf_presence.proofs.clients.ChannelClients.list.Goals as goal

pub loop-client-preserved : goal.loop-client-preserved
loop-client-preserved c =
    let first = rest_more _ c.loop-client.rest c.next.new.self c.next.result (c.in-Some.client, c.in-Some.entry)
    c.in-Some.is c.next.ensures.steps in
    lists_one c.loop-client.users c.put.new.map (c.in-Some.client.now, c.in-Some.entry.now) c.in_ok-user.user
    c.loop-client.rest c.next.new.self _ first (λ q. grind (arith, text_keys))
    (c.in_ok-user.ensures.ok ∙ c.as_str.ensures.value ∙ ap (λ (s : Seen). s.user) c.entry.view_is)
    c.loop-client.invariant

pub returns : goal.returns
returns c =
    let none = rest_all _ c.loop-client.rest c.next.new.self c.next.result c.in_default.is c.next.ensures.steps in
    rw (← c.self.view_is) (lists_all c.self.inside.map c.loop-client.users c.loop-client.rest
    c.iter-rest.ensures.ordered none c.loop-client.invariant)
