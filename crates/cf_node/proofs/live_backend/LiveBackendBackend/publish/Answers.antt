-- The broker answers at some point of the shard's log (`was_published`), for the channel that the publish names.
use Rattle.std.proofs.Common.{◌≡◌, ℕ, List, rules, subst}
use Rattle.std.specs.Prelude.{IfOk, string_bytes}
use Rattle.cf_node.proofs.Handing.{was_published}
use Rattle.cf_node.specs.Answered.{WasPublished}
use Rattle.cf_node.proofs.live_backend.LiveBackendBackend.publish.Goals as goal

-- the broker's answer to the publish of that channel, key and body
pub returns : goal.returns
returns g c =
    let asked = c.args.publish in
    let named : c.as_str-channel.result.now ≡ string_bytes asked.channel = search (rules, c.as_str-channel.ensures) in
    let answered =
    was_published g.N.Naming.namespaces c.in-Some.pass.log c.publish-answer.new.pass.log c.as_str-channel.result.now
    (string_bytes asked.key) (string_bytes asked.body) asked.info c.publish-answer.result
    c.publish-answer.ensures.answer in
    subst (λ (channel : List ℕ). IfOk c.publish-answer.result (WasPublished g.N.Naming.namespaces channel
    (string_bytes asked.key) (string_bytes asked.body) asked.info)) named answered
