-- What `deliver_to_all` promises of each session, with the push that was written before, by the lemma
-- `refusal_counted`.
use Rattle.std.proofs.Common.{is_some, not}
use Rattle.cf_hub.specs.Hub.{one_if}
use Rattle.cf_hub.proofs.DeliveryOutcomes.{refusal_counted}
use Rattle.cf_hub.proofs.hub.Hub.deliver.Goals as goal

pub returns-clause-each : goal.returns-clause-each
returns-clause-each c =
    refusal_counted c.args.publication.now c.args.channel.now c.args.epoch.now
    (one_if (not (is_some c.push_for_all-written.result))) c.args.self.now c.push_for_all-written.new.self
    c.deliver_to_all-counts.new.self c.push_for_all-written.ensures.counts
    c.deliver_to_all-counts.ensures.each
