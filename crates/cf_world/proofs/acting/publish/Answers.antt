-- Each outcome is the broker's, with the client that publishes in its info, by one helper for all of them.
use Rattle.std.proofs.Common.{◌≡◌, ◌∙◌, ℕ, List, Some, refl, sym, ap, subst}
use Rattle.cf_protocol.specs.Datum.{Who}
use Rattle.cf_protocol.specs.Settings.{NamespaceTable}
use Rattle.cf_machine.specs.FreshEpochs.{AreFresh}
use Rattle.cf_machine.specs.PublicationList.{Broker as Shared}
use Rattle.cf_world.specs.Acting.{PublishesAs, datum_of, put_answer}
use Rattle.cf_machine.specs.ReadBack.{IsDatum}
use Rattle.cf_world.specs.BrokerTie.{Publishes, ShowsBroker, datum_from}
use Rattle.cf_world.specs.declared.broker.WorldBroker.{WorldBroker}
use Rattle.cf_world.specs.declared.broker.PublishOutcome.{PublishOutcome}
use Rattle.cf_world.specs.declared.broker.PublishOutcome.TheVariants as outcome
use Rattle.cf_world.proofs.acting.publish.Goals as goal

publishes-as : (c key body : List ℕ) (who : Who) (client : List ℕ) (old new : WorldBroker) (found r : PublishOutcome)
    → client ≡ who.client → found ≡ r
    → ((table : NamespaceTable) (m : Shared) → AreFresh m → IsDatum (datum_from body (Some client))
    → ShowsBroker table old m
    → Publishes table m c key (datum_from body (Some client)) new found)
    → PublishesAs c key body who (put_answer r) old new
publishes-as c key body who client old new found r same is does =
    record {
      result = r;
      publishes = λ table m fresh regular shows.
          subst (λ (p : PublishOutcome). Publishes table m c key (datum_of body who) new p) is
          (subst (λ (name : List ℕ). Publishes table m c key (datum_from body (Some name)) new found) same
          (does table m fresh (subst (λ (name : List ℕ). IsDatum (datum_from body (Some name))) (sym same) regular)
          shows));
      answer = refl;
    }

pub returns-in-Accepted : goal.returns-in-Accepted
returns-in-Accepted c =
    publishes-as c.args.channel.now c.args.key.now c.args.body.now c.args.info.now c.as_str.result.now c.args.broker.now
    c.publish.new.self c.in_ok-publish.field-0 outcome.Accepted
    (c.as_str.ensures.value ∙ ap (λ (w : Who). w.client) c.info.view_is) c.in-Accepted.is c.in_ok-publish.ensures

pub returns-in-Repeated : goal.returns-in-Repeated
returns-in-Repeated c =
    publishes-as c.args.channel.now c.args.key.now c.args.body.now c.args.info.now c.as_str.result.now c.args.broker.now
    c.publish.new.self c.in_ok-publish.field-0 outcome.Repeated
    (c.as_str.ensures.value ∙ ap (λ (w : Who). w.client) c.info.view_is) c.in-Repeated.is c.in_ok-publish.ensures

pub returns-in-AtLastOffset : goal.returns-in-AtLastOffset
returns-in-AtLastOffset c =
    publishes-as c.args.channel.now c.args.key.now c.args.body.now c.args.info.now c.as_str.result.now c.args.broker.now
    c.publish.new.self c.in_ok-publish.field-0 outcome.AtLastOffset
    (c.as_str.ensures.value ∙ ap (λ (w : Who). w.client) c.info.view_is) c.in-AtLastOffset.is c.in_ok-publish.ensures

pub returns-in-NoEpoch : goal.returns-in-NoEpoch
returns-in-NoEpoch c =
    publishes-as c.args.channel.now c.args.key.now c.args.body.now c.args.info.now c.as_str.result.now c.args.broker.now
    c.publish.new.self c.in_ok-publish.field-0 outcome.NoEpoch
    (c.as_str.ensures.value ∙ ap (λ (w : Who). w.client) c.info.view_is) c.in-NoEpoch.is c.in_ok-publish.ensures

pub returns-in-NotSetUp : goal.returns-in-NotSetUp
returns-in-NotSetUp c =
    publishes-as c.args.channel.now c.args.key.now c.args.body.now c.args.info.now c.as_str.result.now c.args.broker.now
    c.publish.new.self c.in_ok-publish.field-0 outcome.NotSetUp
    (c.as_str.ensures.value ∙ ap (λ (w : Who). w.client) c.info.view_is) c.in-NotSetUp.is c.in_ok-publish.ensures
