-- Each kind of event is one call, whose clause is read with the variant that is matched.
use Rattle.std.proofs.Common.{rules, sym, ap, ◌∙◌, w32}
use Rattle.std.proofs.lemmas.Int.{to_z-of_z}
use Rattle.cf_machine.specs.Event as said
use Rattle.cf_schedule.specs.Seen.{seen}
use Rattle.cf_schedule.proofs.Carrying.{goes-so, goes-where}
use Rattle.cf_schedule.proofs.world.carry_on.Goals as goal

pub returns-in-Epoch : goal.returns-in-Epoch
returns-in-Epoch c =
    goes-where _ c.args.parts.now c.epoch.new.self c.epoch.result (ap seen c.in-Epoch.is) c.epoch.ensures

pub returns-in-Connect : goal.returns-in-Connect
returns-in-Connect c =
    goes-where _ c.args.parts.now c.connect.new.self c.connect.result
    (ap seen c.in-Connect.is ∙ (λ i. said.Connect (sym c.as_str.ensures i) c.in-Connect.node)) c.connect.ensures

pub returns-in-Ask : goal.returns-in-Ask
returns-in-Ask c =
    goes-where _ c.args.parts.now c.ask.new.self c.ask.result
    (ap seen c.in-Ask.is ∙ (λ i. said.Ask (sym c.as_str-in-Ask.ensures i) (sym c.as_str-in-Ask-2.ensures i)))
    c.ask.ensures

pub returns-in-AskFrom : goal.returns-in-AskFrom
returns-in-AskFrom c =
    goes-where _ c.args.parts.now c.ask_from.new.self c.ask_from.result
    (ap seen c.in-AskFrom.is ∙ (λ i. said.AskFrom (sym c.as_str-in-AskFrom.ensures i)
    (sym c.as_str-in-AskFrom-2.ensures i))) c.ask_from.ensures

pub returns-in-Read : goal.returns-in-Read
returns-in-Read c =
    goes-where _ c.args.parts.now c.read.new.self c.read.result
    (ap seen c.in-Read.is ∙ (λ i. said.Read (sym c.as_str-in-Read.ensures i) (sym c.as_str-in-Read-2.ensures i)))
    c.read.ensures

pub returns-in-Finish : goal.returns-in-Finish
returns-in-Finish c =
    goes-where _ c.args.parts.now c.finish.new.self c.finish.result
    (ap seen c.in-Finish.is ∙ (λ i. said.Finish (sym c.as_str-in-Finish.ensures i)
    (sym c.as_str-in-Finish-2.ensures i))) c.finish.ensures

pub returns-in-Publish : goal.returns-in-Publish
returns-in-Publish c =
    goes-where _ c.args.parts.now c.publish.new.self c.publish.result
    (ap seen c.in-Publish.is ∙ (λ i. said.Publish (sym c.as_str-in-Publish.ensures i) (sym c.key_text.ensures i)
    (sym c.as_str-in-Publish-2.ensures.characters i))) c.publish.ensures

pub returns-in-PublishBy : goal.returns-in-PublishBy
returns-in-PublishBy c =
    goes-where _ c.args.parts.now c.put.new.self c.put.result
    (ap seen c.in-PublishBy.is ∙ (λ i. said.PublishBy (sym c.as_str-in-PublishBy.ensures i)
    (sym c.as_str-in-PublishBy-2.ensures i) (sym c.key_text-in-PublishBy.ensures i)
    (sym c.as_str-in-PublishBy-3.ensures.characters i))) c.put.ensures

pub returns-in-Deliver : goal.returns-in-Deliver
returns-in-Deliver c =
    goes-where _ c.args.parts.now c.deliver.new.self c.deliver.result (ap seen c.in-Deliver.is) c.deliver.ensures

pub returns-in-Break : goal.returns-in-Break
returns-in-Break c =
    λ other. goes-so c.args.parts.now c.break_off.new.self
    (ap seen c.in-Break.is ∙ (λ i. said.Break (sym c.as_str-in-Break.ensures i))) c.break_off.ensures

pub returns-in-Leave : goal.returns-in-Leave
returns-in-Leave c =
    goes-where _ c.args.parts.now c.leave.new.self c.leave.result
    (ap seen c.in-Leave.is ∙ (λ i. said.Leave (sym c.as_str-in-Leave.ensures i) (sym c.as_str-in-Leave-2.ensures i)))
    c.leave.ensures

pub returns-in-Trim : goal.returns-in-Trim
returns-in-Trim c =
    λ other. goes-so c.args.parts.now c.trim.new.self
    (ap seen c.in-Trim.is ∙ (λ i. said.Trim (sym c.as_str-in-Trim.ensures i) c.in-Trim.count)) c.trim.ensures

pub returns-in-Forget : goal.returns-in-Forget
returns-in-Forget c =
    λ other. goes-so c.args.parts.now c.forget.new.self
    (ap seen c.in-Forget.is ∙ (λ i. said.Forget (sym c.as_str-in-Forget.ensures i))) c.forget.ensures

pub returns-in-BrokerRestart : goal.returns-in-BrokerRestart
returns-in-BrokerRestart c =
    λ other. goes-so c.args.parts.now c.restart_broker.new.self (ap seen c.in-BrokerRestart.is) c.restart_broker.ensures

pub returns-in-SetSize : goal.returns-in-SetSize
returns-in-SetSize c =
    λ other. goes-so c.args.parts.now c.set_size.new.self
    (ap seen c.in-SetSize.is ∙ (λ i. said.SetSize (sym c.as_str-in-SetSize.ensures i) (sym c.count.ensures.value i)))
    c.set_size.ensures

pub returns-in-Restart : goal.returns-in-Restart
returns-in-Restart c =
    goes-where _ c.args.parts.now c.restart.new.self c.restart.result (ap seen c.in-Restart.is) c.restart.ensures

pub returns-in-Check : goal.returns-in-Check
returns-in-Check c =
    goes-where _ c.args.parts.now c.check.new.self c.check.result
    (ap seen c.in-Check.is ∙ (λ i. said.Check (sym c.as_str-in-Check.ensures i) (sym c.as_str-in-Check-2.ensures i)))
    c.check.ensures

pub returns-in-ListHistory : goal.returns-in-ListHistory
returns-in-ListHistory c =
    goes-where _ c.args.parts.now c.list.new.self c.list.result
    (ap seen c.in-ListHistory.is ∙ (λ i. said.ListHistory (sym c.as_str-in-ListHistory.ensures i)
    (sym c.as_str-in-ListHistory-2.ensures i) (sym (to_z-of_z w32 c.in-ListHistory.limit (search rules)) i)))
    c.list.ensures
