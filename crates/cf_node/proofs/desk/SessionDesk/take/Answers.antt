-- What the outbox gives first is the front of what was taken before (`hands_front`).
use Rattle.cf_node.proofs.Handing.{hands_front}
use Rattle.cf_node.proofs.desk.SessionDesk.take.Goals as goal

-- the front of what was taken before
pub returns-in-Some : goal.returns-in-Some
returns-in-Some g c = record {
  hands = hands_front c.args.self.now.outbox.outs.items c.next.new.self.outs.items
      c.args.self.now.handler.client.refused c.in-Some.out c.in-Some.ensures.front;
}
