-- Where a letter came and stirs, the steps of the delivery are what receiving, delivering and waking promise.
use Rattle.std.proofs.Common.{Some}
use Rattle.cf_dispatch.proofs.mailbox.pass_on.Goals as goal

pub returns-then-stirs : goal.returns-then-stirs
returns-then-stirs g c = (
  Some c.in-Some.letter,
  record {
    received = c.receive.new.self;
    receiving = c.in-Some.ensures;
    forwarding = record {
      delivered = c.deliver_next-delivered.result;
      brought = c.deliver_next-delivered.new.self;
      bringing = c.deliver_next-delivered.ensures;
      waking = rw (← c.if-stirs.ensures) c.wake.ensures;
    };
  },
)
