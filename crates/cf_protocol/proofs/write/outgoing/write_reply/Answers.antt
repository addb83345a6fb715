-- A ping is its own text; another one is what its members add to a new writer.
use Rattle.cf_protocol.specs.Written.{outgoing_text}
use Rattle.cf_protocol.proofs.Writings.{whole}
use Rattle.cf_protocol.proofs.write.outgoing.write_reply.Goals as goal

pub returns-in-Ping : goal.returns-in-Ping
unfolding outgoing_text
returns-in-Ping c = rw c.in-Ping.is c.from_str.ensures.ok

pub returns-in-Answer : goal.returns-in-Answer
unfolding outgoing_text
returns-in-Answer c =
    rw c.in-Answer.is (whole c.into_text.result c.new-writer.ensures c.write_answer.ensures c.into_text.ensures)
