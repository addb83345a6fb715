-- Each kind of answer is one call, whose clause is read with the variant that is matched.
use Rattle.cf_protocol.proofs.Writings.{then, inside}
use Rattle.cf_protocol.proofs.write.outgoing.write_answer.Goals as goal

pub returns-in-Connected : goal.returns-in-Connected
returns-in-Connected c = rw (c.in-Connected.is, ← c.as_str.ensures.value) c.write_connected.ensures

pub returns-in-Subscribed : goal.returns-in-Subscribed
returns-in-Subscribed c = rw c.in-Subscribed.is (then c.write_id.ensures c.write_subscribed.ensures)

pub returns-in-Unsubscribed : goal.returns-in-Unsubscribed
returns-in-Unsubscribed c = rw c.in-Unsubscribed.is c.write_bare.ensures

pub returns-in-Published : goal.returns-in-Published
returns-in-Published c = rw c.in-Published.is c.write_bare-in-Published.ensures

pub returns-in-Present : goal.returns-in-Present
returns-in-Present c =
    rw c.in-Present.is (then c.write_id-in-Present.ensures
    (inside c.open.ensures c.write_clients.ensures c.value.ensures))

pub returns-in-Counted : goal.returns-in-Counted
returns-in-Counted c = rw c.in-Counted.is c.write_counted.ensures

pub returns-in-Past : goal.returns-in-Past
returns-in-Past c = rw c.in-Past.is c.write_past.ensures

pub returns-in-Pinged : goal.returns-in-Pinged
returns-in-Pinged c = rw c.in-Pinged.is c.write_bare-in-Pinged.ensures

pub returns-in-Failed : goal.returns-in-Failed
returns-in-Failed c = rw c.in-Failed.is (then c.write_error.ensures c.write_id-in-Failed.ensures)
