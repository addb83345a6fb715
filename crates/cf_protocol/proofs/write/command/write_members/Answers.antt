-- Each kind of request is one call, whose clause is read with the variant that is matched.
use Rattle.cf_protocol.proofs.Writings.{then, inside}
use Rattle.cf_protocol.proofs.write.command.write_members.Goals as goal

pub returns-in-Connect : goal.returns-in-Connect
returns-in-Connect c =
    rw (c.in-Connect.is, ← c.as_str.ensures.value)
    (then (inside c.open.ensures c.text_member.ensures c.value.ensures) c.write_id.ensures)

pub returns-in-Subscribe : goal.returns-in-Subscribe
returns-in-Subscribe c = rw (c.in-Subscribe.is, ← c.as_str-in-Subscribe.ensures.value) c.write_subscribe.ensures

pub returns-in-Publish : goal.returns-in-Publish
returns-in-Publish c =
    rw (c.in-Publish.is, ← c.as_str-in-Publish.ensures.value, ← c.as_str-in-Publish-2.ensures.value)
    c.write_publish.ensures

pub returns-in-History : goal.returns-in-History
returns-in-History c =
    rw (c.in-History.is, ← c.as_str-in-History.ensures.value)
    (then c.write_history.ensures c.write_id-in-History.ensures)

pub returns-in-Unsubscribe : goal.returns-in-Unsubscribe
returns-in-Unsubscribe c = rw (c.in-Unsubscribe.is, ← c.as_str-in-Unsubscribe.ensures.value) c.write_on_channel.ensures

pub returns-in-Presence : goal.returns-in-Presence
returns-in-Presence c =
    rw (c.in-Presence.is, ← c.as_str-in-Presence.ensures.value) c.write_on_channel-in-Presence.ensures

pub returns-in-PresenceStats : goal.returns-in-PresenceStats
returns-in-PresenceStats c =
    rw (c.in-PresenceStats.is, ← c.as_str-in-PresenceStats.ensures.value) c.write_on_channel-in-PresenceStats.ensures
