-- The methods of commands, and the results of replies, by the keys under which they stand.
use Rattle.std.specs.Prelude.{Option, option_map}
use Rattle.cf_json.specs.Grammar.{Tree}
use Rattle.cf_protocol.specs.Fields.{Fields, object_as}
use Rattle.cf_protocol.specs.Request as request
use Rattle.cf_protocol.specs.Outgoing as outgoing
use Rattle.cf_protocol.specs.Command as command
use Rattle.cf_protocol.specs.Reply as reply
use Rattle.cf_protocol.specs.declared.read.method.Method.{Method}
use Rattle.cf_protocol.specs.declared.read.method.Method.TheVariants as method
use Rattle.cf_protocol.specs.declared.read.outcome.ResultKey.{ResultKey}
use Rattle.cf_protocol.specs.declared.read.outcome.ResultKey.TheVariants as key

-- the request of a method that has these members
abbrev pub served : Method → Fields → Option request.Request
served method.Connect = command.connect
served method.Subscribe = command.subscribe
served method.Unsubscribe = command.unsubscribe
served method.Publish = command.publish
served method.Presence = command.presence
served method.PresenceStats = command.presence_stats
served method.History = command.history
served method.Ping = command.always request.Ping
served method.Send = command.always request.Send
served method.Other = command.always request.Other

-- what the value of a method is read as
abbrev pub request_as : Method → Tree → Option request.Request
request_as method.Connect = object_as command.connect
request_as method.Subscribe = object_as command.subscribe
request_as method.Unsubscribe = object_as command.unsubscribe
request_as method.Publish = object_as command.publish
request_as method.Presence = object_as command.presence
request_as method.PresenceStats = object_as command.presence_stats
request_as method.History = object_as command.history
request_as method.Ping = command.always request.Ping
request_as method.Send = command.always request.Send
request_as method.Other = command.always request.Other

-- the result that has these members
abbrev pub outcome_of : ResultKey → Fields → Option outgoing.Outcome
outcome_of key.Error = λ r. option_map outgoing.Failed (reply.code_in r)
outcome_of key.Connect = reply.connected
outcome_of key.Subscribe = reply.subscribed
outcome_of key.Unsubscribe = reply.without_members outgoing.Unsubscribed
outcome_of key.Publish = reply.without_members outgoing.Published
outcome_of key.Presence = reply.present_users
outcome_of key.PresenceStats = reply.counted
outcome_of key.History = reply.past
outcome_of key.Ping = reply.without_members outgoing.Pinged
