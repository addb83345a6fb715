-- The values of the code as the definitions' values, texts by their bytes.
use Rattle.std.specs.Prelude.{List, map, Option, option_map, option_to_list}
use Rattle.std.specs.String.{string_bytes}
use Rattle.std.specs.declared.string.String.{String}
use Rattle.std.specs.declared.alloc.Global.{Global}
use Rattle.std.specs.BTreeMap.{BTreeMap}
use Rattle.std.specs.FinMap.{from_entries}
use Rattle.cf_protocol.specs.declared.command.Data.{Data as CodeData}
use Rattle.cf_protocol.specs.declared.command.Data.TheVariants as code_data
use Rattle.cf_protocol.specs.declared.command.Request.{Request as CodeRequest}
use Rattle.cf_protocol.specs.declared.command.Request.TheVariants as code_request
use Rattle.cf_protocol.specs.declared.command.Command.{Command as CodeCommand}
use Rattle.cf_protocol.specs.declared.outgoing.Outcome.{Outcome as CodeOutcome}
use Rattle.cf_protocol.specs.declared.outgoing.Outcome.TheVariants as code_outcome
use Rattle.cf_protocol.specs.declared.outgoing.Pushed.{Pushed as CodePushed}
use Rattle.cf_protocol.specs.declared.outgoing.Pushed.TheVariants as code_pushed
use Rattle.cf_protocol.specs.declared.outgoing.Outgoing.{Outgoing as CodeOutgoing}
use Rattle.cf_protocol.specs.declared.outgoing.Outgoing.TheVariants as code_outgoing
use Rattle.cf_protocol.specs.Request as request
use Rattle.cf_protocol.specs.Outgoing as outgoing

abbrev pub shown_data : CodeData → request.Data
shown_data code_data.Absent = request.Absent
shown_data code_data.TooDeep = request.TooDeep
shown_data (code_data.Body body) = request.Body (string_bytes body)

abbrev pub shown_request : CodeRequest → request.Request
shown_request code_request.Pong = request.Pong
shown_request (code_request.Connect token) = request.Connect (string_bytes token)
shown_request (code_request.Subscribe channel since) = request.Subscribe (string_bytes channel) since
shown_request (code_request.Unsubscribe channel) = request.Unsubscribe (string_bytes channel)
shown_request (code_request.Publish channel key body) =
    request.Publish (string_bytes channel) (string_bytes key) (shown_data body)
shown_request (code_request.Presence channel) = request.Presence (string_bytes channel)
shown_request (code_request.PresenceStats channel) = request.PresenceStats (string_bytes channel)
shown_request (code_request.History channel limit since reverse) =
    request.History (string_bytes channel) limit since reverse
shown_request code_request.Ping = request.Ping
shown_request code_request.Send = request.Send
shown_request code_request.Other = request.Other

abbrev pub shown_command : CodeCommand → request.Command
shown_command c = record { id = c.id; request = shown_request c.request }

-- the user of each client, by the bytes of its id
abbrev pub shown_users : BTreeMap (String Global) (String Global) → outgoing.Users
shown_users users = from_entries (map (λ e. (string_bytes e.0, string_bytes e.1)) users.entries)

abbrev pub shown_outcome : CodeOutcome → outgoing.Outcome
shown_outcome (code_outcome.Connected client) = outgoing.Connected (string_bytes client)
shown_outcome (code_outcome.Subscribed position publications recovered was) =
    outgoing.Subscribed position publications.items recovered was
shown_outcome code_outcome.Unsubscribed = outgoing.Unsubscribed
shown_outcome code_outcome.Published = outgoing.Published
shown_outcome (code_outcome.Present users) = outgoing.Present (shown_users users)
shown_outcome (code_outcome.Counted clients users) = outgoing.Counted clients users
shown_outcome (code_outcome.Past position publications) = outgoing.Past position publications.items
shown_outcome code_outcome.Pinged = outgoing.Pinged
shown_outcome (code_outcome.Failed code) = outgoing.Failed code

abbrev pub shown_pushed : CodePushed → outgoing.Pushed
shown_pushed (code_pushed.Publication publication) = outgoing.Publication publication
shown_pushed (code_pushed.Unsubscribe code) = outgoing.Unsubscribe code

abbrev pub shown_outgoing : CodeOutgoing → outgoing.Outgoing
shown_outgoing code_outgoing.Ping = outgoing.Ping
shown_outgoing (code_outgoing.Answer id outcome) = outgoing.Answer id (shown_outcome outcome)
shown_outgoing (code_outgoing.Push channel push) = outgoing.Push (string_bytes channel) (shown_pushed push)

-- what a push that was read, or passed over, is to the application
abbrev pub told : Option CodeOutgoing → List outgoing.Outgoing
told o = option_to_list (option_map shown_outgoing o)

-- the same of what was pushed
abbrev pub told_pushed : Option CodePushed → List outgoing.Pushed
told_pushed o = option_to_list (option_map shown_pushed o)
