-- Actions and answers of the code as the definitions' values, texts by their bytes.
use Rattle.std.specs.Prelude.{Ok, Err}
use Rattle.std.specs.String.{string_bytes}
use Rattle.cf_protocol.specs.Outgoing as outgoing
use Rattle.cf_protocol.specs.Shown.{shown_users}
use Rattle.cf_session.specs.Calls as call
use Rattle.cf_session.specs.Calls.{Answer, Call, Refused, Done, Found, Attached}
use Rattle.cf_session.specs.SessionMachine.{Act, Calls, Says, PassesPong, Closes}
use Rattle.cf_session.specs.declared.kind.CommandKind.{CommandKind}
use Rattle.cf_session.specs.declared.kind.CommandKind.TheVariants as kind
use Rattle.cf_session.specs.declared.action.Publish.{Publish}
use Rattle.cf_session.specs.declared.action.Action.{Action}
use Rattle.cf_session.specs.declared.action.Action.TheVariants as action
use Rattle.cf_session.specs.declared.action.Answer.{Answer as CodeAnswer}
use Rattle.cf_session.specs.declared.action.Answer.TheVariants as answer

abbrev pub asked_publish : Publish → Call
asked_publish asked =
    call.Publish (string_bytes asked.channel) (string_bytes asked.key) (string_bytes asked.body) asked.info

abbrev pub shown_action : Action → Act
shown_action (action.Attach user) = Calls (call.Attach (string_bytes user))
shown_action (action.Begin c id since) = Calls (call.Begin (string_bytes c) id since)
shown_action (action.Read c since) = Calls (call.Read (string_bytes c) since)
shown_action (action.Finish c) = Calls (call.Finish (string_bytes c))
shown_action (action.Leave c) = Calls (call.Leave (string_bytes c))
shown_action (action.Publish asked) = Calls (asked_publish asked)
shown_action (action.History c id limit since) = Calls (call.History (string_bytes c) id limit since)
shown_action (action.Presence c) = Calls (call.Presence (string_bytes c))
shown_action (action.Stats c) = Calls (call.Stats (string_bytes c))
shown_action (action.Say text) = Says (string_bytes text)
shown_action action.Pong = PassesPong
shown_action (action.Close code) = Closes code

abbrev pub shown_answer : CodeAnswer → Answer
shown_answer (answer.Attach (Ok client)) = Attached (string_bytes client)
shown_answer (answer.Attach (Err e)) = Refused e
shown_answer (answer.Begin (Ok u)) = Done
shown_answer (answer.Begin (Err e)) = Refused e
shown_answer (answer.Read (Ok u)) = Done
shown_answer (answer.Read (Err e)) = Refused e
shown_answer answer.Finish = Done
shown_answer answer.Leave = Done
shown_answer (answer.Publish (Ok u)) = Found outgoing.Published
shown_answer (answer.Publish (Err e)) = Refused e
shown_answer (answer.History (Ok u)) = Done
shown_answer (answer.History (Err e)) = Refused e
shown_answer (answer.Presence (Ok users)) = Found (outgoing.Present (shown_users users))
shown_answer (answer.Presence (Err e)) = Refused e
shown_answer (answer.Stats s) = Found (outgoing.Counted s.clients s.users)

abbrev pub answer_kind : CodeAnswer → CommandKind
answer_kind (answer.Attach r) = kind.Attach
answer_kind (answer.Begin r) = kind.Begin
answer_kind (answer.Read r) = kind.Read
answer_kind answer.Finish = kind.Finish
answer_kind answer.Leave = kind.Leave
answer_kind (answer.Publish r) = kind.Publish
answer_kind (answer.History r) = kind.History
answer_kind (answer.Presence r) = kind.Presence
answer_kind (answer.Stats s) = kind.Stats
