-- Where a session of the code stands on its script.
use Rattle.std.specs.Prelude.{◌≡◌, ◌⊎◌, ℕ, ◌+◌, ◌*◌, Bool, true, false, not, ◌||◌, ◌==◌, Option, Some, None}
use Rattle.std.specs.Prelude.{option_map, MatchOption, List, [], ◌∷◌, map, length}
use Rattle.std.specs.Borrow.{Bor}
use Rattle.std.specs.String.{string_bytes}
use Rattle.cf_protocol.specs.Datum.{Who}
use Rattle.cf_protocol.specs.Request as request
use Rattle.cf_protocol.specs.Request.{Command}
use Rattle.cf_protocol.specs.Outgoing as outgoing
use Rattle.cf_protocol.specs.Settings.{TokenTable}
use Rattle.cf_protocol.specs.Shown.{shown_command, shown_outcome}
use Rattle.cf_protocol.specs.declared.codes.ErrorCode.{ErrorCode}
use Rattle.cf_protocol.specs.declared.codes.CloseCode.TheVariants as close
use Rattle.cf_session.specs.Calls as call
use Rattle.cf_session.specs.Calls.{Answer, Refused, Done, Found, Attached}
use Rattle.cf_session.specs.Script.{Script, Over, Close, Say, Ask}
use Rattle.cf_session.specs.CommandScripts.{Tables, frame_script, first_script, replies, after_attach, after_begin}
use Rattle.cf_session.specs.CommandScripts.{after_read, after_finish, after_leave, after_lost}
use Rattle.cf_session.specs.SessionMachine.{Act, Says, Closes, Progress, Todo, Out, Acts, GoesOn, Hears, failed_text}
use Rattle.cf_session.specs.SessionMachine.{awaits, answered_progress}
use Rattle.cf_session.specs.Shown.{shown_action, shown_answer, answer_kind}
use Rattle.cf_session.specs.declared.kind.CommandKind.TheVariants as kind
use Rattle.cf_session.specs.declared.action.Action.{Action}
use Rattle.cf_session.specs.declared.action.Answer.{Answer as CodeAnswer}
use Rattle.cf_session.specs.declared.stage.ScriptStage.{ScriptStage}
use Rattle.cf_session.specs.declared.stage.ScriptStage.TheVariants as stage
use Rattle.cf_session.specs.declared.session.Session.{Session}

-- where a session stands, by its stage, the commands that are left and its client
abbrev pub progress_at : Tables → List Command → Option Who → ScriptStage → Progress
progress_at t ks who stage.Ready = Todo (frame_script t ks who)
progress_at t ks who (stage.Attaching id user) =
    Out kind.Attach (after_attach id (string_bytes user) (λ w. frame_script t ks (Some w)))
progress_at t ks who (stage.Beginning id read c since) =
    Out kind.Begin (after_begin id (string_bytes read) (string_bytes c) since (frame_script t ks who))
progress_at t ks who (stage.Reads id read c since) =
    Todo (Ask (call.Read (string_bytes read) since) (after_read id (string_bytes c) (frame_script t ks who)))
progress_at t ks who (stage.Reading id c) = Out kind.Read (after_read id (string_bytes c) (frame_script t ks who))
progress_at t ks who (stage.Finishes c) =
    Todo (Ask (call.Finish (string_bytes c)) (after_finish (frame_script t ks who)))
progress_at t ks who stage.Finishing = Out kind.Finish (after_finish (frame_script t ks who))
progress_at t ks who (stage.Loses id c e) =
    Todo (Ask (call.Leave (string_bytes c)) (after_lost id e (frame_script t ks who)))
progress_at t ks who (stage.Losing id e) = Out kind.Leave (after_lost id e (frame_script t ks who))
progress_at t ks who (stage.Leaving id) = Out kind.Leave (after_leave id (frame_script t ks who))
progress_at t ks who (stage.Calling id k) = Out k (replies id (frame_script t ks who))
progress_at t ks who (stage.Says id outcome) = Todo (Say id (shown_outcome outcome) (frame_script t ks who))
progress_at t ks who (stage.Closes code) = Todo (Close code)
progress_at t ks who stage.Closed = Todo Over

-- of a session that no tokens are lent to: none
abbrev pub tokens_in : Option (Bor TokenTable) → TokenTable
tokens_in None = []
tokens_in (Some tokens) = tokens.now

abbrev pub tables_of : Session → Tables
tables_of s = record { namespaces = s.namespaces.now; tokens = tokens_in s.tokens }

abbrev pub commands_left : Session → List Command
commands_left s = map shown_command s.frame.items

-- what is done once the command at hand is through
abbrev pub rest_of : Session → Script
rest_of s = frame_script (tables_of s) (commands_left s) s.client

abbrev pub progress_of : Session → Progress
progress_of s = progress_at (tables_of s) (commands_left s) s.client s.stage

-- it may hear a text
abbrev pub idle_at : ScriptStage → List Command → Bool
idle_at stage.Ready [] = true
idle_at stage.Closed ks = true
idle_at other ks = false

abbrev pub is_idle : Session → Bool
is_idle s = idle_at s.stage (commands_left s)

abbrev pub is_over : ScriptStage → Bool
is_over stage.Closed = true
is_over other = false

-- one of its calls met a refused request for memory; how many the last of them met
abbrev pub met_refused_memory : Session → Bool
met_refused_memory s = s.is_short

abbrev pub refusals : Session → ℕ
refusals s = s.refusals

-- how many things it may still do
abbrev pub work_at : ScriptStage → ℕ
work_at stage.Ready = 0
work_at stage.Closed = 0
work_at (stage.Closes code) = 1
work_at (stage.Says id outcome) = 1
work_at stage.Finishing = 1
work_at (stage.Finishes c) = 2
work_at (stage.Losing id e) = 2
work_at (stage.Leaving id) = 2
work_at (stage.Calling id k) = 2
work_at (stage.Attaching id user) = 2
work_at (stage.Loses id c e) = 3
work_at (stage.Reading id c) = 4
work_at (stage.Reads id read c since) = 5
work_at (stage.Beginning id read c since) = 6

abbrev pub work_of : Session → ℕ
work_of s = 7 * length s.frame.items + work_at s.stage

-- ---- what the public calls do

-- the tables stay, and a session is short from the first refused request on
pub record Keeps (old new : Session) : Type 0 where
  pub tables : tables_of new ≡ tables_of old
  pub short : met_refused_memory new ≡ (met_refused_memory old || not (refusals new == 0))

abbrev pub HearsFrame : Session → List ℕ → Session → Type 0
HearsFrame old text new = Hears (tables_of old) (progress_of old) text (progress_of new) (refusals new)

abbrev pub ActsNext : Session → Option Action → Session → Type 0
ActsNext old action new =
    Acts (tables_of old) (progress_of old) (option_map shown_action action) (progress_of new) (refusals new)

abbrev pub TakesAnswer : Session → CodeAnswer → Session → Type 0
TakesAnswer old answer new = GoesOn (shown_answer answer) (progress_of old) (progress_of new) (refusals new)

-- ---- what its parts do

-- it goes on from this script
abbrev pub ActsOn : Session → Script → Option Action → Session → Type 0
ActsOn old script action new =
    Acts (tables_of old) (Todo script) (option_map shown_action action) (progress_of new) (refusals new)

-- the next command is at hand, and no request was refused so far
abbrev pub IsReady : Session → Type 0
IsReady s = (s.stage ≡ stage.Ready) × (refusals s ≡ 0)

-- a command is begun: there is nothing to do for it, and the next is at hand; or this is done
abbrev pub Begins : Session → Script → Option Action → Session → Type 0
Begins old script action new =
    MatchOption action ((progress_of new ≡ Todo script) × IsReady new) (λ a. ActsOn old script (Some a) new)

-- the script of this command and of those that are left
abbrev pub script_from : Session → Command → Script
script_from s k = frame_script (tables_of s) (k ∷ commands_left s) s.client

-- what is done once this client is connected
abbrev pub rest_with : Session → Who → Script
rest_with s who = frame_script (tables_of s) (commands_left s) (Some who)

-- the script of a first command
abbrev pub opening_script : Session → ℕ → request.Request → Script
opening_script s id r = first_script (tables_of s) id r (rest_with s)

-- the two ways to give up a command, after which this is to be done
abbrev pub Falls : ℕ → Script → Option Act → Progress → (refused : ℕ) → Type 0
Falls id after act new refused =
    ((act ≡ Some (Says (failed_text id))) × (new ≡ Todo after) × (refused ≡ 1))
    ⊎ ((act ≡ Some (Closes close.InternalError)) × (new ≡ Todo Over) × (refused ≡ 2))

abbrev pub refused_code : Answer → Option ErrorCode
refused_code (Refused e) = Some e
refused_code Done = None
refused_code (Found outcome) = None
refused_code (Attached client) = None

abbrev pub found_by : Answer → Option outgoing.Outcome
found_by (Refused e) = None
found_by Done = None
found_by (Found outcome) = Some outcome
found_by (Attached client) = None

-- after an answer the reply is next, whatever else is left to do
abbrev pub RepliesAt : ℕ → CodeAnswer → ScriptStage → Type 0
RepliesAt id a s =
    (t : Tables) (ks : List Command) (who : Option Who)
    → progress_at t ks who s ≡ Todo (replies id (frame_script t ks who) (shown_answer a))

abbrev pub is_attaching : ScriptStage → Bool
is_attaching (stage.Attaching id user) = true
is_attaching other = false

-- after the answer to a call that is out, and no attach, this is next, whatever else is left to do
abbrev pub AnswersAt : ScriptStage → CodeAnswer → ScriptStage → Type 0
AnswersAt old a new =
    is_attaching old ≡ false
    → (t : Tables) (ks : List Command) (who : Option Who)
    → awaits (progress_at t ks who old) ≡ Some (answer_kind a)
    → progress_at t ks who new ≡ answered_progress (shown_answer a) (progress_at t ks who old)
