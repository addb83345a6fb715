-- When a session that a desk holds can be carried on. (This project's own profile.)
use Rattle.std.specs.Prelude.{Bool, true, false}
use mathlib.Core.Bool.{Bool-set}
use mathlib.Core.HLevel.{Unit-prop, ×_prop, Π_prop}
use Rattle.cf_protocol.specs.Settings.{NamespaceTable}
use Rattle.cf_session.specs.Asking.{AllAsk, HasStream}
use Rattle.cf_session.specs.Calls.{Call, Attach, Begin, Finish, Leave, Read, Publish, History, Presence, Stats}
use Rattle.cf_session.specs.Script.{Script, Served, Over, Close, Say, Pong, Ask}
use Rattle.cf_session.specs.SessionMachine.{Progress, Todo, Out}
use Rattle.cf_session.specs.Played.{AskStreams}

-- a call of the session is out
abbrev pub is_out : Progress → Bool
is_out (Todo s) = false
is_out (Out kind after) = true

-- Of each of these facts there is one proof at most, as a fact that a desk keeps has to be.
pub HasStream-prop : (t : NamespaceTable) (call : Call) → IsProp (HasStream t call)
HasStream-prop t (Read c since) = Bool-set _ _
HasStream-prop t (Publish c key body info) = Bool-set _ _
HasStream-prop t (History c id limit since) = Bool-set _ _
HasStream-prop t (Attach user) = Unit-prop
HasStream-prop t (Begin c id since) = Unit-prop
HasStream-prop t (Finish c) = Unit-prop
HasStream-prop t (Leave c) = Unit-prop
HasStream-prop t (Presence c) = Unit-prop
HasStream-prop t (Stats c) = Unit-prop

pub AllAsk-prop : (t : NamespaceTable) (s : Script) → IsProp (AllAsk (HasStream t) s)
AllAsk-prop t (Served who) = Unit-prop
AllAsk-prop t Over = Unit-prop
AllAsk-prop t (Close code) = Unit-prop
AllAsk-prop t (Say id o after) = ×_prop (Bool-set _ _) (AllAsk-prop t after)
AllAsk-prop t (Pong after) = AllAsk-prop t after
AllAsk-prop t (Ask call after) = ×_prop (HasStream-prop t call) (Π_prop (λ a. Π_prop (λ own. AllAsk-prop t (after a))))

pub AskStreams-prop : (t : NamespaceTable) (p : Progress) → IsProp (AskStreams t p)
AskStreams-prop t (Todo s) = AllAsk-prop t s
AskStreams-prop t (Out kind after) = Π_prop (λ a. Π_prop (λ own. AllAsk-prop t (after a)))
