-- A session's script played on a node. (Centrifugo's client protocol: commands are carried out in order.)
use Rattle.std.specs.Prelude.{◌≡◌, ◌⊎◌, List, ℕ, Option, Some, None, Bool, true, false}
use Rattle.cf_session.specs.Calls.{Answer, Call, kind_of}
use Rattle.cf_session.specs.Script.{Script, Served, Over, Close, Say, Pong, Ask}
use Rattle.cf_session.specs.CommandScripts.{Tables}
use Rattle.cf_protocol.specs.Outgoing.{Outcome}
use Rattle.cf_protocol.specs.Settings.{NamespaceTable}
use Rattle.cf_session.specs.Asking.{AllAsk, HasStream, finds_own, is_own}
use Rattle.cf_session.specs.SessionMachine.{Act, Calls, Says, PassesPong, Closes, Progress, Todo, Out, reply_text}
use Rattle.cf_session.specs.SessionMachine.{HearsAt, HearsText}
use Rattle.cf_session.specs.Shown.{shown_answer}
use Rattle.cf_session.specs.declared.action.Answer.{Answer as CodeAnswer}
use Rattle.cf_session.specs.declared.kind.CommandKind.{CommandKind}

-- the kind of the call that an act is, if it is one
abbrev pub asked_kind : Act → Option CommandKind
asked_kind (Calls call) = Some (kind_of call)
asked_kind (Says text) = None
asked_kind PassesPong = None
asked_kind (Closes code) = None

-- the text is a reply that a session gives itself
abbrev pub IsReply : List ℕ → Type 0
IsReply text = (id : ℕ) × (o : Outcome) × (is_own o ≡ true) × (text ≡ reply_text id o)

-- a call of a stream is of a channel whose namespace is set up, and what is said is a reply
abbrev pub ActHasStream : NamespaceTable → Act → Type 0
ActHasStream t (Calls call) = HasStream t call
ActHasStream t (Says text) = IsReply text
ActHasStream t PassesPong = Unit {0}
ActHasStream t (Closes code) = Unit {0}

-- so is each that is still to come
abbrev pub AskStreams : NamespaceTable → Progress → Type 0
AskStreams t (Todo s) = AllAsk (HasStream t) s
AskStreams t (Out kind after) = (a : Answer) → finds_own a ≡ true → AllAsk (HasStream t) (after a)

-- a node carries out a call, and gives this answer
abbrev pub Gives : {N : Type 0} → (N → Act → Option Answer → N → Type 0) → N → Call → CodeAnswer → N
    → Type 0
Gives does n call answer m = does n (Calls call) (Some (shown_answer answer)) m

module _ {N : Type 0} (closed : N → Bool) (does : N → Act → Option Answer → N → Type 0) where
  -- the node has closed the session: the rest of a script isn't played
  pub record Stops (s : Script) (n m : N) (end : Script) : Type 0 where
    pub over : closed n ≡ true
    pub stays : m ≡ n
    pub leaves : end ≡ s

  -- the script is played on a node that goes from n to m, and `end` is what is left of it
  abbrev pub Plays : Script → N → N → Script → Type 0
  Plays (Served who) n m end = (m ≡ n) × (end ≡ Served who)
  Plays Over n m end = (m ≡ n) × (end ≡ Over)
  Plays (Close code) n m end = does n (Closes code) None m × (end ≡ Over)
  Plays (Say id o after) n m end =
      (mid : N) × does n (Says (reply_text id o)) None mid
      × (((closed mid ≡ false) × Plays after mid m end) ⊎ Stops after mid m end)
  Plays (Pong after) n m end =
      (mid : N) × does n PassesPong None mid
      × (((closed mid ≡ false) × Plays after mid m end) ⊎ Stops after mid m end)
  Plays (Ask call after) n m end =
      (mid : N) × (a : Answer) × does n (Calls call) (Some a) mid
      × (((closed mid ≡ false) × Plays (after a) mid m end) ⊎ Stops (after a) mid m end)

  abbrev pub PlaysOn : Progress → N → N → Script → Type 0
  PlaysOn (Todo s) n m end = Plays s n m end
  PlaysOn (Out kind after) n m end = ⊥

  -- what comes after an act
  abbrev pub Continues : Progress → N → N → Script → Type 0
  Continues (Todo s) n m end = ((closed n ≡ false) × Plays s n m end) ⊎ Stops s n m end
  Continues (Out kind after) n m end = ⊥

  -- one act, and its answer if it is a call: to play on from q is to play from p
  abbrev pub Next : Progress → Progress → N → N → Type 0
  Next p q n mid = (m : N) (end : Script) → Continues q mid m end → PlaysOn p n m end

  -- a text is heard, and its script is played
  pub record ServesFrom (t : Tables) (s : Script) (n : N) (text : List ℕ) (m : N) (new : Progress) : Type 0 where
    pub script : Script
    pub end : Script
    pub hears : HearsAt t s text script
    pub plays : Plays script n m end
    pub ends : new ≡ Todo end

  abbrev pub Serves : Tables → Progress → N → List ℕ → N → Progress → Type 0
  Serves t (Todo s) n text m new = ServesFrom t s n text m new
  Serves t (Out kind after) n text m new = ⊥

  -- To go on from q and mid is to go on from p and n, however the script ends then. Such ways follow one another.
  abbrev pub LeadsOn : Progress → N → Progress → N → Type 0
  LeadsOn p n q mid = (m : N) (end : Script) → Continues q mid m end → Continues p n m end

  -- on the way: a text was heard, and what that brought led on to here
  pub record Goes (t : Tables) (p0 : Progress) (n0 : N) (text : List ℕ) (q : Progress) (n : N) : Type 0 where
    pub heard : Progress
    pub hears : HearsText t p0 text heard
    pub leads : LeadsOn heard n0 q n
