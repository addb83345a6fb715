-- Steps along a script.
use Rattle.std.proofs.Common.{◌≡◌, ◌==◌, ◌∙◌, ℕ, true, false, Option, Some, None, is_some, MatchOption, List, [], ◌∷◌}
use Rattle.std.proofs.Common.{length, map, arith, refl, sym, ap, subst, inl, inr}
use Rattle.std.specs.declared.alloc.Global.{Global}
use Rattle.std.specs.declared.collections.VecDeque.{VecDeque}
use Rattle.cf_protocol.specs.Shown.{shown_command}
use Rattle.cf_protocol.specs.declared.command.Command.{Command as CodeCommand}
use Rattle.cf_protocol.specs.declared.codes.ErrorCode.{ErrorCode}
use Rattle.cf_protocol.specs.Datum.{Who}
use Rattle.cf_protocol.specs.Request.{Command, Request, Connect}
use Rattle.cf_protocol.specs.Settings.{user_of}
use Rattle.cf_protocol.specs.Outgoing as outgoing
use Rattle.cf_protocol.specs.Outgoing.{Outcome}
use Rattle.cf_protocol.specs.declared.codes.CloseCode.TheVariants as close
use Rattle.cf_session.specs.Script.{Script, Served, Over, Say}
use Rattle.cf_protocol.specs.Checks.{first_failed, checks}
use Rattle.cf_session.specs.CommandScripts.{Tables, Brings, frame_script, unless_failed, granted, connect_script}
use Rattle.cf_session.specs.CommandScripts.{first_script, after_attach}
use Rattle.cf_session.specs.SessionMachine.{Act, Closes, Progress, Todo, AtHand, at_start, at_reply, Connects}
use Rattle.cf_session.specs.SessionMachine.{at_attach, at_connected, is_connected, GivesUp, fails, falls_silent}
use Rattle.cf_session.specs.SessionMachine.{stays_out, HearsText, Acts}
use Rattle.cf_session.specs.Standing.{Falls, progress_at, idle_at, is_over, tables_of, commands_left, rest_of}
use Rattle.cf_session.specs.Shown.{shown_action}
use Rattle.cf_session.specs.declared.action.Action.{Action}
use Rattle.cf_session.specs.declared.session.Session.{Session}
use Rattle.cf_session.specs.declared.stage.ScriptStage.{ScriptStage}
use Rattle.cf_session.specs.declared.stage.ScriptStage.TheVariants as stage

-- the progress, the act and the count by which a command is given up may be named otherwise
gives_same : (t : Tables) (p : Progress) (act act' : Option Act) (new new' : Progress) (n n' : ℕ)
    → act ≡ act' → new ≡ new' → n ≡ n' → GivesUp t p act' new' n' → GivesUp t p act new n
gives_same t p act act' new new' n n' a q r h =
    subst (λ (x : Option Act). GivesUp t p x new n) (sym a)
    (subst (λ (x : Progress). GivesUp t p act' x n) (sym q)
    (subst (λ (x : ℕ). GivesUp t p act' new' x) (sym r) h))

-- what falls short at a command, at its start or at its reply, is given up
pub gives_up : (t : Tables) (id : ℕ) (script after : Script) (act : Option Act) (new : Progress) (n : ℕ)
    → AtHand t id script after → Falls id after act new n → GivesUp t (Todo script) act new n
gives_up t id script after act new n at (inl h) =
    gives_same t (Todo script) act _ new _ n 1 h.0 h.1 h.2 (fails id script after at)
gives_up t id script after act new n at (inr h) =
    gives_same t (Todo script) act _ new _ n 2 h.0 h.1 h.2 (falls_silent id script after at)

pub falls_at_reply : (t : Tables) (id : ℕ) (o : Outcome) (after : Script) (act : Option Act) (new : Progress) (n : ℕ)
    → is_connected o ≡ false → Falls id after act new n → GivesUp t (Todo (Say id o after)) act new n
falls_at_reply t id o after act new n other h =
    gives_up t id (Say id o after) after act new n (at_reply id o after other) h

-- a connect is given up
pub stays_out_at : (t : Tables) (script : Script) (act : Option Act) (new : Progress) (n : ℕ)
    → Connects script → act ≡ Some (Closes close.InternalError) → new ≡ Todo Over → n ≡ 1
    → GivesUp t (Todo script) act new n
stays_out_at t script act new n at a q r = gives_same t (Todo script) act _ new _ n 1 a q r (stays_out script at)

pub falls_at_connected : (t : Tables) (id : ℕ) (o : Outcome) (after : Script) (act : Option Act) (new : Progress)
    (n : ℕ)
    → is_connected o ≡ true → act ≡ Some (Closes close.InternalError) → new ≡ Todo Over → n ≡ 1
    → GivesUp t (Todo (Say id o after)) act new n
falls_at_connected t id (outgoing.Connected client) after act new n is a q r =
    stays_out_at t (Say id (outgoing.Connected client) after) act new n (at_connected id client after) a q r
falls_at_connected t id (outgoing.Subscribed p ps re was) after act new n is a q r = absurd (cc (is))
falls_at_connected t id outgoing.Unsubscribed after act new n is a q r = absurd (cc (is))
falls_at_connected t id outgoing.Published after act new n is a q r = absurd (cc (is))
falls_at_connected t id (outgoing.Present users) after act new n is a q r = absurd (cc (is))
falls_at_connected t id (outgoing.Counted clients users) after act new n is a q r = absurd (cc (is))
falls_at_connected t id (outgoing.Past p ps) after act new n is a q r = absurd (cc (is))
falls_at_connected t id outgoing.Pinged after act new n is a q r = absurd (cc (is))
falls_at_connected t id (outgoing.Failed code) after act new n is a q r = absurd (cc (is))

-- a session that is ready is idle once no command is left
pub idle_when_ready : (commands : List CodeCommand) {n : ℕ} → n ≡ length commands
    → (n == 0) ≡ idle_at stage.Ready (map shown_command commands)
idle_when_ready [] counted = ap (λ n. n == 0) counted
idle_when_ready (k ∷ ks) counted = grind (arith, counted)

-- an idle session that isn't closed has no command left
pub idle_ready : (ks : List Command) (at : ScriptStage)
    → idle_at at ks ≡ true → is_over at ≡ false → (at ≡ stage.Ready) × (ks ≡ [])
idle_ready [] stage.Ready idle stands = (refl, refl)
idle_ready (k ∷ ks) stage.Ready idle stands = absurd (cc)
idle_ready ks stage.Closed idle stands = absurd (cc)
idle_ready ks (stage.Attaching id user) idle stands = absurd (cc)
idle_ready ks (stage.Beginning id read c since) idle stands = absurd (cc)
idle_ready ks (stage.Reads id read c since) idle stands = absurd (cc)
idle_ready ks (stage.Reading id c) idle stands = absurd (cc)
idle_ready ks (stage.Finishes c) idle stands = absurd (cc)
idle_ready ks stage.Finishing idle stands = absurd (cc)
idle_ready ks (stage.Loses id c e) idle stands = absurd (cc)
idle_ready ks (stage.Losing id e) idle stands = absurd (cc)
idle_ready ks (stage.Leaving id) idle stands = absurd (cc)
idle_ready ks (stage.Calling id k) idle stands = absurd (cc)
idle_ready ks (stage.Says id o) idle stands = absurd (cc)
idle_ready ks (stage.Closes code) idle stands = absurd (cc)

-- it is served
pub idle_served : (t : Tables) (ks : List Command) (who : Option Who) (at : ScriptStage)
    → (at ≡ stage.Ready) × (ks ≡ []) → progress_at t ks who at ≡ Todo (Served who)
idle_served t ks who at ready =
    ap (progress_at t ks who) ready.0 ∙ ap (λ (left : List Command). Todo (frame_script t left who)) ready.1

pub hears_served : (t : Tables) (who : Option Who) (old : Progress) (text : List ℕ) (script : Script) (new : Progress)
    → old ≡ Todo (Served who) → Brings t who text script → new ≡ Todo script → HearsText t old text new
hears_served t who old text script new served brings is =
    subst (λ (p : Progress). HearsText t p text new) (sym served) (script, brings, is)

-- ---- a command that is begun

granted_next : (t : Tables) (who : Who) (k : Command) (ks : List Command)
    → first_failed (checks t.namespaces k.request) ≡ None
    → frame_script t (k ∷ ks) (Some who) ≡ granted who k.id k.request (frame_script t ks (Some who))
granted_next t who k ks passed =
    ap (λ (o : Option ErrorCode). unless_failed o k.id (frame_script t ks (Some who))
    (granted who k.id k.request (frame_script t ks (Some who)))) passed

-- what comes of a command that is begun: nothing to do, or an act
abbrev pub Comes : Tables → Type 0 → ℕ → Script → Option Action → Progress → Type 0
Comes t ready refused script r new =
    MatchOption r ((new ≡ Todo script) × ready) (λ a. Acts t (Todo script) (Some (shown_action a)) new refused)

pub comes_granted : (t : Tables) (client : Option Who) (k : Command) (ks : List Command) (r : Option Action)
    (new : Progress) (ready : Type 0) (n : ℕ)
    → is_some client ≡ true → first_failed (checks t.namespaces k.request) ≡ None
    → ((who : Who) → client ≡ Some who → Comes t ready n (granted who k.id k.request (frame_script t ks client)) r new)
    → Comes t ready n (frame_script t (k ∷ ks) client) r new
comes_granted t None k ks r new ready n there passed h = absurd (cc)
comes_granted t (Some who) k ks r new ready n there passed h =
    subst (λ (s : Script). Comes t ready n s r new) (sym (granted_next t who k ks passed)) (h who refl)

pub falls_at_start : (t : Tables) (client : Option Who) (k : Command) (ks : List Command) (act : Option Act)
    (new : Progress) (n : ℕ)
    → is_some client ≡ true → Falls k.id (frame_script t ks client) act new n
    → GivesUp t (Todo (frame_script t (k ∷ ks) client)) act new n
falls_at_start t None k ks act new n there h = absurd (cc)
falls_at_start t (Some who) k ks act new n there h =
    gives_up t k.id (frame_script t (k ∷ ks) (Some who)) (frame_script t ks (Some who)) act new n (at_start who k ks) h

pub rest_same : (s m : Session) → tables_of m ≡ tables_of s → m.frame ≡ s.frame → m.client ≡ s.client
    → rest_of m ≡ rest_of s
rest_same s m tables frame client =
    ap (λ (t : Tables). frame_script t (commands_left m) m.client) tables
    ∙ ap (λ (f : VecDeque CodeCommand Global). frame_script (tables_of s) (map shown_command f.items) m.client) frame
    ∙ ap (frame_script (tables_of s) (commands_left s)) client

-- a connect whose token is known: its attach is next
user_next : (user : Option (List ℕ)) (name : List ℕ) (id : ℕ) (after : Who → Script) → user ≡ Some name
    → Connects (connect_script user id after)
user_next user name id after known =
    subst (λ (u : Option (List ℕ)). Connects (connect_script u id after)) (sym known)
    (at_attach name (after_attach id name after))

pub attach_next : (t : Tables) (id : ℕ) (r : Request) (token name : List ℕ) (after : Who → Script)
    → r ≡ Connect token → user_of t.tokens token ≡ Some name → Connects (first_script t id r after)
attach_next t id r token name after is known =
    subst (λ (x : Request). Connects (first_script t id x after)) (sym is)
    (user_next (user_of t.tokens token) name id after known)
