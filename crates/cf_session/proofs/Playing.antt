-- A script played step by step.
use Rattle.std.proofs.Common.{◌≡◌, ◌≢◌, ◌∙◌, ◌||◌, ◌==◌, ℕ, Bool, true, false, not, Option, Some, None, List, [], ◌∷◌}
use Rattle.std.proofs.Common.{arith, refl, sym, ap, subst, inl, inr}
use Rattle.std.specs.Prelude.{Ok, Err}
use Rattle.cf_protocol.specs.Codes.{code_of}
use Rattle.cf_protocol.specs.Outgoing as outgoing
use Rattle.cf_protocol.specs.declared.codes.ErrorCode.TheVariants as error
use Rattle.cf_session.specs.Shown.{shown_answer}
use Rattle.cf_session.specs.declared.action.Answer.{Answer as CodeAnswer}
use Rattle.cf_session.specs.declared.action.Answer.TheVariants as answer
use Rattle.cf_session.specs.Calls.{Answer}
use Rattle.cf_session.specs.Script.{Script, Served, Over, Close, Say, Pong, Ask}
use Rattle.cf_protocol.specs.Datum.{Who}
use Rattle.cf_protocol.specs.Settings.{NamespaceTable}
use Rattle.cf_session.specs.Asking.{AllAsk, HasStream, FramesHaveStreams, finds_own}
use Rattle.cf_session.specs.CommandScripts.{Tables, Brings}
use Rattle.cf_session.specs.SessionMachine.{Act, Calls, Says, PassesPong, Closes, Progress, Todo, Out, Does, Hears}
use Rattle.cf_session.specs.SessionMachine.{HearsText, HearsAt, reply_text, awaits, next_progress, answered_progress}
use Rattle.cf_session.specs.SessionMachine.{GoesOn, Acts, AtHand, at_start, at_reply, GivesUp, fails, falls_silent}
use Rattle.cf_session.specs.SessionMachine.{stays_out}
use Rattle.cf_session.specs.Standing.{tables_of, commands_left, progress_of, progress_at, is_idle, idle_at}
use Rattle.cf_session.specs.declared.kind.CommandKind.{CommandKind}
use Rattle.cf_protocol.specs.Request.{Command}
use Rattle.cf_session.specs.declared.session.Session.{Session}
use Rattle.cf_session.specs.declared.stage.ScriptStage.{ScriptStage}
use Rattle.cf_session.specs.declared.stage.ScriptStage.TheVariants as stage
use Rattle.cf_session.specs.Played.{asked_kind, ActHasStream, AskStreams, Plays, PlaysOn, Next, Continues, Serves}
use Rattle.cf_session.specs.Played.{LeadsOn, Goes}
use Rattle.cf_session.specs.Turn.{CanGoOn, IdleCanGoOn}

same_act : (a b : Act) → Some a ≡ Some b → a ≡ b
same_act a b h = cc

-- after a call has gone out its kind is awaited, and after another act nothing is
pub awaited : (p q : Progress) (a : Act) → Does p (Some a) q → asked_kind a ≡ awaits q
awaited (Todo (Served who)) q a d = absurd (cc (d.acts))
awaited (Todo Over) q a d = absurd (cc (d.acts))
awaited (Todo (Close code)) q a d =
    subst (λ (x : Act). asked_kind x ≡ awaits q) (sym (same_act a _ d.acts)) (sym (ap awaits d.goes))
awaited (Todo (Say id o after)) q a d =
    subst (λ (x : Act). asked_kind x ≡ awaits q) (sym (same_act a _ d.acts)) (sym (ap awaits d.goes))
awaited (Todo (Pong after)) q a d =
    subst (λ (x : Act). asked_kind x ≡ awaits q) (sym (same_act a _ d.acts)) (sym (ap awaits d.goes))
awaited (Todo (Ask call after)) q a d =
    subst (λ (x : Act). asked_kind x ≡ awaits q) (sym (same_act a _ d.acts)) (sym (ap awaits d.goes))
awaited (Out kind after) q a d = absurd (cc (d.acts))

-- nothing is left to do
abbrev pub is_end : Progress → Bool
is_end (Todo (Served who)) = true
is_end (Todo Over) = true
is_end other = false

module _ {N : Type 0} (closed : N → Bool) (does : N → Act → Option Answer → N → Type 0) where
  over_stays : (mid m : N) (end : Script) → Continues closed does (Todo Over) mid m end → (m ≡ mid) × (end ≡ Over)
  over_stays mid m end (inl h) = h.1
  over_stays mid m end (inr h) = (h.stays, h.leaves)

  -- an act that is no call
  plays_act : (p q : Progress) (a : Act) (n mid m : N) (end : Script)
      → Does p (Some a) q → does n a None mid → asked_kind a ≡ None → Continues closed does q mid m end
      → PlaysOn closed does p n m end
  plays_act (Todo (Served who)) q a n mid m end d h k rest = absurd (cc (d.acts))
  plays_act (Todo Over) q a n mid m end d h k rest = absurd (cc (d.acts))
  plays_act (Todo (Close code)) q a n mid m end d h k rest =
      let over : Continues closed does (Todo Over) mid m end =
      subst (λ (x : Progress). Continues closed does x mid m end) d.goes rest in
      let closes : does n (Closes code) None mid = subst (λ (x : Act). does n x None mid) (same_act a _ d.acts) h in
      let stays : (m ≡ mid) × (end ≡ Over) = over_stays mid m end over in
      (subst (λ (x : N). does n (Closes code) None x) (sym stays.0) closes, stays.1)
  plays_act (Todo (Say id o after)) q a n mid m end d h k rest = (
    mid,
    subst (λ (x : Act). does n x None mid) (same_act a _ d.acts) h,
    subst (λ (x : Progress). Continues closed does x mid m end) d.goes rest,
  )
  plays_act (Todo (Pong after)) q a n mid m end d h k rest = (
    mid,
    subst (λ (x : Act). does n x None mid) (same_act a _ d.acts) h,
    subst (λ (x : Progress). Continues closed does x mid m end) d.goes rest,
  )
  plays_act (Todo (Ask call after)) q a n mid m end d h k rest =
      let none : asked_kind (Calls call) ≡ None = subst (λ (x : Act). asked_kind x ≡ None) (same_act a _ d.acts) k in
      absurd (cc (none))
  plays_act (Out kind after) q a n mid m end d h k rest = absurd (cc (d.acts))

  -- a call and its answer
  plays_call : (p q : Progress) (a : Act) (kind : CommandKind) (x : Answer) (n mid m : N) (end : Script)
      → Does p (Some a) q → does n a (Some x) mid → asked_kind a ≡ Some kind
      → Continues closed does (answered_progress x q) mid m end → PlaysOn closed does p n m end
  plays_call (Todo (Served who)) q a kind x n mid m end d h k rest = absurd (cc (d.acts))
  plays_call (Todo Over) q a kind x n mid m end d h k rest = absurd (cc (d.acts))
  plays_call (Todo (Close code)) q a kind x n mid m end d h k rest =
      let some : asked_kind (Closes code) ≡ Some kind =
      subst (λ (y : Act). asked_kind y ≡ Some kind) (same_act a _ d.acts) k in
      absurd (cc (some))
  plays_call (Todo (Say id o after)) q a kind x n mid m end d h k rest =
      let some : asked_kind (Says (reply_text id o)) ≡ Some kind =
      subst (λ (y : Act). asked_kind y ≡ Some kind) (same_act a _ d.acts) k in
      absurd (cc (some))
  plays_call (Todo (Pong after)) q a kind x n mid m end d h k rest =
      let some : asked_kind PassesPong ≡ Some kind =
      subst (λ (y : Act). asked_kind y ≡ Some kind) (same_act a _ d.acts) k in
      absurd (cc (some))
  plays_call (Todo (Ask call after)) q a kind x n mid m end d h k rest = (
    mid,
    x,
    subst (λ (y : Act). does n y (Some x) mid) (same_act a _ d.acts) h,
    subst (λ (y : Progress). Continues closed does (answered_progress x y) mid m end) d.goes rest,
  )
  plays_call (Out kind' after) q a kind x n mid m end d h k rest = absurd (cc (d.acts))

  pub next_act_done : (p q : Progress) (a : Act) (n mid : N) → Does p (Some a) q → does n a None mid
      → asked_kind a ≡ None → Next closed does p q n mid
  next_act_done p q a n mid d h k = λ m end rest. plays_act p q a n mid m end d h k rest

  pub next_call_done : (p q r : Progress) (a : Act) (kind : CommandKind) (x : Answer) (n mid : N)
      → Does p (Some a) q → does n a (Some x) mid → asked_kind a ≡ Some kind → r ≡ answered_progress x q
      → Next closed does p r n mid
  next_call_done p q r a kind x n mid d h k e =
      λ m end rest. plays_call p q a kind x n mid m end d h k
      (subst (λ (y : Progress). Continues closed does y mid m end) e rest)

  continues : (q : Progress) (mid m : N) (end : Script) → closed mid ≡ false → PlaysOn closed does q mid m end
      → Continues closed does q mid m end
  continues (Todo s) mid m end c h = inl (c, h)
  continues (Out kind after) mid m end c h = absurd h

  -- an act leads on
  pub next_leads : (p q : Progress) (n mid : N) → closed n ≡ false → Next closed does p q n mid
      → LeadsOn closed does p n q mid
  next_leads p q n mid c next m end rest = continues p n m end c (next m end rest)

  pub leads_more : (p q r : Progress) (n mid k : N) → LeadsOn closed does p n q mid → LeadsOn closed does q mid r k
      → LeadsOn closed does p n r k
  leads_more p q r n mid k first second m end rest = first m end (second m end rest)

  pub leads_same : (p q : Progress) (n : N) → q ≡ p → LeadsOn closed does p n q n
  leads_same p q n same m end rest = subst (λ (x : Progress). Continues closed does x n m end) same rest

  pub goes_first : (t : Tables) (p0 p : Progress) (n : N) (text : List ℕ) → HearsText t p0 text p
      → Goes closed does t p0 n text p n
  goes_first t p0 p n text h = record { heard = p; hears = h; leads = λ m end rest. rest }

  pub goes_on : (t : Tables) (p0 q r : Progress) (n0 mid n : N) (text : List ℕ)
      → Goes closed does t p0 n0 text q mid → LeadsOn closed does q mid r n → Goes closed does t p0 n0 text r n
  goes_on t p0 q r n0 mid n text g on =
      record { heard = g.heard; hears = g.hears; leads = leads_more g.heard q r n0 mid n g.leads on }

  -- nothing is next, or the node has closed the session: here a script ends
  ends_todo : (s : Script) (m : N) (b : Bool) → closed m ≡ b → (b || is_end (Todo s)) ≡ true
      → Continues closed does (Todo s) m m s
  ends_todo s m true c h = inr (record { over = c; stays = refl; leaves = refl })
  ends_todo (Served who) m false c h = inl (c, (refl, refl))
  ends_todo Over m false c h = inl (c, (refl, refl))
  ends_todo (Close code) m false c h = absurd (cc (h))
  ends_todo (Say id o after) m false c h = absurd (cc (h))
  ends_todo (Pong after) m false c h = absurd (cc (h))
  ends_todo (Ask call after) m false c h = absurd (cc (h))

  ends_at : (q : Progress) (m : N) → awaits q ≡ None → (closed m || is_end q) ≡ true → (end : Script) × (q ≡ Todo end)
      × Continues closed does q m m end
  ends_at (Todo s) m k h = (s, refl, ends_todo s m (closed m) refl h)
  ends_at (Out kind after) m k h = absurd (cc (k))

  plays_open : (s end : Script) (n m : N) → closed n ≡ false → Continues closed does (Todo s) n m end
      → Plays closed does s n m end
  plays_open s end n m c (inl h) = h.1
  plays_open s end n m c (inr h) = absurd (cc (h.over, c))

  -- a text was heard and led on to its end: it is served
  serves_led : (t : Tables) (p0 p q : Progress) (n m : N) (text : List ℕ)
      → closed n ≡ false → HearsText t p0 text p → LeadsOn closed does p n q m → awaits q ≡ None
      → (closed m || is_end q) ≡ true → Serves closed does t p0 n text m q
  serves_led t (Todo s) p q n m text c h lead k e =
      let at : (end : Script) × (q ≡ Todo end) × Continues closed does q m m end = ends_at q m k e in
      let from : LeadsOn closed does (Todo h.0) n q m =
      subst (λ (x : Progress). LeadsOn closed does x n q m) h.2 lead in
      record {
        script = h.0;
        end = at.0;
        hears = h.1;
        plays = plays_open h.0 at.0 n m c (from m at.0 at.2);
        ends = at.1;
      }
  serves_led t (Out kind after) p q n m text c h lead k e = absurd h

  pub serves_gone : (t : Tables) (p0 q : Progress) (n m : N) (text : List ℕ)
      → closed n ≡ false → Goes closed does t p0 n text q m → awaits q ≡ None → (closed m || is_end q) ≡ true
      → Serves closed does t p0 n text m q
  serves_gone t p0 q n m text c g k e = serves_led t p0 g.heard q n m text c g.hears g.leads k e

-- ---- unless memory was refused

-- whether a session is short by now, by whether it was before and how many requests this call had refused
pub long_before : (a b : Bool) (n : ℕ) → b ≡ (a || not (n == 0)) → b ≡ false → a ≡ false
long_before false b n h long = refl
long_before true b n h long = absurd (cc (h, long))

none_refused : (n : ℕ) → not (n == 0) ≡ false → n ≡ 0
none_refused n h = grind (arith, h)

pub long_now : (a b : Bool) (n : ℕ) → b ≡ (a || not (n == 0)) → b ≡ false → n ≡ 0
long_now false b n h long = none_refused n (sym h ∙ long)
long_now true b n h long = absurd (cc (h, long))

pub short_stays : (a b : Bool) (n : ℕ) → b ≡ (a || not (n == 0)) → a ≡ true → b ≡ true
short_stays true b n h short = h
short_stays false b n h short = absurd (cc (short))

pub still_long : (a b : Bool) → (a ≡ true → b ≡ true) → b ≡ false → a ≡ false
still_long false b h long = refl
still_long true b h long = absurd (cc (h refl, long))

gives_some : (t : Tables) (p : Progress) (act : Option Act) (q : Progress) (n : ℕ) → GivesUp t p act q n → n ≢ 0
gives_some t p act q n (fails id script after at) = λ e. absurd (cc (e))
gives_some t p act q n (falls_silent id script after at) = λ e. absurd (cc (e))
gives_some t p act q n (stays_out script at) = λ e. absurd (cc (e))

pub acts_does : (t : Tables) (p : Progress) (act : Option Act) (q : Progress) (n : ℕ) → Acts t p act q n → n ≡ 0
    → Does p act q
acts_does t p act q n (inl d) long = d.0
acts_does t p act q n (inr h) long = absurd (gives_some t p act q n h long)

gives_awaited : (t : Tables) (p : Progress) (act : Option Act) (q : Progress) (n : ℕ) (a : Act) → GivesUp t p act q n
    → act ≡ Some a → asked_kind a ≡ awaits q
gives_awaited t p act q n a (fails id script after at) e = sym (ap asked_kind (same_act _ a e))
gives_awaited t p act q n a (falls_silent id script after at) e = sym (ap asked_kind (same_act _ a e))
gives_awaited t p act q n a (stays_out script at) e = sym (ap asked_kind (same_act _ a e))

pub acts_awaited : (t : Tables) (p : Progress) (a : Act) (q : Progress) (n : ℕ) → Acts t p (Some a) q n
    → asked_kind a ≡ awaits q
acts_awaited t p a q n (inl d) = awaited p q a d.0
acts_awaited t p a q n (inr h) = gives_awaited t p (Some a) q n a h refl

-- nothing is next of a session that awaits nothing: it stays where it is
none_next : (p q : Progress) → Does p None q → awaits p ≡ None → q ≡ p
none_next (Todo (Served who)) q d k = d.goes
none_next (Todo Over) q d k = d.goes
none_next (Todo (Close code)) q d k = absurd (cc (d.acts))
none_next (Todo (Say id o after)) q d k = absurd (cc (d.acts))
none_next (Todo (Pong after)) q d k = absurd (cc (d.acts))
none_next (Todo (Ask call after)) q d k = absurd (cc (d.acts))
none_next (Out kind after) q d k = absurd (cc (k))

gives_act : (t : Tables) (p : Progress) (act : Option Act) (q : Progress) (n : ℕ) → GivesUp t p act q n → act ≢ None
gives_act t p act q n (fails id script after at) = λ e. absurd (cc (e))
gives_act t p act q n (falls_silent id script after at) = λ e. absurd (cc (e))
gives_act t p act q n (stays_out script at) = λ e. absurd (cc (e))

pub acts_none : (t : Tables) (p q : Progress) (n : ℕ) → Acts t p None q n → awaits p ≡ None → q ≡ p
acts_none t p q n (inl d) k = none_next p q d.0 k
acts_none t p q n (inr h) k = absurd (gives_act t p None q n h refl)

answered_awaits : (x : Answer) (q : Progress) → awaits (answered_progress x q) ≡ None
answered_awaits x (Todo s) = refl
answered_awaits x (Out kind after) = refl

pub answered_none : (x : Answer) (q r : Progress) (n : ℕ) → GoesOn x q r n → awaits r ≡ None
answered_none x q r n (inl e) = ap awaits e.0 ∙ answered_awaits x q
answered_none x q r n (inr h) = ap awaits h.1.closes

pub answered_long : (x : Answer) (q r : Progress) (n : ℕ) → GoesOn x q r n → n ≡ 0 → r ≡ answered_progress x q
answered_long x q r n (inl e) long = e.0
answered_long x q r n (inr h) long = absurd (cc (h.1.once, long))

text_awaits : (t : Tables) (p : Progress) (text : List ℕ) (q : Progress) → HearsText t p text q → awaits q ≡ None
text_awaits t (Todo s) text q h = ap awaits h.2
text_awaits t (Out kind after) text q h = absurd h

pub hears_awaits : (t : Tables) (p : Progress) (text : List ℕ) (q : Progress) (n : ℕ) → Hears t p text q n
    → awaits q ≡ None
hears_awaits t p text q n (inl h) = text_awaits t p text q h.0
hears_awaits t p text q n (inr h) = ap awaits h.1.closes

pub hears_long : (t : Tables) (p : Progress) (text : List ℕ) (q : Progress) (n : ℕ) → Hears t p text q n → n ≡ 0
    → HearsText t p text q
hears_long t p text q n (inl h) long = h.0
hears_long t p text q n (inr h) long = absurd (cc (h.1.once, long))

-- ---- streams are asked for only where a namespace is set up

pub act_asks : (t : Tables) (p : Progress) (act : Option Act) (q : Progress) (a : Act) → Does p act q → act ≡ Some a
    → AskStreams t.namespaces p → ActHasStream t.namespaces a
act_asks t (Todo (Served who)) act q a d e h = absurd (cc (d.acts, e))
act_asks t (Todo Over) act q a d e h = absurd (cc (d.acts, e))
act_asks t (Todo (Close code)) act q a d e h = subst (ActHasStream t.namespaces) (same_act _ a (sym d.acts ∙ e)) tt
act_asks t (Todo (Say id o after)) act q a d e h =
    subst (ActHasStream t.namespaces) (same_act _ a (sym d.acts ∙ e)) (id, o, h.0, refl)
act_asks t (Todo (Pong after)) act q a d e h = subst (ActHasStream t.namespaces) (same_act _ a (sym d.acts ∙ e)) tt
act_asks t (Todo (Ask call after)) act q a d e h = subst (ActHasStream t.namespaces) (same_act _ a (sym d.acts ∙ e)) h.0
act_asks t (Out kind after) act q a d e h = absurd (cc (d.acts, e))

next_asks : (t : Tables) (p : Progress) → AskStreams t.namespaces p → AskStreams t.namespaces (next_progress p)
next_asks t (Todo (Served who)) h = h
next_asks t (Todo Over) h = h
next_asks t (Todo (Close code)) h = tt
next_asks t (Todo (Say id o after)) h = h.1
next_asks t (Todo (Pong after)) h = h
next_asks t (Todo (Ask call after)) h = h.1
next_asks t (Out kind after) h = h

hand_asks : (t : Tables) (id : ℕ) (script after : Script) → FramesHaveStreams → AtHand t id script after
    → AllAsk (HasStream t.namespaces) script → AllAsk (HasStream t.namespaces) after
hand_asks t id script after law (at_start who k ks) h = law t ks (Some who)
hand_asks t id script after law (at_reply id' o after' other) h = h.1

given_asks : (t : Tables) (p : Progress) (act : Option Act) (q : Progress) (n : ℕ) → FramesHaveStreams
    → GivesUp t p act q n → AskStreams t.namespaces p → AskStreams t.namespaces q
given_asks t p act q n law (fails id script after at) h = hand_asks t id script after law at h
given_asks t p act q n law (falls_silent id script after at) h = tt
given_asks t p act q n law (stays_out script at) h = tt

given_act : (t : Tables) (p : Progress) (act : Option Act) (q : Progress) (n : ℕ) (a : Act) → GivesUp t p act q n
    → act ≡ Some a → ActHasStream t.namespaces a
given_act t p act q n a (fails id script after at) e =
    subst (ActHasStream t.namespaces) (same_act _ a e) (id, outgoing.Failed (code_of error.Internal), refl, refl)
given_act t p act q n a (falls_silent id script after at) e = subst (ActHasStream t.namespaces) (same_act _ a e) tt
given_act t p act q n a (stays_out script at) e = subst (ActHasStream t.namespaces) (same_act _ a e) tt

pub acts_ask : (t : Tables) (p : Progress) (act : Option Act) (q : Progress) (n : ℕ) → FramesHaveStreams
    → Acts t p act q n → AskStreams t.namespaces p → AskStreams t.namespaces q
acts_ask t p act q n law (inl d) h = subst (AskStreams t.namespaces) (sym d.0.goes) (next_asks t p h)
acts_ask t p act q n law (inr g) h = given_asks t p act q n law g h

pub acts_stream : (t : Tables) (p : Progress) (a : Act) (q : Progress) (n : ℕ) → Acts t p (Some a) q n
    → AskStreams t.namespaces p → ActHasStream t.namespaces a
acts_stream t p a q n (inl d) h = act_asks t p (Some a) q a d.0 refl h
acts_stream t p a q n (inr g) h = given_act t p (Some a) q n a g refl

brings_asks : (t : Tables) (who : Option Who) (text : List ℕ) (script : Script) → FramesHaveStreams
    → Brings t who text script → AllAsk (HasStream t.namespaces) script
brings_asks t who text script law (inl b) = let P : Script → Type 0 = AllAsk (HasStream t.namespaces) in
    subst P (sym b.3) (law t b.0 who)
brings_asks t who text script law (inr b) = let P : Script → Type 0 = AllAsk (HasStream t.namespaces) in
    subst P (sym b.1) tt

text_asks : (t : Tables) (s : Script) (text : List ℕ) (script : Script) → FramesHaveStreams → HearsAt t s text script
    → AllAsk (HasStream t.namespaces) script
text_asks t (Served who) text script law h = brings_asks t who text script law h
text_asks t Over text script law h = let P : Script → Type 0 = AllAsk (HasStream t.namespaces) in subst P (sym h) tt
text_asks t (Close code) text script law h = absurd h
text_asks t (Say id o after) text script law h = absurd h
text_asks t (Pong after) text script law h = absurd h
text_asks t (Ask call after) text script law h = absurd h

heard_asks : (t : Tables) (p : Progress) (text : List ℕ) (q : Progress) → FramesHaveStreams → HearsText t p text q
    → AskStreams t.namespaces q
heard_asks t (Todo s) text q law h = subst (AskStreams t.namespaces) (sym h.2) (text_asks t s text h.0 law h.1)
heard_asks t (Out kind after) text q law h = absurd h

pub hears_asks : (t : Tables) (p : Progress) (text : List ℕ) (q : Progress) (n : ℕ) → FramesHaveStreams
    → Hears t p text q n → AskStreams t.namespaces q
hears_asks t p text q n law (inl h) = heard_asks t p text q law h.0
hears_asks t p text q n law (inr h) = subst (AskStreams t.namespaces) (sym h.1.closes) tt

answered_asks : (t : NamespaceTable) (a : Answer) (p : Progress) → finds_own a ≡ true → AskStreams t p
    → AskStreams t (answered_progress a p)
answered_asks t a (Todo s) own h = h
answered_asks t a (Out kind after) own h = h a own

pub answer_asks : (t : NamespaceTable) (a : Answer) (p q : Progress) (n : ℕ) → finds_own a ≡ true → GoesOn a p q n
    → AskStreams t p → AskStreams t q
answer_asks t a p q n own (inl e) h = subst (AskStreams t) (sym e.0) (answered_asks t a p own h)
answer_asks t a p q n own (inr g) h = subst (AskStreams t) (sym g.1.closes) tt

-- what the code's calls answer is none that the node gives itself
pub answers_own : (a : CodeAnswer) → finds_own (shown_answer a) ≡ true
answers_own (answer.Attach (Ok client)) = refl
answers_own (answer.Attach (Err e)) = refl
answers_own (answer.Begin (Ok u)) = refl
answers_own (answer.Begin (Err e)) = refl
answers_own (answer.Read (Ok u)) = refl
answers_own (answer.Read (Err e)) = refl
answers_own answer.Finish = refl
answers_own answer.Leave = refl
answers_own (answer.Publish (Ok u)) = refl
answers_own (answer.Publish (Err e)) = refl
answers_own (answer.History (Ok u)) = refl
answers_own (answer.History (Err e)) = refl
answers_own (answer.Presence (Ok users)) = refl
answers_own (answer.Presence (Err e)) = refl
answers_own (answer.Stats s) = refl

-- ---- idle sessions

pub idle_ends : (t : Tables) (ks : List Command) (who : Option Who) (at : ScriptStage) → idle_at at ks ≡ true
    → is_end (progress_at t ks who at) ≡ true
idle_ends t [] who stage.Ready idle = refl
idle_ends t (k ∷ ks) who stage.Ready idle = absurd (cc (idle))
idle_ends t ks who stage.Closed idle = refl
idle_ends t ks who (stage.Attaching id user) idle = absurd (cc (idle))
idle_ends t ks who (stage.Beginning id read c since) idle = absurd (cc (idle))
idle_ends t ks who (stage.Reads id read c since) idle = absurd (cc (idle))
idle_ends t ks who (stage.Reading id c) idle = absurd (cc (idle))
idle_ends t ks who (stage.Finishes c) idle = absurd (cc (idle))
idle_ends t ks who stage.Finishing idle = absurd (cc (idle))
idle_ends t ks who (stage.Loses id c e) idle = absurd (cc (idle))
idle_ends t ks who (stage.Losing id e) idle = absurd (cc (idle))
idle_ends t ks who (stage.Leaving id) idle = absurd (cc (idle))
idle_ends t ks who (stage.Calling id k) idle = absurd (cc (idle))
idle_ends t ks who (stage.Says id o) idle = absurd (cc (idle))
idle_ends t ks who (stage.Closes code) idle = absurd (cc (idle))

end_awaits : (p : Progress) → is_end p ≡ true → awaits p ≡ None
end_awaits (Todo s) h = refl
end_awaits (Out kind after) h = absurd (cc (h))

end_asks : (t : NamespaceTable) (p : Progress) → is_end p ≡ true → AskStreams t p
end_asks t (Todo (Served who)) h = tt
end_asks t (Todo Over) h = tt
end_asks t (Todo (Close code)) h = absurd (cc (h))
end_asks t (Todo (Say id o after)) h = absurd (cc (h))
end_asks t (Todo (Pong after)) h = absurd (cc (h))
end_asks t (Todo (Ask call after)) h = absurd (cc (h))
end_asks t (Out kind after) h = absurd (cc (h))

pub idle_end : (s : Session) → is_idle s ≡ true → is_end (progress_of s) ≡ true
idle_end s idle = idle_ends (tables_of s) (commands_left s) s.client s.stage idle

pub idle_can_go_on : IdleCanGoOn
idle_can_go_on s idle = record {
  awaits = end_awaits (progress_of s) (idle_end s idle);
  asks = end_asks (tables_of s).namespaces (progress_of s) (idle_end s idle);
}

-- a session that had nothing to do
pub same_can_go_on : (s m : Session) → tables_of m ≡ tables_of s → progress_of m ≡ progress_of s → CanGoOn s → CanGoOn m
same_can_go_on s m tables same h =
    let P : Progress → Type 0 = AskStreams (tables_of m).namespaces in
    let at_m : AskStreams (tables_of m).namespaces (progress_of s) =
    subst (λ (t : Tables). AskStreams t.namespaces (progress_of s)) (sym tables) h.asks in
    record { awaits = ap awaits same ∙ h.awaits; asks = subst P (sym same) at_m }

pub can_go_on_at : (t : NamespaceTable) (s : Session) → t ≡ (tables_of s).namespaces → awaits (progress_of s) ≡ None
    → AskStreams t (progress_of s) → CanGoOn s
can_go_on_at t s same k h =
    record { awaits = k; asks = subst (λ (x : NamespaceTable). AskStreams x (progress_of s)) same h }

pub done_ends : (closed : Bool) (s : Session) → (closed || is_idle s) ≡ true → (closed || is_end (progress_of s)) ≡ true
done_ends true s done = refl
done_ends false s done = idle_end s done
