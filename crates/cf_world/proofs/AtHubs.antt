-- What is so of one hub is so of it among all.
use Rattle.std.proofs.Common.{◌≡◌, inl, inr, ℕ, ℤ, not, Bool, Option, Some, None, List, sym, ap, ◌∙◌, subst}
use Rattle.std.proofs.lemmas.Bool.Decides.{eqb_tells}
use Rattle.cf_protocol.specs.Codes.{code_of}
use Rattle.cf_protocol.specs.Outgoing.{Failed, Past, Published as PutDone}
use Rattle.cf_protocol.specs.Settings.{NamespaceTable}
use Rattle.cf_protocol.specs.declared.codes.ErrorCode.TheVariants as error
use Rattle.cf_hub.specs.Hub.{Node, attached_at, is_open}
use Rattle.cf_hub.specs.Session.{Attached}
use Rattle.cf_machine.specs.PublicationList.{Broker}
use Rattle.cf_machine.specs.Refusals.{bad_message}
use Rattle.cf_stream.specs.declared.answer.History.{History}
use Rattle.cf_world.specs.BrokerTie.{Histories, Publishes}
use Rattle.cf_world.specs.Exchange.{ListAnswered, Lists, PutAnswered, Puts}
use Rattle.cf_session.specs.SessionMachine.{reply_text}
use Rattle.cf_world.specs.HubCalls.{Answered, AreSame, AtHub, Closed, Hubs, Moves, Told, error_text, who_in}
use Rattle.cf_world.specs.Judging.{Judges}
use Rattle.cf_world.specs.NodesTie.{session_at, session_in}
use Rattle.cf_world.specs.Sending.{Acts}
use Rattle.cf_world.specs.declared.broker.WorldBroker.{WorldBroker as Code}
use Rattle.cf_world.specs.declared.broker.PublishOutcome.{PublishOutcome}
use Rattle.cf_world.specs.declared.broker.PublishOutcome.TheVariants as outcome
use Rattle.cf_world.specs.declared.clients.SessionAddress.{SessionAddress}
use Rattle.cf_world.specs.Judging.{Judged}
use Rattle.cf_world.specs.Judging as judged

abbrev pub PutAnsweredAt : PublishOutcome → SessionAddress → ℕ → Hubs → Hubs → Type 0
PutAnsweredAt outcome.Accepted s id old new = Answered s id PutDone old new
PutAnsweredAt outcome.Repeated s id old new = Answered s id PutDone old new
PutAnsweredAt outcome.AtLastOffset s id old new = Answered s id (Failed (code_of error.LimitExceeded)) old new
PutAnsweredAt outcome.NoEpoch s id old new = Answered s id (Failed (code_of error.Internal)) old new
PutAnsweredAt outcome.NotSetUp s id old new = Answered s id (Failed (code_of error.Internal)) old new

pub record PutsAt (table : NamespaceTable) (m : Broker) (s : SessionAddress) (c key body : List ℕ) (id : ℕ) (new : Code)
    (hubs hubs' : Hubs) : Type 0 where
  pub result : PublishOutcome
  pub publishes : Publishes table m c key (record { body = body; info = who_in (session_at hubs s) }) new result
  pub answered : PutAnsweredAt result s id hubs hubs'

abbrev pub ListAnsweredAt : Option History → SessionAddress → ℕ → Hubs → Hubs → Type 0
ListAnsweredAt (Some h) s id old new = Answered s id (Past h.position h.publications.items) old new
ListAnsweredAt None s id old new = Answered s id (Failed (code_of error.Internal)) old new

pub record ListsAt (table : NamespaceTable) (m : Broker) (s : SessionAddress) (c : List ℕ) (limit : ℤ) (id : ℕ)
    (new : Code)
    (hubs hubs' : Hubs) : Type 0 where
  pub result : Option History
  pub finds : Histories table m c limit new result
  pub answered : ListAnsweredAt result s id hubs hubs'

abbrev pub ActsAt : SessionAddress → Judged → Hubs → Hubs → Type 0
ActsAt s judged.Unheard old new = AreSame old new
ActsAt s judged.TooLong old new = AtHub s.node (Closed s.session bad_message) old new
ActsAt s judged.Unreadable old new = AreSame old new
ActsAt s (judged.Refused id code) old new = Answered s id (Failed (code_of code)) old new
ActsAt s (judged.Granted command) old new = AreSame old new

pub record HearsAt (table : NamespaceTable) (s : SessionAddress) (text : List ℕ) (old new : Hubs) (j : Judged) : Type
    0 where
  pub closed : Bool
  pub is_closed : closed ≡ not (is_open (session_at old s))
  pub judges : Judges table closed text j
  pub acts : ActsAt s j old new

same-node : (x y : Node) → Some x ≡ Some y → x ≡ y
same-node x y h = cc

-- what goes from h to g and to z goes from g to z
pub after-another : {n : ℕ} {h g z : Node} {old mid new : Hubs} → Moves n h g old mid → Moves n h z old new
    → Moves n g z mid new
after-another v u = record { was = v.now; now = u.now; others = λ j ne. u.others j ne ∙ sym (v.others j ne) }

module _ {n : ℕ} {h g : Node} {old new : Hubs} (v : Moves n h g old new) where
  pub moved : (P : Node → Node → Type 0) → P h g → AtHub n P old new
  moved P does = λ z is.
      record {
        hub = g;
        now = v.now;
        changes = subst (λ (y : Node). P y g) (same-node h z (sym v.was ∙ is)) does;
        others = v.others;
      }

  pub unmoved : g ≡ h → AreSame old new
  unmoved e j = elim (eqb_tells j n) [
    | inl is ↦ subst (λ (k : ℕ). new k ≡ old k) (sym is.1) (v.now ∙ ap Some e ∙ sym v.was)
    | inr is ↦ v.others j is.1
  ]

module _ (s : SessionAddress) {h g : Node} {old new : Hubs} (v : Moves s.node h g old new) where
  pub session_at-here : session_at old s ≡ attached_at h s.session
  session_at-here = ap (λ (o : Option Node). session_in o s.session) v.was

  put-answered : (r : PublishOutcome) (id : ℕ) → PutAnswered r s.session id h g → PutAnsweredAt r s id old new
  put-answered outcome.Accepted id a = moved v (Told s.session (reply_text id PutDone)) a
  put-answered outcome.Repeated id a = moved v (Told s.session (reply_text id PutDone)) a
  put-answered outcome.AtLastOffset id a = moved v (Told s.session (error_text id error.LimitExceeded)) a
  put-answered outcome.NoEpoch id a = moved v (Told s.session (error_text id error.Internal)) a
  put-answered outcome.NotSetUp id a = moved v (Told s.session (error_text id error.Internal)) a

  pub puts-at : {table : NamespaceTable} {m : Broker} {c key body : List ℕ} {id : ℕ} {b : Code}
      → Puts table m s.session c key body id b h g → PutsAt table m s c key body id b old new
  puts-at {table} {m} {c} {key} {body} {id} {b} y = record {
    result = y.result;
    publishes = subst (λ (o : Option Attached). Publishes table m c key (record { body = body; info = who_in o }) b
        y.result) (sym session_at-here) y.publishes;
    answered = put-answered y.result id y.answered;
  }

  list-answered : (r : Option History) (id : ℕ) → ListAnswered r s.session id h g → ListAnsweredAt r s id old new
  list-answered (Some r) id a = moved v (Told s.session (reply_text id (Past r.position r.publications.items))) a
  list-answered None id a = moved v (Told s.session (error_text id error.Internal)) a

  pub lists-at : {table : NamespaceTable} {m : Broker} {c : List ℕ} {limit : ℤ} {id : ℕ} {b : Code}
      → Lists table m s.session c limit id b h g → ListsAt table m s c limit id b old new
  lists-at {id = id} y = record { result = y.result; finds = y.finds; answered = list-answered y.result id y.answered }

  acts-at : (j : Judged) → Acts s.session j h g → ActsAt s j old new
  acts-at judged.Unheard a = unmoved v a
  acts-at judged.TooLong a = moved v (Closed s.session bad_message) a
  acts-at judged.Unreadable a = unmoved v a
  acts-at (judged.Refused id code) a = moved v (Told s.session (error_text id code)) a
  acts-at (judged.Granted command) a = unmoved v a

  pub hears-at : {table : NamespaceTable} {text : List ℕ} (j : Judged) (closed : Bool)
      → closed ≡ not (is_open (attached_at h s.session)) → Judges table closed text j → Acts s.session j h g
      → HearsAt table s text old new j
  hears-at j closed shut judges acts = record {
    closed = closed;
    is_closed = shut ∙ ap (λ (o : Option Attached). not (is_open o)) (sym session_at-here);
    judges = judges;
    acts = acts-at j acts;
  }
