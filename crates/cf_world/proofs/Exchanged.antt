-- What an exchange comes to: the broker by the judgement, and one link, whose client sent the command and was answered.
use Rattle.std.proofs.Common.{◌≡◌, ℕ, ℤ, suc, ◌&&◌, ◌||◌, not, Bool, true, false, if◌then◌else◌, Option, Some, None}
use Rattle.std.proofs.Common.{List, [], ◌∷◌, refl, ap, ◌∙◌, arith, nat_lt, is_some}
use Rattle.std.proofs.lemmas.Bool.Decides.{nat_tests}
use Rattle.std.specs.Str.{bytes_eq}
use Rattle.cf_protocol.specs.Names.{with, and_also}
use Rattle.cf_protocol.specs.Position.{Position}
use Rattle.cf_protocol.specs.Note.{Lists, Fails, Put as PutDone, Left, Listed, Close}
use Rattle.cf_model.specs.Streams.{StreamState}
use Rattle.cf_model.specs.Streams.{listed_above}
use Rattle.cf_model.specs.Sessions.{Off, Asked, Ready, On, begins, closes_now, is_unfinished, leaves, push}
use Rattle.cf_machine.specs.ClientLink.{ClientLink, asked, client_sends, hears, hears_subscribe, is_heard, is_waiting}
use Rattle.cf_machine.specs.ClientLink.{sends}
use Rattle.cf_machine.specs.ClientRequest.{ClientRequest, SentCommand, Subscribe, Unsubscribe, Publish, History}
use Rattle.cf_machine.specs.ClientRequest.{channel_of}
use Rattle.cf_machine.specs.Config.{Config}
use Rattle.cf_machine.specs.IntervalMachine.{answer_by, answered, broker_by, can_command, closes_by, command_by}
use Rattle.cf_machine.specs.IntervalMachine.{exchange, id_left, is_refused, judgement, lacks_epoch, listing}
use Rattle.cf_machine.specs.IntervalMachine.{nothing_sent}
use Rattle.cf_machine.specs.PublicationList.{Broker}
use Rattle.cf_machine.specs.Refusals.{Judgement, Unheard, TooLong, Refused, Accepted, bad_message}
use Rattle.cf_machine.specs.Session.{Session, Sub}
use Rattle.cf_machine.specs.Weights.{wording}
use Rattle.cf_machine.specs.World.{World, any_unfinished, is_ready}
use Rattle.cf_machine.proofs.Names.{with-same}

-- the link of a client that sent command k, once its node heard it and judged it so
abbrev pub met : Lists → Broker → SentCommand → Judgement → ClientLink → ClientLink
met lists b k j l =
    answer_by (wording b.lists) b k j (closes_by j (hears (wording lists) (is_refused j) k [] (sends k.request l)))

-- and with this session and these channels
abbrev pub after : SentCommand → Session → List (List ℕ) → ClientLink → ClientLink
after k s cs l =
    record l {
      client = client_sends k.request l.client;
      up = [];
      done = k ∷ l.done;
      heard = suc k.id;
      session = s;
      channels = cs;
    }

twice : {A : Type 0} (f : List ℕ → A) (x : List ℕ) (a b : A) → with (with f x a) x b ≡ with f x b
twice f x a b = λ i y. (by_value y (bytes_eq y x)) i
  where
    by_value : (y : List ℕ) (t : Bool) → (if t then b else if t then a else f y) ≡ (if t then b else f y)
    by_value y true = refl
    by_value y false = refl

-- AN EXCHANGE: the broker is that of the judgement, the link is met, and all else stays.
exchange_is : (cfg : Config) (x : List ℕ) (e : ClientRequest) (w : World)
    → exchange cfg x e w ≡ record w {
      broker = broker_by cfg (w.links x) e (judgement cfg x e w) w.broker;
      links = with w.links x (met w.broker.lists (broker_by cfg (w.links x) e (judgement cfg x e w) w.broker)
          (command_by x e w) (judgement cfg x e w) (w.links x));
    }
exchange_is cfg x e w =
    let k : SentCommand = command_by x e w in
    let j : Judgement = judgement cfg x e w in
    let f : List ℕ → ClientLink = w.links in
    let l : ClientLink = sends e (w.links x) in
    let heard : ClientLink → ClientLink = λ v. closes_by j (hears (wording w.broker.lists) (is_refused j) k [] v) in
    let world : Broker → (List ℕ → ClientLink) → World = λ b links. record w { broker = b; links = links } in
    ap (λ (v : ClientLink). answered x k j (world (broker_by cfg v e j w.broker) (with (with f x l) x (heard v))))
    (with-same f x l)
    ∙ ap (λ (g : List ℕ → ClientLink). answered x k j (world (broker_by cfg l e j w.broker) g)) (twice f x l (heard l))
    ∙ ap (λ (v : ClientLink). world (broker_by cfg l e j w.broker)
    (with (with f x (heard l)) x (answer_by (wording (broker_by cfg l e j w.broker).lists)
    (broker_by cfg l e j w.broker) k j v))) (with-same f x (heard l))
    ∙ ap (λ (g : List ℕ → ClientLink). world (broker_by cfg l e j w.broker) g)
    (twice f x (heard l) (answer_by (wording (broker_by cfg l e j w.broker).lists) (broker_by cfg l e j w.broker) k
    j (heard l)))

-- the same by a judgement that is known
pub exchange_as : (cfg : Config) (x : List ℕ) (e : ClientRequest) (w : World) (j : Judgement) → judgement cfg x e w ≡ j
    → exchange cfg x e w ≡ record w {
      broker = broker_by cfg (w.links x) e j w.broker;
      links = with w.links x (met w.broker.lists (broker_by cfg (w.links x) e j w.broker) (command_by x e w) j
          (w.links x));
    }
exchange_as cfg x e w j is =
    exchange_is cfg x e w
    ∙ ap (λ (v : Judgement). record w {
      broker = broker_by cfg (w.links x) e v w.broker;
      links = with w.links x (met w.broker.lists (broker_by cfg (w.links x) e v w.broker) (command_by x e w) v
          (w.links x));
    }) is

-- ---- what the link is met with, by the request and the judgement

abbrev pub with_id : ℕ → ClientRequest → SentCommand
with_id id e = record { id = id; request = e }

-- what its node's session is, once the command was heard that isn't carried out
abbrev pub passed_over : ClientRequest → Session → Session
passed_over (Subscribe c from) s = s
passed_over (Unsubscribe c) s = leaves c s
passed_over (Publish c key body) s = s
passed_over (History c limit) s = s

-- no subscription to this channel waits for its reply
abbrev pub IsQuiet : ClientRequest → Session → Type 0
IsQuiet e s = is_unfinished (s.subs (channel_of e)) ≡ false

module _ (lists : Lists) (b : Broker) (id : ℕ) (l : ClientLink) where
  -- a subscribe that begins nothing
  unbegun : (c : List ℕ) (from : Option Position) (t : Sub) → is_unfinished t ≡ false
      → hears_subscribe (wording lists) true c id from [] t (sends (Subscribe c from) l)
      ≡ after (with_id id (Subscribe c from)) l.session l.channels l
  unbegun c from Off q = by_value (l.session.closed)
    where
      by_value : (t : Bool) → (if t || true then is_heard id (Subscribe c from) [] (sends (Subscribe c from) l)
          else asked (wording lists) c id from (is_heard id (Subscribe c from) [] (sends (Subscribe c from) l)))
          ≡ after (with_id id (Subscribe c from)) l.session l.channels l
      by_value true = refl
      by_value false = refl
  unbegun c from (Asked i since arrived) q = absurd (cc)
  unbegun c from (Ready i was r arrived) q = absurd (cc)
  unbegun c from (On p behind_at) q = refl

  pub heard_over : (e : ClientRequest) → IsQuiet e l.session
      → hears (wording lists) true (with_id id e) [] (sends e l)
      ≡ after (with_id id e) (passed_over e l.session) l.channels l
  heard_over (Subscribe c from) q = unbegun c from (l.session.subs c) q
  heard_over (Unsubscribe c) q = refl
  heard_over (Publish c key body) q = refl
  heard_over (History c limit) q = refl

  -- it is closed, or the text is too long, or an error answers
  pub met_unheard : (e : ClientRequest) → IsQuiet e l.session
      → met lists b (with_id id e) Unheard l ≡ after (with_id id e) (passed_over e l.session) l.channels l
  met_unheard e q = heard_over e q

  pub met_too_long : (e : ClientRequest) → IsQuiet e l.session
      → met lists b (with_id id e) TooLong l ≡ after (with_id id e)
      (closes_now (Close bad_message) (passed_over e l.session)) l.channels l
  met_too_long e q = ap (closes_by TooLong) (heard_over e q)

  isn't-waiting : (t : Sub) → is_unfinished t ≡ false → is_waiting id t ≡ false
  isn't-waiting Off q = refl
  isn't-waiting (Asked i since arrived) q = absurd (cc)
  isn't-waiting (Ready i was r arrived) q = absurd (cc)
  isn't-waiting (On p behind_at) q = refl

  still-quiet : (e : ClientRequest) → IsQuiet e l.session
      → is_unfinished ((passed_over e l.session).subs (channel_of e)) ≡ false
  still-quiet (Subscribe c from) q = q
  still-quiet (Unsubscribe c) q = ap is_unfinished (with-same l.session.subs c Off)
  still-quiet (Publish c key body) q = q
  still-quiet (History c limit) q = q

  pub met_refused : (e : ClientRequest) (code : ℕ) → IsQuiet e l.session
      → met lists b (with_id id e) (Refused code) l
      ≡ after (with_id id e) (push (wording b.lists) (Fails (channel_of e) id code) (passed_over e l.session))
      l.channels l
  met_refused e code q =
      ap (answer_by (wording b.lists) b (with_id id e) (Refused code)) (heard_over e q)
      ∙ by_test' (nat_lt id (suc id) && not (is_waiting id ((passed_over e l.session).subs (channel_of e))))
      (answers (isn't-waiting ((passed_over e l.session).subs (channel_of e)) (still-quiet e q)))
    where
      answers : is_waiting id ((passed_over e l.session).subs (channel_of e)) ≡ false
          → (nat_lt id (suc id) && not (is_waiting id ((passed_over e l.session).subs (channel_of e)))) ≡ true
      answers h = rw h (grind (arith, nat_tests))

      by_test' : (t : Bool) → t ≡ true
          → (if t then after (with_id id e) (push (wording b.lists) (Fails (channel_of e) id code)
          (passed_over e l.session)) l.channels l else after (with_id id e) (passed_over e l.session) l.channels l)
          ≡ after (with_id id e) (push (wording b.lists) (Fails (channel_of e) id code) (passed_over e l.session))
          l.channels l
      by_test' true h = refl
      by_test' false h = absurd (cc)

  -- it is carried out
  pub met_ask : (c : List ℕ) (from : Option Position) → l.session.subs c ≡ Off → l.session.closed ≡ false
      → met lists b (with_id id (Subscribe c from)) Accepted l
      ≡ after (with_id id (Subscribe c from)) (begins (wording lists) c id from l.session) (and_also c l.channels) l
  met_ask c from off opened =
      ap (λ (t : Sub). hears_subscribe (wording lists) false c id from [] t (sends (Subscribe c from) l)) off
      ∙ by_value l.session.closed opened
    where
      by_value : (t : Bool) → t ≡ false → (if t || false then is_heard id (Subscribe c from) []
          (sends (Subscribe c from) l) else asked (wording lists) c id from
          (is_heard id (Subscribe c from) [] (sends (Subscribe c from) l)))
          ≡ after (with_id id (Subscribe c from)) (begins (wording lists) c id from l.session) (and_also c l.channels) l
      by_value true h = absurd (cc)
      by_value false h = refl

  pub met_leave : (c : List ℕ) → met lists b (with_id id (Unsubscribe c)) Accepted l
      ≡ after (with_id id (Unsubscribe c)) (push (wording b.lists) (Left id) (leaves c l.session)) l.channels l
  met_leave c = refl

  pub met_publish : (c key body : List ℕ) → met lists b (with_id id (Publish c key body)) Accepted l
      ≡ after (with_id id (Publish c key body)) (push (wording b.lists) (PutDone id) l.session) l.channels l
  met_publish c key body = refl

  pub met_history : (c : List ℕ) (limit : ℤ) (s : StreamState) → b.streams c ≡ Some s
      → met lists b (with_id id (History c limit)) Accepted l
      ≡ after (with_id id (History c limit)) (push (wording b.lists)
      (Listed c id (listed_above 0 limit s).at (listed_above 0 limit s).low (listed_above 0 limit s).count)
      l.session) l.channels l
  met_history c limit s e =
      ap (λ (o : Option StreamState). listing (wording b.lists) c id limit o
      (after (with_id id (History c limit)) l.session l.channels l)) e

-- ---- where a command can't be sent

module _ (cfg : Config) (x : List ℕ) (e : ClientRequest) (w : World) where
  pub cannot_away : (w.links x).node ≡ None → can_command cfg x e w ≡ false
  cannot_away h =
      ap (λ (o : Option ℕ). (is_some o && not (any_unfinished (w.links x).session.subs (w.links x).channels))
      && (id_left (w.links x) && (nothing_sent (w.links x).up && not (lacks_epoch (judgement cfg x e w) e w.broker)))) h

  pub cannot_unready : is_ready (w.links x) ≡ false → can_command cfg x e w ≡ false
  cannot_unready h = rw h refl

  pub cannot_by_id : id_left (w.links x) ≡ false → can_command cfg x e w ≡ false
  cannot_by_id h = by_value (is_ready (w.links x))
    where
      by_value : (t : Bool) → (t && (id_left (w.links x)
          && (nothing_sent (w.links x).up && not (lacks_epoch (judgement cfg x e w) e w.broker)))) ≡ false
      by_value true = rw h refl
      by_value false = refl

  pub can_send : is_ready (w.links x) ≡ true → id_left (w.links x) ≡ true → (w.links x).up ≡ []
      → lacks_epoch (judgement cfg x e w) e w.broker ≡ false → can_command cfg x e w ≡ true
  can_send r i u k =
      rw r (rw i (ap (λ (us : List SentCommand). nothing_sent us && not (lacks_epoch (judgement cfg x e w) e w.broker))
      u ∙ ap not k))

  pub cannot_by_epoch : lacks_epoch (judgement cfg x e w) e w.broker ≡ true → can_command cfg x e w ≡ false
  cannot_by_epoch h =
      by_value (is_ready (w.links x)) (id_left (w.links x)) (nothing_sent (w.links x).up)
      (lacks_epoch (judgement cfg x e w) e w.broker) h
    where
      by_value : (a b c d : Bool) → d ≡ true → (a && (b && (c && not d))) ≡ false
      by_value true true true d h = ap not h
      by_value true true false d h = refl
      by_value true false c d h = refl
      by_value false b c d h = refl
