-- What the sections of a connection's worker make of the work in hand is what its script makes of the answers.
use Rattle.std.proofs.Common.{◌≡◌, ℕ, ◌&&◌, ◌||◌, not, Bool, true, false, if◌then◌else◌, Option, Some, List, [], ◌∷◌}
use Rattle.std.proofs.Common.{refl, sym, ap, ◌∙◌, subst}
use Rattle.std.specs.Prelude.{ℤ}
use Rattle.cf_protocol.specs.Codes.{code_of}
use Rattle.cf_protocol.specs.Datum.{Datum, Placed, Who}
use Rattle.cf_protocol.specs.LogEntry.Entry.{Publish as PublishEntry}
use Rattle.cf_protocol.specs.Note.{Close, End, Fails, Left, Listed, Lists, Note, PingDue, Pub, Put}
use Rattle.cf_protocol.specs.Note as note
use Rattle.cf_protocol.specs.Outgoing.{Answer as Reply, Failed, Published, Unsubscribed}
use Rattle.cf_protocol.specs.Position.{Position}
use Rattle.cf_protocol.specs.declared.codes.ErrorCode.{ErrorCode}
use Rattle.cf_stream.specs.PublicationList.{state_of}
use Rattle.cf_model.specs.Streams.{Life}
use Rattle.cf_model.specs.Streams.{listed_above, read_of}
use Rattle.cf_model.specs.Sessions.{begins as begins_now, finishes, is_off}
use Rattle.cf_session.specs.Calls.{Answer, Done, Found, Refused}
use Rattle.cf_session.specs.CommandScripts.{after_begin, after_finish, after_leave, after_lost, after_read, granted}
use Rattle.cf_session.specs.CommandScripts.{refuses, replies}
use Rattle.cf_session.specs.Script.{Script}
use Rattle.cf_machine.specs.ClientLink.{finishes_over}
use Rattle.cf_machine.specs.ClientRequest.{ClientRequest, SentCommand, Subscribe, Unsubscribe, Publish, History}
use Rattle.cf_machine.specs.ClientRequest.{request_of}
use Rattle.cf_running.specs.Server as server
use Rattle.cf_running.specs.Server.{AsksShard, Began, Begins, Calls, Connection, Errs, Finishes, FinishesOver, Free}
use Rattle.cf_running.specs.Server.{GivesUp, HasRead, IsRefused, Leaves, Publishes, ReadDone, Refuses, Says, Server}
use Rattle.cf_running.specs.Server.{Site, ToFinish, ToGiveUp, ToList, ToPublish, ToSay, Work, accepts, server_after}
use Rattle.cf_running.specs.Server.{answers, can_gain, change, life_of, lists_of, ran, repeats, words_of}
use Rattle.cf_machine.proofs.Names.{by_test}
use Rattle.cf_running.proofs.Beside.{at-same}
use Rattle.cf_running_ties.specs.InHand.{AsksBroker, HasInHand, Hears, InHand, ListsFor, MayBeRefused, by_answer, id_of}
use Rattle.cf_running_ties.specs.InHand.{is_published}
use Rattle.cf_running_ties.specs.Reads.{IsListing, SaysLater}

module _ (site : Site) (s : Server) (k : ℕ) (who : Who) (next : Script) where
  abbrev x : Connection
  x = s.connections k

  abbrev lists : Lists
  lists = lists_of site s

  -- the connection changes, and then has this work in hand
  goes : (f : Connection → Connection) (w : Work) (script : Script) → (f x).work ≡ w → InHand lists who next w script
      → HasInHand site (change k f s) k who next script
  goes f w script e h =
      subst (λ z. InHand lists who next z script) (sym
      (ap (λ (y : Connection). y.work) (at-same s.connections k (f x)) ∙ e)) h

  both : (a b : Bool) → a ≡ true → b ≡ true → (a && b) ≡ true
  both a b h i = rw (h, i) refl

  -- the first command is heard
  heard : (c : SentCommand) → Hears x c → (f : SentCommand → List SentCommand → Connection → Connection)
      → (rest : List SentCommand) × (server.hears_by f x ≡ f c rest x)
  heard c h f = (
    h.rest,
    ap (λ (b : Bool). if b then server.first_command f x.up x else x)
        (both x.attached (server.is_free x.work) h.attached (ap server.is_free h.free))
        ∙ ap (λ us. server.first_command f us x) h.up,
  )

  -- ---- a command is taken in hand

  pub refused : (c : SentCommand) (e : ErrorCode) → Hears x c → MayBeRefused x c.request
      → HasInHand site (server_after site (Refuses k (code_of e)) s) k who next (refuses c.id e next)
  refused c e h may =
      let f : SentCommand → List SentCommand → Connection → Connection =
      λ d. server.refuses_by (code_of e) d.id d.request in
      let is = heard c h f in
      goes (server.hears_by f) (ToSay (channel c.request) (Fails (channel c.request) c.id (code_of e)))
      (refuses c.id e next)
      (ap (λ (y : Connection). y.work) is.1 ∙ by_request c.request may is.0)
      (c.id, Failed (code_of e), λ later g. refl, refl)
    where
      channel : ClientRequest → List ℕ
      channel (Subscribe d since) = d
      channel (Unsubscribe d) = d
      channel (Publish d key body) = d
      channel (History d limit) = d

      by_request : (r : ClientRequest) → MayBeRefused x r → (rest : List SentCommand)
          → (server.refuses_by (code_of e) c.id r rest x).work ≡ ToSay (channel r) (Fails (channel r) c.id (code_of e))
      by_request (Subscribe d since) m rest = refl
      by_request (Unsubscribe d) m rest =
          ap (λ (b : Bool). (if b then record x { up = rest; work = ToSay d (Fails d c.id (code_of e)) } else x).work) m
      by_request (Publish d key body) m rest = refl
      by_request (History d limit) m rest = refl

  pub begins : (c : SentCommand) (d : List ℕ) (since : Option Position) → Hears x c → c.request ≡ Subscribe d since
      → x.session.closed ≡ false → is_off (x.session.subs d) ≡ true
      → HasInHand site (server_after site (Begins k) s) k who next (after_begin c.id d d since next Done)
  begins c d since h r is_open off =
      let f : SentCommand → List SentCommand → Connection → Connection =
      λ q. server.begins_by (words_of site s) q.id q.request in
      let is = heard c h f in
      goes (server.hears_by f) (Began d c.id since) (after_begin c.id d d since next Done)
      (ap (λ (y : Connection). y.work) (is.1 ∙ ap (λ q. server.begins_by (words_of site s) c.id q is.0 x) r)
      ∙ ap (λ (b : Bool). (if b then x else record x
      { up = is.0; session = begins_now (words_of site s) d c.id since x.session; work = Began d c.id since }).work)
      (neither x.session.closed (is_off (x.session.subs d)) is_open off)) refl
    where
      neither : (a b : Bool) → a ≡ false → b ≡ true → (a || not b) ≡ false
      neither a b i j = rw (i, j) refl

  pub leaves : (c : SentCommand) (d : List ℕ) (a : Answer) → Hears x c → c.request ≡ Unsubscribe d
      → HasInHand site (server_after site (Leaves k) s) k who next (after_leave c.id next a)
  leaves c d a h r =
      let f : SentCommand → List SentCommand → Connection → Connection = λ q. server.leaves_by q.id q.request in
      let is = heard c h f in
      goes (server.hears_by f) (ToSay d (Left c.id)) (after_leave c.id next a)
      (ap (λ (y : Connection). y.work) (is.1 ∙ ap (λ q. server.leaves_by c.id q is.0 x) r))
      (c.id, Unsubscribed, λ later g. refl, refl)

  pub calls : (c : SentCommand) → Hears x c → AsksBroker c.request
      → HasInHand site (server_after site (Calls k (Some who)) s) k who next
      (granted who c.id (request_of c.request) next)
  calls c h asks =
      let f : SentCommand → List SentCommand → Connection → Connection =
      λ q. server.calls_by (Some who) q.id q.request in
      let is = heard c h f in
      by_request c.request asks (server.hears_by f) is.0 is.1
    where
      by_request : (r : ClientRequest) → AsksBroker r → (g : Connection → Connection) (rest : List SentCommand)
          → g x ≡ server.calls_by (Some who) c.id r rest x
          → HasInHand site (change k g s) k who next (granted who c.id (request_of r) next)
      by_request (Subscribe d since) m g rest e = absurd m
      by_request (Unsubscribe d) m g rest e = absurd m
      by_request (Publish d key body) m g rest e =
          goes g (ToPublish d c.id key (record { body = body; info = Some who })) _ (ap (λ (y : Connection). y.work) e)
          (refl, refl)
      by_request (History d limit) m g rest e = goes g (ToList d c.id limit) _ (ap (λ (y : Connection). y.work) e) refl

  -- ---- it is answered

  pub broker_refuses : (e : ErrorCode) (f : Answer → Script) → by_answer next x.work ≡ Some f
      → HasInHand site (server_after site (IsRefused k (code_of e)) s) k who next (f (Refused e))
  broker_refuses e f h = by_work x.work refl h
    where
      same : (a b : Answer → Script) → Some a ≡ Some b → a ≡ b
      same a b i = cc

      by_work : (w : Work) → x.work ≡ w → by_answer next w ≡ Some f
          → HasInHand site (server_after site (IsRefused k (code_of e)) s) k who next (f (Refused e))
      by_work (Began c id since) i j =
          goes (server.is_refused (code_of e) x.work) (ToGiveUp c id (code_of e)) (f (Refused e))
          (ap (λ w. (server.is_refused (code_of e) w x).work) i)
          (e, refl, ap (λ (g : Answer → Script). g (Refused e)) (sym (same (after_read id c next) f j)))
      by_work (ToPublish c id key d) i j =
          goes (server.is_refused (code_of e) x.work) (ToSay c (Fails c id (code_of e))) (f (Refused e))
          (ap (λ w. (server.is_refused (code_of e) w x).work) i) (
            id,
            Failed (code_of e),
            λ later g. refl,
            ap (λ (g : Answer → Script). g (Refused e))
                (sym (same (replies id next) f j)),
          )
      by_work (ToList c id limit) i j =
          goes (server.is_refused (code_of e) x.work) (ToSay c (Fails c id (code_of e))) (f (Refused e))
          (ap (λ w. (server.is_refused (code_of e) w x).work) i) (
            id,
            Failed (code_of e),
            λ later g. refl,
            ap (λ (g : Answer → Script). g (Refused e))
                (sym (same (replies id next) f j)),
          )
      by_work Free i j = absurd (cc)
      by_work (HasRead c r) i j = absurd (cc)
      by_work (ToFinish c) i j = absurd (cc)
      by_work (ToGiveUp c id code) i j = absurd (cc)
      by_work (ToSay c n) i j = absurd (cc)

  pub reads : (c : List ℕ) (id : ℕ) (since : Option Position) (l : Life) → x.work ≡ Began c id since
      → life_of site s c ≡ Some l
      → HasInHand site (ran site s (AsksShard k ∷ ReadDone k ∷ [])) k who next (after_read id c next Done)
  reads c id since l w e =
      subst (λ z. InHand lists who next z (after_read id c next Done))
      (sym (ap (λ (y : Connection). y.work) (at-same t.connections k
      (server.read_done (words_of site t) (t.connections k).work (t.connections k))) ∙ done)) refl
    where
      t : Server
      t = server_after site (AsksShard k) s

      y : Connection
      y = server.asks_shard site s x.work x

      its-work : (t.connections k).work ≡ HasRead c (read_of since (state_of l))
      its-work =
          ap (λ (z : Connection). z.work) (at-same s.connections k y)
          ∙ ap (λ z. (server.asks_shard site s z x).work) w ∙ ap (λ o. (server.reading_by c since o x).work) e

      done : (server.read_done (words_of site t) (t.connections k).work (t.connections k)).work ≡ ToFinish c
      done = ap (λ z. (server.read_done (words_of site t) z (t.connections k)).work) its-work

  pub published : (c key : List ℕ) (id : ℕ) (d : Datum) → x.work ≡ ToPublish c id key d
      → is_published site s c key d ≡ true
      → HasInHand site (server_after site (Publishes k) s) k who next (replies id next (Found Published))
  published c key id d w can =
      subst (λ (v : Server). HasInHand site v k who next (replies id next (Found Published)))
      (sym (ap (λ z. server.publishes site k z s) w))
      (by_test (λ (v : Server). HasInHand site v k who next (replies id next (Found Published)))
      (repeats key (life_of site s c)) _ _
      (λ r. says s)
      (λ r. subst (λ (b : Bool). HasInHand site (if b then change k (answers c id) (accepts site c key d s) else s) k
      who next (replies id next (Found Published)))
      (sym (second (repeats key (life_of site s c)) (can_gain site (site.shard_of c) (PublishEntry c key d) s) r can))
      (says (accepts site c key d s))))
    where
      second : (a b : Bool) → a ≡ false → (a || b) ≡ true → b ≡ true
      second a b h i = subst (λ t. (t || b) ≡ true) h i

      -- the answer is on its way
      says : (t : Server) → HasInHand site (change k (answers c id) t) k who next (replies id next (Found Published))
      says t =
          subst (λ z. InHand (lists_of site t) who next z (replies id next (Found Published)))
          (sym (ap (λ (y : Connection). y.work) (at-same t.connections k (answers c id (t.connections k)))))
          (id, Published, λ later g. refl, refl)

  pub gives_up : (c : List ℕ) (id : ℕ) (e : ErrorCode) (a : Answer) → x.work ≡ ToGiveUp c id (code_of e)
      → HasInHand site (server_after site (GivesUp k) s) k who next (after_lost id e next a)
  gives_up c id e a w =
      goes (server.gives_up x.work) (ToSay c (Fails c id (code_of e))) (after_lost id e next a)
      (ap (λ z. (server.gives_up z x).work) w)
      (id, Failed (code_of e), λ later g. refl, refl)

  pub finished : (c : List ℕ) (a : Answer) → x.work ≡ ToFinish c
      → HasInHand site (server_after site (Finishes k) s) k who next (after_finish next a)
      × HasInHand site (server_after site (FinishesOver k) s) k who next (after_finish next a)
  finished c a w = (
    goes (server.finishes_by (finishes (words_of site s)) x.work) Free next
        (ap (λ z. (server.finishes_by (finishes (words_of site s)) z x).work) w) refl,
    goes (server.finishes_by (finishes_over (words_of site s)) x.work) Free next
        (ap (λ z. (server.finishes_by (finishes_over (words_of site s)) z x).work) w) refl,
  )

  pub said : (c : List ℕ) (n : Note) → x.work ≡ ToSay c n
      → HasInHand site (server_after site (Says k) s) k who next next
  said c n w =
      goes (server.says (words_of site s) x.work) Free next (ap (λ z. (server.says (words_of site s) z x).work) w) refl

  -- an error in place of an answer
  pub errs : (c : List ℕ) (n : Note) (id : ℕ) (e : ErrorCode) → x.work ≡ ToSay c n → id_of n ≡ Some id
      → HasInHand site (server_after site (Errs k (code_of e)) s) k who next (refuses id e next)
  errs c n id e w i =
      goes (server.errs (code_of e) x.work) (ToSay c (server.error_for (code_of e) c n)) (refuses id e next)
      (ap (λ z. (server.errs (code_of e) z x).work) w)
      (id, Failed (code_of e), by_note n i, refl)
    where
      as_id : (i j : ℕ) → ◌≡◌ {A = Option ℕ} (Some i) (Some j) → i ≡ j
      as_id i j h = cc

      by_note : (m : Note) → id_of m ≡ Some id → SaysLater lists (server.error_for (code_of e) c m)
          (Reply id (Failed (code_of e)))
      by_note (Put j) h later g = ap (λ z. Some (Reply z (Failed (code_of e)))) (as_id j id h)
      by_note (Left j) h later g = ap (λ z. Some (Reply z (Failed (code_of e)))) (as_id j id h)
      by_note (Listed d j at low count) h later g = ap (λ z. Some (Reply z (Failed (code_of e)))) (as_id j id h)
      by_note (Fails d j other) h later g = ap (λ z. Some (Reply z (Failed (code_of e)))) (as_id j id h)
      by_note (note.Reply d j was r) h later g = absurd (cc)
      by_note (Pub d q) h later g = absurd (cc)
      by_note (End d) h later g = absurd (cc)
      by_note PingDue h later g = absurd (cc)
      by_note (Close code) h later g = absurd (cc)

-- the stream is listed, and the reply is said or an error in its place
pub listed : (site : Site) (s : Server) (k : ℕ) (who : Who) (next : Script) (c : List ℕ) (id : ℕ) (limit : ℤ)
    (p : Position) (items : List Placed)
    → (s.connections k).work ≡ ToList c id limit → IsListing site s c limit p items
    → ListsFor site s k who next c id p items
listed site s k who next c id limit p items w h =
    let t : Server = server_after site (AsksShard k) s in
    let y : Connection = s.connections k in
    let found = listed_above 0 limit (state_of h.life) in
    let note : Note = Listed c id found.at found.low found.count in
    let work : (t.connections k).work ≡ ToSay c note =
    ap (λ (z : Connection). z.work) (at-same s.connections k (server.asks_shard site s y.work y))
    ∙ (ap (λ z. (server.asks_shard site s z y).work) w ∙ ap (λ o. (server.listing_by c id limit o y).work) h.stands) in
    record {
      note = note;
      in_hand = work;
      says = h.says id;
      said = said site t k who next c note work;
      fails = λ e. errs site t k who next c note id e work refl;
    }
