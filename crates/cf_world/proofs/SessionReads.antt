-- A session reads the stream of a subscription that was asked for, or finishes one that was read.
use Rattle.std.proofs.Common.{◌≡◌, ◌≢◌, ◌∙◌, inl, inr, ℕ, not, Bool, true, false, Option, Some, None, is_some}
use Rattle.std.proofs.Common.{option_map, if◌then◌else◌, ◌+◌, List, [], ◌∷◌, refl, sym, ap, subst}
use Rattle.cf_protocol.specs.Datum.{Who}
use Rattle.cf_protocol.specs.Names.{with}
use Rattle.cf_protocol.specs.Note.{Lists, Reading}
use Rattle.cf_protocol.specs.Settings.{NamespaceTable}
use Rattle.cf_hub.specs.AlikeMoves.{CallsAreAlike, MovesAreAlike}
use Rattle.cf_hub.specs.Asking.{asked_of}
use Rattle.cf_hub.specs.Hub.{InState, Node, attached_at, is_open, moves, sub_at}
use Rattle.cf_hub.specs.Rows.{sub_in}
use Rattle.cf_hub.specs.Session.{Attached}
use Rattle.cf_hub.specs.Subscriptions.{reading_of}
use Rattle.cf_hub.specs.Finish.{FinishesAt}
use Rattle.cf_hub.specs.WantOfMemory.{Both, SaysAll}
use Rattle.cf_hub.specs.Wordings.{Held, reading, releasing}
use Rattle.cf_world.specs.Waits.{KeepsWaits}
use Rattle.cf_hub.specs.declared.asking.UnreadSubscription.{UnreadSubscription as Answer}
use Rattle.cf_model.specs.Sessions.{SessionState, Subscription, Wording, Off, Asked, Ready, On, finish_notes}
use Rattle.cf_model.specs.Sessions.{finished, is_asked, is_off, is_ready, is_unfinished, push, put_sub, read_at}
use Rattle.cf_model.specs.Sessions.{reads, says}
use Rattle.cf_queue.specs.OutQueue.{Item}
use Rattle.cf_stream.specs.declared.answer.Recovery.{Recovery}
use Rattle.cf_session.specs.Calls as call
use Rattle.cf_session.specs.Calls.{Done, Read, Finish}
use Rattle.cf_session.specs.CommandScripts.{Tables, after_finish, after_read}
use Rattle.cf_session.specs.Script.{Script, Served, Ask}
use Rattle.cf_session.specs.SessionMachine.{Progress, Todo}
use Rattle.cf_session.specs.Shown.{shown_answer}
use Rattle.cf_session.specs.Standing.{progress_of, tables_of}
use Rattle.cf_session.specs.declared.session.Session.{Session}
use Rattle.cf_machine.specs.Config.{Config}
use Rattle.cf_machine.specs.Event as said
use Rattle.cf_machine.specs.FreshEpochs.{AreFresh}
use Rattle.cf_machine.specs.IntervalMachine.{happens}
use Rattle.cf_machine.specs.PublicationList.{can_open}
use Rattle.cf_machine.specs.World.{World}
use Rattle.cf_machine.proofs.Names.{text_tells, with-other, with-same}
use Rattle.cf_world.specs.Acting.{TakesRead}
use Rattle.cf_world.specs.BrokerTie.{Reads}
use Rattle.cf_world.specs.ClientTie.{ShowsClient, ShowsPeer}
use Rattle.cf_world.specs.HubCalls.{Finished, Hubs, Moves, WasRead, who_in}
use Rattle.cf_world.specs.NodesTie.{ShowsNodes, session_at}
use Rattle.cf_world.specs.Sending.{PeerMoves}
use Rattle.cf_world.specs.Serving.{AreServed, IsServed, IsServedAt, Rests, wait_script}
use Rattle.cf_world.specs.Stepping.{Steps}
use Rattle.cf_world.specs.Tie.{AreTied, addresses_of}
use Rattle.cf_world.specs.declared.broker.WorldBroker.{WorldBroker as Code}
use Rattle.cf_world.specs.declared.clients.Peer.{Peer}
use Rattle.cf_world.specs.declared.clients.SessionAddress.{SessionAddress}
use Rattle.cf_world.proofs.AtHubs.{moved}
use Rattle.cf_world.proofs.Breaking.{addresses-with}
use Rattle.cf_world.proofs.Exchanging.{same-addresses}
use Rattle.cf_world.proofs.Going.{Stays}
use Rattle.cf_world.proofs.Looking.{open_at, ready_at, waits_at}
use Rattle.cf_world.proofs.NodesTie.{address_shows}
use Rattle.cf_world.proofs.ReadGoes.{read-goes, read-set-up}
use Rattle.cf_world.proofs.Reading.{Missing}
use Rattle.cf_world.proofs.Running.{step-calls, step-served}
use Rattle.cf_world.proofs.Served.{finish-goes, rests}
use Rattle.cf_world.proofs.ServedStill.{session_at-was, served-one}
use Rattle.cf_world.proofs.Sitting.{client_here, address_here}
use Rattle.cf_world.proofs.Waiting.{named-by, open-is, push-waits, unfinished-is, waits-more, waits-same}

some-is : {A : Type 0} {a b : A} → Some a ≡ Some b → a ≡ b
some-is h = cc

-- ---- the one channel that a session waits for

-- the channel whose read or finish is next
abbrev pub channel_next : Script → Option (List ℕ)
channel_next (Ask (Read c since) after) = Some c
channel_next (Ask (Finish c) after) = Some c
channel_next _ = None

names-it : {B : Type 0} (who : Who) (c : List ℕ) (u : Subscription B) (x : Script) → wait_script who c u ≡ Some x
    → channel_next x ≡ Some c
names-it who c Off x e = absurd (cc (e))
names-it who c (Asked id since b) x e = ap channel_next (sym (some-is e))
names-it who c (Ready id was r b) x e = ap channel_next (sym (some-is e))
names-it who c (On p behind_at) x e = absurd (cc (e))

abbrev script-in : Progress → Option Script
script-in (Todo s) = Some s
script-in _ = None

todo-same : (x y : Script) → Todo x ≡ Todo y → x ≡ y
todo-same x y e = some-is (ap script-in e)

-- no other channel waits
pub others-none : {t : NamespaceTable} {o : Option Attached} {s : Session} (v : IsServed t o s) (c : List ℕ)
    (x : Script) → wait_script v.who c (sub_in o c) ≡ Some x
    → (d : List ℕ) → d ≢ c → wait_script v.who d (sub_in o d) ≡ None
others-none {o = o} v c x e d ne = by_value (wait_script v.who d (sub_in o d)) refl
  where
    by_value : (w : Option Script) → wait_script v.who d (sub_in o d) ≡ w → w ≡ None
    by_value None f = refl
    by_value (Some y) f =
        let same : y ≡ x = todo-same y x (sym (v.waits d y f) ∙ v.waits c x e) in
        absurd (ne (some-is (sym (names-it v.who d (sub_in o d) y f) ∙ ap channel_next same
        ∙ names-it v.who c (sub_in o c) x e)))

-- a session whose next thing is for the one channel that waits
pub one-waits : (t : NamespaceTable) (o : Option Attached) (f : Session) (who : Who) (c : List ℕ) (y : Script)
    → (tables_of f).namespaces ≡ t → who_in o ≡ Some who → wait_script who c (sub_in o c) ≡ Some y
    → progress_of f ≡ Todo y → ((d : List ℕ) → d ≢ c → wait_script who d (sub_in o d) ≡ None) → IsServed t o f
one-waits t o f who c y tables named here goes others = record {
  tables = tables;
  who = who;
  named = named;
  rests = λ quiet. absurd (cc (sym (unfinished-is who c (sub_in o c) ∙ ap is_some here) ∙ quiet c));
  waits = λ d x w. elim (text_tells d c) [
    | inl is ↦ goes ∙ ap Todo (some-is (sym here ∙ subst (λ (z : List ℕ). wait_script who z (sub_in o z) ≡ Some x) is.1
        w))
    | inr ne ↦ absurd (cc (others d ne.1, w))
  ];
}

-- ---- a read at a session's state

module _ (who : Who) (w : Wording Held Item) (c : List ℕ) (r : Reading) (a : SessionState Held Item) where
  read-waits-at : (u : Subscription Held) → is_asked u ≡ true
      → wait_script who c ((read_at w c r u a).subs c) ≡ Some (Ask (Finish c) (after_finish (Served (Some who))))
  read-waits-at Off h = absurd (cc (h))
  read-waits-at (Asked id since b) h =
      ap (wait_script who c) (with-same a.subs c (Ready id (is_some since) r (w.with_read b)))
  read-waits-at (Ready id was r' b) h = absurd (cc (h))
  read-waits-at (On p behind_at) h = absurd (cc (h))

  read-others-at : (u : Subscription Held) → is_asked u ≡ true → (d : List ℕ) → d ≢ c
      → (read_at w c r u a).subs d ≡ a.subs d
  read-others-at Off h d ne = refl
  read-others-at (Asked id since b) h d ne = with-other a.subs c (Ready id (is_some since) r (w.with_read b)) d ne
  read-others-at (Ready id was r' b) h d ne = refl
  read-others-at (On p behind_at) h d ne = refl

record AskedOf (a : Answer) (u : Subscription Held) : Type 0 where
  id : ℕ
  kept : Held
  is : u ≡ Asked id a.since kept

asked-so : (a : Answer) (u : Subscription Held) → asked_of u ≡ Some a → AskedOf a u
asked-so a Off e = absurd (cc (e))
asked-so a (Asked id since b) e = record { id = id; kept = b; is = ap (λ (z : Answer). Asked id z.since b) (some-is e) }
asked-so a (Ready id was r b) e = absurd (cc (e))
asked-so a (On p behind_at) e = absurd (cc (e))

read-served : (t : NamespaceTable) (k : ℕ) (c : List ℕ) (r : Recovery) (h g : Node) (s f : Session)
    (v : IsServed t (attached_at h k) s) (a : Answer) → asked_of (sub_at h k c) ≡ Some a → WasRead k c r h g
    → (tables_of f).namespaces ≡ t → progress_of f ≡ Todo (Ask (Finish c) (after_finish (Served (Some v.who))))
    → IsServed t (attached_at g k) f
read-served t k c r h g s f v a asked read tables goes = by_state (attached_at h k) v goes asked read.does.here
  where
    by_state : (o : Option Attached) (w : IsServed t o s)
        → progress_of f ≡ Todo (Ask (Finish c) (after_finish (Served (Some w.who)))) → asked_of (sub_in o c) ≡ Some a
        → attached_at g k ≡ option_map (moves (reads (reading r.publications.items) c (reading_of r))) o
        → IsServed t (attached_at g k) f
    by_state None w next asked-here e = absurd (cc (asked-here))
    by_state (Some b) w next asked-here e =
        let so = asked-so a (b.state.subs c) asked-here in
        let is : is_asked (b.state.subs c) ≡ true = ap is_asked so.is in
        subst (λ (p : Option Attached). IsServed t p f) (sym e)
        (one-waits t (Some (moves (reads (reading r.publications.items) c (reading_of r)) b)) f w.who c
        (Ask (Finish c) (after_finish (Served (Some w.who)))) tables w.named
        (read-waits-at w.who (reading r.publications.items) c (reading_of r) b.state (b.state.subs c) is) next
        (λ d ne. ap (wait_script w.who d) (read-others-at w.who (reading r.publications.items) c (reading_of r) b.state
        (b.state.subs c) is d ne) ∙ others-none w c _ (ap (wait_script w.who c) so.is) d ne))

-- ---- the world

module _ {cfg : Config} {table : NamespaceTable} {b : Code} {hubs : Hubs} {peers : List ℕ → Option Peer} {m : World}
    (t : AreTied cfg table b hubs peers m) where
  -- a session that waits for something is open
  pub open-there : (x : List ℕ) (s : SessionAddress) → addresses_of peers x ≡ Some s → (c : List ℕ)
      → is_unfinished (sub_in (session_at hubs s) c) ≡ true → is_open (session_at hubs s) ≡ true
  open-there x s sat c waits =
      let address = address_shows t.nodes x s sat in
      open_at m.broker.lists (session_at hubs s) (m.links x).session address.says
      ∙ by_value (m.links x).session.closed refl
    where
      by_value : (shut : Bool) → (m.links x).session.closed ≡ shut → not shut ≡ true
      by_value false e = refl
      by_value true e =
          let address = address_shows t.nodes x s sat in
          absurd (off-waits ((m.links x).session.subs c) (address.shut e c)
          (sym (waits_at m.broker.lists (session_at hubs s) (m.links x).session address.says c) ∙ waits))
        where
          off-waits : {B : Type 0} (u : Subscription B) → is_off u ≡ true → is_unfinished u ≡ true → ⊥
          off-waits Off h i = absurd (cc (i))
          off-waits (Asked id since k) h i = absurd (cc (h))
          off-waits (Ready id was r k) h i = absurd (cc (h))
          off-waits (On p behind_at) h i = absurd (cc (h))

  -- the session of one client alone changes
  pub session-changes : {peers' : List ℕ → Option Peer} {x : List ℕ} {p : Peer} (f : Session)
      → PeerMoves x p (record p { session = f }) peers peers' → AreTied cfg table b hubs peers' m
  session-changes {peers'} {x} {p} f pv = record {
    namespaces = t.namespaces;
    broker = t.broker;
    nodes = subst (λ (ss : List ℕ → Option SessionAddress). ShowsNodes cfg hubs ss m) (λ i y. sym (addresses y) i)
        t.nodes;
    clients = λ y. subst (λ (o : Option Peer). ShowsClient o (m.links y)) (sym (pv.now y)) (by_name y);
  }
    where
      addresses : (y : List ℕ) → addresses_of peers' y ≡ addresses_of peers y
      addresses y = addresses-with peers peers' x (record p { session = f }) pv.now y
          ∙ same-addresses peers x p.address (address_here peers x p pv.was) y

      by_name : (y : List ℕ) → ShowsClient (with peers x (Some (record p { session = f })) y) (m.links y)
      by_name y = elim (text_tells y x) [
        | inl is ↦
            subst (λ (z : List ℕ). ShowsClient (with peers x (Some (record p { session = f })) z) (m.links z))
            (sym is.1)
            (subst (λ (o : Option Peer). ShowsClient o (m.links x))
            (sym (with-same peers x (Some (record p { session = f }))))
            (let was : ShowsPeer p (m.links x) = client_here t x p
            pv.was in record { client = was.client; connected = was.connected; own = was.own }))
        | inr ne ↦ subst (λ (o : Option Peer). ShowsClient o (m.links y))
            (sym (with-other peers x (Some (record p { session = f })) y ne.1)) (t.clients y)
      ]

-- a subscription's stream is read
pub read-done : {cfg : Config} {table : NamespaceTable} {b : Code} {hubs hubs' : Hubs}
    {peers peers' : List ℕ → Option Peer} {m : World}
    (t : AreTied cfg table b hubs peers m) (are : AreServed cfg.namespaces hubs peers) (x c : List ℕ)
    (s : SessionAddress) {h g : Node} {p : Peer} (f : Session) (a : Answer) (new : Code) {more : Bool}
    (u : Moves s.node h g hubs hubs') (pv : PeerMoves x p (record p { session = f }) peers peers')
    (sits : p.address ≡ Some s)
    → asked_of (sub_at h s.session c) ≡ Some a → can_open c m.broker ≡ true → Steps s.session p.session f b new h g more
    → AreFresh m.broker
    → Stays → Missing → ((lists : Lists) → CallsAreAlike lists) → ((lists : Lists) → MovesAreAlike lists)
    → AreTied cfg table new hubs' peers' (happens cfg m (said.Read x c)) × AreServed cfg.namespaces hubs' peers'
read-done {cfg} {table} {b} {hubs} {hubs'} {peers} {peers'} {m} t are x c s {h} {g} {p} f a new u pv sits asked can st
    fresh stays missing calls moved-alike =
    let so = asked-so a (sub_at h s.session c) asked in
    let sat : addresses_of peers x ≡ Some s = address_here peers x p pv.was ∙ sits in
    let here : session_at hubs s ≡ attached_at h s.session = session_at-was s u in
    let waits : is_unfinished (sub_in (attached_at h s.session) c) ≡ true = ap is_unfinished so.is in
    let up : is_open (attached_at h s.session) ≡ true =
    ap is_open (sym here) ∙ open-there t x s sat c
    (ap (λ (o : Option Attached). is_unfinished (sub_in o c)) here ∙ waits) in
    let v : IsServed cfg.namespaces (attached_at h s.session) p.session =
    subst (λ (o : Option Attached). IsServedAt cfg.namespaces o p.session) here (are x p s pv.was sits) up in
    let after : Script = Served (Some v.who) in
    let next : progress_of p.session ≡ Todo (Ask (Read c a.since) (after_read so.id c after)) =
    v.waits c _ (ap (wait_script v.who c) so.is) in
    let called = step-calls s.session st (Read c a.since) (after_read so.id c after) next in
    let kept : (tables_of f).namespaces ≡ cfg.namespaces =
    ap (λ (z : Tables). z.namespaces) st.stays.tables ∙ v.tables in
    by_found called.carries.found (shown_answer called.answer) so.id
    (called.carries.reads cfg.namespaces m.broker fresh
    (read-set-up t x c s sat (Some a) (asks-it asked u.was) a.since refl) t.broker) called.carries.taken v kept
    called.goes
  where
    same-node : {y z : Node} → Some y ≡ Some z → y ≡ z
    same-node e = cc

    asks-it : asked_of (sub_at h s.session c) ≡ Some a → hubs s.node ≡ Some h → (z : Node) → hubs s.node ≡ Some z
        → Some a ≡ asked_of (sub_at z s.session c)
    asks-it q was z is = sym q ∙ ap (λ (y : Node). asked_of (sub_at y s.session c)) (same-node (sym was ∙ is))

    by_found : (found : Option Recovery) (d : call.Answer) (id : ℕ) → Reads cfg.namespaces m.broker c a.since new found
        → TakesRead s.session c found d h g → (v : IsServed cfg.namespaces (attached_at h s.session) p.session)
        → (tables_of f).namespaces ≡ cfg.namespaces → progress_of f ≡ Todo (after_read id c (Served (Some v.who)) d)
        → AreTied cfg table new hubs' peers' (happens cfg m (said.Read x c)) × AreServed cfg.namespaces hubs' peers'
    by_found (Some r) d id finds taken v kept goes =
        let sat : addresses_of peers x ≡ Some s = address_here peers x p pv.was ∙ sits in
        let tied = read-goes t x c s sat (Some a) (asks-it asked u.was) a.since refl stays missing calls moved-alike new
        r finds hubs' (moved u (WasRead s.session c r) taken.1) in
        let ready : progress_of f ≡ Todo (Ask (Finish c) (after_finish (Served (Some v.who)))) =
        goes ∙ ap (λ (z : call.Answer). Todo (after_read id c (Served (Some v.who)) z)) taken.0 in (
          session-changes tied f pv,
          served-one are t.nodes.apart x s u taken.1.does.others pv sits sits
              (λ opened. read-served cfg.namespaces s.session c r h g p.session f v a asked taken.1 kept ready),
        )
    by_found None d id finds taken v kept goes = absurd (cc (finds.none, can))

-- ---- a finish

says-waits : (w : Wording Held Item) (ns : List Item) (s : SessionState Held Item) → KeepsWaits s (says w ns s)
says-waits w [] s = waits-same s
says-waits w (n ∷ ns) s =
    waits-more s (push w n s) (says w ns (push w n s)) (push-waits w n s) (says-waits w ns (push w n s))

finished-none : (who : Who) (c : List ℕ) (w : Wording Held Item) (r : Reading) (b : Held)
    → wait_script who c (finished w r b) ≡ None
finished-none who c w r b = by_value (w.falls_short r b)
  where
    by_value : (v : Bool) → wait_script {B = Held} who c
        (if v then Off else On (record { epoch = r.epoch; offset = r.top + w.reach r b }) None) ≡ None
    by_value true = refl
    by_value false = refl

-- a subscription that was read waits no more once it is finished, and the others stay, unless the session is closed
finish-waits : (who : Who) (hit : Bool) (c : List ℕ) (a b : SessionState Held Item) (u : Subscription Held)
    → is_ready u ≡ true → FinishesAt hit c u a b → b.closed ≡ false
    → (wait_script who c (b.subs c) ≡ None) × ((d : List ℕ) → d ≢ c
    → wait_script who d (b.subs d) ≡ wait_script who d (a.subs d))
finish-waits who hit c a b Off h f up = absurd (cc (h))
finish-waits who hit c a b (Asked id since k) h f up = absurd (cc (h))
finish-waits who hit c a b (On p behind_at) h f up = absurd (cc (h))
finish-waits who hit c a b (Ready id was r k) h f up = by_said f.said
  where
    by_said : SaysAll hit (releasing f.run) (finish_notes (releasing f.run) c id was r k)
        (put_sub c (finished (releasing f.run) r k) a) b
        → (wait_script who c (b.subs c) ≡ None) × ((d : List ℕ) → d ≢ c
        → wait_script who d (b.subs d) ≡ wait_script who d (a.subs d))
    by_said (inl e) =
        let w : Wording Held Item = releasing f.run in
        let kept = subst (KeepsWaits (put_sub c (finished w r k) a)) (sym e)
        (says-waits w (finish_notes w c id was r k) (put_sub c (finished w r k) a)) up in (
          kept.same who c ∙ ap (wait_script who c) (with-same a.subs c (finished w r k)) ∙ finished-none who c w r k,
          (λ d ne. kept.same who d ∙ ap (wait_script who d) (with-other a.subs c (finished w r k) d ne)),
        )
    by_said (inr e) = absurd (cc (ap (λ (z : SessionState Held Item). z.closed) e.1.closed, up))

ready-script : (who : Who) (c : List ℕ) (u : Subscription Held) → is_ready u ≡ true
    → wait_script who c u ≡ Some (Ask (Finish c) (after_finish (Served (Some who))))
ready-script who c Off h = absurd (cc (h))
ready-script who c (Asked id since b) h = absurd (cc (h))
ready-script who c (Ready id was r b) h = refl
ready-script who c (On p behind_at) h = absurd (cc (h))

finish-served : (t : NamespaceTable) (k : ℕ) (c : List ℕ) (h g : Node) (s f : Session)
    (v : IsServed t (attached_at h k) s) → is_ready (sub_at h k c) ≡ true → Finished k c h g
    → (tables_of f).namespaces ≡ t → Rests v.who f
    → IsServedAt t (attached_at g k) f
finish-served t k c h g s f v ready fin tables rest =
    by_state (attached_at h k) v rest ready (attached_at g k) fin.does.here
  where
    by_state : (o : Option Attached) (w : IsServed t o s) → Rests w.who f → is_ready (sub_in o c) ≡ true
        → (p : Option Attached)
        → Both (InState (FinishesAt fin.does.hit c (sub_in o c))) o p → IsServedAt t p f
    by_state None w rests is p met up = absurd (cc (is))
    by_state (Some a) w rests is None met up = absurd met
    by_state (Some a) w rests is (Some b) met up =
        let kept = finish-waits w.who fin.does.hit c a.state b.state (a.state.subs c) is met.0
        (open-is b.state.closed up) in
        record {
          tables = tables;
          who = w.who;
          named = named-by a b met.1 ∙ w.named;
          rests = λ quiet. rests;
          waits = λ d x e. absurd (elim (text_tells d c) [
            | inl same ↦ cc (subst (λ (z : List ℕ). wait_script w.who z (b.state.subs z) ≡ Some x) same.1 e, kept.0)
            | inr ne ↦ cc (
              e,
              kept.1 d ne.1 ∙ others-none w c (Ask (Finish c) (after_finish (Served (Some w.who))))
                  (ready-script w.who c (a.state.subs c) is) d ne.1,
            )
          ]);
        }

-- a subscription is finished
pub finish-done : {cfg : Config} {table : NamespaceTable} {b : Code} {hubs hubs' : Hubs}
    {peers peers' : List ℕ → Option Peer} {m : World}
    (t : AreTied cfg table b hubs peers m) (are : AreServed cfg.namespaces hubs peers) (x c : List ℕ)
    (s : SessionAddress) {h g : Node} {p : Peer} (mid f : Session) (between new : Code) (j : Node)
    {more again : Bool}
    (u : Moves s.node h g hubs hubs') (pv : PeerMoves x p (record p { session = f }) peers peers')
    (sits : p.address ≡ Some s)
    → is_ready (sub_at h s.session c) ≡ true → Steps s.session p.session mid b between h j more
    → Steps s.session mid f between new j g again
    → ((lists : Lists) → CallsAreAlike lists)
    → AreTied cfg table new hubs' peers' (happens cfg m (said.Finish x c)) × AreServed cfg.namespaces hubs' peers'
finish-done {cfg} {table} {b} {hubs} {hubs'} {peers} {peers'} {m} t are x c s {h} {g} {p} mid f between new j u pv sits
    ready first second calls =
    let sat : addresses_of peers x ≡ Some s = address_here peers x p pv.was ∙ sits in
    let here : session_at hubs s ≡ attached_at h s.session = session_at-was s u in
    let waits : is_unfinished (sub_in (attached_at h s.session) c) ≡ true = ready-waits (sub_at h s.session c) ready in
    let up : is_open (attached_at h s.session) ≡ true =
    ap is_open (sym here) ∙ open-there t x s sat c
    (ap (λ (o : Option Attached). is_unfinished (sub_in o c)) here ∙ waits) in
    let v : IsServed cfg.namespaces (attached_at h s.session) p.session =
    subst (λ (o : Option Attached). IsServedAt cfg.namespaces o p.session) here (are x p s pv.was sits) up in
    let next : progress_of p.session ≡ Todo (Ask (Finish c) (after_finish (Served (Some v.who)))) =
    v.waits c _ (ready-script v.who c (sub_at h s.session c) ready) in
    let called = step-calls s.session first (Finish c) (after_finish (Served (Some v.who))) next in
    let still = step-served s.session second (Some v.who) called.goes in
    let fin : Finished s.session c h g =
    subst (λ (z : Node). Finished s.session c h z) (sym still.hub) called.carries.2 in
    let kept : (tables_of f).namespaces ≡ cfg.namespaces =
    ap (λ (z : Tables). z.namespaces) (second.stays.tables ∙ first.stays.tables) ∙ v.tables in
    let tied : AreTied cfg table b hubs' peers (happens cfg m (said.Finish x c)) =
    finish-goes t (calls m.broker.lists) x c s sat hubs' (moved u (Finished s.session c) fin) in (
      session-changes (subst (λ (z : Code). AreTied cfg table z hubs' peers (happens cfg m (said.Finish x c)))
          (sym (still.same ∙ called.carries.1)) tied) f pv,
      served-one are t.nodes.apart x s u fin.does.others pv sits sits
          (finish-served cfg.namespaces s.session c h g p.session f v ready fin kept
          (record { idle = still.idle; served = still.goes })),
    )
  where
    ready-waits : (w : Subscription Held) → is_ready w ≡ true → is_unfinished w ≡ true
    ready-waits Off k = absurd (cc (k))
    ready-waits (Asked id since l) k = refl
    ready-waits (Ready id was r l) k = refl
    ready-waits (On q behind_at) k = absurd (cc (k))

-- a subscription that wasn't read isn't finished
pub unread-rests : {cfg : Config} {table : NamespaceTable} {b : Code} {hubs : Hubs} {peers : List ℕ → Option Peer}
    {m : World}
    (t : AreTied cfg table b hubs peers m) (x c : List ℕ) (s : SessionAddress) {h g : Node} → Moves s.node h g hubs hubs
    → addresses_of peers x ≡ Some s → is_ready (sub_at h s.session c) ≡ false
    → AreTied cfg table b hubs peers (happens cfg m (said.Finish x c))
unread-rests {m = m} t x c s u sat no' =
    let address = address_shows t.nodes x s sat in
    rests t (said.Finish x c) (sym (ready_at m.broker.lists _ (m.links x).session address.says c)
    ∙ ap (λ (o : Option Attached). is_ready (sub_in o c)) (session_at-was s u) ∙ no')
