-- What the contract of a call of a hub says of all its sessions is what sections make of all connections at its node.
use Rattle.std.proofs.Common.{◌≡◌, ◌≢◌, ◌⊎◌, inl, inr, ◌<◌, ◌≤◌, ℕ, zero, suc, ◌==◌, Bool, true, false, if◌then◌else◌}
use Rattle.std.proofs.Common.{Option, Some, None, List, [], ◌∷◌, ◌++◌, refl, sym, ap, ◌∙◌, subst, arith}
use Rattle.std.specs.List.{AllByRecursion}
use Rattle.std.proofs.lemmas.Bool.Decides.{nat_tests}
use Rattle.cf_protocol.specs.Note.{Lists, PingDue}
use Rattle.cf_protocol.specs.Note as note
use Rattle.cf_protocol.specs.Outgoing.{Ping}
use Rattle.cf_protocol.specs.Position.{Position}
use Rattle.cf_queue.specs.OutQueue.{Text, Close}
use Rattle.cf_hub.specs.AlikeMoves.{Texts}
use Rattle.cf_hub.specs.Hub.{Brings, Delivers as HubDelivers, Node, Pings as HubPings, Ticks, attached_at, is_in}
use Rattle.cf_hub.specs.InNotes.{SaysNote}
use Rattle.cf_hub.specs.Session.{Attached, is_ping_due, is_unanswered}
use Rattle.cf_model.specs.Sessions.{closes, closes_now, comes, no_memory, no_pong, push}
use Rattle.cf_model.specs.Sessions.{spoken}
use Rattle.cf_hub.specs.WantOfMemory.{Both, ClosesWith, OrCloses}
use Rattle.cf_hub.specs.Wordings.{at_offset, ping_text, plain}
use Rattle.cf_machine.specs.PublicationList.{Place}
use Rattle.cf_machine.specs.Session.{Session, Words}
use Rattle.cf_machine.proofs.Names.{by_test}
use Rattle.cf_shard.specs.Delivery.{Carried}
use Rattle.cf_running.specs.Server as server
use Rattle.cf_running.specs.Server.{Closes, Connection, Delivers, Pings, Section, Server, Site, server_after, at_number}
use Rattle.cf_running.specs.Server.{at_session, comes_by, lists_of, ran, words_of}
use Rattle.cf_running.proofs.Beside.{at-other, at-same, number_tells}
use Rattle.cf_hub_moves.specs.HubAsides.{MovesAmong}
use Rattle.cf_running_ties.specs.Links.{IsFirst, place}
use Rattle.cf_running_ties.proofs.Growing.{all-append}
use Rattle.cf_running_ties.specs.Nodes.{ClosesAnd, ClosesAndPings, ConnectedBy, IsClose, IsCloseOrPing, IsHubOf, Says}

-- ---- what is done at one connection besides

data Act : Type 0 where
  ToClose : (code : ℕ) → Act
  ToPing : Act

abbrev section_of : ℕ → Act → Section
section_of k (ToClose code) = Closes k code
section_of k ToPing = Pings k

abbrev sections_at : Option ℕ → List Act → List Section
sections_at None acts = []
sections_at (Some k) [] = []
sections_at (Some k) (a ∷ acts) = section_of k a ∷ sections_at (Some k) acts

module _ (w : Words) where
  abbrev act : Act → Session → Session
  act (ToClose code) b = closes_now (note.Close code) b
  act ToPing b = push w PingDue b

  abbrev acted : List Act → Connection → Connection
  acted [] x = x
  acted (a ∷ acts) x = acted acts (at_session (act a) x)

  abbrev acted_session : List Act → Session → Session
  acted_session [] b = b
  acted_session (a ∷ acts) b = acted_session acts (act a b)

  abbrev changed : Option ℕ → List Act → (ℕ → Connection) → ℕ → Connection
  changed None acts f = f
  changed (Some k) [] f = f
  changed (Some k) (a ∷ acts) f = changed (Some k) acts (at_number f k (at_session (act a) (f k)))

  acted-place : (acts : List Act) (x : Connection) → ((acted acts x).node ≡ x.node)
      × ((acted acts x).attached ≡ x.attached)
  acted-place [] x = (refl, refl)
  acted-place (a ∷ acts) x =
      let h = acted-place acts (at_session (act a) x) in
      let k = by_test (λ (y : Connection). (y.node ≡ x.node) × (y.attached ≡ x.attached)) x.attached
      (record x { session = act a x.session }) x (λ i. (refl, refl)) (λ i. (refl, refl)) in
      (h.0 ∙ k.0, h.1 ∙ k.1)

  acted-is : (acts : List Act) (x : Connection) → x.attached ≡ true
      → (acted acts x).session ≡ acted_session acts x.session
  acted-is [] x h = refl
  acted-is (a ∷ acts) x h =
      let e : at_session (act a) x ≡ record x { session = act a x.session } =
      ap (λ (b : Bool). if b then record x { session = act a x.session } else x) h in
      ap (λ (y : Connection). (acted acts y).session) e ∙ acted-is acts (record x { session = act a x.session }) h

  some_is : (j k : ℕ) → ◌≡◌ {A = Option ℕ} (Some j) (Some k) → j ≡ k
  some_is j k e = cc

  changed-far : (acts : List Act) (k : ℕ) (f : ℕ → Connection) (j : ℕ) → j ≢ k → changed (Some k) acts f j ≡ f j
  changed-far [] k f j h = refl
  changed-far (a ∷ acts) k f j h =
      changed-far acts k (at_number f k (at_session (act a) (f k))) j h ∙ at-other f k (at_session (act a) (f k)) j h

  changed-here : (acts : List Act) (k : ℕ) (f : ℕ → Connection) → changed (Some k) acts f k ≡ acted acts (f k)
  changed-here [] k f = refl
  changed-here (a ∷ acts) k f =
      changed-here acts k (at_number f k (at_session (act a) (f k)))
      ∙ ap (acted acts) (at-same f k (at_session (act a) (f k)))

  changed-other : (o : Option ℕ) (acts : List Act) (f : ℕ → Connection) (k : ℕ) → (o ≡ Some k → ⊥)
      → changed o acts f k ≡ f k
  changed-other None acts f k h = refl
  changed-other (Some i) acts f k h = changed-far acts i f k (λ e. h (ap Some (sym e)))

  changed-same : (o : Option ℕ) (acts : List Act) (f : ℕ → Connection) (k : ℕ) → o ≡ Some k
      → changed o acts f k ≡ acted acts (f k)
  changed-same None acts f k h = absurd (cc)
  changed-same (Some i) acts f k h =
      subst (λ j. changed (Some i) acts f j ≡ acted acts (f j)) (some_is i k h) (changed-here acts i f)

  -- where each connection is stays
  changed-place : (o : Option ℕ) (acts : List Act) (f : ℕ → Connection) (k : ℕ)
      → ((changed o acts f k).node ≡ (f k).node) × ((changed o acts f k).attached ≡ (f k).attached)
  changed-place None acts f k = (refl, refl)
  changed-place (Some i) acts f k = elim (number_tells k i) [
    | inl e ↦
        let same : changed (Some i) acts f k ≡ acted acts (f k) = changed-same (Some i) acts f k (ap Some (sym e.1)) in
        let at = acted-place acts (f k) in
        (ap (λ (x : Connection). x.node) same ∙ at.0, ap (λ (x : Connection). x.attached) same ∙ at.1)
    | inr e ↦
        let same : changed (Some i) acts f k ≡ f k = changed-far acts i f k e.1 in
        (ap (λ (x : Connection). x.node) same, ap (λ (x : Connection). x.attached) same)
  ]

-- ---- the same for each session of a hub

module _ (site : Site) (s : Server) (numbers : ℕ → Option ℕ) (plan : ℕ → List Act) where
  abbrev w : Words
  w = words_of site s

  -- for the sessions below a number
  sections : ℕ → List Section
  sections zero = []
  sections (suc m) = sections m ++ sections_at (numbers m) (plan m)

  left : ℕ → ℕ → Connection
  left zero = s.connections
  left (suc m) = changed w (numbers m) (plan m) (left m)

  all-sections : (P : Section → Type 0) → ((j : ℕ) → AllByRecursion P (sections_at (numbers j) (plan j))) → (m : ℕ)
      → AllByRecursion P (sections m)
  unfolding sections
  all-sections P h zero = tt
  all-sections P h (suc m) = all-append P (sections m) (sections_at (numbers m) (plan m)) (all-sections P h m) (h m)

  ran-append : (t : Server) (xs ys : List Section) → ran site t (xs ++ ys) ≡ ran site (ran site t xs) ys
  ran-append t [] ys = refl
  ran-append t (x ∷ xs) ys = ran-append (server_after site x t) xs ys

  after-act : (f : ℕ → Connection) (k : ℕ) (a : Act)
      → server_after site (section_of k a) (record s { connections = f })
      ≡ record s { connections = at_number f k (at_session (act w a) (f k)) }
  after-act f k (ToClose code) = refl
  after-act f k ToPing = refl

  ran-acts : (o : Option ℕ) (acts : List Act) (f : ℕ → Connection)
      → ran site (record s { connections = f }) (sections_at o acts) ≡ record s { connections = changed w o acts f }
  ran-acts None acts f = refl
  ran-acts (Some k) [] f = refl
  ran-acts (Some k) (a ∷ acts) f =
      ap (λ t. ran site t (sections_at (Some k) acts)) (after-act f k a)
      ∙ ran-acts (Some k) acts (at_number f k (at_session (act w a) (f k)))

  ran-sections : (m : ℕ) → ran site s (sections m) ≡ record s { connections = left m }
  unfolding sections left
  ran-sections zero = refl
  ran-sections (suc m) =
      ran-append s (sections m) (sections_at (numbers m) (plan m))
      ∙ ap (λ t. ran site t (sections_at (numbers m) (plan m))) (ran-sections m)
      ∙ ran-acts (numbers m) (plan m) (left m)

  left-place : (m k : ℕ) → ((left m k).node ≡ (s.connections k).node)
      × ((left m k).attached ≡ (s.connections k).attached)
  unfolding left
  left-place zero k = (refl, refl)
  left-place (suc m) k =
      let a = changed-place w (numbers m) (plan m) (left m) k in
      let b = left-place m k in
      (a.0 ∙ b.0, a.1 ∙ b.1)

  -- none of the first numbers is this connection's
  left-other : (m k : ℕ) → ((j : ℕ) → j < m → numbers j ≡ Some k → ⊥) → left m k ≡ s.connections k
  unfolding left
  left-other zero k h = refl
  left-other (suc m) k h =
      changed-other w (numbers m) (plan m) (left m) k (h m (omega arith)) ∙ left-other m k (λ j l. h j (omega arith))

  left-same : ((i j k : ℕ) → numbers i ≡ Some k → numbers j ≡ Some k → i ≡ j) → (m j k : ℕ) → j < m → numbers j ≡ Some k
      → left m k ≡ acted w (plan j) (s.connections k)
  unfolding left
  left-same apart zero j k l e = absurd (omega arith)
  left-same apart (suc m) j k l e = elim (number_tells j m) [
    | inl i ↦
        let here : numbers m ≡ Some k = ap numbers (sym i.1) ∙ e in
        changed-same w (numbers m) (plan m) (left m) k here
        ∙ ap (acted w (plan m)) (left-other m k (λ x below f. let same : x
        ≡ m = apart x m k f here in absurd (omega arith)))
        ∙ ap (λ x. acted w (plan x) (s.connections k)) (sym i.1)
    | inr i ↦
        let ne : j ≢ m = i.1 in
        changed-other w (numbers m) (plan m) (left m) k (λ f. ne (apart j m k e f))
        ∙ left-same apart m j k (omega arith) e
  ]

-- ---- a call that serves each session

module _ (is_aside : List ℕ → Bool) (site : Site) (s : Server) (n : ℕ) (numbers : ℕ → Option ℕ) (old new : Node)
    (h : IsHubOf is_aside site s n numbers old) where
  abbrev lists : Lists
  lists = lists_of site s

  abbrev words : Words
  words = words_of site s

  -- a session's new state is what this makes of its connection's session, behind some acts
  abbrev GoesTo : (Session → Session) → Option Attached → Option ℕ → List Act → Type 0
  GoesTo g None None acts = Unit {0}
  GoesTo g None (Some k) acts = ⊥
  GoesTo g (Some b) None acts = ⊥
  GoesTo g (Some b) (Some k) acts = Says is_aside lists b.state (g (acted_session words acts (s.connections k).session))

  module _ (g : Session → Session) (plan : ℕ → List Act)
      (goes : (j : ℕ) → GoesTo g (attached_at new j) (numbers j) (plan j))
      (m : ℕ) (bounded : (k : ℕ) → m ≤ k → attached_at old k ≡ None) where
    abbrev xs : ℕ → Connection
    xs = left site s numbers plan m

    below : (j : ℕ) (a : Option Attached) (o : Option ℕ) → ConnectedBy is_aside site s n a o → attached_at old j ≡ a
        → (k : ℕ) → o ≡ Some k → j < m
    below j None None c e k f = absurd (cc)
    below j None (Some i) c e k f = absurd c
    below j (Some a) o c e k f = by_order (cases j)
      where
        cases : (i : ℕ) → (i < m) ⊎ (m ≤ i)
        cases i = grind arith

        by_order : (j < m) ⊎ (m ≤ j) → j < m
        by_order (inl l) = l
        by_order (inr l) =
            absurd (let none : attached_at old j ≡ None = bounded j l in let no : None ≡ Some a = sym none ∙ e in cc)

    -- the server then has these connections, of which those at the node have gone on so
    module _ (t : Server) (logs : t.logs ≡ s.logs) (count : t.count ≡ s.count)
        (stay : (k : ℕ) → ((t.connections k).node ≡ (xs k).node) × ((t.connections k).attached ≡ (xs k).attached))
        (go : (k : ℕ) → (xs k).node ≡ n → (t.connections k).session ≡ g (xs k).session) where
      same_lists : lists_of site t ≡ lists
      same_lists i c e = (server.gathered_in (logs i (site.shard_of c)) c e).1

      each : (j : ℕ) (a b : Option Attached) (o : Option ℕ) → attached_at old j ≡ a → numbers j ≡ o
          → ConnectedBy is_aside site s n a o → GoesTo g b o (plan j) → ConnectedBy is_aside site t n b o
      each j a None None e f k says = tt
      each j a None (Some i) e f k says = absurd says
      each j a (Some b) None e f k says = absurd says
      each j None (Some b) (Some i) e f k says = absurd k
      each j (Some a) (Some b) (Some i) e f k says =
          let there : xs i ≡ acted words (plan j) (s.connections i) =
          left-same site s numbers plan h.apart m j i (below j (Some a) (Some i) k e i refl) f in
          let at = left-place site s numbers plan m i in
          let on = stay i in
          record {
            known = subst (λ (c : ℕ). i < c) (sym count) k.known;
            here = on.0 ∙ at.0 ∙ k.here;
            attached = on.1 ∙ at.1 ∙ k.attached;
            says = subst (λ (l : Lists). Says is_aside l b.state (t.connections i).session) (sym same_lists)
                (subst (λ (z : Session). Says is_aside lists b.state z)
                (sym (go i (at.0 ∙ k.here) ∙ ap g (ap (λ (z : Connection). z.session) there
                ∙ acted-is words (plan j) (s.connections i) k.attached))) says);
          }

      all_go : IsHubOf is_aside site t n numbers new
      all_go = record {
        each = λ j. each j (attached_at old j) (attached_at new j) (numbers j) refl refl (h.each j) (goes j);
        apart = h.apart;
        all = λ k e f. let on = stay k in let at = left-place site s numbers plan m k in
            h.all k (sym at.0 ∙ sym on.0 ∙ e) (sym at.1 ∙ sym on.1 ∙ f);
      }

  -- ---- A DELIVERY TO A WHOLE NODE

  module _ (x : Carried) (all : MovesAmong (λ t. is_aside t ≡ true) lists)
      (d : HubDelivers x.channel x.epoch x.publication old new) (first : IsFirst site s n x) where
    abbrev q : Position
    q = at_offset x.epoch x.publication

    abbrev come : Session → Session
    come b = comes (spoken lists) x.channel q b

    abbrev closing : Option ℕ → List Act
    closing None = []
    closing (Some code) = ToClose code ∷ []

    met_by : (hit : Bool) (a b : Option Attached) (o : Option ℕ) → Both (Brings hit x.channel x.epoch x.publication) a b
        → ConnectedBy is_aside site s n a o → (c : Option ℕ) × GoesTo come b o (closing c)
    met_by hit None None None e k = (None, tt)
    met_by hit None None (Some i) e k = absurd k
    met_by hit None (Some b) o e k = absurd e
    met_by hit (Some a) None o e k = absurd e
    met_by hit (Some a) (Some b) None e k = absurd k
    met_by hit (Some a) (Some b) (Some i) e k =
        elim (all.delivers hit x.channel x.epoch x.publication a.state b.state (s.connections i).session first.is.listed
        k.says e.0) [
          | inl says ↦ (None, says)
          | inr says ↦ (Some says.0, says.1)
        ]

    met : (j : ℕ) → (c : Option ℕ) × GoesTo come (attached_at new j) (numbers j) (closing c)
    met j = met_by (is_in j d.hit) (attached_at old j) (attached_at new j) (numbers j) (d.each j) (h.each j)

    abbrev plan_of : ℕ → List Act
    plan_of j = closing (met j).0

    are-closes : (o c : Option ℕ) → AllByRecursion IsClose (sections_at o (closing c))
    are-closes None c = tt
    are-closes (Some k) None = tt
    are-closes (Some k) (Some code) = (tt, tt)

    pub delivers : (m : ℕ) → ((k : ℕ) → m ≤ k → attached_at old k ≡ None)
        → ClosesAnd is_aside site s n numbers (Delivers n) new
    delivers m bounded = record {
      closes = sections site s numbers plan_of m;
      are = all-sections site s numbers plan_of IsClose (λ j. are-closes (numbers j) (met j).0) m;
      is = subst (λ (v : Server). IsHubOf is_aside site v n numbers new) (sym run-is)
          (all_go come plan_of (λ j. (met j).1) m bounded t refl refl stay go);
    }
      where
        from : ℕ → Connection
        from = left site s numbers plan_of m

        t : Server
        t = record s { links = at_number s.links n first.rest; connections = comes_by words n (Some (place x)) from }

        run-is : ran site s (sections site s numbers plan_of m ++ Delivers n ∷ []) ≡ t
        run-is =
            ran-append site s numbers plan_of s (sections site s numbers plan_of m) (Delivers n ∷ [])
            ∙ ap (λ (v : Server). server_after site (Delivers n) v) (ran-sections site s numbers plan_of m)
            ∙ ap (λ is. server.delivers_first site n is (record s { connections = from })) first.waits
            ∙ ap (λ (o : Option Place). record s {
              links = at_number s.links n first.rest;
              connections = comes_by words n o from;
            }) first.is.accepted

        stay : (k : ℕ) → ((comes_by words n (Some (place x)) from k).node ≡ (from k).node)
            × ((comes_by words n (Some (place x)) from k).attached ≡ (from k).attached)
        stay k =
            by_test (λ (y : Connection). (y.node ≡ (from k).node) × (y.attached ≡ (from k).attached))
            ((from k).node == n)
            (record (from k) { session = come (from k).session }) (from k) (λ i. (refl, refl)) (λ i. (refl, refl))

        go : (k : ℕ) → (from k).node ≡ n → (comes_by words n (Some (place x)) from k).session ≡ come (from k).session
        go k e = ap (λ (b : Bool). (if b then record (from k) { session = come (from k).session } else from k).session)
            (here (from k).node e)
          where
            here : (i : ℕ) → i ≡ n → (i == n) ≡ true
            here i f = grind (arith, nat_tests)

  -- ---- A TICK OF A WHOLE NODE

  module _ (now : ℕ) (all : MovesAmong (λ t. is_aside t ≡ true) lists) (d : Ticks now old new) where
    abbrev still : Session → Session
    still b = b

    ping_says : SaysNote lists (Text ping_text) PingDue
    ping_says = record { said = Ping; stays = λ later g. refl; regular = tt; text = refl }

    -- closed for want of memory
    wants : (a : Texts) (b : Session) (new : Texts) → Says is_aside lists a b → ClosesWith (Close no_memory) a new
        → Says is_aside lists new (closes_now (note.Close no_memory) b)
    wants a b to says k =
        subst (λ (z : Texts). Says is_aside lists z (closes_now (note.Close no_memory) b))
        (ap (λ (t : Bool). if t then a else closes (Close no_memory) a) k.was_open ∙ sym k.closed)
        (all.closes no_memory a b says)

    by_due : (hit t u : Bool) (a to : Texts) (b : Session) → Says is_aside lists a b
        → OrCloses hit plain (λ z. if t then closes_now (Close no_pong) z else if u then push plain (Text ping_text) z
        else z) a to
        → (acts : List Act) × Says is_aside lists to (acted_session words acts b)
    by_due hit t u a to b says (inr k) = (ToClose no_memory ∷ [], wants a b to says k.1)
    by_due hit true u a to b says (inl e) = (
      ToClose no_pong ∷ [],
      subst (λ (z : Texts). Says is_aside lists z (closes_now (note.Close no_pong) b)) (sym e)
          (all.closes no_pong a b says),
    )
    by_due hit false false a to b says (inl e) = ([], subst (λ (z : Texts). Says is_aside lists z b) (sym e) says)
    by_due hit false true a to b says (inl e) =
        elim (all.says hit (Text ping_text) PingDue a to b ping_says says (inl e)) [
          | inl k ↦ (ToPing ∷ [], k)
          | inr k ↦ (ToClose k.0 ∷ ToPing ∷ [], k.1)
        ]

    ticked_by : (hit : Bool) (a b : Option Attached) (o : Option ℕ) → Both (HubPings hit now) a b
        → ConnectedBy is_aside site s n a o → (acts : List Act) × GoesTo still b o acts
    ticked_by hit None None None e k = ([], tt)
    ticked_by hit None None (Some i) e k = absurd k
    ticked_by hit None (Some b) o e k = absurd e
    ticked_by hit (Some a) None o e k = absurd e
    ticked_by hit (Some a) (Some b) None e k = absurd k
    ticked_by hit (Some a) (Some b) (Some i) e k =
        by_due hit (is_unanswered now a.badge) (is_ping_due now a.badge) a.state b.state (s.connections i).session
        k.says e.0

    ticked : (j : ℕ) → (acts : List Act) × GoesTo still (attached_at new j) (numbers j) acts
    ticked j = ticked_by (is_in j d.hit) (attached_at old j) (attached_at new j) (numbers j) (d.each j) (h.each j)

    abbrev ticks_plan : ℕ → List Act
    ticks_plan j = (ticked j).0

    are-acts : (o : Option ℕ) (acts : List Act) → AllByRecursion IsCloseOrPing (sections_at o acts)
    are-acts None acts = tt
    are-acts (Some k) [] = tt
    are-acts (Some k) (ToClose code ∷ acts) = (tt, are-acts (Some k) acts)
    are-acts (Some k) (ToPing ∷ acts) = (tt, are-acts (Some k) acts)

    pub ticks : (m : ℕ) → ((k : ℕ) → m ≤ k → attached_at old k ≡ None) → ClosesAndPings is_aside site s n numbers new
    ticks m bounded = record {
      sections = sections site s numbers ticks_plan m;
      are = all-sections site s numbers ticks_plan IsCloseOrPing (λ j. are-acts (numbers j) (ticked j).0) m;
      is = subst (λ (v : Server). IsHubOf is_aside site v n numbers new)
          (sym (ran-sections site s numbers ticks_plan m))
          (all_go still ticks_plan (λ j. (ticked j).1) m bounded
          (record s { connections = left site s numbers ticks_plan m }) refl refl (λ k. (refl, refl))
          (λ k e. refl));
    }
