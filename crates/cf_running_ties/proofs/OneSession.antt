-- A hub stays beside its node where one session changes, comes or goes, and where something happens elsewhere.
use Rattle.std.proofs.Common.{◌≡◌, ◌≢◌, inl, inr, ◌<◌, ◌≤◌, ℕ, ◌+◌, nat_lt, Bool, true, false, if◌then◌else◌, Option}
use Rattle.std.proofs.Common.{Some, None, List, [], ◌∷◌, option_map, refl, sym, ap, ◌∙◌, subst, arith}
use Rattle.cf_protocol.specs.Note as note
use Rattle.cf_hub.specs.AlikeMoves.{Notes, Texts}
use Rattle.cf_hub.specs.Hub.{InState, Meets, Node, One, moves as moved_by, Opens, OthersStay, attached_at, client_id}
use Rattle.cf_hub.specs.Hub.{empty, fresh}
use Rattle.cf_hub.specs.Session.{Attached}
use Rattle.cf_model.specs.Sessions.{closes_now, opens}
use Rattle.cf_hub.specs.WantOfMemory.{Both}
use Rattle.cf_running.specs.Server as server
use Rattle.cf_running.specs.Server.{Attaches, Closes, Connection, Detaches, Section, Server, Site, Wanders}
use Rattle.cf_running.specs.Server.{server_after, at_number, at_session, change, lists_of, nowhere, start}
use Rattle.cf_protocol.specs.Names.{with}
use Rattle.cf_running.proofs.Beside.{at-other, at-same, number_tells}
use Rattle.cf_hub_moves.specs.HubAsides.{KeepSaying, MovesAmong, MovesOrCloses}
use Rattle.cf_running_ties.specs.Nodes.{ConnectedBy, IsConnected, IsHubOf, IsUntouched, Moves, MovesBehindClose, Says}
use Rattle.cf_hub_moves.proofs.AmongGrows.{among-grows}
use Rattle.cf_running_ties.proofs.Growing.{Any, Grows, any-section, grown-lists, grows}

some_is : (j k : ℕ) → ◌≡◌ {A = Option ℕ} (Some j) (Some k) → j ≡ k
some_is j k e = cc

pub starts : (is_aside : List ℕ → Bool) (site : Site) (n boot : ℕ)
    → IsHubOf is_aside site start n (λ j. None) (empty n boot)
starts is_aside site n boot = record {
  each = λ j. tt;
  apart = λ i j k e f. absurd (cc);
  all = λ k e f. absurd (let no : false ≡ true = f in cc);
}

module _ (is_aside : List ℕ → Bool) (site : Site) (s : Server) (n : ℕ) (numbers : ℕ → Option ℕ) (old : Node)
    (h : IsHubOf is_aside site s n numbers old) where
  -- a number that has a connection
  its : (a : Option Attached) (o : Option ℕ) → ConnectedBy is_aside site s n a o → (k : ℕ) → o ≡ Some k → (b : Attached)
      × IsConnected is_aside site s n k b
  its None None c k e = absurd (cc)
  its None (Some i) c k e = absurd c
  its (Some a) None c k e = absurd (cc)
  its (Some a) (Some i) c k e = (a, subst (λ z. IsConnected is_aside site s n z a) (some_is i k e) c)

  known : (j k : ℕ) → numbers j ≡ Some k → k < s.count
  known j k e = (its (attached_at old j) (numbers j) (h.each j) k e).1.known

  -- no session, no number
  no_number : (j : ℕ) → attached_at old j ≡ None → numbers j ≡ None
  no_number j e = by_number (numbers j) (subst (λ o. ConnectedBy is_aside site s n o (numbers j)) e (h.each j))
    where
      by_number : (o : Option ℕ) → ConnectedBy is_aside site s n None o → o ≡ None
      by_number None c = refl
      by_number (Some k) c = absurd c

  -- a session whose connection is as it was, in a server with the same logs and no fewer connections
  moved : (t : Server) → lists_of site t ≡ lists_of site s → s.count ≤ t.count → (o : Option Attached) (m : Option ℕ)
      → ((k : ℕ) → m ≡ Some k → t.connections k ≡ s.connections k) → ConnectedBy is_aside site s n o m
      → ConnectedBy is_aside site t n o m
  moved t l more None None e c = tt
  moved t l more None (Some k) e c = absurd c
  moved t l more (Some a) None e c = absurd c
  moved t l more (Some a) (Some k) e c = record {
    known = let below : k < s.count = c.known in omega arith;
    here = ap (λ (x : Connection). x.node) (e k refl) ∙ c.here;
    attached = ap (λ (x : Connection). x.attached) (e k refl) ∙ c.attached;
    says = let same = e k refl in subst (λ lists. Says is_aside lists a.state (t.connections k).session) (sym l)
        (subst (λ (x : Connection). Says is_aside (lists_of site s) a.state x.session) (sym same) c.says);
  }

  -- session j has connection k, which changes
  pub one : (new : Node) (j k : ℕ) (f : Connection → Connection) (a : Attached) → numbers j ≡ Some k
      → OthersStay j old new → attached_at new j ≡ Some a
      → (f (s.connections k)).node ≡ n → (f (s.connections k)).attached ≡ true
      → Says is_aside (lists_of site s) a.state (f (s.connections k)).session
      → IsHubOf is_aside site (change k f s) n numbers new
  one new j k f a at others is node attached says = record {
    each = λ i. elim (number_tells i j) [
      | inl e ↦
          subst (λ z. ConnectedBy is_aside site (change k f s) n (attached_at new z) (numbers z)) (sym e.1)
          (subst (λ o. ConnectedBy is_aside site (change k f s) n o (numbers j)) (sym is)
          (subst (λ o. ConnectedBy is_aside site (change k f s) n (Some a) o) (sym at) (record {
            known = known j k at;
            here = ap (λ (x : Connection). x.node) here ∙ node;
            attached = ap (λ (x : Connection). x.attached) here ∙ attached;
            says = subst (λ (x : Connection). Says is_aside (lists_of site s) a.state x.session) (sym here) says;
          })))
      | inr e ↦
          subst (λ o. ConnectedBy is_aside site (change k f s) n o (numbers i)) (sym (others i e.1))
          (moved (change k f s) refl (omega arith) (attached_at old i) (numbers i)
          (λ m g. at-other s.connections k (f (s.connections k)) m (λ same. e.1 (h.apart i j k (g ∙ ap Some same) at)))
          (h.each i))
    ];
    apart = h.apart;
    all = λ m e g. elim (number_tells m k) [
      | inl same ↦ (j, at ∙ ap Some (sym same.1))
      | inr other ↦
          let there : at_number s.connections k (f (s.connections k)) m ≡ s.connections m =
          at-other s.connections k (f (s.connections k)) m other.1 in
          h.all m (sym (ap (λ (x : Connection). x.node) there) ∙ e)
          (sym (ap (λ (x : Connection). x.attached) there) ∙ g)
    ];
  }
    where
      here : at_number s.connections k (f (s.connections k)) k ≡ f (s.connections k)
      here = at-same s.connections k (f (s.connections k))

  -- the session of a number that has a connection
  its_session : (a : Option Attached) (o : Option ℕ) → ConnectedBy is_aside site s n a o → (k : ℕ) → o ≡ Some k
      → (b : Attached) × (a ≡ Some b) × IsConnected is_aside site s n k b
  its_session None None c k e = absurd (cc)
  its_session None (Some i) c k e = absurd c
  its_session (Some a) None c k e = absurd (cc)
  its_session (Some a) (Some i) c k e = (a, refl, subst (λ z. IsConnected is_aside site s n z a) (some_is i k e) c)

  -- it makes a move
  pub moves : (new : Node) (j k : ℕ) (f : Texts → Texts) (g : Notes → Notes) (t : Connection → Connection)
      → numbers j ≡ Some k → One j f old new
      → KeepSaying (λ text. is_aside text ≡ true) (lists_of site s) f g → Moves g t
      → IsHubOf is_aside site (change k t s) n numbers new
  moves new j k f g t at o keep m =
      let b = its_session (attached_at old j) (numbers j) (h.each j) k at in
      let c = b.2 in
      let x : Connection = s.connections k in
      one new j k t (moved_by f b.0) at o.others (o.here ∙ ap (option_map (moved_by f)) b.1) (m.node x ∙ c.here)
      (m.attached x ∙ c.attached)
      (subst (λ z. Says is_aside (lists_of site s) (f b.0.state) z) (sym (m.session x c.attached))
      (keep b.0.state x.session c.says))

  -- it is closed, and then makes a move
  closed_move : (code : ℕ) (g : Notes → Notes) (t : Connection → Connection) → Moves g t
      → Moves (λ z. g (closes_now (note.Close code) z)) (λ y. t (at_session (closes_now (note.Close code)) y))
  closed_move code g t m = record {
    node = λ y. m.node (close y) ∙ (place y.attached y).0;
    attached = λ y. m.attached (close y) ∙ (place y.attached y).1;
    session = λ y e. m.session (close y) ((place y.attached y).1 ∙ e)
        ∙ ap (λ (b : Bool). g (if b then record y { session = closes_now (note.Close code) y.session } else y).session)
        e;
  }
    where
      close : Connection → Connection
      close y = at_session (closes_now (note.Close code)) y

      place : (b : Bool) (y : Connection) → ((if b then record y { session = closes_now (note.Close code) y.session }
          else y).node ≡ y.node)
          × ((if b then record y { session = closes_now (note.Close code) y.session } else y).attached ≡ y.attached)
      place true y = (refl, refl)
      place false y = (refl, refl)

  -- two changes of one connection are one
  twice : (k : ℕ) (u t : Connection → Connection) → change k t (change k u s) ≡ change k (λ y. t (u y)) s
  twice k u t i = record s { connections = λ m. at m i }
    where
      mid : ℕ → Connection
      mid = at_number s.connections k (u (s.connections k))

      at : (m : ℕ) → at_number mid k (t (mid k)) m ≡ at_number s.connections k (t (u (s.connections k))) m
      at m = elim (number_tells m k) [
        | inl e ↦
            ap (at_number mid k (t (mid k))) e.1 ∙ at-same mid k (t (mid k))
            ∙ ap t (at-same s.connections k (u (s.connections k)))
            ∙ sym (ap (at_number s.connections k (t (u (s.connections k)))) e.1
            ∙ at-same s.connections k (t (u (s.connections k))))
        | inr e ↦ at-other mid k (t (mid k)) m e.1 ∙ at-other s.connections k (u (s.connections k)) m e.1
            ∙ sym (at-other s.connections k (t (u (s.connections k))) m e.1)
      ]

  -- it meets a call that may want memory
  pub meets : (new : Node) (j k : ℕ) (R : Bool → Texts → Texts → Type 0) (g : Notes → Notes)
      (t : Connection → Connection) → numbers j ≡ Some k → Meets j R old new
      → ((hit : Bool) (a to : Texts) (b : Notes) → Says is_aside (lists_of site s) a b → R hit a to
      → MovesOrCloses (λ text. is_aside text ≡ true) (lists_of site s) g to b)
      → Moves g t → MovesBehindClose is_aside site s n k numbers t new
  meets new j k R g t at o r m =
      let b = its_session (attached_at old j) (numbers j) (h.each j) k at in
      by_new (attached_at new j) refl b.0 b.2 (subst (λ z. Both (InState (R o.hit)) z (attached_at new j)) b.1 o.here)
    where
      x : Connection
      x = s.connections k

      by_new : (y : Option Attached) → attached_at new j ≡ y → (a : Attached) → IsConnected is_aside site s n k a
          → Both (InState (R o.hit)) (Some a) y → MovesBehindClose is_aside site s n k numbers t new
      by_new None e a c both = absurd both
      by_new (Some y) e a c both =
          elim (r o.hit a.state y.state x.session c.says both.0) [
            | inl says ↦ record {
              closes = [];
              are = tt;
              is = one new j k t y at o.others e (m.node x ∙ c.here) (m.attached x ∙ c.attached)
                  (subst (λ z. Says is_aside (lists_of site s) y.state z) (sym (m.session x c.attached)) says);
            }
            | inr says ↦
                let u : Connection → Connection = at_session (closes_now (note.Close says.0)) in
                let v = closed_move says.0 g t m in record {
                  closes = Closes k says.0 ∷ [];
                  are = (tt, tt);
                  is = subst (λ (z : Server). IsHubOf is_aside site z n numbers new) (sym (twice k u t))
                      (one new j k (λ z. t (u z)) y at o.others e (v.node x ∙ c.here) (v.attached x ∙ c.attached)
                      (subst (λ z. Says is_aside (lists_of site s) y.state z) (sym (v.session x c.attached)) says.1));
                }
          ]

  -- ---- one comes

  module _ (new : Node) (j now : ℕ) (user : List ℕ) (all : MovesAmong (λ t. is_aside t ≡ true) (lists_of site s))
      (o : Opens j user now old new) (none : attached_at old j ≡ None) where
    came : (x : Connection) (connection_of : List ℕ → Option ℕ) → x.node ≡ n → x.attached ≡ true → x.session ≡ opens
        → IsHubOf is_aside site (record s {
          connections = at_number s.connections s.count x;
          count = s.count + 1;
          connection_of = connection_of;
        }) n (at_number numbers j (Some s.count)) new
    came x connection_of node attached session = record {
      each = λ i. elim (number_tells i j) [
        | inl e ↦
            subst (λ z. ConnectedBy is_aside site t n (attached_at new z) (at_number numbers j (Some s.count) z))
            (sym e.1)
            (subst (λ z. ConnectedBy is_aside site t n z (at_number numbers j (Some s.count) j)) (sym o.here)
            (subst (λ z. ConnectedBy is_aside site t n (Some
            (fresh (client_id old.node old.boot (old.used + 1)) user now)) z)
            (sym (at_same numbers j (Some s.count))) (record {
              known = omega arith;
              here = ap (λ (y : Connection). y.node) here ∙ node;
              attached = ap (λ (y : Connection). y.attached) here ∙ attached;
              says = subst (λ z. Says is_aside (lists_of site s) opens z)
                  (sym (ap (λ (y : Connection). y.session) here ∙ session)) all.opens;
            })))
        | inr e ↦
            subst (λ z. ConnectedBy is_aside site t n z (at_number numbers j (Some s.count) i)) (sym (o.others i e.1))
            (subst (λ z. ConnectedBy is_aside site t n (attached_at old i) z)
            (sym (at_other numbers j (Some s.count) i e.1))
            (moved t refl (omega arith) (attached_at old i) (numbers i)
            (λ m g. at-other s.connections s.count x m (λ same. let below : m
            < s.count = known i m g in absurd (omega arith))) (h.each i)))
      ];
      apart = λ a b k e f. elim (number_tells a j) [
        | inl u ↦ elim (number_tells b j) [
          | inl v ↦ u.1 ∙ sym v.1
          | inr v ↦ absurd (two b k (sym (at_other numbers j (Some s.count) b v.1) ∙ f) (sym (is_count a k u.1 e)))
        ]
        | inr u ↦ elim (number_tells b j) [
          | inl v ↦ absurd (two a k (sym (at_other numbers j (Some s.count) a u.1) ∙ e) (sym (is_count b k v.1 f)))
          | inr v ↦ h.apart a b k (sym (at_other numbers j (Some s.count) a u.1) ∙ e)
              (sym (at_other numbers j (Some s.count) b v.1) ∙ f)
        ]
      ];
      all = λ m e g. elim (number_tells m s.count) [
        | inl same ↦ (j, at_same numbers j (Some s.count) ∙ ap Some (sym same.1))
        | inr other ↦
            let there : at_number s.connections s.count x m ≡ s.connections m =
            at-other s.connections s.count x m other.1 in
            let i = h.all m (sym (ap (λ (y : Connection). y.node) there) ∙ e)
            (sym (ap (λ (y : Connection). y.attached) there) ∙ g) in (
              i.0,
              at_other numbers j (Some s.count) i.0 (λ same. absurd
                  (let no : None ≡ Some m = sym (no_number j none) ∙ ap numbers (sym same) ∙ i.1 in cc)) ∙ i.1,
            )
      ];
    }
      where
        t : Server
        t = record s {
          connections = at_number s.connections s.count x;
          count = s.count + 1;
          connection_of = connection_of;
        }

        here : at_number s.connections s.count x s.count ≡ x
        here = at-same s.connections s.count x

        at_same : (f : ℕ → Option ℕ) (i : ℕ) (v : Option ℕ) → at_number f i v i ≡ v
        at_same f i v = at-same f i v

        at_other : (f : ℕ → Option ℕ) (i : ℕ) (v : Option ℕ) (m : ℕ) → m ≢ i → at_number f i v m ≡ f m
        at_other f i v m ne = at-other f i v m ne

        is_count : (a k : ℕ) → a ≡ j → at_number numbers j (Some s.count) a ≡ Some k → s.count ≡ k
        is_count a k same e =
            some_is s.count k (sym (at_same numbers j (Some s.count))
            ∙ ap (at_number numbers j (Some s.count)) (sym same) ∙ e)

        two : (b k : ℕ) → numbers b ≡ Some k → k ≡ s.count → ⊥
        two b k e same = let below : k < s.count = known b k e in absurd (omega arith)

    if_so : {X : Type 0} (b : Bool) (u v : X) → b ≡ true → (if b then u else v) ≡ u
    if_so b u v e = rw e refl

    pub attaches : (x : List ℕ) → s.connection_of x ≡ None → nat_lt n site.config.nodes ≡ true
        → IsHubOf is_aside site (server_after site (Attaches x n) s) n (at_number numbers j (Some s.count)) new
    attaches x its_connection there =
        subst (λ (v : Server). IsHubOf is_aside site v n (at_number numbers j (Some s.count)) new)
        (sym (ap (λ z. server.comes_to site x n z s) its_connection ∙ if_so (nat_lt n site.config.nodes) _ s there))
        (came (record nowhere { client = x; node = n; attached = true }) (with s.connection_of x (Some s.count)) refl
        refl refl)

    pub wanders : nat_lt n site.config.nodes ≡ true
        → IsHubOf is_aside site (server_after site (Wanders n) s) n (at_number numbers j (Some s.count)) new
    wanders there =
        subst (λ (v : Server). IsHubOf is_aside site v n (at_number numbers j (Some s.count)) new)
        (sym (if_so (nat_lt n site.config.nodes) _ s there))
        (came (record nowhere { node = n; attached = true }) s.connection_of refl refl refl)

  -- ---- one goes

  pub detaches : (new : Node) (j k code : ℕ) → numbers j ≡ Some k → attached_at new j ≡ None → OthersStay j old new
      → IsHubOf is_aside site (server_after site (Detaches k code) s) n (at_number numbers j None) new
  detaches new j k code at none others = record {
    each = λ i. elim (number_tells i j) [
      | inl e ↦
          subst (λ z. ConnectedBy is_aside site t n (attached_at new z) (at_number numbers j None z)) (sym e.1)
          (subst (λ z. ConnectedBy is_aside site t n z (at_number numbers j None j)) (sym none)
          (subst (λ z. ConnectedBy is_aside site t n None z) (sym (at-same numbers j None)) tt))
      | inr e ↦
          subst (λ z. ConnectedBy is_aside site t n z (at_number numbers j None i)) (sym (others i e.1))
          (subst (λ z. ConnectedBy is_aside site t n (attached_at old i) z) (sym (at-other numbers j None i e.1))
          (moved t refl (omega arith) (attached_at old i) (numbers i)
          (λ m g. at-other s.connections k (server.detaches code (s.connections k)) m
          (λ same. e.1 (h.apart i j k (g ∙ ap Some same) at))) (h.each i)))
    ];
    apart = λ a b m e f. h.apart a b m (was a m e) (was b m f);
    all = λ m e g. elim (number_tells m k) [
      | inl same ↦ absurd (
          let gone : (t.connections m).attached ≡ false =
          ap (λ z. (t.connections z).attached) same.1 ∙ ap (λ (y : Connection). y.attached)
          (at-same s.connections k (server.detaches code (s.connections k))) in
          let no : true ≡ false = sym g ∙ gone in cc)
      | inr other ↦
          let there : at_number s.connections k (server.detaches code (s.connections k)) m ≡ s.connections m =
          at-other s.connections k (server.detaches code (s.connections k)) m other.1 in
          let i = h.all m (sym (ap (λ (y : Connection). y.node) there) ∙ e)
          (sym (ap (λ (y : Connection). y.attached) there) ∙ g) in
          (i.0, at-other numbers j None i.0 (λ same. other.1 (some_is m k (sym i.1 ∙ ap numbers same ∙ at))) ∙ i.1)
    ];
  }
    where
      t : Server
      t = server_after site (Detaches k code) s

      was : (a m : ℕ) → at_number numbers j None a ≡ Some m → numbers a ≡ Some m
      was a m e = elim (number_tells a j) [
        | inl u ↦ absurd (let no : None ≡ Some m = sym (at-same numbers j None)
            ∙ ap (at_number numbers j None) (sym u.1) ∙ e in cc)
        | inr u ↦ sym (at-other numbers j None a u.1) ∙ e
      ]

  -- ---- elsewhere

  pub stays : (x : Section) → ((k : ℕ) → IsUntouched n (s.connections k) ((server_after site x s).connections k))
      → IsHubOf is_aside site (server_after site x s) n numbers old
  stays x u = record {
    each = λ j. by_session (attached_at old j) (numbers j) (h.each j);
    apart = h.apart;
    all = λ k e f. h.all k (sym (u k).node ∙ e) (sym (u k).attached ∙ f);
  }
    where
      t : Server
      t = server_after site x s

      g : Grows Any s t
      g = grows Any site s x (any-section s x)

      by_session : (o : Option Attached) (m : Option ℕ) → ConnectedBy is_aside site s n o m
          → ConnectedBy is_aside site t n o m
      by_session None None c = tt
      by_session None (Some k) c = absurd c
      by_session (Some a) None c = absurd c
      by_session (Some a) (Some k) c = record {
        known = let below : k < s.count = c.known in let more : s.count ≤ t.count = g.count in omega arith;
        here = (u k).node ∙ c.here;
        attached = (u k).attached ∙ c.attached;
        says = subst (λ z. Says is_aside (lists_of site t) a.state z) (sym ((u k).session c.here))
            (among-grows (λ text. is_aside text ≡ true) (lists_of site s) (lists_of site t) (grown-lists Any site s t g)
            a.state (s.connections k).session c.says);
      }
