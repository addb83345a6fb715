-- Whether a node has room for one more session: as its hub says, and as the machine counts.
use Rattle.std.proofs.Common.{◌≡◌, inl, inr, ℕ, ◌≤◌, ◌==◌, ◌&&◌, ◌||◌, not, nat_le, nat_lt, Bool, true, false}
use Rattle.std.proofs.Common.{if◌then◌else◌, is_some, length, Option, Some, None, List, arith, refl, sym, ap, ◌∙◌}
use Rattle.std.proofs.Common.{subst}
use Rattle.std.proofs.lemmas.Bool.Decides.{nat_tests}
use Rattle.cf_subscribers.specs.Follows.{AreFollows, channels_of}
use Rattle.cf_model.specs.Streams.{most_rows}
use Rattle.cf_hub.specs.Counts.{CountsAll, CountsSession, CountsSessions}
use Rattle.cf_hub.specs.Hub.{IsBounded, IsFull, Node, NoRoom, attached_at}
use Rattle.cf_model.specs.Streams.{largest, most_channels, most_sessions}
use Rattle.cf_hub.specs.Rows.{Agrees}
use Rattle.cf_machine.specs.Config.{Config}
use Rattle.cf_machine.specs.Refusals.{has_no_room, node_is_full}
use Rattle.cf_machine.specs.World.{World, is_connected, rows, rows_of, sessions_of}
use Rattle.cf_world.specs.HubCalls.{IsSound}
use Rattle.cf_world.specs.NodesTie.{IsAtAddress, ShowsNodes, session_at}
use Rattle.cf_world.specs.declared.clients.SessionAddress.{SessionAddress}
use Rattle.cf_world.proofs.Counts.{Addresses, all_rows, full, mine, room}
use Rattle.cf_world.proofs.LinksTie.{number_at}
use Rattle.cf_world.proofs.NodesTie.{away_shows, address_shows, addresses_at}

module _ {cfg : Config} {hubs : ℕ → Option Node} {addresses : List ℕ → Option SessionAddress} {m : World}
    (t : ShowsNodes cfg hubs addresses m) where
  module _ (x : List ℕ) (s : SessionAddress) (sits : addresses x ≡ Some s) where
    g : IsAtAddress cfg.namespaces m.broker.lists (session_at hubs s) s.node (m.links x)
    g = address_shows t x s sits

    pub is_at_address : is_connected x m ≡ true
    is_at_address = ap is_some g.at

  -- ---- a connect

  abbrev pub may : (x : List ℕ) (n : ℕ) → Bool
  may x n = not (is_connected x m) && (nat_lt n cfg.nodes
      && (nat_lt (sessions_of n m.links m.clients) most_sessions && nat_lt (m.counters n) largest))

  under : (n v : ℕ) → v ≤ largest → nat_lt v largest ≡ false → v ≡ largest
  under n v few e = grind (arith, nat_tests, few, e)

  module _ (total : CountsSessions) (x : List ℕ) (n : ℕ) (h : Node) (was : hubs n ≡ Some h) (none : addresses x ≡ None)
      (follows : AreFollows h.rows) (agrees : Agrees (attached_at h) h.rows) (bounded : IsBounded (attached_at h)) where
    away : is_connected x m ≡ false
    away = ap is_some (away_shows t x none).node

    here : nat_lt n cfg.nodes ≡ true
    here = sym (t.nodes n) ∙ ap is_some was

    may_is : may x n ≡ (nat_lt (sessions_of n m.links m.clients) most_sessions && nat_lt (m.counters n) largest)
    may_is = λ i. not (away i) && (here i && (nat_lt (sessions_of n m.links m.clients) most_sessions
        && nat_lt (m.counters n) largest))

    pub has_room : (NoRoom h → ⊥) → may x n ≡ true
    has_room free =
        may_is ∙ by_values (nat_lt (sessions_of n m.links m.clients) most_sessions) (nat_lt (m.counters n) largest) refl
        refl
      where
        by_values : (a b : Bool) → nat_lt (sessions_of n m.links m.clients) most_sessions ≡ a
            → nat_lt (m.counters n) largest ≡ b → (a && b) ≡ true
        by_values true true e f = refl
        by_values false b e f = absurd (free (inl (full (addresses_at t n h was follows agrees bounded) total e)))
        by_values true false e f =
            absurd (free (inr (let used = (t.hub n h was).used in let few = (t.hub n h was).few in used
            ∙ under n (m.counters n) (subst (λ (i : ℕ). i ≤ largest) used few) f)))

    pub no_room : NoRoom h → may x n ≡ false
    no_room (inl all) = may_is ∙ by_value (nat_lt (sessions_of n m.links m.clients) most_sessions) refl
      where
        by_value : (a : Bool) → nat_lt (sessions_of n m.links m.clients) most_sessions ≡ a
            → (a && nat_lt (m.counters n) largest) ≡ false
        by_value true e = absurd (room (addresses_at t n h was follows agrees bounded) total e all)
        by_value false e = refl
    no_room (inr last) = may_is ∙ by_value (nat_lt (sessions_of n m.links m.clients) most_sessions)
      where
        not_under : nat_lt (m.counters n) largest ≡ false
        not_under = let is : m.counters n ≡ largest = sym (t.hub n h was).used ∙ last in
            ap (λ (v : ℕ). nat_lt v largest) is

        by_value : (a : Bool) → (a && nat_lt (m.counters n) largest) ≡ false
        by_value true = not_under
        by_value false = refl

  pub nowhere : (x : List ℕ) (n : ℕ) → hubs n ≡ None → may x n ≡ false
  nowhere x n none = by_value (is_connected x m) (nat_lt n cfg.nodes) (sym (ap is_some none) ∙ t.nodes n)
    where
      by_value : (a b : Bool) → false ≡ b → (not a && (b
          && (nat_lt (sessions_of n m.links m.clients) most_sessions && nat_lt (m.counters n) largest))) ≡ false
      by_value true b e = refl
      by_value false true e = absurd (cc)
      by_value false false e = refl

  -- ---- a subscription

  module _ (session : CountsSession) (all : CountsAll) (x : List ℕ) (s : SessionAddress) (sits : addresses x ≡ Some s)
      (h : Node) (was : hubs s.node ≡ Some h) (sound : IsSound h) where
    addresses_here : Addresses s.node h m.links m.clients (λ y. number_at s.node (addresses y))
    addresses_here = addresses_at t s.node h was sound.rows sound.agrees sound.bounded

    own_number : (n : ℕ) → (n == n) ≡ true
    own_number n = grind (arith, nat_tests)

    mine_is : length (channels_of h.rows s.session) ≡ rows (m.links x)
    mine_is = mine addresses_here session x s.session
        (ap (number_at s.node) sits ∙ ap (λ (b : Bool). if b then Some s.session else None) (own_number s.node))

    all_are : length h.rows ≡ rows_of s.node m.links m.clients
    all_are = all_rows addresses_here session all

    has_is : has_no_room (m.links x) m ≡ (nat_le most_channels (rows (m.links x))
        || nat_le most_rows (rows_of s.node m.links m.clients))
    has_is = ap (λ (o : Option ℕ). nat_le most_channels (rows (m.links x)) || node_is_full o m)
        (address_shows t x s sits).at

    pub row_room : (IsFull s.session h → ⊥) → has_no_room (m.links x) m ≡ false
    row_room free =
        has_is ∙ by_values (nat_le most_channels (rows (m.links x)))
        (nat_le most_rows (rows_of s.node m.links m.clients)) refl refl
      where
        by_values : (a b : Bool) → nat_le most_channels (rows (m.links x)) ≡ a
            → nat_le most_rows (rows_of s.node m.links m.clients) ≡ b → (a || b) ≡ false
        by_values true b e f = absurd (free (inl (let is = mine_is in grind (arith, nat_tests, e, is))))
        by_values false true e f =
            absurd (free (inr (let is = all_are in let few = sound.rows.few in grind (arith, nat_tests, f, is, few))))
        by_values false false e f = refl

    pub row_full : IsFull s.session h → has_no_room (m.links x) m ≡ true
    row_full (inl many) =
        let e : nat_le most_channels (rows (m.links x)) ≡ true =
        (let is = mine_is in grind (arith, nat_tests, many, is)) in
        has_is ∙ ap (λ (b : Bool). b || nat_le most_rows (rows_of s.node m.links m.clients)) e
    row_full (inr all_rows_are) =
        let e : nat_le most_rows (rows_of s.node m.links m.clients) ≡ true =
        (let is = all_are in grind (arith, nat_tests, all_rows_are, is)) in
        has_is ∙ ap (λ (b : Bool). nat_le most_channels (rows (m.links x)) || b) e
        ∙ or-true (nat_le most_channels (rows (m.links x)))
      where
        or-true : (a : Bool) → (a || true) ≡ true
        or-true true = refl
        or-true false = refl
