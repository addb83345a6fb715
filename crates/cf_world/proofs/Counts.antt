-- What a node counts is what the machine counts of it: its sessions, and the subscriptions of each and of all.
use Rattle.std.proofs.Common.{◌≡◌, ◌↔◌, ℕ, suc, ◌+◌, ◌<◌, ◌≤◌, ◌==◌, ◌||◌, not, nat_lt, Bool, true, false}
use Rattle.std.proofs.Common.{if◌then◌else◌, is_some, Option, Some, None, List, [], ◌∷◌, length, arith, refl, sym, ap}
use Rattle.std.proofs.Common.{◌∙◌, subst}
use Rattle.std.specs.Prelude.{sum_by}
use Rattle.std.specs.Str.{bytes_eq}
use Rattle.std.specs.Cmp.Lexicographic.{bytes_decides}
use Rattle.std.proofs.Math.Bool.{or-true}
use Rattle.std.proofs.lemmas.Bool.{eq-eqb}
use Rattle.std.proofs.lemmas.Bool.Decides.{nat_tests}
use Rattle.std.proofs.lemmas.Option.{same_Some}
use Rattle.std.proofs.lemmas.List.Sums.{sum_by-cons}
use Rattle.cf_protocol.specs.Names.{is_among}
use Rattle.cf_subscribers.specs.Follows.{AreFollows, channels_of, follows}
use Rattle.cf_hub.specs.Counts.{AreNumbersOnce, CountsAll, CountsSession, CountsSessions, IsHub}
use Rattle.cf_hub.specs.Hub.{IsBounded, Node, attached_at, is_in}
use Rattle.cf_model.specs.Streams.{most_sessions}
use Rattle.cf_hub.specs.Rows.{Agrees, sub_in}
use Rattle.cf_hub.specs.Session.{Attached}
use Rattle.cf_model.specs.Sessions.{Off, Asked, Ready, On, is_off, is_unfinished}
use Rattle.cf_machine.specs.ClientLink.{ClientLink}
use Rattle.cf_machine.specs.FreshEpochs.{AreDistinct}
use Rattle.cf_machine.specs.Session.{Sub}
use Rattle.cf_machine.specs.World.{any_unfinished, on_node, rows, rows_of, sessions_of}
use Rattle.cf_machine.proofs.Names.{itself}

-- where the clients of node n sit
pub record Addresses (n : ℕ) (h : Node) (links : List ℕ → ClientLink) (clients : List (List ℕ))
    (address : List ℕ → Option ℕ) : Type 0 where
  pub on : (x : List ℕ) → is_some (address x) ≡ on_node n (links x).node
  pub there : (x : List ℕ) (k : ℕ) → address x ≡ Some k → (a : Attached) × (attached_at h k ≡ Some a)
      × ((c : List ℕ) → is_off (a.state.subs c) ≡ is_off ((links x).session.subs c))
  pub apart : (x y : List ℕ) (k : ℕ) → address x ≡ Some k → address y ≡ Some k → x ≡ y
  pub onto : (k : ℕ) → is_some (attached_at h k) ≡ true → (x : List ℕ) × (address x ≡ Some k)
  pub among : (x : List ℕ) (k : ℕ) → address x ≡ Some k → is_among x clients ≡ true
  pub distinct : AreDistinct clients
  pub channels : (x : List ℕ) → AreDistinct (links x).channels
  pub listed : (x c : List ℕ) → is_off ((links x).session.subs c) ≡ false → is_among c (links x).channels ≡ true
  pub agrees : Agrees (attached_at h) h.rows
  pub follows : AreFollows h.rows
  pub bounded : IsBounded (attached_at h)

module _ (address : List ℕ → Option ℕ) where
  abbrev add : Option ℕ → List ℕ → List ℕ
  add None ks = ks
  add (Some k) ks = k ∷ ks

  -- the numbers of these clients
  abbrev numbers : List (List ℕ) → List ℕ
  numbers [] = []
  numbers (x ∷ xs) = add (address x) (numbers xs)

  in_numbers : (xs : List (List ℕ)) (x : List ℕ) (k : ℕ) → is_among x xs ≡ true → address x ≡ Some k
      → is_in k (numbers xs) ≡ true
  in_numbers [] x k h e = absurd (cc)
  in_numbers (y ∷ xs) x k h e = by_value (bytes_eq y x) ((bytes_decides y x).0) h (address y) refl (in_numbers xs x k)
    where
      by_value : (t : Bool) → (t ≡ true → y ≡ x) → (t || is_among x xs) ≡ true → (o : Option ℕ) → address y ≡ o
          → (is_among x xs ≡ true → address x ≡ Some k → is_in k (numbers xs) ≡ true)
          → is_in k (add o (numbers xs)) ≡ true
      by_value true is g None f more =
          absurd (let no : ◌≡◌ {A = Option ℕ} None (Some k) = sym f ∙ ap address (is refl) ∙ e in cc)
      by_value true is g (Some j) f more =
          let same : j ≡ k = same_Some j k (sym f ∙ ap address (is refl) ∙ e) in
          ap (λ (b : Bool). b || is_in k (numbers xs)) (ap (λ (i : ℕ). i == k) same ∙ eq-eqb k k refl)
      by_value false is g None f more = more g e
      by_value false is g (Some j) f more = ap (λ (b : Bool). (j == k) || b) (more g e) ∙ or-true (j == k)

  of_numbers : (xs : List (List ℕ)) (k : ℕ) → is_in k (numbers xs) ≡ true → (x : List ℕ) × (is_among x xs ≡ true)
      × (address x ≡ Some k)
  of_numbers [] k h = absurd (cc)
  of_numbers (y ∷ xs) k h = by_value (address y) refl h (of_numbers xs k)
    where
      later : (x : List ℕ) × (is_among x xs ≡ true) × (address x ≡ Some k) → (x : List ℕ) × (is_among x (y ∷ xs) ≡ true)
          × (address x ≡ Some k)
      later r = (r.0, ap (λ (b : Bool). bytes_eq y r.0 || b) r.1 ∙ or-true (bytes_eq y r.0), r.2)

      pick : (j : ℕ) (t : Bool) → (j == k) ≡ t → address y ≡ Some j → (t || is_in k (numbers xs)) ≡ true
          → (is_in k (numbers xs) ≡ true → (x : List ℕ) × (is_among x xs ≡ true) × (address x ≡ Some k)) → (x : List ℕ)
          × (is_among x (y ∷ xs) ≡ true) × (address x ≡ Some k)
      pick j true e f g more =
          let same : j ≡ k = grind (arith, nat_tests, e) in
          (y, ap (λ (b : Bool). b || is_among y xs) (itself y), f ∙ ap Some same)
      pick j false e f g more = later (more g)

      by_value : (o : Option ℕ) → address y ≡ o → is_in k (add o (numbers xs)) ≡ true
          → (is_in k (numbers xs) ≡ true → (x : List ℕ) × (is_among x xs ≡ true) × (address x ≡ Some k)) → (x : List ℕ)
          × (is_among x (y ∷ xs) ≡ true) × (address x ≡ Some k)
      by_value None f g more = later (more g)
      by_value (Some j) f g more = pick j (j == k) refl f g more

  module _ (apart : (x y : List ℕ) (k : ℕ) → address x ≡ Some k → address y ≡ Some k → x ≡ y) where
    numbers_once : (xs : List (List ℕ)) → AreDistinct xs → AreNumbersOnce (numbers xs)
    numbers_once [] h = tt
    numbers_once (x ∷ xs) h = by_value (address x) refl (numbers_once xs h.1)
      where
        new : (k : ℕ) → address x ≡ Some k → (t : Bool) → is_in k (numbers xs) ≡ t → t ≡ false
        new k e true f =
            let r = of_numbers xs k f in
            let same : r.0 ≡ x = apart r.0 x k r.2 e in
            let yes : is_among x xs ≡ true = subst (λ (y : List ℕ). is_among y xs ≡ true) same r.1 in
            let no = h.0 in absurd (cc)
        new k e false f = refl

        by_value : (o : Option ℕ) → address x ≡ o → AreNumbersOnce (numbers xs) → AreNumbersOnce (add o (numbers xs))
        by_value None e more = more
        by_value (Some k) e more = (new k e (is_in k (numbers xs)) refl, more)

module _ {n : ℕ} {h : Node} {links : List ℕ → ClientLink} {clients : List (List ℕ)} {address : List ℕ → Option ℕ}
    (s : Addresses n h links clients address) where
  hub : IsHub h
  hub = record { rows = s.follows; agrees = s.agrees }

  module _ (session : CountsSession) where
    -- a client's subscriptions
    pub mine : (x : List ℕ) (k : ℕ) → address x ≡ Some k → length (channels_of h.rows k) ≡ rows (links x)
    mine x k e =
        let a = s.there x k e in
        session h k (links x).session.subs (links x).channels hub
        (λ c. ap (λ (o : Option Attached). is_off (sub_in o c)) a.1 ∙ a.2 c) (s.channels x) (s.listed x)

    sums : (xs : List (List ℕ)) → sum_by (λ k. length (channels_of h.rows k)) (numbers address xs) ≡ rows_of n links xs
    sums [] = refl
    sums (x ∷ xs) = by_value (address x) (on_node n (links x).node) refl (s.on x) (sums xs)
      where
        by_value : (o : Option ℕ) (t : Bool) → address x ≡ o → is_some (address x) ≡ t
            → sum_by (λ k. length (channels_of h.rows k)) (numbers address xs) ≡ rows_of n links xs
            → sum_by (λ k. length (channels_of h.rows k)) (add address o (numbers address xs))
            ≡ (if t then rows (links x) + rows_of n links xs else rows_of n links xs)
        by_value None true e f g = absurd (let no : false ≡ true = sym (ap is_some e) ∙ f in cc)
        by_value None false e f g = g
        by_value (Some k) true e f g =
            sum_by-cons (λ k. length (channels_of h.rows k)) k (numbers address xs) ∙ (λ i. mine x k e i + g i)
        by_value (Some k) false e f g = absurd (let no : true ≡ false = sym (ap is_some e) ∙ f in cc)

  counted : (xs : List (List ℕ)) → length (numbers address xs) ≡ sessions_of n links xs
  counted [] = refl
  counted (x ∷ xs) = by_value (address x) (on_node n (links x).node) refl (s.on x) (counted xs)
    where
      by_value : (o : Option ℕ) (t : Bool) → address x ≡ o → is_some (address x) ≡ t
          → length (numbers address xs) ≡ sessions_of n links xs
          → length (add address o (numbers address xs))
          ≡ (if t then suc (sessions_of n links xs) else sessions_of n links xs)
      by_value None true e f g = absurd (let no : false ≡ true = sym (ap is_some e) ∙ f in cc)
      by_value None false e f g = g
      by_value (Some k) true e f g = ap suc g
      by_value (Some k) false e f g = absurd (let no : true ≡ false = sym (ap is_some e) ∙ f in cc)

  here : (k : ℕ) → is_some (attached_at h k) ≡ is_in k (numbers address clients)
  here k = by_value (is_some (attached_at h k)) (is_in k (numbers address clients)) refl refl
    where
      by_value : (t u : Bool) → is_some (attached_at h k) ≡ t → is_in k (numbers address clients) ≡ u → t ≡ u
      by_value true true e f = refl
      by_value false false e f = refl
      by_value true false e f =
          absurd (let r = s.onto k e in let yes : false ≡ true = sym f
          ∙ in_numbers address clients r.0 k (s.among r.0 k r.1) r.1 in cc)
      by_value false true e f =
          absurd (let r = of_numbers address clients k f in let a = s.there r.0 k r.2 in let yes : false ≡ true = sym e
          ∙ ap is_some a.1 in cc)

  -- all rows
  pub all_rows : CountsSession → CountsAll → length h.rows ≡ rows_of n links clients
  all_rows session all =
      all h (numbers address clients) hub (numbers_once address s.apart clients s.distinct) seen ∙ sums session clients
    where
      seen : (c : List ℕ) (k : ℕ) → follows h.rows c k ≡ true → is_in k (numbers address clients) ≡ true
      seen c k g = sym (here k) ∙ there (attached_at h k) (sym (s.agrees c k) ∙ g)
        where
          there : (o : Option Attached) → not (is_off (sub_in o c)) ≡ true → is_some o ≡ true
          there None e = absurd (cc)
          there (Some a) e = refl

  module _ (total : CountsSessions) where
    both : ((k : ℕ) → k < most_sessions → is_some (attached_at h k) ≡ true) ↔
        (most_sessions ≤ length (numbers address clients))
    both = total h (numbers address clients) s.bounded (numbers_once address s.apart clients s.distinct) here

    -- the node has room for one more session, or not
    pub room : nat_lt (sessions_of n links clients) most_sessions ≡ true
        → ((k : ℕ) → k < most_sessions → is_some (attached_at h k) ≡ true) → ⊥
    room e f = let many = both.0 f in let as_many = counted clients in grind (arith, nat_tests, e, many, as_many)

    pub full : nat_lt (sessions_of n links clients) most_sessions ≡ false → (k : ℕ) → k < most_sessions
        → is_some (attached_at h k) ≡ true
    full e = both.1 (let as_many = counted clients in grind (arith, nat_tests, e, as_many))

-- ---- whether a command may be carried out

module _ (subs : List ℕ → Sub) where
  none_waits : (cs : List (List ℕ)) → ((c : List ℕ) → is_unfinished (subs c) ≡ false) → any_unfinished subs cs ≡ false
  none_waits [] h = refl
  none_waits (c ∷ cs) h = ap (λ (b : Bool). b || any_unfinished subs cs) (h c) ∙ none_waits cs h

  waits_off : (s : Sub) → is_off s ≡ true → is_unfinished s ≡ false
  waits_off Off h = refl
  waits_off (Asked id since b) h = absurd (cc)
  waits_off (Ready id was r b) h = absurd (cc)
  waits_off (On p behind_at) h = refl

  one_waits : (cs : List (List ℕ)) (c : List ℕ) → is_among c cs ≡ true → any_unfinished subs cs ≡ false
      → is_unfinished (subs c) ≡ false
  one_waits [] c h g = absurd (cc)
  one_waits (d ∷ cs) c h g =
      by_value (bytes_eq d c) (is_unfinished (subs d)) ((bytes_decides d c).0) refl h g (one_waits cs c)
    where
      by_value : (t u : Bool) → (t ≡ true → d ≡ c) → is_unfinished (subs d) ≡ u → (t || is_among c cs) ≡ true
          → (u || any_unfinished subs cs) ≡ false
          → (is_among c cs ≡ true → any_unfinished subs cs ≡ false → is_unfinished (subs c) ≡ false)
          → is_unfinished (subs c) ≡ false
      by_value t true is e f k more = absurd (cc)
      by_value true false is e f k more = subst (λ (x : List ℕ). is_unfinished (subs x) ≡ false) (is refl) e
      by_value false false is e f k more = more f k

  pub ready : (cs : List (List ℕ)) → ((c : List ℕ) → is_off (subs c) ≡ false → is_among c cs ≡ true)
      → ((c : List ℕ) → is_unfinished (subs c) ≡ false) ↔ (any_unfinished subs cs ≡ false)
  ready cs listed = (none_waits cs, λ g c. by_value c (is_off (subs c)) refl g)
    where
      by_value : (c : List ℕ) (t : Bool) → is_off (subs c) ≡ t → any_unfinished subs cs ≡ false
          → is_unfinished (subs c) ≡ false
      by_value c true e g = waits_off (subs c) e
      by_value c false e g = one_waits cs c (listed c e) g
