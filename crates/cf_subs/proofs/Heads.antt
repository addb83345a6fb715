-- The ends of each number's list, where a block is linked in behind all others and where one is unlinked.
use Rattle.std.proofs.Common.{◌≡◌, ℕ, ◌==◌, ◌||◌, Bool, true, false, cond, List, [], ◌∷◌, ◌++◌, Option, Some, None}
use Rattle.std.proofs.Common.{refl, sym, ap, ◌∙◌, subst}
use Rattle.std.specs.Prelude.{is_some, option_map, if◌then◌else◌, nat_eq}
use Rattle.std.specs.HashMap.{get}
use Rattle.std.specs.List.{list_any}
use denote.RawPtr.{Ptr}
use Rattle.lru.specs.Linked.{IsApart}
use Rattle.cf_subs.specs.declared.blocks.At.{At}
use Rattle.cf_subs.specs.declared.ends.ListEnds.{ListEnds}
use Rattle.cf_subs.specs.Ends.{EndsMap, IsHeaded, SetsAt, ends, ends_of, grown, shrunk}
use Rattle.cf_subs.specs.Held.{Held, found, places, without}
use Rattle.cf_subs.specs.Threads.{AreThreaded, at, first_of, last_of, latest, nowhere}
use Rattle.cf_subs.proofs.Places.{cut_at, without_cut}
use Rattle.cf_subs.proofs.Threads.{same_number, same_refl, th_right, some_eq}

-- the first of two that is there
abbrev or : Option At → Option At → Option At
or None o = o
or (Some a) o = Some a

or_none : (o : Option At) → or o None ≡ o
or_none None = refl
or_none (Some a) = refl

or_assoc : (o p q : Option At) → or (or o p) q ≡ or o (or p q)
or_assoc None p q = refl
or_assoc (Some a) p q = refl

some_or : (o : Option At) (a : At) → is_some (or o (Some a)) ≡ true
some_or None a = refl
some_or (Some b) a = refl

-- the ends of a list, one of whose blocks goes: what lies before that block and behind it
one_goes : (fx lx fy ly : Option At) (n : At) → is_some fx ≡ is_some lx → is_some fy ≡ is_some ly
    → ends (or fx fy) (or ly lx) ≡ shrunk (ends (or fx (Some n)) (or ly (Some n))) lx fy
one_goes None None None None n h g = refl
one_goes None None None (Some d) n h g = cc
one_goes None None (Some c) None n h g = cc
one_goes None None (Some c) (Some d) n h g = refl
one_goes None (Some b) fy ly n h g = cc
one_goes (Some a) None fy ly n h g = cc
one_goes (Some a) (Some b) None None n h g = refl
one_goes (Some a) (Some b) None (Some d) n h g = cc
one_goes (Some a) (Some b) (Some c) None n h g = cc
one_goes (Some a) (Some b) (Some c) (Some d) n h g = refl

one_comes : (f l : Option At) (n : At) → is_some f ≡ is_some l
    → ends (or f (Some n)) (Some n) ≡ Some (grown (ends f l) n)
one_comes None None n h = refl
one_comes None (Some b) n h = cc
one_comes (Some a) None n h = cc
one_comes (Some a) (Some b) n h = refl

first_end : (f l : Option At) → is_some f ≡ is_some l → option_map (λ e. e.first) (ends f l) ≡ f
first_end None None h = refl
first_end None (Some b) h = refl
first_end (Some a) None h = cc
first_end (Some a) (Some b) h = refl

last_end : (f l : Option At) → is_some f ≡ is_some l → option_map (λ e. e.last) (ends f l) ≡ l
last_end None None h = refl
last_end None (Some b) h = cc
last_end (Some a) None h = cc
last_end (Some a) (Some b) h = refl

no_ends : (f l : Option At) → is_some f ≡ is_some l → ends f l ≡ None → f ≡ None
no_ends None l h e = refl
no_ends (Some a) None h e = cc
no_ends (Some a) (Some b) h e = cc

pub nothing : {Y : Type 0} (o : Option Y) → is_some o ≡ false → o ≡ None
nothing None h = refl
nothing (Some y) h = cc

ends_there : (f l : Option At) → is_some (ends f l) ≡ true → is_some f ≡ true
ends_there None l h = cc
ends_there (Some a) l h = refl

module _ {X : Type 0} (key : X → ℕ) where
  first_append : (k : ℕ) (xs ys : List (Held X))
      → first_of key k (xs ++ ys) ≡ or (first_of key k xs) (first_of key k ys)
  first_append k [] ys = refl
  first_append k (x ∷ xs) ys = by_value (key x.value == k) (first_append k xs ys)
    where
      by_value : (t : Bool) → first_of key k (xs ++ ys) ≡ or (first_of key k xs) (first_of key k ys)
          → cond t (Some (at x.at)) (first_of key k (xs ++ ys))
          ≡ or (cond t (Some (at x.at)) (first_of key k xs)) (first_of key k ys)
      by_value true h = refl
      by_value false h = h

  latest_or : (k : ℕ) (f : ℕ → Option At) (h : Held X) → latest key f h k ≡ or (latest key nowhere h k) (f k)
  latest_or k f h = by_value (key h.value == k)
    where
      by_value : (t : Bool) → cond t (Some (at h.at)) (f k) ≡ or (cond t (Some (at h.at)) None) (f k)
      by_value true = refl
      by_value false = refl

  last_or : (k : ℕ) (f : ℕ → Option At) (hs : List (Held X)) → last_of key f hs k ≡ or (last_of key nowhere hs k) (f k)
  last_or k f [] = refl
  last_or k f (h ∷ hs) =
      last_or k (latest key f h) hs ∙ ap (or (last_of key nowhere hs k)) (latest_or k f h)
      ∙ sym (or_assoc (last_of key nowhere hs k) (latest key nowhere h k) (f k))
      ∙ ap (λ o. or o (f k)) (sym (last_or k (latest key nowhere h) hs))

  last_after : (k : ℕ) (f : ℕ → Option At) (xs ys : List (Held X))
      → last_of key f (xs ++ ys) k ≡ last_of key (last_of key f xs) ys k
  last_after k f [] ys = refl
  last_after k f (x ∷ xs) ys = last_after k (latest key f x) xs ys

  last_append : (k : ℕ) (xs ys : List (Held X))
      → last_of key nowhere (xs ++ ys) k ≡ or (last_of key nowhere ys k) (last_of key nowhere xs k)
  last_append k xs ys = last_after k nowhere xs ys ∙ last_or k (last_of key nowhere xs) ys

  -- a list has a first block exactly where it has a last one
  pub both_ends : (k : ℕ) (hs : List (Held X)) → is_some (first_of key k hs) ≡ is_some (last_of key nowhere hs k)
  both_ends k [] = refl
  both_ends k (h ∷ hs) =
      by_value (key h.value == k) (both_ends k hs) ∙ ap is_some (sym (last_or k (latest key nowhere h) hs))
    where
      by_value : (t : Bool) → is_some (first_of key k hs) ≡ is_some (last_of key nowhere hs k)
          → is_some (cond t (Some (at h.at)) (first_of key k hs))
          ≡ is_some (or (last_of key nowhere hs k) (cond t (Some (at h.at)) None))
      by_value true g = sym (some_or (last_of key nowhere hs k) (at h.at))
      by_value false g = g ∙ ap is_some (sym (or_none (last_of key nowhere hs k)))

  -- what a map's entry says of the list
  pub first_is : (m : EndsMap) (hs : List (Held X)) (k : ℕ) → IsHeaded key m hs
      → option_map (λ e. e.first) (get nat_eq m k) ≡ first_of key k hs
  first_is m hs k headed =
      ap (option_map (λ (e : ListEnds). e.first)) (headed k)
      ∙ first_end (first_of key k hs) (last_of key nowhere hs k) (both_ends k hs)

  pub last_is : (m : EndsMap) (hs : List (Held X)) (k : ℕ) → IsHeaded key m hs
      → option_map (λ e. e.last) (get nat_eq m k) ≡ last_of key nowhere hs k
  last_is m hs k headed =
      ap (option_map (λ (e : ListEnds). e.last)) (headed k)
      ∙ last_end (first_of key k hs) (last_of key nowhere hs k) (both_ends k hs)

  pub none_is : (m : EndsMap) (hs : List (Held X)) (k : ℕ) → IsHeaded key m hs → get nat_eq m k ≡ None
      → first_of key k hs ≡ None
  none_is m hs k headed none =
      no_ends (first_of key k hs) (last_of key nowhere hs k) (both_ends k hs) (sym (headed k) ∙ none)

  -- a number that a map's keys begin with has a list
  pub first_there : (m : EndsMap) (hs : List (Held X)) (k : ℕ) (ks : List ℕ) → IsHeaded key m hs
      → is_some (get nat_eq m k) ≡ list_any (nat_eq k) (k ∷ ks) → is_some (first_of key k hs) ≡ true
  first_there m hs k ks headed has =
      ends_there (first_of key k hs) (last_of key nowhere hs k)
      (sym (ap is_some (headed k)) ∙ has ∙ ap (λ t. t || list_any (nat_eq k) ks) (same_refl k))

  pub headed_push : (m w : EndsMap) (hs ws : List (Held X)) (n : Held X) → IsHeaded key m hs
      → SetsAt m w (key n.value) (Some (grown (get nat_eq m (key n.value)) (at n.at)))
      → ((k : ℕ) → (first_of key k ws ≡ first_of key k (hs ++ n ∷ []))
      × (last_of key nowhere ws k ≡ last_of key nowhere (hs ++ n ∷ []) k)) → IsHeaded key w ws
  headed_push m w hs ws n headed changed same k =
      changed k ∙ by_value (key n.value == k) refl ∙ (λ i. ends (sym (same k).0 i) (sym (same k).1 i))
    where
      by_value : (t : Bool) → (key n.value == k) ≡ t
          → (if t then Some (grown (get nat_eq m (key n.value)) (at n.at)) else get nat_eq m k)
          ≡ ends_of key k (hs ++ n ∷ [])
      by_value true is =
          let j = same_number (key n.value) k is in
          ap (λ c. Some (grown (get nat_eq m c) (at n.at))) j ∙ ap (λ e. Some (grown e (at n.at))) (headed k)
          ∙ sym (one_comes (first_of key k hs) (last_of key nowhere hs k) (at n.at) (both_ends k hs))
          ∙ (λ i. ends (sym (first_append k hs (n ∷ [])
          ∙ ap (λ t. or (first_of key k hs) (cond t (Some (at n.at)) None)) is) i)
          (sym (last_after k nowhere hs (n ∷ []) ∙ ap (λ t. cond t (Some (at n.at)) (last_of key nowhere hs k)) is)
          i))
      by_value false is =
          headed k ∙ (λ i. ends (sym (first_append k hs (n ∷ [])
          ∙ ap (λ t. or (first_of key k hs) (cond t (Some (at n.at)) None)) is ∙ or_none (first_of key k hs)) i)
          (sym (last_after k nowhere hs (n ∷ []) ∙ ap (λ t. cond t (Some (at n.at)) (last_of key nowhere hs k)) is) i))

  module _ (before after : X → Option At) where
    pub headed_without : (m w : EndsMap) (hs ws : List (Held X)) (p : Ptr) (s : X)
        → AreThreaded key before after nowhere hs → IsApart (places hs) → Some s ≡ found hs p → IsHeaded key m hs
        → SetsAt m w (key s) (shrunk (get nat_eq m (key s)) (before s) (after s))
        → ((k : ℕ) → (first_of key k ws ≡ first_of key k (without hs p))
        × (last_of key nowhere ws k ≡ last_of key nowhere (without hs p) k)) → IsHeaded key w ws
    headed_without m w hs ws p s threaded apart here headed changed same k =
        let cut = cut_at hs p (subst (λ o. Rattle.std.specs.Prelude.IsSome o) here refl) in let n = cut.here in
        let is_n : s ≡ n.value = some_eq s n.value (here ∙ cut.value) in
        let d : IsApart (places (cut.before ++ n ∷ cut.after)) = subst (λ l. IsApart (places l)) cut.cut apart in
        let left : without hs p ≡ cut.before ++ cut.after =
        ap (λ l. without l p) cut.cut ∙ ap (λ q. without (cut.before ++ n ∷ cut.after) q) (sym cut.place)
        ∙ without_cut cut.before n cut.after d in
        let th = th_right key before after nowhere cut.before (n ∷ cut.after)
        (subst (AreThreaded key before after nowhere) cut.cut threaded) in
        changed k ∙ ap (λ (x : X). if key x == k then shrunk (get nat_eq m (key x)) (before x) (after x)
        else get nat_eq m k) is_n
        ∙ around cut.before n cut.after k th.0 th.1 (headed k ∙ ap (ends_of key k) cut.cut)
        ∙ ap (ends_of key k) (sym left) ∙ (λ i. ends (sym (same k).0 i) (sym (same k).1 i))
      where
        around : (xs : List (Held X)) (n : Held X) (ys : List (Held X)) (k : ℕ)
            → before n.value ≡ last_of key nowhere xs (key n.value) → after n.value ≡ first_of key (key n.value) ys
            → get nat_eq m k ≡ ends_of key k (xs ++ n ∷ ys)
            → (if key n.value == k then shrunk (get nat_eq m (key n.value)) (before n.value) (after n.value)
            else get nat_eq m k) ≡ ends_of key k (xs ++ ys)
        around xs n ys k is_last is_first had = by_value (key n.value == k) refl
          where
            F : List (Held X) → Option At
            F = first_of key k

            L : List (Held X) → Option At
            L hs = last_of key nowhere hs k

            joined : ends_of key k (xs ++ ys) ≡ ends (or (F xs) (F ys)) (or (L ys) (L xs))
            joined = λ i. ends (first_append k xs ys i) (last_append k xs ys i)

            by_value : (t : Bool) → (key n.value == k) ≡ t
                → (if t then shrunk (get nat_eq m (key n.value)) (before n.value) (after n.value) else get nat_eq m k)
                ≡ ends_of key k (xs ++ ys)
            by_value true is =
                let j = same_number (key n.value) k is in
                (λ i. shrunk (get nat_eq m (j i)) (is_last i) (is_first i))
                ∙ ap (λ c. shrunk (get nat_eq m k) (last_of key nowhere xs c) (first_of key c ys)) j
                ∙ ap (λ e. shrunk e (L xs) (F ys)) (had ∙ (λ i. ends
                ((first_append k xs (n ∷ ys) ∙ ap (λ t. or (F xs) (cond t (Some (at n.at)) (F ys))) is) i)
                ((last_after k nowhere xs (n ∷ ys) ∙ last_or k (latest key (last_of key nowhere xs) n) ys
                ∙ ap (λ t. or (L ys) (cond t (Some (at n.at)) (L xs))) is) i)))
                ∙ sym (one_goes (F xs) (L xs) (F ys) (L ys) (at n.at) (both_ends k xs) (both_ends k ys)) ∙ sym joined
            by_value false is =
                had ∙ (λ i. ends ((first_append k xs (n ∷ ys) ∙ ap (λ t. or (F xs) (cond t (Some (at n.at)) (F ys))) is)
                i)
                ((last_after k nowhere xs (n ∷ ys) ∙ last_or k (latest key (last_of key nowhere xs) n) ys
                ∙ ap (λ t. or (L ys) (cond t (Some (at n.at)) (L xs))) is) i)) ∙ sym joined
