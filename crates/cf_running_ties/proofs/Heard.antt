-- The commands of a text have ids, and the data of its publishes is the compact text of a value.
use Rattle.std.proofs.Common.{◌≡◌, ◌≤◌, ℕ, ◌==◌, nat_le, ◌&&◌, not, Bool, true, false, if◌then◌else◌, cond, Option}
use Rattle.std.proofs.Common.{Some, None, List, [], ◌∷◌, ◌++◌, length, append-nil, refl, subst, arith}
use Rattle.std.specs.Prelude.{IfSome, codes}
use Rattle.std.specs.List.{AllByRecursion, filter}
use Rattle.std.specs.Option.{option_and_then, option_map, option_to_list}
use Rattle.std.specs.Str.{bytes_eq}
use Rattle.std.specs.Fmt.{decimal}
use Rattle.std.proofs.lemmas.Bool.{and_parts}
use Rattle.std.proofs.lemmas.Bool.Decides.{nat_tests}
use Rattle.std.proofs.lemmas.List.{length-append}
use Prim.Native.String.{String as Name}
use Rattle.cf_json.specs.Characters.{characters}
use Rattle.cf_json.specs.Compact.{AreRegular, IsRegular, compact_text}
use Rattle.cf_json.specs.Frame.{Values}
use Rattle.cf_json.specs.Grammar.{Tree, null, boolean, number, text as string, array, object, Parts, no_parts, part}
use Rattle.cf_json.specs.Grammar.{Place, Value, depth}
use Rattle.cf_json.specs.Integers.{whole_of}
use Rattle.cf_json.specs.Members.{Fields, members_onto, put}
use Rattle.cf_protocol.specs.Command.{command_from, command_of, connect, data_of, history, max_data_depth}
use Rattle.cf_protocol.specs.Command.{named_command, needs_id, presence, presence_stats, publish, request_of, requests}
use Rattle.cf_protocol.specs.Command.{subscribe, unsubscribe}
use Rattle.cf_protocol.specs.Fields.{as_object, as_whole, each_of, flag, limit, look_up, max_u32, member, object_as}
use Rattle.cf_protocol.specs.Fields.{object_or_none, position, present, read_all, read_or, text, the_only, unless_null}
use Rattle.cf_protocol.specs.Fields.{whole, within}
use Rattle.cf_protocol.specs.Frame.{IsCommands, commands_of}
use Rattle.cf_protocol.specs.Note.{Lists}
use Rattle.cf_protocol.specs.Outgoing.{Answer, Failed, Published, Unsubscribed}
use Rattle.cf_protocol.specs.Regular.{IsBody, IsCode, IsInfo}
use Rattle.cf_protocol.specs.Request.{Body, Command, Request, Pong, Connect, Subscribe, Unsubscribe, Publish, Presence}
use Rattle.cf_protocol.specs.Request.{PresenceStats, History, Ping, Send, Other, TooDeep}
use Rattle.cf_hub.specs.Hub.{client_id}
use Rattle.cf_machine.proofs.Names.{by_test}
use Rattle.cf_running_ties.specs.Heard.{AreHeard, IsHeardAs, IsReadBack, SayTheirNotes}

-- ---- members of regular values

abbrev AreFields : Fields → Type 0
AreFields = AllByRecursion (λ f. IsRegular f.1)

filtered : (p : List ℕ × Tree → Bool) (fs : Fields) → AreFields fs → AreFields (filter p fs)
filtered p [] h = tt
filtered p (f ∷ fs) h = by_bool (p f) (filtered p fs h.1)
  where
    by_bool : (b : Bool) → AreFields (filter p fs) → AreFields (cond b (f ∷ filter p fs) (filter p fs))
    by_bool true k = (h.0, k)
    by_bool false k = k

one-more : (fs : Fields) (f : List ℕ × Tree) → AreFields fs → IsRegular f.1 → AreFields (fs ++ f ∷ [])
one-more [] f h k = (k, tt)
one-more (g ∷ fs) f h k = (h.0, one-more fs f h.1 k)

members : (ps : Parts) (fs : Fields) → AreFields fs → AreRegular true ps → IfSome (members_onto fs ps) AreFields
members no_parts fs h k = h
members (part key t ps) fs h k =
    by_key (characters key) (λ c. members ps (put fs (c, t))
    (one-more (filter (λ f. not (bytes_eq f.0 c)) fs) (c, t) (filtered (λ f. not (bytes_eq f.0 c)) fs h) k.1) k.2)
  where
    by_key : (o : Option (List ℕ)) → ((c : List ℕ) → IfSome (members_onto (put fs (c, t)) ps) AreFields)
        → IfSome (option_and_then (λ c. members_onto (put fs (c, t)) ps) o) AreFields
    by_key None f = tt
    by_key (Some c) f = f c

found : (k : List ℕ) (fs : Fields) → AreFields fs → IfSome (look_up k fs) IsRegular
found k [] h = tt
found k (f ∷ fs) h = by_bool (bytes_eq k f.0) (found k fs h.1)
  where
    by_bool : (b : Bool) → IfSome (look_up k fs) IsRegular → IfSome (if b then Some f.1 else look_up k fs) IsRegular
    by_bool true g = h.0
    by_bool false g = g

there : (o : Option Tree) → IfSome o IsRegular → IfSome (option_and_then unless_null o) IsRegular
there None h = tt
there (Some null) h = tt
there (Some (boolean b)) h = h
there (Some (number n)) h = h
there (Some (string c)) h = h
there (Some (array ps)) h = h
there (Some (object ps)) h = h

-- ---- what comes of them

bind : {A B : Type 0} (P : B → Type 0) (f : A → Option B) (o : Option A) → ((x : A) → IfSome (f x) P)
    → IfSome (option_and_then f o) P
bind P f None h = tt
bind P f (Some x) h = h x

as_it_is : (t : Tree) → IsRegular t → IfSome (as_object t) AreFields
as_it_is null h = tt
as_it_is (boolean b) h = tt
as_it_is (number n) h = tt
as_it_is (string c) h = tt
as_it_is (array ps) h = tt
as_it_is (object ps) h = members ps [] tt h

read-by : {B : Type 0} (P : B → Type 0) (f : Fields → Option B) → ((r : Fields) → AreFields r → IfSome (f r) P)
    → (t : Tree) → IsRegular t → IfSome (object_as f t) P
read-by {B} P f h t k = by_object (as_object t) (as_it_is t k)
  where
    by_object : (o : Option Fields) → IfSome o AreFields → IfSome (option_and_then f o) P
    by_object None g = tt
    by_object (Some r) g = h r g

-- ---- ids

code : (id : ℕ) → id ≤ max_u32 → (id == 0) ≡ false → IsCode id
code id h e = (above id e, h)
  where
    above : (n : ℕ) → (n == 0) ≡ false → 1 ≤ n
    above n i = grind (arith, nat_tests)

within-high : (high n : ℕ) → IfSome (within 0 high n) (λ m. m ≤ high)
within-high high n =
    by_test (λ o. IfSome o (λ m. m ≤ high)) (nat_le 0 n && nat_le n high) (Some n) None
    (λ h. below n high (and_parts (nat_le 0 n) (nat_le n high) h).1) (λ h. tt)
  where
    below : (a b : ℕ) → nat_le a b ≡ true → a ≤ b
    below a b h = grind (arith, nat_tests)

whole-high : (high : ℕ) (t : Tree) → IfSome (as_whole 0 high t) (λ m. m ≤ high)
whole-high high (number s) = bind (λ m. m ≤ high) (within 0 high) (whole_of s) (within-high high)
whole-high high null = tt
whole-high high (boolean b) = tt
whole-high high (string c) = tt
whole-high high (array ps) = tt
whole-high high (object ps) = tt

whole-within : (high : ℕ) (r : Fields) (k : Name) → IfSome (whole high r k) (λ m. m ≤ high)
whole-within high r k = by_member (present r k)
  where
    by_member : (o : Option Tree) → IfSome (read_or 0 (as_whole 0 high) o) (λ m. m ≤ high)
    by_member None = omega arith
    by_member (Some t) = whole-high high t

module _ (back : (t : Tree) (r : List ℕ) → IsRegular t → Value t (compact_text t ++ r) r)
    (regular : (t : Tree) (s r : List ℕ) → Value t s r → IsRegular t) where
  body : (t : Tree) → IsRegular t → nat_le (depth t) max_data_depth ≡ true → IsBody (compact_text t)
  body t h k = (
    t,
    record {
      value = subst (λ s. Value t s []) (append-nil (compact_text t)) (back t [] h);
      compact = refl;
      shallow = below (depth t) k;
    },
  )
    where
      below : (n : ℕ) → nat_le n max_data_depth ≡ true → n ≤ max_data_depth
      below n i = grind (arith, nat_tests)

  brought : (o : Option Tree) → IfSome o IsRegular → IsReadBack (data_of o)
  brought None h = tt
  brought (Some t) h = by_depth (nat_le (depth t) max_data_depth) (body t h)
    where
      by_depth : (b : Bool) → (b ≡ true → IsBody (compact_text t))
          → IsReadBack (if b then Body (compact_text t) else TooDeep)
      by_depth true k = k refl
      by_depth false k = tt

  -- ---- each request by its key

  abbrev BringsBody : Request → Type 0
  BringsBody (Publish c key d) = IsReadBack d
  BringsBody q = Unit {0}

  abbrev Reads : (Tree → Option Request) → Type 0
  Reads f = (t : Tree) → IsRegular t → IfSome (f t) BringsBody

  reads-connect : Reads (object_as connect)
  reads-connect = read-by BringsBody connect (λ r h. bind BringsBody _ (text r "token") (λ token. tt))

  reads-subscribe : Reads (object_as subscribe)
  reads-subscribe =
      read-by BringsBody subscribe (λ r h. bind BringsBody _ (flag r "recover")
      (λ b. bind BringsBody _ (position r) (λ p. bind BringsBody _ (text r "channel") (λ c. tt))))

  reads-unsubscribe : Reads (object_as unsubscribe)
  reads-unsubscribe = read-by BringsBody unsubscribe (λ r h. bind BringsBody _ (text r "channel") (λ c. tt))

  reads-publish : Reads (object_as publish)
  reads-publish =
      read-by BringsBody publish (λ r h. bind BringsBody _ (text r "channel")
      (λ c. bind BringsBody _ (text r "key") (λ key. brought (member r "data") (found (codes "data") r h))))

  reads-presence : Reads (object_as presence)
  reads-presence = read-by BringsBody presence (λ r h. bind BringsBody _ (text r "channel") (λ c. tt))

  reads-stats : Reads (object_as presence_stats)
  reads-stats = read-by BringsBody presence_stats (λ r h. bind BringsBody _ (text r "channel") (λ c. tt))

  reads-history : Reads (object_as history)
  reads-history =
      read-by BringsBody history
      (λ r h. bind BringsBody _ (limit r "limit")
      (λ n. bind BringsBody _ (object_or_none position r "since")
      (λ p. bind BringsBody _ (flag r "reverse") (λ b. bind BringsBody _ (text r "channel") (λ c. tt)))))

  AllRead : List (Name × (Tree → Option Request)) → Type 0
  AllRead = AllByRecursion (λ m. Reads m.1)

  all-read : AllRead requests
  unfolding AllRead
  all-read = (
    reads-connect,
    (
      reads-subscribe,
      (
        reads-unsubscribe,
        (
          reads-publish,
          (
            reads-presence,
            (reads-stats, (reads-history, (λ t h. tt, (λ t h. tt, (λ t h. tt, (λ t h. tt, (λ t h. tt, tt))))))),
          ),
        ),
      ),
    ),
  )

  each-read : (ms : List (Name × (Tree → Option Request))) → AllRead ms → (r : Fields) → AreFields r
      → AllByRecursion (λ o. IfSome o BringsBody) (each_of ms r)
  unfolding AllRead
  each-read [] a r h = tt
  each-read (m ∷ ms) a r h =
      by_member (present r m.0) (there (member r m.0) (found (codes m.0) r h)) (each-read ms a.1 r h)
    where
      by_member : (o : Option Tree) → IfSome o IsRegular → AllByRecursion (λ q. IfSome q BringsBody) (each_of ms r)
          → AllByRecursion (λ q. IfSome q BringsBody) (option_to_list (option_map m.1 o) ++ each_of ms r)
      by_member None g k = k
      by_member (Some t) g k = (a.0 t g, k)

  only-read : (os : List (Option Request)) → AllByRecursion (λ o. IfSome o BringsBody) os
      → IfSome (the_only os) BringsBody
  only-read [] h = tt
  only-read (o ∷ []) h = h.0
  only-read (o ∷ p ∷ os) h = tt

  -- ---- commands

  abbrev Brings : Command → Type 0
  Brings k = IsHeardAs k.id k.request

  abbrev with_id : ℕ → Request → Option Command
  with_id id q = if needs_id q && (id == 0) then None else Some (record { id = id; request = q })

  heard : (id : ℕ) (q : Request) → id ≤ max_u32 → BringsBody q → (needs_id q && (id == 0)) ≡ false → IsHeardAs id q
  heard id Pong h k e = tt
  heard id Send h k e = tt
  heard id (Publish c key d) h k e = (code id h e, k)
  heard id (Connect token) h k e = code id h e
  heard id (Subscribe c since) h k e = code id h e
  heard id (Unsubscribe c) h k e = code id h e
  heard id (Presence c) h k e = code id h e
  heard id (PresenceStats c) h k e = code id h e
  heard id (History c n since b) h k e = code id h e
  heard id Ping h k e = code id h e
  heard id Other h k e = code id h e

  by_request : (id : ℕ) → id ≤ max_u32 → (o : Option Request) → IfSome o BringsBody
      → IfSome (option_and_then (with_id id) o) Brings
  by_request id h None g = tt
  by_request id h (Some q) g =
      by_test (λ o. IfSome o Brings) (needs_id q && (id == 0)) None (Some (record { id = id; request = q })) (λ i. tt)
      (λ i. heard id q h g i)

  named : (r : Fields) → AreFields r → IfSome (named_command r) Brings
  named r h = by_id (whole max_u32 r "id") (whole-within max_u32 r "id")
      (only-read (each_of requests r) (each-read requests all-read r h))
    where
      by_id : (o : Option ℕ) → IfSome o (λ n. n ≤ max_u32) → IfSome (request_of r) BringsBody
          → IfSome (option_and_then (λ id. option_and_then (with_id id) (request_of r)) o) Brings
      by_id None g k = tt
      by_id (Some id) g k = by_request id g (request_of r) k

  from : (r : Fields) → AreFields r → IfSome (command_from r) Brings
  from [] h = tt
  from (f ∷ fs) h = named (f ∷ fs) h

  all-commands : (ts : List Tree) → AllByRecursion IsRegular ts → IfSome (read_all command_of ts) AreHeard
  all-commands [] h = tt
  all-commands (t ∷ ts) h =
      by_first (command_of t) (read-by Brings command_from from t h.0) (read_all command_of ts) (all-commands ts h.1)
    where
      by_first : (o : Option Command) → IfSome o Brings → (os : Option (List Command)) → IfSome os AreHeard
          → IfSome (option_and_then (λ k. option_map (λ ks. k ∷ ks) os) o) AreHeard
      by_first None g os k = tt
      by_first (Some c) g None k = tt
      by_first (Some c) g (Some cs) k = (g, k)

  values-regular : (ts : List Tree) (places : List Place) (s : List ℕ) → Values ts places s
      → AllByRecursion IsRegular ts
  values-regular [] places s h = tt
  values-regular (t ∷ ts) places s h = (regular t h.0 h.1 h.4, values-regular ts h.2 h.1 h.6)

  pub heard_all : (s : List ℕ) (ks : List Command) → IsCommands s ks → AreHeard ks
  heard_all s ks h = by_values h.values (values-regular h.values h.frame.1 s h.frame.2) h.are
    where
      some : (o : Option (List Command)) → IfSome o AreHeard → o ≡ Some ks → AreHeard ks
      some o g e = subst (λ z. IfSome z AreHeard) e g

      by_values : (ts : List Tree) → AllByRecursion IsRegular ts → commands_of ts ≡ Some ks → AreHeard ks
      by_values [] g e = absurd (cc)
      by_values (t ∷ ts) g e = some (read_all command_of (t ∷ ts)) (all-commands (t ∷ ts) g) e

pub names : (user : List ℕ) (node boot count : ℕ)
    → IsInfo (Some (record { user = user; client = client_id node boot count }))
names user node boot count = longer (decimal node) (decimal boot ++ (45 ∷ decimal count))
  where
    longer : (a b : List ℕ) → 1 ≤ length (a ++ (45 ∷ b))
    longer a b = let e = length-append a (45 ∷ b) in omega (arith, e)

pub replies : (lists : Lists) (c : List ℕ) (id code : ℕ) → IsCode id → IsCode code → SayTheirNotes lists c id code
replies lists c id code h k = record {
  published = record { said = Answer id Published; stays = λ later g. refl; regular = (h, tt); text = refl };
  left = record { said = Answer id Unsubscribed; stays = λ later g. refl; regular = (h, tt); text = refl };
  failed = record { said = Answer id (Failed code); stays = λ later g. refl; regular = (h, k); text = refl };
}
