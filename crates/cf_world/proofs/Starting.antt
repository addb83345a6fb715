-- A new world shows the machine's start.
use Rattle.std.proofs.Common.{◌≡◌, ◌≤◌, ℕ, zero, suc, ◌+◌, nat_lt, true, false, Option, Some, None, List, [], ◌∷◌, ◌++◌}
use Rattle.std.proofs.Common.{length, is_some, arith, refl, sym, ap, ◌∙◌, subst, slice_get, option_and_then, BTreeMap}
use Rattle.std.proofs.Common.{String, Global, string_bytes}
use Rattle.std.specs.BTreeMap.{get_by_text, is_at}
use Rattle.std.specs.Cmp.Lexicographic.{slice_cmp}
use Rattle.std.specs.Map.{lookup}
use Rattle.std.specs.Ordering.{nat_cmp}
use Rattle.std.proofs.lemmas.Bool.Decides.{nat_tests}
use Rattle.cf_protocol.specs.Settings.{NamespaceTable}
use Rattle.cf_hub.specs.Hub.{Node, attached_at, empty}
use Rattle.cf_model.specs.Streams.{largest}
use Rattle.cf_machine.specs.PublicationList.{new_broker}
use Rattle.cf_machine.specs.World.{start}
use Rattle.cf_world.specs.BrokerTie.{ShowsBroker}
use Rattle.cf_world.specs.ClientTie.{ShowsClient}
use Rattle.cf_world.specs.HubCalls.{AreNew}
use Rattle.cf_world.specs.NodesTie.{ShowsLink, session_in}
use Rattle.cf_world.specs.Tie.{AreTied, addresses_of}
use Rattle.cf_world.specs.declared.broker.WorldBroker.{WorldBroker as Code}
use Rattle.cf_world.specs.declared.clients.Peer.{Peer}
use Rattle.cf_world.specs.declared.clients.SessionAddress.{SessionAddress}

-- one more
pub new-snoc : (n : ℕ) (hs : List Node) (k : ℕ) → k ≡ n + length hs → AreNew n hs → AreNew n (hs ++ empty k 1 ∷ [])
new-snoc n [] k e h = (ap (λ (i : ℕ). empty i 1) (let same : k ≡ n = omega (arith, e) in same), tt)
new-snoc n (x ∷ hs) k e h = (h.0, new-snoc (suc n) hs k (omega (arith, e)) h.1)

pub length-snoc : (hs : List Node) (h : Node) → length (hs ++ h ∷ []) ≡ length hs + 1
length-snoc [] h = omega arith
length-snoc (x ∷ hs) h = let more = length-snoc hs h in omega arith

new-get : (n i : ℕ) (hs : List Node) (h : Node) → AreNew n hs → slice_get hs i ≡ Some h → h ≡ empty (n + i) 1
new-get n i [] h a e = absurd (cc)
new-get n zero (x ∷ hs) h a e = let is : x ≡ h = cc in
    sym is ∙ a.0 ∙ ap (λ (j : ℕ). empty j 1) (let same : n ≡ n + 0 = omega arith in same)
new-get n (suc i) (x ∷ hs) h a e =
    new-get (suc n) i hs h a.1 e ∙ ap (λ (j : ℕ). empty j 1) (let same : suc n + i ≡ n + suc i = omega arith in same)

new-at : (i : ℕ) (hs : List Node) (h : Node) → AreNew 0 hs → slice_get hs i ≡ Some h → h ≡ empty i 1
new-at i hs h a e = new-get 0 i hs h a e ∙ ap (λ (j : ℕ). empty j 1) (let same : 0 + i ≡ i = omega arith in same)

new-there : (i : ℕ) (hs : List Node) → is_some (slice_get hs i) ≡ nat_lt i (length hs)
new-there i [] = grind (arith, nat_tests)
new-there zero (x ∷ hs) = grind (arith, nat_tests)
new-there (suc i) (x ∷ hs) = new-there i hs ∙ grind (arith, nat_tests)

no-session : (o : Option Node) (k : ℕ) → ((h : Node) → o ≡ Some h → (i : ℕ) × (h ≡ empty i 1))
    → is_some (session_in o k) ≡ false
no-session None k h = refl
no-session (Some g) k h = let e = h g refl in ap (λ (z : Node). is_some (attached_at z k)) e.1

pub empty-map : (peers : BTreeMap (String Global) Peer) → peers.entries ≡ [] → (x : List ℕ) → get_by_text peers x ≡ None
empty-map peers e x = ap (lookup (is_at (λ k. slice_cmp nat_cmp x (string_bytes k)))) e

pub starts : (nodes : ℕ) (table kept : NamespaceTable) → kept ≡ table
    → (b : Code) (hubs : List Node) (peers : List ℕ → Option Peer) → ShowsBroker table b new_broker → AreNew 0 hubs
    → length hubs ≡ nodes
    → ((x : List ℕ) → peers x ≡ None) → AreTied (record { nodes = nodes; namespaces = table }) kept b (slice_get hubs)
    peers start
starts nodes table kept same b hubs peers shows new count none = record {
  namespaces = same;
  broker = shows;
  nodes = record {
    nodes = λ n. new-there n hubs ∙ ap (nat_lt n) count;
    hub = λ n h e. let is : h ≡ empty n 1 = new-at n hubs h new e in
        record {
          node = ap (λ (z : Node). z.node) is;
          boot = ap (λ (z : Node). z.boot) is;
          used = ap (λ (z : Node). z.used) is;
          few =
              subst (λ (z : Node). z.used ≤ largest) (sym is) (omega arith);
          refused = ap (λ (z : Node). z.refused) is;
        };
    links = λ x. subst (λ (o : Option SessionAddress). ShowsLink table start.broker.lists (slice_get hubs) o
        (start.links x)) (sym (no-address x)) (record {
          node = refl;
          session = refl;
          channels = refl;
          way = refl;
          up = refl;
        });
    apart = λ x y s e f. absurd (let no' : None ≡ Some s = sym (no-address x) ∙ e in cc);
    onto = λ n k e. absurd (let no' : false ≡ true = sym
        (no-session (slice_get hubs n) k (λ h f. (n, new-at n hubs h new f))) ∙ e in cc);
    among = λ x s e. absurd (let no' : None ≡ Some s = sym (no-address x) ∙ e in cc);
    distinct = tt;
  };
  clients = λ x. subst (λ (o : Option Peer). ShowsClient o (start.links x)) (sym (none x)) refl;
}
  where
    no-address : (x : List ℕ) → addresses_of peers x ≡ None
    no-address x = ap (option_and_then (λ (p : Peer). p.address)) (none x)
