-- A client's link, and where its session sits, go on beside the machine; names and numbers of clients.
use Rattle.std.proofs.Common.{◌≡◌, ◌≢◌, inl, inr, ℕ, ◌+◌, ◌≤◌, ◌==◌, ◌||◌, Bool, true, false, if◌then◌else◌}
use Rattle.std.proofs.Common.{is_some, Option, Some, None, option_map, List, [], ◌∷◌, ◌++◌, length, length-append}
use Rattle.std.proofs.Common.{decimal, arith, refl, sym, ap, ◌∙◌, subst}
use Rattle.std.specs.Str.{bytes_eq}
use Rattle.std.proofs.Math.Bool.{or-true}
use Rattle.std.proofs.lemmas.Bool.{cases_lt, eq-eqb, ne_eqb}
use Rattle.std.proofs.lemmas.Bool.Decides.{eqb_tells}
use Rattle.std.proofs.lemmas.Option.{none-some, same_Some}
use Rattle.cf_protocol.specs.Datum.{Placed}
use Rattle.cf_protocol.specs.Names.{with, is_among, and_also}
use Rattle.cf_protocol.specs.Note.{Lists}
use Rattle.cf_protocol.specs.Position.{Position}
use Rattle.cf_protocol.specs.Settings.{NamespaceTable}
use Rattle.cf_hub.specs.Alike.{AlikeSub}
use Rattle.cf_hub.specs.AlikeMoves.{Texts}
use Rattle.cf_hub.specs.Hub.{Delivers, InState, Meets, Node, One, OthersStay}
use Rattle.cf_hub.specs.Hub.{attached_at, empty, is_in, moves}
use Rattle.cf_hub.specs.InNotes.{IsKept, SaysAt}
use Rattle.cf_hub.specs.Session.{Attached}
use Rattle.cf_model.specs.Sessions.{Subscription, Off, Asked, Ready, On, begins, comes, is_off, leaves}
use Rattle.cf_hub.specs.WantOfMemory.{Both, Serves}
use Rattle.cf_hub.specs.Wordings.{Held, at_offset, delivering}
use Rattle.cf_machine.specs.ClientLink.{ClientLink, with_session}
use Rattle.cf_machine.specs.FreshEpochs.{AreDistinct}
use Rattle.cf_machine.specs.IntervalMachine.{client_id as machine_id}
use Rattle.cf_machine.specs.Session.{Session, Sub, Words}
use Rattle.cf_machine.specs.World.{with_at}
use Rattle.cf_world.specs.NodesTie.{IsAtAddress, IsShutOff, MayAsk, name_of}
use Rattle.cf_world.specs.declared.clients.SessionAddress.{SessionAddress}
use Rattle.cf_world.proofs.Ends.{Keeps}
use Rattle.cf_machine.proofs.Names.{itself, text_tells, with-all}

-- a client id is no empty text
pub id_there : (n boot counter : ℕ) → 1 ≤ length (machine_id n boot counter)
id_there n boot counter = rw (length-append (decimal n) (45 ∷ (decimal boot ++ (45 ∷ decimal counter)))) (omega arith)

abbrev pub address_of : ℕ → ℕ → SessionAddress
address_of n k = record { node = n; session = k }

pub addresses_are : (o s : SessionAddress) → o.node ≡ s.node → o.session ≡ s.session → o ≡ s
addresses_are o s e f = λ i. record { node = e i; session = f i }

-- ---- names and numbers

pub last_but : (u v w : ℕ) → v ≡ u + 1 → u ≤ w → u ≢ w → v ≤ w
last_but u v w e f ne = elim (cases_lt u w) [
  | inl l ↦ omega (arith, e, l)
  | inr g ↦ absurd (ne (omega (arith, f, g)))
]

pub with_at_here : (f : ℕ → ℕ) (n v : ℕ) → with_at f n v n ≡ v
with_at_here f n v = ap (λ (b : Bool). if b then v else f n) (eq-eqb n n refl)

pub with_at_other : (f : ℕ → ℕ) (n v j : ℕ) → j ≢ n → with_at f n v j ≡ f j
with_at_other f n v j ne = ap (λ (b : Bool). if b then v else f j) (ne_eqb j n ne)

pub also_there : (x : List ℕ) (xs : List (List ℕ)) → is_among x (and_also x xs) ≡ true
also_there x xs = by_value (is_among x xs) refl
  where
    by_value : (b : Bool) → is_among x xs ≡ b → is_among x (if b then xs else x ∷ xs) ≡ true
    by_value true e = e
    by_value false e = ap (λ (c : Bool). c || is_among x xs) (itself x)

pub also_more : (x : List ℕ) (xs : List (List ℕ)) (y : List ℕ) → is_among y xs ≡ true → is_among y (and_also x xs) ≡ true
also_more x xs y h = by_value (is_among x xs)
  where
    by_value : (b : Bool) → is_among y (if b then xs else x ∷ xs) ≡ true
    by_value true = h
    by_value false = ap (λ (c : Bool). bytes_eq x y || c) h ∙ or-true (bytes_eq x y)

pub also_distinct : (x : List ℕ) (xs : List (List ℕ)) → AreDistinct xs → AreDistinct (and_also x xs)
also_distinct x xs h = by_value (is_among x xs) refl
  where
    by_value : (b : Bool) → is_among x xs ≡ b → AreDistinct (if b then xs else x ∷ xs)
    by_value true e = h
    by_value false e = (e, h)

pub nobody : (lists : Lists) (o : Option Attached) → o ≡ None → (b : Session) → SaysAt lists o b → ⊥
nobody lists o e b h = subst (λ (v : Option Attached). SaysAt lists v b) e h

-- where a client of node n sits, by number
abbrev pub number_at : ℕ → Option SessionAddress → Option ℕ
number_at n None = None
number_at n (Some s) = if s.node == n then Some s.session else None

pub number_is : (n : ℕ) (v : Option SessionAddress) (k : ℕ) → number_at n v ≡ Some k
    → v ≡ Some (record { node = n; session = k })
number_is n None k e = absurd (none-some k e)
number_is n (Some s) k e = elim (eqb_tells s.node n) [
  | inl p ↦ ap Some (addresses_are s (record { node = n; session = k }) p.1
      (same_Some s.session k (sym (ap (λ (b : Bool). if b then Some s.session else None) p.0) ∙ e)))
  | inr p ↦ absurd (none-some k (sym (ap (λ (b : Bool). if b then Some s.session else None) p.0) ∙ e))
]

-- ---- calls of one hub leave names, and who is there

module _ {k : ℕ} {old new : Node} where
  pub one_name : {f : Texts → Texts} → One k f old new → name_of (attached_at new k) ≡ name_of (attached_at old k)
  one_name {f = f} o = ap name_of o.here ∙ same (attached_at old k)
    where
      same : (x : Option Attached) → name_of (option_map (moves f) x) ≡ name_of x
      same None = refl
      same (Some a) = refl

pub both_name : (R : Texts → Texts → Type 0) (x y : Option Attached) → Both (InState R) x y → name_of y ≡ name_of x
both_name R None None h = refl
both_name R None (Some b) h = absurd h
both_name R (Some a) None h = absurd h
both_name R (Some a) (Some b) h = ap (λ z. Some z.client) h.1

pub name_there : (x y : Option Attached) → name_of y ≡ name_of x → is_some y ≡ is_some x
name_there None None h = refl
name_there None (Some b) h = absurd (cc)
name_there (Some a) None h = absurd (cc)
name_there (Some a) (Some b) h = refl

pub met_name : {k : ℕ} {R : Bool → Texts → Texts → Type 0} {old new : Node} → Meets k R old new
    → name_of (attached_at new k) ≡ name_of (attached_at old k)
met_name {k = k} {R = R} {old = old} {new = new} m = both_name (R m.hit) (attached_at old k) (attached_at new k) m.here

pub delivered_name : {c e : List ℕ} {p : Placed} {old new : Node} → Delivers c e p old new → (k : ℕ)
    → name_of (attached_at new k) ≡ name_of (attached_at old k)
delivered_name {c = c} {e = e} {p = p} {old = old} {new = new} d k =
    both_name (Serves (is_in k d.hit) (delivering p) c (comes (delivering p) c (at_offset e p))) (attached_at old k)
    (attached_at new k) (d.each k)

-- the same names everywhere
pub names_by : (k : ℕ) (old new : Node) → name_of (attached_at new k) ≡ name_of (attached_at old k)
    → OthersStay k old new → (j : ℕ) → name_of (attached_at new j) ≡ name_of (attached_at old j)
names_by k old new h others j = elim (eqb_tells j k) [
  | inl e ↦ subst (λ (i : ℕ). name_of (attached_at new i) ≡ name_of (attached_at old i)) (sym e.1) h
  | inr e ↦ ap name_of (others j e.1)
]

-- ---- a link that goes on

-- but for its session the link stays
pub record LinkGoes (table : NamespaceTable) (old new : ClientLink) : Type 0 where
  pub node : new.node ≡ old.node
  pub name : new.name ≡ old.name
  pub way : new.way ≡ []
  pub up : new.up ≡ []
  pub once : AreDistinct new.channels
  pub listed : (c : List ℕ) → is_off (new.session.subs c) ≡ false → is_among c new.channels ≡ true
  pub shut : IsShutOff new.session
  pub served : (c : List ℕ) → is_off (new.session.subs c) ≡ false → MayAsk table c

-- a session of it that begins nothing
pub session_moves : {table : NamespaceTable} {lists : Lists} {o : Option Attached} {n : ℕ} {l : ClientLink}
    → IsAtAddress table lists o n l → (g : Session → Session) → Keeps g
    → LinkGoes table l (with_session (g l.session) l)
session_moves {l = l} s g keeps = record {
  node = refl;
  name = refl;
  way = s.way;
  up = s.up;
  once = s.once;
  listed = λ c h. s.listed c (keeps.ends l.session c h);
  shut = keeps.shut l.session s.shut;
  served = λ c h. s.served c (keeps.ends l.session c h);
}

-- a link whose session does the same, with whatever else of the client
pub link_goes : {table : NamespaceTable} {lists : Lists} {o : Option Attached} {n : ℕ} {l : ClientLink}
    → IsAtAddress table lists o n l → (l' : ClientLink) → l'.node ≡ l.node → l'.name ≡ l.name → l'.way ≡ [] → l'.up ≡ []
    → l'.channels ≡ l.channels → (g : Session → Session) → Keeps g → l'.session ≡ g l.session → LinkGoes table l l'
link_goes {l = l} s l' node name way up channels g keeps session = record {
  node = node;
  name = name;
  way = way;
  up = up;
  once = subst AreDistinct (sym channels) s.once;
  listed = λ c h. ap (is_among c) channels ∙ s.listed c
      (keeps.ends l.session c (ap (λ (b : Session). is_off (b.subs c)) (sym session) ∙ h));
  shut = subst IsShutOff (sym session) (keeps.shut l.session s.shut);
  served = λ c h. s.served c (keeps.ends l.session c (ap (λ (b : Session). is_off (b.subs c)) (sym session) ∙ h));
}

-- a link whose session asks for a channel
pub link_asks : {table : NamespaceTable} {lists : Lists} {o : Option Attached} {n : ℕ} {l : ClientLink}
    → IsAtAddress table lists o n l → (l' : ClientLink) → l'.node ≡ l.node → l'.name ≡ l.name → l'.way ≡ [] → l'.up ≡ []
    → (w : Words) (c : List ℕ) (id : ℕ) (since : Option Position) → l'.channels ≡ and_also c l.channels
    → l'.session ≡ begins w c id since l.session → l.session.closed ≡ false → MayAsk table c → LinkGoes table l l'
link_asks {table = table} {l = l} s l' node name way up w c id since channels session is_open set_up = record {
  node = node;
  name = name;
  way = way;
  up = up;
  once = subst AreDistinct (sym channels) (also_distinct c l.channels s.once);
  listed = λ d h. ap (is_among d) channels ∙ listed d (ap (λ (b : Session). is_off (b.subs d)) (sym session) ∙ h);
  shut = λ e d. absurd (let no : false ≡ true = sym is_open ∙ ap (λ (b : Session). b.closed) (sym session) ∙ e in cc);
  served = λ d h. served d (ap (λ (b : Session). is_off (b.subs d)) (sym session) ∙ h);
}
  where
    listed : (d : List ℕ) → is_off ((begins w c id since l.session).subs d) ≡ false
        → is_among d (and_also c l.channels) ≡ true
    listed d h = elim (text_tells d c) [
      | inl p ↦ subst (λ (z : List ℕ). is_among z (and_also c l.channels) ≡ true) (sym p.1) (also_there c l.channels)
      | inr p ↦ also_more c l.channels d (s.listed d
          (sym (ap (λ (b : Bool). is_off (if b then Asked id since w.empty else l.session.subs d)) p.0) ∙ h))
    ]

    served : (d : List ℕ) → is_off ((begins w c id since l.session).subs d) ≡ false → MayAsk table d
    served d h = elim (text_tells d c) [
      | inl p ↦ subst (λ (z : List ℕ). MayAsk table z) (sym p.1) set_up
      | inr p ↦ s.served d (sym (ap (λ (b : Bool). is_off (if b then Asked id since w.empty else l.session.subs d)) p.0)
          ∙ h)
    ]

pub at_address_goes : {table : NamespaceTable} {lists : Lists} {o o' : Option Attached} {n : ℕ} {l l' : ClientLink}
    → IsAtAddress table lists o n l → LinkGoes table l l' → name_of o' ≡ name_of o → SaysAt lists o' l'.session
    → IsAtAddress table lists o' n l'
at_address_goes s g name says = record {
  at = g.node ∙ s.at;
  name = name ∙ s.name ∙ ap Some (sym g.name);
  named = subst (λ (z : List ℕ). 1 ≤ length z) (sym g.name) s.named;
  says = says;
  way = g.way;
  up = g.up;
  once = g.once;
  listed = g.listed;
  shut = g.shut;
  served = g.served;
}

-- a channel that is off is left
pub leaves_off : (lists : Lists) (o : Option Attached) (b : Session) (c : List ℕ) → is_off (b.subs c) ≡ true
    → SaysAt lists o b → SaysAt lists o (leaves c b)
leaves_off lists None b c e h = absurd h
leaves_off lists (Some a) b c e h = record {
  subs = λ d. with-all (λ i s. AlikeSub (IsKept lists i) (a.state.subs i) s) b.subs c Off
      (off (a.state.subs c) (b.subs c) e (h.subs c)) (λ i ne. h.subs i) d;
  notes = h.notes;
  closed = h.closed;
}
  where
    off : (s : Subscription Held) (s' : Sub) → is_off s' ≡ true → AlikeSub (IsKept lists c) s s'
        → AlikeSub (IsKept lists c) s Off
    off s Off f g = g
    off s (Asked id since k) f g = absurd (cc)
    off s (Ready id was r k) f g = absurd (cc)
    off s (On p behind_at) f g = absurd (cc)

pub at_address_stays : {table : NamespaceTable} {lists : Lists} {o o' : Option Attached} {n : ℕ} {l : ClientLink} → o' ≡ o
    → IsAtAddress table lists o n l → IsAtAddress table lists o' n l
at_address_stays {table = table} {lists = lists} {n = n} {l = l} e s =
    subst (λ (z : Option Attached). IsAtAddress table lists z n l) (sym e) s
