-- What each call of a hub makes of sessions that speak of what is seen.
use Rattle.std.proofs.Common.{inl, inr, ◌≡◌, ◌≢◌, ◌⊎◌, ⊎_elim, ℕ, Bool, true, false, if◌then◌else◌, List, Option, Some}
use Rattle.std.proofs.Common.{None, refl, sym, subst, option_map, arith}
use mathlib.Core.Logic.{dite}
use native.Mathlib.Decide.{dec_le}
use Rattle.cf_protocol.specs.Datum.{Placed}
use Rattle.cf_protocol.specs.Note.{Lists, Note, PingDue, Reading}
use Rattle.cf_protocol.specs.Note as note
use Rattle.cf_protocol.specs.Position.{Position}
use Rattle.cf_protocol.specs.Regular.{IsCode}
use Rattle.cf_queue.specs.OutQueue.{Text, Close}
use Rattle.cf_hub.specs.AlikeMoves.{Notes, Texts}
use Rattle.cf_hub.specs.Finish.{FinishesAt}
use Rattle.cf_hub.specs.Hub.{Delivers, InState, Meets, Node, One, OthersStay, Opens, Pings, Ticks, attached_at, is_in}
use Rattle.cf_hub.specs.Hub.{moves, sub_at}
use Rattle.cf_hub.specs.InNotes.{AreMissed, Grown, IsListed, SaysNote}
use Rattle.cf_hub.specs.Rows.{sub_in}
use Rattle.cf_hub.specs.Session.{Attached, badge_ponged, is_ping_due, is_unanswered}
use Rattle.cf_hub.specs.WantOfMemory.{Both, OrCloses, Serves}
use Rattle.cf_hub.specs.Wordings.{at_offset, delivering, ping_text, plain, reading}
use Rattle.cf_hub.proofs.InNotes.{says_ping}
use Rattle.cf_model.specs.Sessions.{begins, checks, closes_now, comes, leaves, no_pong, opens, push, reads, takes_front}
use Rattle.cf_model.specs.Sessions.{spoken}
use Rattle.cf_order.specs.Passes.{PassState}
use Rattle.cf_hub_moves.specs.HubAsides.{FinishesAmong, MovesAmong, MovesOrCloses, SaysAmong}
use Rattle.cf_node_hub.specs.Seen.{SeesOn, seen_lists}
use Rattle.cf_node_hub.specs.Told.{SaysSome, SpeaksOf}
use Rattle.cf_hub_moves.proofs.AmongGrows.{among-grows}
use Rattle.cf_node_hub.proofs.Seen.{seen-grows, sound-before}

pub is-same : (j k : ℕ) → (j ≡ k) ⊎ (j ≢ k)
is-same j k =
    dite (dec_le j k)
    (λ a. dite (dec_le k j) (λ b. inl (omega arith)) (λ not. inr (λ e. not (omega (arith, e)))))
    (λ not. inr (λ e. not (omega (arith, e))))

module _ (A : List ℕ → Type 0) where
  -- a state that says some notes
  abbrev pub Says : Lists → Texts → Type 0
  Says lists s = (b : Notes) × SaysAmong A lists s b

  some-grows : (old new : Lists) → Grown old new → (x : Option Attached) → SaysSome A old x → SaysSome A new x
  some-grows old new g None h = h
  some-grows old new g (Some a) h = (h.0, among-grows A old new g a.state h.0 h.1)

  -- what is seen grows
  pub speaks_on : (old new : List PassState) (node : Node) → SeesOn old new → SpeaksOf A old node → SpeaksOf A new node
  speaks_on old new node g h sound k =
      some-grows (seen_lists old) (seen_lists new) (seen-grows old new g) (attached_at node k)
      (h (sound-before old new g sound) k)

  module _ (lists : Lists) where
    -- a move keeps that a session says notes
    abbrev pub Keeps : (Texts → Texts) → Type 0
    Keeps f = (a : Texts) → Says lists a → Says lists (f a)

    moved : (f : Texts → Texts) → Keeps f → (x y : Option Attached) → y ≡ option_map (moves f) x → SaysSome A lists x
        → SaysSome A lists y
    moved f keep None y e h = subst (SaysSome A lists) (sym e) tt
    moved f keep (Some a) y e h = subst (SaysSome A lists) (sym e) (keep a.state h)

    met : (R : Texts → Texts → Type 0) → (x y : Option Attached)
        → ((a new : Attached) → x ≡ Some a → R a.state new.state → Says lists a.state → Says lists new.state)
        → Both (InState R) x y → SaysSome A lists x → SaysSome A lists y
    met R None None keep to h = tt
    met R None (Some new) keep to h = absurd to
    met R (Some a) None keep to h = absurd to
    met R (Some a) (Some new) keep to h = keep a new refl to.0 h

    either : (f : Notes → Notes) (new : Texts) (b : Notes) → MovesOrCloses A lists f new b → Says lists new
    either f new b h =
        ⊎_elim
        (λ (s : SaysAmong A lists new (f b)). (f b, s))
        (λ (s : (code : ℕ) × SaysAmong A lists new (f (closes_now (note.Close code) b))).
        (f (closes_now (note.Close s.0) b), s.1))
        h

    -- one session meets a call, and the others stay
    one-other : (k : ℕ) (old new : Node) → OthersStay k old new
        → (SaysSome A lists (attached_at old k) → SaysSome A lists (attached_at new k))
        → ((j : ℕ) → SaysSome A lists (attached_at old j)) → (j : ℕ) → SaysSome A lists (attached_at new j)
    one-other k old new others here h j =
        ⊎_elim
        (λ (same : j ≡ k). subst (λ (n : ℕ). SaysSome A lists (attached_at new n)) (sym same) (here (h k)))
        (λ (other : j ≢ k). subst (SaysSome A lists) (sym (others j other)) (h j))
        (is-same j k)

    pub one-says : (k : ℕ) (f : Texts → Texts) (old new : Node) → Keeps f → One k f old new
        → ((j : ℕ) → SaysSome A lists (attached_at old j)) → (j : ℕ) → SaysSome A lists (attached_at new j)
    one-says k f old new keep o h =
        one-other k old new o.others (moved f keep (attached_at old k) (attached_at new k) o.here) h

    pub delivers-says : (c e : List ℕ) (p : Placed) (old new : Node) → MovesAmong A lists → IsListed lists c e p
        → Delivers c e p old new
        → ((j : ℕ) → SaysSome A lists (attached_at old j)) → (j : ℕ) → SaysSome A lists (attached_at new j)
    delivers-says c e p old new all l d h k =
        met (Serves (is_in k d.hit) (delivering p) c (comes (delivering p) c (at_offset e p))) (attached_at old k)
        (attached_at new k)
        (λ a to is r s. either (comes (spoken lists) c (at_offset e p)) to.state s.0
        (all.delivers (is_in k d.hit) c e p a.state to.state s.0 l s.1 r))
        (d.each k) (h k)

    pub closes-keep : MovesAmong A lists → (code : ℕ) → Keeps (closes_now (Close code))
    closes-keep all code a s = (closes_now (note.Close code) s.0, all.closes code a s.0 s.1)

    pub leaves-keep : MovesAmong A lists → (c : List ℕ) → Keeps (leaves c)
    leaves-keep all c a s = (leaves c s.0, all.leaves c a s.0 s.1)

    pub takes-keep : MovesAmong A lists → Keeps takes_front
    takes-keep all a s =
        ⊎_elim
        (λ (t : SaysAmong A lists (takes_front a) (takes_front s.0)). (takes_front s.0, t))
        (λ (t : SaysAmong A lists (takes_front a) s.0). (s.0, t))
        (all.takes a s.0 s.1)

    pub begins-keep : MovesAmong A lists → (c : List ℕ) (id : ℕ) (since : Option Position) → IsCode id
        → Keeps (begins plain c id since)
    begins-keep all c id since code a s = (begins (spoken lists) c id since s.0, all.begins c id since code a s.0 s.1)

    pub reads-keep : MovesAmong A lists → (c : List ℕ) (r : Reading) (missed : List Placed) → AreMissed lists c r missed
        → Keeps (reads (reading missed) c r)
    reads-keep all c r missed m a s = (reads (spoken lists) c r s.0, all.reads c r missed m a s.0 s.1)

    finished : (c : List ℕ) (new : Texts) (b : Notes) → FinishesAmong A lists c new b → Says lists new
    finished c new b (inl h) = (_, h)
    finished c new b (inr (inl h)) = (_, h)
    finished c new b (inr (inr (inl h))) = (_, h.1.1)
    finished c new b (inr (inr (inr h))) = (_, h.1)

    pub finishes-says : (k : ℕ) (c : List ℕ) (old new : Node) → MovesAmong A lists
        → Meets k (λ hit. FinishesAt hit c (sub_at old k c)) old new
        → ((j : ℕ) → SaysSome A lists (attached_at old j)) → (j : ℕ) → SaysSome A lists (attached_at new j)
    finishes-says k c old new all m h =
        one-other k old new m.others
        (λ s. met (FinishesAt m.hit c (sub_at old k c)) (attached_at old k) (attached_at new k)
        (λ a to is r t. finished c to.state t.0 (all.finishes m.hit c a.state to.state t.0 t.1
        (subst (λ (z : Option Attached). FinishesAt m.hit c (sub_in z c) a.state to.state) is r)))
        m.here s)
        h

    pub meets-says : (k : ℕ) (f : Texts → Texts) (old new : Node)
        → ((hit : Bool) (a to : Texts) → OrCloses hit plain f a to → Says lists a → Says lists to)
        → Meets k (λ hit. OrCloses hit plain f) old new → ((j : ℕ) → SaysSome A lists (attached_at old j)) → (j : ℕ)
        → SaysSome A lists (attached_at new j)
    meets-says k f old new keep m h =
        one-other k old new m.others
        (λ s. met (OrCloses m.hit plain f) (attached_at old k) (attached_at new k)
        (λ a to is r t. keep m.hit a.state to.state r t) m.here s)
        h

    pub checks-keep : MovesAmong A lists → (c : List ℕ) (top : Option Position) (hit : Bool) (a to : Texts)
        → OrCloses hit plain (checks plain c top) a to → Says lists a → Says lists to
    checks-keep all c top hit a to r s =
        either (checks (spoken lists) c top) to s.0 (all.checks hit c top a to s.0 s.1 r)

    pub asides-keep : MovesAmong A lists → (t : List ℕ) → A t → (hit : Bool) (a to : Texts)
        → OrCloses hit plain (push plain (Text t)) a to → Says lists a → Says lists to
    asides-keep all t is hit a to r s = either (λ v. v) to s.0 (all.says_aside hit t a to s.0 is s.1 r)

    pub notes-keep : MovesAmong A lists → (t : List ℕ) (n : Note) → SaysNote lists (Text t) n
        → (hit : Bool) (a to : Texts) → OrCloses hit plain (push plain (Text t)) a to → Says lists a → Says lists to
    notes-keep all t n is hit a to r s =
        either (push (spoken lists) n) to s.0 (all.says hit (Text t) n a to s.0 is s.1 r)

    pub opens-says : MovesAmong A lists → (k now : ℕ) (user : List ℕ) (old new : Node) → Opens k user now old new
        → ((j : ℕ) → SaysSome A lists (attached_at old j)) → (j : ℕ) → SaysSome A lists (attached_at new j)
    opens-says all k now user old new o h =
        one-other k old new o.others (λ s. subst (SaysSome A lists) (sym o.here) (opens, all.opens)) h

    pub gone-says : (k : ℕ) (old new : Node) → attached_at new k ≡ None → OthersStay k old new
        → ((j : ℕ) → SaysSome A lists (attached_at old j)) → (j : ℕ) → SaysSome A lists (attached_at new j)
    gone-says k old new gone others h = one-other k old new others (λ s. subst (SaysSome A lists) (sym gone) tt) h

    -- a session is pinged, or closed where it didn't answer, or for want of memory
    pinged : MovesAmong A lists → (t u hit : Bool) (a to : Texts)
        → OrCloses hit plain (λ z. if t then closes_now (Close no_pong) z else if u then push plain (Text ping_text) z
        else z) a to → Says lists a → Says lists to
    pinged all true u hit a to (inl e) s = subst (Says lists) (sym e) (closes-keep all no_pong a s)
    pinged all false true hit a to (inl e) s = notes-keep all ping_text PingDue (says_ping lists) hit a to (inl e) s
    pinged all false false hit a to (inl e) s = subst (Says lists) (sym e) s
    pinged all t u hit a to (inr h) s = notes-keep all ping_text PingDue (says_ping lists) hit a to (inr h) s

    ticked : MovesAmong A lists → (now : ℕ) (hit : Bool) (x y : Option Attached) → Both (Pings hit now) x y
        → SaysSome A lists x → SaysSome A lists y
    ticked all now hit None None h s = tt
    ticked all now hit None (Some b) h s = absurd h
    ticked all now hit (Some a) None h s = absurd h
    ticked all now hit (Some a) (Some b) h s =
        pinged all (is_unanswered now a.badge) (is_ping_due now a.badge) hit a.state b.state h.0 s

    pub ticks-says : MovesAmong A lists → (now : ℕ) (old new : Node) → Ticks now old new
        → ((j : ℕ) → SaysSome A lists (attached_at old j)) → (j : ℕ) → SaysSome A lists (attached_at new j)
    ticks-says all now old new t h j =
        ticked all now (is_in j t.hit) (attached_at old j) (attached_at new j) (t.each j) (h j)

    -- a session's badge changes, and nothing that it says
    badged : (x : Option Attached) → SaysSome A lists x → SaysSome A lists (option_map badge_ponged x)
    badged None s = tt
    badged (Some a) s = s

    pub pongs-says : (k : ℕ) (old new : Node) → attached_at new k ≡ option_map badge_ponged (attached_at old k)
        → OthersStay k old new → ((j : ℕ) → SaysSome A lists (attached_at old j))
        → (j : ℕ) → SaysSome A lists (attached_at new j)
    pongs-says k old new here others h =
        one-other k old new others (λ s. subst (SaysSome A lists) (sym here) (badged (attached_at old k) s)) h
