-- Each move, and each call of the hub, keeps what a session says.
use Rattle.std.proofs.Common.{◌≡◌, ◌⊎◌, inl, inr, ℕ, ◌≤◌, Bool, true, false, Option, Some, None, option_map, List, []}
use Rattle.std.proofs.Common.{◌∷◌, length, arith, refl, sym, ◌∙◌, subst, ◌||◌}
use Rattle.cf_protocol.specs.Datum.{Placed}
use Rattle.cf_protocol.specs.Note.{Lists, Note, Reading}
use Rattle.cf_protocol.specs.Note as note
use Rattle.cf_protocol.specs.Position.{Position}
use Rattle.cf_queue.specs.OutQueue.{Close}
use Rattle.cf_model.specs.Recovery.{arrives}
use Rattle.cf_recovery.specs.ArrivalBuffer.{Arrival, IsWithin, ArrivalBuffer, StandsFor, places, with_arrival}
use Rattle.cf_model.specs.Recovery.{falls_short, run_length}
use Rattle.cf_hub.specs.AlikeMoves.{AreAlike, CallsAreAlike, GoesOn, MovesAreAlike, Notes, Texts}
use Rattle.cf_hub.specs.Finish.{FinishesAt}
use Rattle.cf_hub.specs.Hub.{Delivers, InState, Meets, Node, attached_at, counted, is_in, moves, one_if, sub_at}
use Rattle.cf_hub.specs.InNotes.{IsKept, IsListed, SaysAt, SaysNote, SaysSession}
use Rattle.cf_hub.specs.Rows.{sub_in}
use Rattle.cf_hub.specs.Session.{Attached}
use Rattle.cf_model.specs.Sessions.{comes, finishes, opens}
use Rattle.cf_model.specs.Sessions.{spoken}
use Rattle.cf_hub.specs.WantOfMemory.{Both, OrCloses, Serves}
use Rattle.cf_hub.specs.Wordings.{at_offset, delivering, plain, reading}
use Rattle.cf_hub.proofs.Alikes.{begins_alike, checks_alike, closes_now_alike, comes_alike, leaves_alike, opens_alike}
use Rattle.cf_hub.proofs.Alikes.{push_alike, reads_alike, takes_alike}
use Rattle.cf_hub.proofs.InNotes.{finish_alike, keeps_nothing, keeps_one, keeps_read, says_end, says_place, weighs}

module _
    (within : (a : Arrival) (k : ArrivalBuffer) → IsWithin k → IsWithin (with_arrival a k))
    (stands : (a : Arrival) (k : ArrivalBuffer) (arrived : List Position) → StandsFor k arrived
    → StandsFor (with_arrival a k) (arrives a.at arrived))
    (run : (k : ArrivalBuffer) (arrived : List Position) (r : Reading) → IsWithin k → StandsFor k arrived
    → k.short ≡ false → run_length (places k.arrived) r ≡ run_length arrived r)
    (short : (k : ArrivalBuffer) (arrived : List Position) (r : Reading) → IsWithin k → StandsFor k arrived
    → k.short ≡ false → (k.overflow || falls_short (places k.arrived) r) ≡ falls_short arrived r)
    (lists : Lists) where
  pub moves_alike : MovesAreAlike lists
  moves_alike = record {
    opens = opens_alike (IsKept lists) (SaysNote lists);
    begins = λ c id since code a b h. begins_alike (IsKept lists) (SaysNote lists) plain (spoken lists) (weighs lists)
        refl c id since (keeps_nothing lists c id code) a b h;
    leaves = λ c a b h. leaves_alike (IsKept lists) (SaysNote lists) c a b h;
    reads = λ c r missed m a b h. reads_alike (IsKept lists) (SaysNote lists) (reading missed) (spoken lists)
        (weighs lists) refl c r (keeps_read lists c r missed m) a b h;
    comes = λ c e p l a b h. comes_alike (IsKept lists) (SaysNote lists) (delivering p) (spoken lists) (weighs lists)
        refl c (at_offset e p) (says_place lists c e p l) (says_end lists c) (keeps_one within stands lists c e p l) a b
        h;
    finishes = λ c a new b h f. finish_alike run short lists c a new b f h;
    checks = λ c top a b h. checks_alike (IsKept lists) (SaysNote lists) plain (spoken lists) (weighs lists) refl c top
        (says_end lists c) a b h;
    says = λ i n s a b h. push_alike (IsKept lists) (SaysNote lists) plain (spoken lists) (weighs lists) refl i n a b s
        h;
    closes = λ code a b h. closes_now_alike (IsKept lists) (SaysNote lists) (Close code) (note.Close code) a b refl h;
    takes = λ a b h. takes_alike (IsKept lists) (SaysNote lists) a b h;
  }

-- ---- calls of the hub

none_counted : (n m : ℕ) → counted n m ≡ 0 → n ≡ 0
none_counted n m h = grind (arith, h)

none_hit : (t : Bool) (m : ℕ) → counted (one_if t) m ≡ 0 → t ≡ false
none_hit true m h = absurd (let one : 1 ≡ 0 = none_counted 1 m h in omega arith)
none_hit false m h = refl

nobody_hit : (hit : List ℕ) → length hit ≤ 0 → (k : ℕ) → is_in k hit ≡ false
nobody_hit [] h k = refl
nobody_hit (j ∷ hit) h k = absurd (omega arith)

not_true : {t : Bool} {X : Type 0} → t ≡ false → t ≡ true → X
not_true h k = absurd (cc)

-- where memory was refused it is another thing
served : {X P : Type 0} (t : Bool) → t ≡ false → (X ⊎ ((t ≡ true) × P)) → X
served t h (inl x) = x
served t h (inr x) = not_true h x.0

module _ (lists : Lists) (all : MovesAreAlike lists) where
  one_by : (f : Texts → Texts) (g : Notes → Notes) → AreAlike lists f g → (x y : Option Attached) (b : Notes)
      → y ≡ option_map (moves f) x → SaysAt lists x b → SaysAt lists y (g b)
  one_by f g alike None y b e h = absurd h
  one_by f g alike (Some a) y b e h = subst (λ (z : Option Attached). SaysAt lists z (g b)) (sym e) (alike a.state b h)

  met_by : (R : Texts → Texts → Type 0) (g : Notes → Notes) (x y : Option Attached)
      → ((a new : Attached) (b : Notes) → x ≡ Some a → R a.state new.state → SaysSession lists a.state b
      → SaysSession lists new.state (g b))
      → Both (InState R) x y → (b : Notes) → SaysAt lists x b → SaysAt lists y (g b)
  met_by R g None y to both b h = absurd h
  met_by R g (Some a) None to both b h = absurd both
  met_by R g (Some a) (Some new) to both b h = to a new b refl both.0 h

  become : (f : Texts → Texts) (g : Notes → Notes) → AreAlike lists f g → (a new : Texts) (b : Notes) → new ≡ f a
      → SaysSession lists a b → SaysSession lists new (g b)
  become f g alike a new b e h = subst (λ (s : Texts). SaysSession lists s (g b)) (sym e) (alike a b h)

  delivered : (c e : List ℕ) (p : Placed) (old new : Node) → IsListed lists c e p → Delivers c e p old new
      → new.refused ≡ 0 → (k : ℕ) → GoesOn lists k (comes (spoken lists) c (at_offset e p)) old new
  delivered c e p old new l d none k b h =
      let no_requests : d.requests ≡ 0 = none_counted d.requests old.refused (sym d.count ∙ none) in
      let few : length d.hit ≤ 0 = subst (λ n. length d.hit ≤ n) no_requests d.few_hit in
      met_by (Serves (is_in k d.hit) (delivering p) c (comes (delivering p) c (at_offset e p)))
      (comes (spoken lists) c (at_offset e p)) (attached_at old k) (attached_at new k)
      (λ a to b is r s. become (comes (delivering p) c (at_offset e p)) (comes (spoken lists) c (at_offset e p))
      (all.comes c e p l) a.state to.state b (served (is_in k d.hit) (nobody_hit d.hit few k) r) s)
      (d.each k) b h

  finished : (k : ℕ) (c : List ℕ) (old new : Node) → Meets k (λ hit. FinishesAt hit c (sub_at old k c)) old new
      → new.refused ≡ 0 → GoesOn lists k (finishes (spoken lists) c) old new
  finished k c old new m none b h =
      met_by (FinishesAt m.hit c (sub_at old k c)) (finishes (spoken lists) c) (attached_at old k) (attached_at new k)
      (λ a to b is r s. all.finishes c a.state to.state b s
      (subst (λ (t : Bool). FinishesAt t c (a.state.subs c) a.state to.state)
      (none_hit m.hit old.refused (sym m.count ∙ none))
      (subst (λ (z : Option Attached). FinishesAt m.hit c (sub_in z c) a.state to.state) is r)))
      m.here b h

  met : (k : ℕ) (f : Texts → Texts) (g : Notes → Notes) (old new : Node) → AreAlike lists f g
      → Meets k (λ hit. OrCloses hit plain f) old new → new.refused ≡ 0 → GoesOn lists k g old new
  met k f g old new alike m none b h =
      met_by (OrCloses m.hit plain f) g (attached_at old k) (attached_at new k)
      (λ a to b is r s. become f g alike a.state to.state b
      (served m.hit (none_hit m.hit old.refused (sym m.count ∙ none)) r) s) m.here b h

  pub calls_alike : CallsAreAlike lists
  calls_alike = record {
    attaches = λ k now user old new o. subst (λ (z : Option Attached). SaysAt lists z opens) (sym o.here) all.opens;
    one = λ k f g old new alike o b h. one_by f g alike (attached_at old k) (attached_at new k) b o.here h;
    delivers = delivered;
    finishes = finished;
    meets = met;
    others = λ k j old new o ne b h. subst (λ (z : Option Attached). SaysAt lists z b) (sym (o j ne)) h;
  }
