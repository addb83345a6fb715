-- What waits for the client is written, one after another.
use Rattle.std.proofs.Common.{◌≡◌, ◌∙◌, ◌<◌, ℕ, Option, Some, None, option_map, List, [], ◌∷◌, ◌++◌, length, drop}
use Rattle.std.proofs.Common.{slice_get, refl, sym, ap, subst, arith}
use Rattle.std.proofs.lemmas.List.{append-nil, append_assoc}
use Rattle.std.specs.Io.KnownBytes.{Appends}
use Rattle.cf_protocol.specs.Codes.{close_code_of}
use Rattle.cf_protocol.specs.declared.codes.CloseCode.{CloseCode}
use Rattle.cf_queue.specs.OutQueue.{Item, Close}
use Rattle.cf_hub.specs.Hub.{Node, attached_at, moves}
use Rattle.cf_hub.specs.Session.{Attached}
use Rattle.cf_model.specs.Sessions.{takes_front}
use Rattle.cf_speak.specs.Conversation.{Leaves, Takes, left_at, line_of, lines_of, takes_at}
use Rattle.cf_speak.specs.Scene.{Scene, close_of, member, member_in, notes_in, waits}
use Rattle.cf_speak.proofs.Turns.{adds_lines, adds_none}

pub record Written (s m : Scene) (old new : Option (List ℕ)) : Type 0 where
  pub said : List Item
  pub cut : notes_in (member s) ≡ said ++ notes_in (member m)
  pub adds : Appends old new (lines_of said)
  pub leaves : Leaves (notes_in (member m)) s m

left_all : (x : Option Attached) → x ≡ option_map (moves (λ a. record a { notes = notes_in x })) x
left_all None = refl
left_all (Some a) = refl

left_first : (n : Option ℕ) (h : Node) → left_at n (notes_in (member_in h n)) h h
left_first None h = refl
left_first (Some k) h = (left_all (attached_at h k), λ j other. refl)

pub written_first : (s : Scene) (old : Option (List ℕ)) → Written s s old old
written_first s old =
    record {
      said = [];
      cut = refl;
      adds = adds_none old;
      leaves = record { hub = left_first s.number s.hub; rest = refl };
    }

notes_taken : (y z : Option Attached) → z ≡ option_map (moves takes_front) y → notes_in z ≡ drop 1 (notes_in y)
notes_taken None z e = ap notes_in e
notes_taken (Some a) z e = ap notes_in e

notes_next : (n : Option ℕ) (h k : Node) → takes_at n h k → notes_in (member_in k n) ≡ drop 1 (notes_in (member_in h n))
notes_next None h k e = refl
notes_next (Some i) h k one = notes_taken (attached_at h i) (attached_at k i) one.here

left_step : (x y z : Option Attached) (items : List Item)
    → y ≡ option_map (moves (λ a. record a { notes = items })) x → z ≡ option_map (moves takes_front) y
    → z ≡ option_map (moves (λ a. record a { notes = notes_in z })) x
left_step None y z items e f = f ∙ ap (option_map (moves takes_front)) e
left_step (Some a) y z items e f =
    subst (λ (u : Option Attached). u ≡ option_map (moves (λ b. record b { notes = notes_in u })) (Some a))
    (sym (f ∙ ap (option_map (moves takes_front)) e)) refl

left_next : (n : Option ℕ) (g h k : Node) (items : List Item) → left_at n items g h → takes_at n h k
    → left_at n (notes_in (member_in k n)) g k
left_next None g h k items l t = t ∙ l
left_next (Some i) g h k items l t = (
  left_step (attached_at g i) (attached_at h i) (attached_at k i) items l.0 t.here,
  λ j other. t.others j other ∙ l.1 j other,
)

same_number : (s m : Scene) → Takes s m → m.number ≡ s.number
same_number s m t = ap (λ (x : Scene). x.number) t.rest

taken : (s m : Scene) → Takes s m → notes_in (member m) ≡ drop 1 (notes_in (member s))
taken s m t = ap (λ n. notes_in (member_in m.hub n)) (same_number s m t) ∙ notes_next s.number s.hub m.hub t.hub

leaves_next : (s mid m : Scene) (items : List Item) → Leaves items s mid → Takes mid m
    → Leaves (notes_in (member m)) s m
leaves_next s mid m items l t =
    let first : mid.number ≡ s.number = ap (λ (x : Scene). x.number) l.rest in
    let next : takes_at s.number mid.hub m.hub = subst (λ n. takes_at n mid.hub m.hub) first t.hub in
    let all : m.number ≡ s.number = same_number mid m t ∙ first in
    record {
      hub = subst (λ n. left_at s.number (notes_in (member_in m.hub n)) s.hub m.hub) (sym all)
          (left_next s.number s.hub mid.hub m.hub items l.hub next);
      rest = t.rest ∙ ap (λ (x : Scene). record x { hub = m.hub }) l.rest;
    }

front_of : (xs : List Item) (x : Item) → Some x ≡ slice_get xs 0 → xs ≡ x ∷ drop 1 xs
front_of [] x e = absurd (cc (e))
front_of (y ∷ ys) x e = cc (e)

pub written_more : (s mid m : Scene) (old now new : Option (List ℕ)) (out : Item)
    → Written s mid old now → Some out ≡ slice_get (notes_in (member mid)) 0 → Takes mid m
    → Appends now new (line_of out) → Written s m old new
written_more s mid m old now new out w front t adds =
    let cut : notes_in (member mid) ≡ out ∷ notes_in (member m) =
    front_of (notes_in (member mid)) out front ∙ ap (λ xs. out ∷ xs) (sym (taken mid m t)) in
    record {
      said = w.said ++ out ∷ [];
      cut = w.cut ∙ ap (λ xs. w.said ++ xs) cut ∙ sym (append_assoc w.said (out ∷ []) (notes_in (member m)));
      adds = adds_lines old now new w.said (out ∷ []) w.adds
          (subst (Appends now new) (sym (append-nil (line_of out))) adds);
      leaves = leaves_next s mid m (notes_in (member mid)) w.leaves t;
    }

pub fewer : (mid m : Scene) (out : Item) → Some out ≡ slice_get (notes_in (member mid)) 0 → Takes mid m
    → length (notes_in (member m)) < length (notes_in (member mid))
fewer mid m out front t =
    let cut : length (notes_in (member mid)) ≡ length (out ∷ notes_in (member m)) =
    ap length (front_of (notes_in (member mid)) out front ∙ ap (λ xs. out ∷ xs) (sym (taken mid m t))) in
    omega (arith, cut)

no_front : (xs : List Item) → None ≡ slice_get xs 0 → xs ≡ []
no_front [] e = refl
no_front (x ∷ xs) e = absurd (cc (e))

-- nothing waits any more
pub all_left : (s mid m : Scene) (old now : Option (List ℕ))
    → Written s mid old now → None ≡ slice_get (notes_in (member mid)) 0 → Takes mid m → Leaves [] s m
all_left s mid m old now w end t =
    subst (λ xs. Leaves xs s m) (taken mid m t ∙ ap (drop 1) (no_front (notes_in (member mid)) end))
    (leaves_next s mid m (notes_in (member mid)) w.leaves t)

pub all_written : (s mid : Scene) (old now : Option (List ℕ))
    → Written s mid old now → None ≡ slice_get (notes_in (member mid)) 0
    → Appends old now (lines_of (notes_in (member s)))
all_written s mid old now w end =
    subst (λ xs. Appends old now (lines_of xs)) (sym
    (w.cut ∙ ap (λ xs. w.said ++ xs) (no_front (notes_in (member mid)) end) ∙ append-nil w.said)) w.adds

pub close_written : (s : Scene) (away : Option CloseCode) (old now : Option (List ℕ))
    → s.turned_away ≡ away → away ≡ None → Appends old now (lines_of (notes_in (member s)))
    → Appends old now (lines_of (waits s))
close_written s away old now e none h =
    subst (λ c. Appends old now (lines_of (notes_in (member s) ++ close_of c))) (sym (e ∙ none))
    (subst (λ xs. Appends old now (lines_of xs)) (sym (append-nil (notes_in (member s)))) h)

pub then_close_written : (s : Scene) (code : CloseCode) (old now new : Option (List ℕ))
    → s.turned_away ≡ Some code → Appends old now (lines_of (notes_in (member s)))
    → Appends now new (line_of (Close (close_code_of code)))
    → Appends old new (lines_of (waits s))
then_close_written s code old now new e h k =
    subst (λ c. Appends old new (lines_of (notes_in (member s) ++ close_of c))) (sym e)
    (adds_lines old now new (notes_in (member s)) (Close (close_code_of code) ∷ []) h
    (subst (Appends now new) (sym (append-nil (line_of (Close (close_code_of code))))) k))
