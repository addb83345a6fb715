-- What waits for a client is taken, one after another.
use Rattle.std.proofs.Common.{◌≡◌, ◌≤◌, ◌+◌, ◌∙◌, ℕ, Option, Some, None, option_map, List, [], ◌∷◌, ◌++◌, drop, length}
use Rattle.std.proofs.Common.{map, slice_get, sum_by, refl, sym, ap, subst}
use Rattle.std.specs.Option.{option_and_then}
use Rattle.std.proofs.lemmas.List.{append-nil, append_assoc, map-append}
use Rattle.cf_queue.specs.Meaning.{meaning}
use Rattle.cf_queue.specs.OutQueue.{Item}
use Rattle.cf_queue.specs.declared.queue.Out.{Out}
use Rattle.cf_hub.specs.Hub.{Node, One, attached_at, moves, waits_in}
use Rattle.cf_hub.specs.Session.{Attached}
use Rattle.cf_model.specs.Sessions.{takes_front}
use Rattle.std.specs.VecDeque.{deque_capacity}
use Rattle.cf_dispatch.specs.Outlet.{Outs, Takes, bytes_in, left_with, waits_at}

left_all : (x : Option Attached) → x ≡ option_map (left_with (waits_in x)) x
left_all None = refl
left_all (Some a) = refl

-- nothing was taken
pub takes_none : (k : ℕ) (h : Node) (xs : List Out) → Takes k h h xs xs
takes_none k h xs = record {
  taken = [];
  gained = sym (append-nil xs);
  waited = refl;
  here = left_all (attached_at h k);
  others = λ j other. refl;
  turns = refl;
}

left_step : (x y z : Option Attached) (items : List Item) → y ≡ option_map (left_with items) x
    → z ≡ option_map (moves takes_front) y → z ≡ option_map (left_with (waits_in z)) x
left_step None y z items e f = f ∙ ap (option_map (moves takes_front)) e
left_step (Some a) y z items e f =
    subst (λ (u : Option Attached). u ≡ option_map (left_with (waits_in u)) (Some a))
    (sym (f ∙ ap (option_map (moves takes_front)) e)) refl

waits_next : (y z : Option Attached) → z ≡ option_map (moves takes_front) y → waits_in z ≡ drop 1 (waits_in y)
waits_next None z e = ap waits_in e
waits_next (Some a) z e = ap waits_in e

front_of : (y : Option Attached) (x : Option Item) → x ≡ option_and_then (λ (a : Attached). slice_get a.state.notes 0) y
    → x ≡ slice_get (waits_in y) 0
front_of None x e = e
front_of (Some a) x e = e

some_front : (xs : List Item) (x : Item) → Some x ≡ slice_get xs 0 → xs ≡ x ∷ drop 1 xs
some_front [] x e = absurd (cc (e))
some_front (y ∷ ys) x e = cc (e)

no_front : (xs : List Item) → None ≡ slice_get xs 0 → xs ≡ []
no_front [] e = refl
no_front (x ∷ xs) e = absurd (cc (e))

-- one more was taken
pub takes_more : (k : ℕ) (h m n : Node) (xs ys zs : List Out) (out : Out) → Takes k h m xs ys
    → Some (meaning out) ≡ option_and_then (λ (a : Attached). slice_get a.state.notes 0) (attached_at m k)
    → One k takes_front m n → n.turns ≡ m.turns → zs ≡ ys ++ out ∷ []
    → Takes k h n xs zs
takes_more k h m n xs ys zs out t front one turns gained =
    let next : waits_at n k ≡ drop 1 (waits_at m k) = waits_next (attached_at m k) (attached_at n k) one.here in
    let cut : waits_at m k ≡ meaning out ∷ waits_at n k =
    some_front (waits_at m k) (meaning out) (front_of (attached_at m k) (Some (meaning out)) front)
    ∙ ap (λ (l : List Item). meaning out ∷ l) (sym next) in
    record {
      taken = t.taken ++ out ∷ [];
      gained = gained ∙ (ap (λ (l : List Out). l ++ out ∷ []) t.gained ∙ append_assoc xs t.taken (out ∷ []));
      waited =
          t.waited ∙ (ap (λ (l : List Item). map meaning t.taken ++ l) cut
          ∙ (sym (append_assoc (map meaning t.taken) (meaning out ∷ []) (waits_at n k))
          ∙ ap (λ (l : List Item). l ++ waits_at n k) (sym (map-append meaning t.taken (out ∷ [])))));
      here = left_step (attached_at h k) (attached_at m k) (attached_at n k) (waits_at m k) t.here one.here;
      others = λ j other. one.others j other ∙ t.others j other;
      turns = turns ∙ t.turns;
    }

-- nothing was left to take
pub takes_all : (k : ℕ) (h m n : Node) (xs ys : List Out) → Takes k h m xs ys
    → None ≡ option_and_then (λ (a : Attached). slice_get a.state.notes 0) (attached_at m k) → One k takes_front m n
    → n.turns ≡ m.turns
    → Takes k h n xs ys × (waits_at n k ≡ [])
takes_all k h m n xs ys t front one turns =
    let none : waits_at m k ≡ [] = no_front (waits_at m k) (front_of (attached_at m k) None front) in
    let after : waits_at n k ≡ [] = waits_next (attached_at m k) (attached_at n k) one.here ∙ ap (drop 1) none in (
      record {
        taken = t.taken;
        gained = t.gained;
        waited = t.waited ∙ ap (λ (l : List Item). map meaning t.taken ++ l) (none ∙ sym after);
        here = left_step (attached_at h k) (attached_at m k) (attached_at n k) (waits_at m k) t.here one.here;
        others = λ j other. one.others j other ∙ t.others j other;
        turns = turns ∙ t.turns;
      },
      after,
    )

-- so many were taken by now, their texts have at least so many bytes, and the room isn't less
pub record TakesSoFar (k count bytes : ℕ) (old new : Node) (had has : Outs) : Type 0 where
  pub takes : Takes k old new had.items has.items
  pub counted : length had.items + count ≤ length has.items
  pub heavy : sum_by bytes_in had.items + bytes ≤ sum_by bytes_in has.items
  pub room : deque_capacity had ≤ deque_capacity has
