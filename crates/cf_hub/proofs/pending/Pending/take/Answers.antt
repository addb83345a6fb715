-- The front number has its flag, so it is within, and to clear the flag keeps that flags and numbers agree.
use Rattle.std.proofs.Common.{rules, arith, ◌≡◌, ◌∷◌, false, slice_set, sym, subst, List, ℕ}
use Rattle.std.specs.VecDeque.{deque_capacity}
use Rattle.cf_hub.specs.Flags.{AreFlagged}
use Rattle.cf_hub.proofs.Flags.{in_flags, taken}
use Rattle.cf_hub.proofs.pending.Pending.take.Goals as goal

pub index_mut-requires : goal.index_mut-requires
index_mut-requires c =
    let front : c.self.inside.numbers.items ≡ c.in-Some.number ∷ c.pop_front-first.new.self.items = search rules in
    let inside =
    in_flags c.in-Some.number c.pop_front-first.new.self.items c.self.inside.is_pending.items
    (deque_capacity c.self.inside.numbers)
    (subst (λ (ns : List ℕ). AreFlagged ns c.self.inside.is_pending.items (deque_capacity c.self.inside.numbers)) front
    c.self.invariant) in
    omega (arith, inside)

pub invariant_of-self : goal.invariant_of-self
invariant_of-self c =
    let front : c.self.inside.numbers.items ≡ c.in-Some.number ∷ c.pop_front-first.new.self.items = search rules in
    subst (λ (n : ℕ). AreFlagged c.pop_front-first.new.self.items
    (slice_set c.self.inside.is_pending.items c.in-Some.number false) n) (sym c.pop_front-first.ensures.capacity)
    (taken c.in-Some.number c.pop_front-first.new.self.items c.self.inside.is_pending.items
    (deque_capacity c.self.inside.numbers)
    (subst (λ (ns : List ℕ). AreFlagged ns c.self.inside.is_pending.items (deque_capacity c.self.inside.numbers)) front
    c.self.invariant))
