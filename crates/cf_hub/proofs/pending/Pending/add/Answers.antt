-- A number without its flag isn't in the queue, so to set the flag and to put it in keeps that flags and numbers agree.
use Rattle.std.proofs.Common.{rules, arith, ◌≡◌, ◌<◌, length, true, false, slice_set, sym, subst, List, ℕ}
use Rattle.std.specs.VecDeque.{deque_capacity}
use Rattle.cf_hub.specs.Flags.{AreFlagged, is_flagged}
use Rattle.cf_hub.proofs.Flags.{added, flags_fewer}
use Rattle.cf_hub.proofs.pending.Pending.add.Goals as goal

pub push_back_reserved-requires : goal.push_back_reserved-requires
push_back_reserved-requires c =
    let within : c.args.number < length c.self.inside.is_pending.items = search rules in
    let unflagged : is_flagged c.self.inside.is_pending.items c.args.number ≡ false = search rules in
    let fewer = flags_fewer c.self.inside.is_pending.items c.args.number within unflagged in
    omega (arith, fewer, c.self.invariant.count, c.self.invariant.room)

pub invariant_of-self : goal.invariant_of-self
invariant_of-self c =
    let within : c.args.number < length c.self.inside.is_pending.items = search rules in
    let unflagged : is_flagged c.self.inside.is_pending.items c.args.number ≡ false = search rules in
    let room : deque_capacity c.push_back_reserved.new.self ≡ deque_capacity c.self.inside.numbers =
    c.push_back_reserved.ensures.capacity in
    let flagged =
    added c.self.inside.numbers.items c.self.inside.is_pending.items (deque_capacity c.self.inside.numbers)
    c.args.number c.self.invariant within unflagged in
    subst (λ (n : ℕ). AreFlagged c.push_back_reserved.new.self.items
    (slice_set c.self.inside.is_pending.items c.args.number true) n) (sym room)
    (subst (λ (ns : List ℕ). AreFlagged ns (slice_set c.self.inside.is_pending.items c.args.number true)
    (deque_capacity c.self.inside.numbers)) (sym c.push_back_reserved.ensures.items) flagged)
