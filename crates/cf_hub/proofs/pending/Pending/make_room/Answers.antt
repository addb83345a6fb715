-- Places that are added at the end have no flag, so flags and numbers agree as before.
use Rattle.std.proofs.Common.{rules, arith, ◌≡◌, ◌≤◌, ◌<◌, ◌+◌, length, sym, subst, List, ℕ, false}
use Rattle.std.specs.VecDeque.{deque_capacity}
use Rattle.cf_hub.specs.Flags.{AreFlagged, is_flagged}
use Rattle.cf_hub.proofs.Flags.{grown, widened}
use Rattle.cf_hub.proofs.pending.Pending.make_room.Goals as goal

pub invariant_of-self-in-Continue-branch-2 : goal.invariant_of-self-in-Continue-branch-2
invariant_of-self-in-Continue-branch-2 c =
    let more : length c.self.inside.is_pending.items < c.args.number + 1 = search rules in
    let long : length c.resize.new.self.items ≡ c.args.number + 1 = search rules in
    let room : length c.resize.new.self.items ≤ deque_capacity c.reserve.new.self = search rules in
    let same : (k : ℕ) → k < length c.self.inside.is_pending.items
    → is_flagged c.resize.new.self.items k ≡ is_flagged c.self.inside.is_pending.items k =
    λ k l. c.resize.ensures.by_index.0 k false (omega (arith, l, more)) (omega (arith, l)) in
    let fresh : (k : ℕ) → length c.self.inside.is_pending.items ≤ k → k < c.args.number + 1
    → is_flagged c.resize.new.self.items k ≡ false =
    λ k l h. c.resize.ensures.by_index.1 k false (search rules) (omega (arith, l)) h in
    let kept = widened c.self.inside.numbers.items c.self.inside.is_pending.items c.resize.new.self.items
    (deque_capacity c.self.inside.numbers) (deque_capacity c.reserve.new.self) c.self.invariant
    (grown c.self.inside.is_pending.items c.resize.new.self.items (c.args.number + 1) more long same fresh) room in
    subst (λ (ns : List ℕ). AreFlagged ns c.resize.new.self.items (deque_capacity c.reserve.new.self))
    (sym c.reserve.ensures.items) kept
