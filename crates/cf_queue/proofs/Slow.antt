-- When a queue is slow for a text: if it is open and has no room for it.
use Rattle.std.proofs.Common.{◌≡◌, ℕ, ◌+◌, ◌≤◌, ◌↔◌, Bool, IsTrue, true, false, List, length, IsErrOf, Err, arith}
use Rattle.std.proofs.Common.{rules}
use Rattle.cf_queue.specs.OutQueue.{OutQueue, weight, IsSlow}
use Rattle.cf_queue.specs.declared.refusal.QueueRefusal.TheVariants.{Closed, Slow}

-- an open queue without room for as many bytes as a text has is slow for it
pub slow : (text : List ℕ) (q : OutQueue) {room : Bool} {n : ℕ} → q.closed ≡ false → n ≡ length text
    → (IsTrue room ↔ (weight q + n ≤ q.limit)) → room ≡ false → IsSlow text q
slow text q is_open counted has none = record { is_open = is_open; past = grind (arith, counted, has, none) }

-- a closed queue is slow for no text, and a refusal that says it is closed says nothing else
pub closed_not_slow : (text : List ℕ) (q : OutQueue) → q.closed ≡ true
    → IsErrOf {T = Unit {0}} (Err Closed) Slow ↔ IsSlow text q
closed_not_slow text q is_closed = search (rules, is_closed)
