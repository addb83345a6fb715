-- What is seen of a shard's log is sound by what the shard's type keeps of epochs.
use Rattle.std.proofs.Common.{◌≡◌, ◌≤◌, ℕ, ◌+◌, ◌&&◌, Bool, true, false, if◌then◌else◌, Some, List, [], ◌∷◌, ◌++◌}
use Rattle.std.proofs.Common.{length, length-append, ap, arith}
use Rattle.std.specs.Prelude.{fold}
use Rattle.std.specs.Str.{bytes_eq}
use mathlib.Core.List.{IsPrefix}
use Rattle.cf_protocol.specs.Fields.{max_u64}
use Rattle.cf_protocol.specs.LogEntry.{Entry}
use Rattle.cf_protocol.specs.LogEntry.Entry.{Open, Publish, Trim, Forget, Size}
use Rattle.cf_epochs.specs.Source.{Source, draws_next}
use Rattle.cf_order.specs.Passes.{PassState}
use Rattle.cf_order.proofs.Prefixes.{prefix_length, prefix_trans}
use Rattle.cf_shard.specs.Opening.{GivesNoneTwice}
use Rattle.cf_shard.specs.Shard.{Lent}
use Rattle.cf_shard.specs.Shards.{number_of}
use Rattle.cf_stream.specs.LogState.{epoch_in, list_in}
use Rattle.cf_node_hub.specs.Seen.{IsSound, Turn, listed_in, log_at, no_turn, turn_after}
use Rattle.cf_running_ties.specs.Seen.{IsSeenOf}
use Rattle.cf_running_ties.proofs.Seen.{IsKnown, sound-by}
use Rattle.cf_running_ties.proofs.Sources.{once-by-log}

-- each entry lists one datum at most
listed-short : (c e : List ℕ) (es : List Entry) (t : Turn)
    → length (fold (turn_after c e) t es).list ≤ length t.list + length es
listed-short c e [] t = omega arith
listed-short c e (Open q y ∷ es) t =
    let more : length (fold (turn_after c e) t (Open q y ∷ es)).list ≤ length t.list + length es =
    listed-short c e es (turn_after c e t (Open q y)) in
    omega arith
listed-short c e (Publish q key d ∷ es) t =
    let more = listed-short c e es (turn_after c e t (Publish q key d)) in
    let one = by_bool (bytes_eq q c && t.stands) in
    omega (arith, more, one)
  where
    by_bool : (b : Bool) → length (if b then t.list ++ d ∷ [] else t.list) ≤ length t.list + 1
    by_bool true = let is = length-append t.list (d ∷ []) in omega (arith, is)
    by_bool false = omega arith
listed-short c e (Trim q n ∷ es) t =
    let more : length (fold (turn_after c e) t (Trim q n ∷ es)).list ≤ length t.list + length es =
    listed-short c e es t in
    omega arith
listed-short c e (Forget q ∷ es) t =
    let more : length (fold (turn_after c e) t (Forget q ∷ es)).list ≤ length t.list + length es =
    listed-short c e es (turn_after c e t (Forget q)) in
    omega arith
listed-short c e (Size name n ∷ es) t =
    let more : length (fold (turn_after c e) t (Size name n ∷ es)).list ≤ length t.list + length es =
    listed-short c e es t in
    omega arith

module _ (twice : GivesNoneTwice draws_next) (c : List ℕ) (shard : Lent Source) (seen : List Entry)
    (h : IsSeenOf shard seen) where
  once : (e : List ℕ) (before : List Entry) → IsPrefix before seen → epoch_in before c ≡ Some e
      → list_in before c ≡ listed_in before c e
  once e before begins opened =
      once-by-log c e before shard.log (h.fresh twice).once (prefix_trans before seen shard.log begins h.begins) opened

  known : IsKnown c seen
  known = record {
    once = once;
    said = h.said;
    short = λ e before begins opened.
        let is : length (list_in before c) ≡ length (listed_in before c e) = ap length (once e before begins opened) in
        let listed : length (listed_in before c e) ≤ 0 + length before = listed-short c e before no_turn in
        let within : length before ≤ length shard.log =
        prefix_length before shard.log (prefix_trans before seen shard.log begins h.begins) in
        let counted : length shard.log ≤ max_u64 = h.counted in
        omega arith;
  }

pub sound-of-shards : GivesNoneTwice draws_next → (shards : ℕ → Lent Source) (seen : List PassState)
    → ((c : List ℕ) → IsSeenOf (shards (number_of c)) (log_at seen c)) → IsSound seen
sound-of-shards twice shards seen all =
    sound-by seen (λ c. known twice c (shards (number_of c)) (log_at seen c) (all c))
