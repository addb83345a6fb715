use Rattle.std.proofs.Common.{◌≡◌, List, ℕ, length}
use Rattle.cf_client.specs.Draft.{drafted_code, drafted_calls}
use Rattle.cf_client.specs.Shown.{calls_of}
use Rattle.cf_client.proofs.draft.Draft.carry_out.Given as goal

abbrev pub invariant-loop-channel : goal.invariant-loop-channel
invariant-loop-channel l = record {
  connected : l.known.is_connected ≡ l.fn.known.is_connected;
  last : l.known.last_id ≡ l.fn.known.last_id;
  modes : (c : List ℕ) → drafted_code l.known.channels l.changed c
      ≡ drafted_code l.fn.known.channels l.fn.self.changed c;
  calls : calls_of l.known.calls.items ≡ drafted_calls l.fn.self.answered.items (calls_of l.fn.known.calls.items);
}

abbrev pub decreases-loop-channel : goal.decreases-loop-channel
decreases-loop-channel l = length l.changed.entries
