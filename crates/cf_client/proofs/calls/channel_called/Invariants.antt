-- The loop keeps that the calls still to be looked at have the same answer as all.
use Rattle.std.proofs.Common.{◌≡◌, drop}
use Rattle.cf_client.specs.ClientCalls.{channel_under}
use Rattle.cf_client.specs.Shown.{calls_of}
use Rattle.cf_client.proofs.calls.channel_called.Given as goal

abbrev pub invariant-loop-call : goal.invariant-loop-call
invariant-loop-call l =
    channel_under l.id (calls_of (drop l.call-index l.calls.items)) ≡ channel_under l.id (calls_of l.calls.items)
