use Rattle.std.proofs.Common.{All}
use Rattle.std.specs.String.{string_bytes}
use Rattle.cf_client.proofs.Drafting.{NoneAsks}
use Rattle.cf_client.proofs.draft.Draft.channel_asking.Given as goal

abbrev pub invariant-loop-channel : goal.invariant-loop-channel
invariant-loop-channel l = All (λ p. NoneAsks l.known.channels l.self.changed l.id (string_bytes p.0.now)) l.yielded
