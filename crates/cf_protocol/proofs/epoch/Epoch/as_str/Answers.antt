-- The letters of an epoch are ASCII, so they are UTF-8, and the arm of the error is never met.
use Rattle.std.proofs.lemmas.Str.{IsUtf8-from_ascii}
use Rattle.cf_protocol.proofs.Epochs.{IsAscii-epoch}
use Rattle.cf_protocol.proofs.epoch.Epoch.as_str.Goals as goal

pub unreachable-requires : goal.unreachable-requires
unreachable-requires c = c.in-Err.ensures.cases.0 (IsUtf8-from_ascii _ (IsAscii-epoch _ c.self.invariant.1))
