use Rattle.std.proofs.Common.{◌≢◌, map}
use Rattle.std.specs.List.{AllZip, AllPairs}
use Rattle.cf_protocol.specs.Settings.{in_bytes}
use Rattle.cf_protocol.specs.SettingsText.{IsToken}
use Rattle.cf_protocol.proofs.tokens.read_tokens.Given as goal

abbrev pub invariant-loop-entry : goal.invariant-loop-entry
invariant-loop-entry l = record {
  each : AllZip IsToken (map (λ s. s.now) l.yielded) (in_bytes l.entries.items);
  apart : AllPairs ◌≢◌ (map (λ e. e.0) (in_bytes l.entries.items));
}
