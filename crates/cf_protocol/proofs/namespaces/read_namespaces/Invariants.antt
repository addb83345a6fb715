use Rattle.std.proofs.Common.{◌≢◌, map}
use Rattle.std.specs.List.{AllZip, AllPairs}
use Rattle.cf_protocol.specs.Settings.{named}
use Rattle.cf_protocol.specs.SettingsText.{IsNamespace}
use Rattle.cf_protocol.proofs.namespaces.read_namespaces.Given as goal

abbrev pub invariant-loop-entry : goal.invariant-loop-entry
invariant-loop-entry l = record {
  each : AllZip IsNamespace (map (λ s. s.now) l.yielded) (named l.entries.items);
  apart : AllPairs ◌≢◌ (map (λ e. e.0) (named l.entries.items));
}
