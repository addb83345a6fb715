use Rattle.std.proofs.Common.{◌≡◌, take}
use Rattle.std.specs.List.Sorted.{IsPermutation}
use Rattle.cf_protocol.specs.SettingsText.{letters_of}
use Rattle.cf_protocol.proofs.namespaces.read_flags.Given as goal

abbrev pub invariant-loop-flag : goal.invariant-loop-flag
invariant-loop-flag l = record {
  size : l.settings.size ≡ l.size;
  seconds : l.settings.seconds ≡ l.seconds;
  letters : IsPermutation (letters_of l.settings) (take l.flag-index l.flag-items);
}
