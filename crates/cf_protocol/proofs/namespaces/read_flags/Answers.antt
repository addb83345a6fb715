-- The loop keeps that the letters set are those so far, in some order; one that is set twice, or that is none, is
-- refused.
use Rattle.std.proofs.Common.{refl, subst, sym, ◌∙◌}
use Rattle.std.specs.List.Sorted.{IsPermutation}
use Rattle.cf_protocol.specs.SettingsText.{letters_of}
use Rattle.cf_protocol.proofs.Flagging.{flags_more, flags_refused}
use Rattle.cf_protocol.proofs.namespaces.read_flags.Goals as goal

pub returns-in_default : goal.returns-in_default
returns-in_default c = λ s spelled.
    flags_refused c.as_bytes-flag-items.result.now c.loop-flag.flag-index _ c.loop-flag.settings c.loop-flag-test.true
    refl c.loop-flag.invariant.letters c.in_default.ensures s
    (subst (IsPermutation (letters_of s)) (sym c.as_bytes-flag-items.ensures.value) spelled)

pub loop-flag-preserved : goal.loop-flag-preserved
loop-flag-preserved c = record {
  size = c.in-Some.ensures.size ∙ c.loop-flag.invariant.size;
  seconds = c.in-Some.ensures.seconds ∙ c.loop-flag.invariant.seconds;
  letters = flags_more c.as_bytes-flag-items.result.now c.loop-flag.flag-index _ c.loop-flag.settings
      c.in-Some.with_this c.loop-flag-test.true refl c.loop-flag.invariant.letters c.in-Some.ensures;
}
