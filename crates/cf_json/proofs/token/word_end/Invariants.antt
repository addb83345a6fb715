-- The loop keeps that the end is the same for what is left of the word and of the text.
use Rattle.std.proofs.Common.{◌≡◌, ◌≤◌, ◌+◌, length}
use Rattle.cf_json.specs.Reading.{word_end}
use Rattle.cf_json.proofs.token.word_end.Given as goal

abbrev pub invariant-loop-wanted : goal.invariant-loop-wanted
invariant-loop-wanted l =
    record {
      same : word_end l.left l.rest ≡ word_end l.word l.text;
      shorter : length l.rest + length l.word ≤ length l.text + length l.left;
    }

abbrev pub decreases-loop-wanted : goal.decreases-loop-wanted
decreases-loop-wanted l = length l.left
