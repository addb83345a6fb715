use Rattle.std.proofs.Common.{◌≡◌, length, is_some}
use Rattle.cf_json.specs.Characters.{a_piece, pieces, characters}
use Rattle.cf_json.proofs.Surrogates.{are_pairs}
use Rattle.cf_json.proofs.text.has_characters.Given as goal

abbrev pub invariant-loop-first : goal.invariant-loop-first
invariant-loop-first l = are_pairs l.high (pieces a_piece l.rest) ≡ is_some (characters l.spelling)

abbrev pub decreases-loop-first : goal.decreases-loop-first
decreases-loop-first l = length l.rest
