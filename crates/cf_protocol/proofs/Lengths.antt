-- The length of a compact text.
use Rattle.std.proofs.Common.{◌≡◌, ℕ, List, length, Bool, true, false, refl, arith, length-append}
use Rattle.cf_json.specs.Grammar.{Tree, null, boolean, number, text, array, object, Parts, no_parts, part}
use Rattle.cf_json.specs.Compact.{compact_text, first_text, more_text, key_text}
use Rattle.cf_protocol.specs.TextLength.{text_length, first_length, more_length, key_length}

length-key : (keyed : Bool) (k : List ℕ) → length (key_text keyed k) ≡ key_length keyed k
length-key false k = refl
length-key true k = simp length-append (omega arith)

mutual
  pub length-compact : (t : Tree) → length (compact_text t) ≡ text_length t
  length-compact null = refl
  length-compact (boolean true) = refl
  length-compact (boolean false) = refl
  length-compact (number n) = refl
  length-compact (text c) = simp length-append (omega arith)
  length-compact (array ps) = simp length-append (omega (arith, length-first false ps))
  length-compact (object ps) = simp length-append (omega (arith, length-first true ps))

  length-first : (keyed : Bool) (ps : Parts) → length (first_text keyed ps) ≡ first_length keyed ps
  length-first keyed no_parts = refl
  length-first keyed (part k t ps) =
      simp length-append (omega (arith, length-key keyed k, length-compact t, length-more keyed ps))

  length-more : (keyed : Bool) (ps : Parts) → length (more_text keyed ps) ≡ more_length keyed ps
  length-more keyed no_parts = refl
  length-more keyed (part k t ps) =
      simp length-append (omega (arith, length-key keyed k, length-compact t, length-more keyed ps))
