-- An empty channel is excluded; else the law for the length of a compact text is used.
use Rattle.std.proofs.Common.{◌≡◌, ℕ, ◌+◌, ◌<◌, List, [], ◌∷◌, length, None, decimal, ◌∙◌, arith, length-append, ne_eqb}
use Rattle.cf_json.specs.Quoting.{quoted}
use Rattle.cf_protocol.specs.Outgoing.{Push, Publication}
use Rattle.cf_protocol.specs.Written.{as_it_is, outgoing_tree, outgoing_text}
use Rattle.cf_protocol.proofs.Lengths.{length-compact}
use Rattle.cf_protocol.proofs.laws.push_length.Goals as goal

push : (channel body : List ℕ) (offset : ℕ) → 0 < length channel → 0 < offset
    → length (outgoing_text (Push channel (Publication
    (record { offset = offset; datum = record { body = body; info = None } })))) ≡ 47 + length (quoted channel)
    + length (decimal offset) + length body
unfolding outgoing_text
push [] body offset named h = absurd (omega arith)
push (x ∷ xs) body offset named h =
    length-compact (outgoing_tree as_it_is (Push (x ∷ xs)
    (Publication (record { offset = offset; datum = record { body = body; info = None } }))))
    ∙ rw (ne_eqb offset 0 (omega arith)) (simp length-append (omega arith))

pub returns : goal.returns
returns c = push
