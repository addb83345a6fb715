-- What has no `push` is an answer; else the push is read.
use Rattle.std.proofs.Common.{◌≡◌, ◌≢◌, ℕ, List, [], ◌∷◌, length, None, codes, refl, sym, ap, subst, rules}
use Rattle.std.specs.declared.string.String.{String}
use Rattle.std.specs.declared.alloc.Global.{Global}
use Rattle.cf_json.specs.Spans.{Span}
use Rattle.cf_protocol.specs.Fields.{Fields}
use Rattle.cf_protocol.specs.Reading.{Answers, Reads, present_at}
use Rattle.cf_protocol.specs.Reply.{answer_from, push_or, outgoing_from}
use Rattle.cf_protocol.specs.Shown.{told}
use Rattle.cf_protocol.proofs.read.outgoing.read_from.Goals as goal

is_answer : (text : List ℕ) (ms : List (String Global × Span)) (fs : Fields) → length ms ≢ 0 → Reads text ms fs
    → present_at (codes "push") fs ≡ None → outgoing_from fs ≡ answer_from fs
is_answer text [] fs h r e = absurd (h refl)
is_answer text (m ∷ ms) [] h r e = absurd r
is_answer text (m ∷ ms) (f ∷ fs) h r e = ap (push_or (answer_from (f ∷ fs))) e

pub returns-in_default : goal.returns-in_default
returns-in_default c fs reads =
    let members = c.args.members.now in
    let is = is_answer members.text.now members.found.items fs (search rules) reads (c.in_default.ensures fs reads) in
    let was = c.read_answer.ensures fs reads in
    subst (Answers told c.map.result) (sym is) (search rules)
