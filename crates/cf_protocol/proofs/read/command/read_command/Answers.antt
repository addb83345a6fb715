-- Without a member it is a pong; else the command is the one that its members name.
use Rattle.std.proofs.Common.{◌≡◌, ◌≢◌, ℕ, List, [], ◌∷◌, length, Some, refl, subst, rules}
use Rattle.std.specs.declared.string.String.{String}
use Rattle.std.specs.declared.alloc.Global.{Global}
use Rattle.cf_json.specs.Spans.{Span}
use Rattle.cf_protocol.specs.Command.{command_from, named_command}
use Rattle.cf_protocol.specs.Fields.{Fields}
use Rattle.cf_protocol.specs.Reading.{Answers, Reads}
use Rattle.cf_protocol.specs.Request.{Pong}
use Rattle.cf_protocol.specs.Shown.{shown_command}
use Rattle.cf_protocol.proofs.Objects.{object_by}
use Rattle.cf_protocol.proofs.read.command.read_command.Goals as goal

pong : (text : List ℕ) (ms : List (String Global × Span)) (fs : Fields) → length ms ≡ 0 → Reads text ms fs
    → command_from fs ≡ Some (record { id = 0; request = Pong })
pong text [] [] h r = refl
pong text [] (f ∷ fs) h r = absurd r
pong text (m ∷ ms) fs h r = absurd (search rules)

named : (text : List ℕ) (ms : List (String Global × Span)) (fs : Fields) → length ms ≢ 0 → Reads text ms fs
    → named_command fs ≡ command_from fs
named text [] fs h r = absurd (h refl)
named text (m ∷ ms) [] h r = absurd r
named text (m ∷ ms) (f ∷ fs) h r = refl

pub read_named-requires : goal.read_named-requires
read_named-requires c = let m = c.in_ok-members.members in let o =
    object_by m.text.now m.found.items c.requires.0 (c.in_ok-members.ensures c.requires.0 c.requires.1) in
    (o.fields, o.reads)

pub returns-then-is_empty : goal.returns-then-is_empty
returns-then-is_empty c t at =
    let m = c.in_ok-members.members in
    let o = object_by m.text.now m.found.items t (c.in_ok-members.ensures t at) in
    let is = pong m.text.now m.found.items o.fields (search rules) o.reads in
    rw o.is (rw is refl)

pub returns : goal.returns
returns c t at =
    let m = c.in_ok-members.members in
    let o = object_by m.text.now m.found.items t (c.in_ok-members.ensures t at) in
    let is = named m.text.now m.found.items o.fields (search rules) o.reads in
    rw o.is (subst (Answers shown_command c.read_named.result) is (c.read_named.ensures o.fields o.reads))
