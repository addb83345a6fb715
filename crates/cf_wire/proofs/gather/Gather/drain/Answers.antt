-- The stream took the front of what waited, and that front goes, so what was written and what waits are as before.
use Rattle.std.proofs.Common.{◌∙◌, ◌++◌, List, ℕ, take, sym, ap, subst, take-append-drop}
use Rattle.std.specs.Io.KnownBytes.{Appends, Keeps, append_known}
use Rattle.std.proofs.KnownBytes.{append_known-moved}
use Rattle.cf_wire.specs.Gathered.{written}
use Rattle.cf_wire.proofs.gather.Gather.drain.Goals as goal

pub returns-clause-bytes : goal.returns-clause-bytes
returns-clause-bytes g c =
    let known = g.S.Write.contents in let n = c.write_all_of-count.result.0 in let all : List ℕ =
    c.self.inside.waiting.items in
    let moved : Appends (known c.self.inside.stream) (known c.write_all_of-count.new.stream) (take n all) =
    subst (λ (l : List ℕ). Appends (known c.self.inside.stream) (known c.write_all_of-count.new.stream) (take n l))
    c.as_slice.ensures.value c.write_all_of-count.ensures.bytes in
    subst (λ w. Keeps (written known w) (append_known (known c.write_all_of-count.new.stream)
    c.remove_front.new.bytes.items)) c.self.view_is
    (append_known-moved (known c.self.inside.stream) (known c.write_all_of-count.new.stream) (take n all)
    c.remove_front.new.bytes.items all moved
    (sym (take-append-drop n all) ∙ ap (λ (l : List ℕ). take n all ++ l) (sym c.remove_front.ensures)))
