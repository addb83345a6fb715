-- The body and the info are copies, so the whole is the definition's.
use Rattle.std.proofs.Common.{◌≡◌, ℕ, List, Option, Some, sym, ap, ◌∙◌, string_bytes}
use Rattle.cf_protocol.specs.Datum.{Placed, Who}
use Rattle.cf_protocol.proofs.publication.Publication.copied.Goals.{in-None, in-Some+in_ok-copied-in-Some}
use Rattle.cf_protocol.proofs.publication.Publication.copied.Goals as goal

pub returns : goal.returns
returns c =
    let placed : Option Who → List ℕ → Placed =
    λ info body. record { offset = c.self.inside.offset; datum = record { body = body; info = info } } in
    let info : c.match-self.info ≡ c.self.inside.info =
    elim c.match-self.branch [
      | in-None w ↦ w.info-is ∙ sym w.in-None.is
      | in-Some+in_ok-copied-in-Some w ↦ w.info-is ∙ ap Some w.in_ok-copied-in-Some.ensures ∙ sym w.in-Some.is
    ] in
    ap (placed c.match-self.info) c.in_ok-body.ensures.cases ∙ ap (λ i. placed i (string_bytes c.self.inside.body)) info
    ∙ c.self.view_is
