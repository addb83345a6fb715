-- Both names are copies of the texts.
use Rattle.std.proofs.Common.{ℕ, List, ◌∙◌, ap, string_bytes}
use Rattle.cf_protocol.specs.Datum.{Who}
use Rattle.cf_protocol.proofs.publication.Info.copied.Goals as goal

pub returns : goal.returns
returns c =
    let who : List ℕ → List ℕ → Who = λ user client. record { user = user; client = client } in
    ap (λ user. who user (string_bytes c.in_ok-clone-2.field-0)) c.in_ok-clone.ensures.cases
    ∙ ap (who (string_bytes c.self.inside.user)) c.in_ok-clone-2.ensures.cases ∙ c.self.view_is
