-- The count of refusals grows exactly if nothing was written, whichever way that is asked.
use Rattle.std.proofs.Common.{◌∙◌, ap, not, sym}
use Rattle.cf_hub.specs.Hub.{met_refusal}
use Rattle.cf_hub.proofs.Walks.{twice}
use Rattle.cf_hub.proofs.hub.Hub.push_for_all.Goals as goal

pub returns-clause-counts : goal.returns-clause-counts
returns-clause-counts c =
    c.count_refused.ensures ∙ ap (λ b. met_refusal b c.args.self.now)
    (twice c.is_none.result ∙ ap not (sym c.is_none.ensures))
