-- A caller of presence's `list`, whose clause it hands on with the refusal named anew (`named_ok`).
use Rattle.cf_shard.proofs.Refusals.{named_ok}
use Rattle.cf_shard.proofs.shard.Shard.list.Goals as goal

pub returns-clause-ok : goal.returns-clause-ok
returns-clause-ok g c =
    rw (← c.self.view_is) (named_ok c.list.result c.map_err.result _ _ _ c.map_err.ensures.cases (λ _ shown. shown)
    c.list.ensures)
