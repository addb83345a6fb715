-- Each mode becomes the idle one by the map's `retain`, of which `all_idle` says what is left of a map.
use Rattle.std.proofs.Common.{rules}
use Rattle.cf_client.proofs.Moves.{map_all, code_idle, all_idle}
use Rattle.cf_client.proofs.channels.make_idle.Goals as goal

pub returns : goal.returns
returns c = all_idle c.args.channels.now c.retain.new.self
    (map_all _ code_idle _ (λ k v b w f' t. search rules) _ _ c.retain.ensures.filtered)
