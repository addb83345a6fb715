-- What `retain` promises of the clients is read name by name.
use Rattle.std.proofs.Common.{rules, string_bytes}
use Rattle.std.specs.BTreeMap.{is_at}
use Rattle.std.specs.Cmp.Lexicographic.{slice_cmp}
use Rattle.std.specs.Ordering.{nat_cmp}
use Rattle.cf_world.proofs.Leaving.{retain_leaves}
use Rattle.cf_world.proofs.clients.clear_addresses.Goals as goal

pub returns : goal.returns
returns c = λ y. retain_leaves _ c.args.node _ (λ k v b w f' t. search rules) _ _ c.retain.ensures.filtered
    (is_at (λ k. slice_cmp nat_cmp y (string_bytes k)))
