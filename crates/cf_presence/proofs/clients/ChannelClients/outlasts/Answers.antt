-- What `retain` leaves is what the definition has stay, and the counts drop by those that went.
use Rattle.std.proofs.Common.{rules, ap, sym, ◌∙◌}
use Rattle.std.specs.Map.{values_of}
use Rattle.cf_presence.specs.UserCounts.{clients_with}
use Rattle.cf_presence.proofs.UserCounts.{same_counts, values_filter}
use Rattle.std.specs.Prelude.{not}
use Rattle.std.proofs.lemmas.Map.Made.{filter_same_pairs}
use Rattle.cf_presence.specs.Presence.{stays}
use Rattle.cf_presence.proofs.Rooms.{is_empty-by_text}
use Rattle.cf_presence.proofs.Ticks.{still-by_text}
use Rattle.cf_presence.proofs.clients.ChannelClients.outlasts.Goals as goal

pub returns-clause-left : goal.returns-clause-left
returns-clause-left c =
    rw (← c.self.view_is)
    (still-by_text c.args.now c.self.inside.map c.retain.new.self c.retain.ensures.was_ordered
    (filter_same_pairs _ (λ e. stays c.args.now e.1) _ (λ k v b w f' t. search rules) _ _ c.retain.ensures.filtered))

pub returns-clause-any : goal.returns-clause-any
returns-clause-any c =
    rw (← returns-clause-left c) (ap not (is_empty-by_text c.retain.new.self c.is_empty.result c.is_empty.ensures))

pub invariant_of-self : goal.invariant_of-self
invariant_of-self c =
    let left = filter_same_pairs _ (λ e. stays c.args.now e.1) _ (λ k v b w f' t. search rules)
    _ _ c.retain.ensures.filtered in
    same_counts c.drop_gone.new.users _ _ c.drop_gone.ensures
    (λ u. ap (λ ss. clients_with u ss) (sym (ap values_of left
    ∙ values_filter c.args.now c.self.inside.map.entries)))
