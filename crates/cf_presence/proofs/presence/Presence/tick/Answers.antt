-- Key by key, what `retain` leaves is each channel after the tick, without those that nobody is left in.
use Rattle.std.proofs.Common.{◌≡◌, ◌∙◌, List, ℕ, ap, sym, not, rules}
use Rattle.std.specs.Prelude.{◌==◌, unwrap_or}
use Rattle.std.specs.FinMap as fin
use Rattle.std.specs.BTreeMap.{get_by_text}
use Rattle.cf_presence.specs.Presence.{still}
use Rattle.cf_presence.specs.Maps.{after_tick}
use Rattle.cf_presence.proofs.Texts.{get-by_text}
use Rattle.cf_presence.proofs.Ticks.{map_filter_same_pairs, get-after_tick, clients-after_tick, nowhere_none}
use Rattle.cf_presence.proofs.presence.Presence.tick.Goals as goal

pub returns-clause-left : goal.returns-clause-left
returns-clause-left c =
    let kept : (q : List ℕ) → get_by_text c.retain.new.self q
    ≡ after_tick c.args.now (get_by_text c.self.inside.map q) =
    get-after_tick c.args.now c.self.inside.map c.retain.new.self c.retain.ensures.was_ordered
    (map_filter_same_pairs _ (still c.args.now) (λ r. not (fin.len (still c.args.now r) == 0))
    _ (λ k v b w f' t. search rules) _ _ c.retain.ensures.filtered) in
    rw (← c.self.view_is)
    (λ q. rw (get-by_text c.self.inside.map q)
    (ap (λ o. unwrap_or o fin.empty) (get-by_text c.retain.new.self q ∙ kept q)
    ∙ clients-after_tick c.args.now (get_by_text c.self.inside.map q)))

pub returns-clause-nowhere_none : goal.returns-clause-nowhere_none
returns-clause-nowhere_none c =
    let kept : (q : List ℕ) → get_by_text c.retain.new.self q
    ≡ after_tick c.args.now (get_by_text c.self.inside.map q) =
    get-after_tick c.args.now c.self.inside.map c.retain.new.self c.retain.ensures.was_ordered
    (map_filter_same_pairs _ (still c.args.now) (λ r. not (fin.len (still c.args.now r) == 0))
    _ (λ k v b w f' t. search rules) _ _ c.retain.ensures.filtered) in
    λ q e. nowhere_none c.args.now (get_by_text c.self.inside.map q)
    (sym (get-by_text c.retain.new.self q ∙ kept q) ∙ e)
