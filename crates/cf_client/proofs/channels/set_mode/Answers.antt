-- Without an entry nothing changes; with one, the value behind the lent place is the only one that is another, key by
-- key.
use Rattle.std.proofs.Common.{Some, IsSome, refl, sym, subst, ap, ◌∙◌}
use Rattle.std.specs.Option.{option_copied_mut}
use Rattle.std.proofs.lemmas.Map.Text.{btree_map_updates_text}
use Rattle.cf_client.proofs.Moves.{sets_mode, set_each, set_nowhere}
use Rattle.cf_client.proofs.channels.set_mode.Goals as goal

pub returns-in_default-clause-each : goal.returns-in_default-clause-each
returns-in_default-clause-each c =
    rw (c.get_mut.follows.holds-at-none)
    (set_nowhere c.args.channels.now c.args.channel.now c.args.mode
    (sym c.get_mut.ensures.value ∙ ap option_copied_mut c.in_default.is))

pub returns-in-Some-clause-sets : goal.returns-in-Some-clause-sets
returns-in-Some-clause-sets c = λ there.
    let old = c.args.channels.now in
    let new = c.get_mut.follows.lender c.args.mode in
    sets_mode old new c.args.channel.now c.args.mode
    (btree_map_updates_text c.args.channel.now old new (Some c.args.mode)
    ((c.get_mut.follows.holds c.args.mode).3 there))

pub returns-in-Some-clause-each : goal.returns-in-Some-clause-each
returns-in-Some-clause-each c =
    let old = c.args.channels.now in
    let new = c.get_mut.follows.lender c.args.mode in
    let there = subst (λ o. IsSome o) c.get_mut.ensures.value
    (subst (λ r. IsSome (option_copied_mut r)) (sym c.in-Some.is) refl) in
    set_each old new c.args.channel.now c.args.mode there
    (btree_map_updates_text c.args.channel.now old new (Some c.args.mode)
    ((c.get_mut.follows.holds c.args.mode).3 there))
