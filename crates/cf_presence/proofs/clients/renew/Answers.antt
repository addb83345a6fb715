-- Where the entry is another user's nothing changes but the borrow; else its moment does, and the users' counts don't.
use Rattle.std.proofs.Common.{rules, true, refl, ◌≡◌, ◌∙◌, ap, sym, subst, Some, string_bytes}
use Rattle.std.specs.Option.{IsSome, option_copied_mut}
use Rattle.std.specs.Map.{update, values_of}
use Rattle.std.specs.Str.{bytes_eq}
use Rattle.std.specs.BTreeMap.{get_by_text}
use Rattle.std.proofs.lemmas.Map.Text.{btree_map_updates_text}
use Rattle.cf_presence.specs.Presence.{Seen}
use Rattle.cf_presence.specs.UserCounts.{clients_with}
use Rattle.cf_presence.proofs.UserCounts.{at_true, looked_at, renew_weight}
use Rattle.cf_presence.proofs.clients.renew.Goals as goal

pub returns-then-not-is_of-clause-same : goal.returns-then-not-is_of-clause-same
returns-then-not-is_of-clause-same c =
    λ _. looked_at c.args.map.now (c.get_mut.follows.lender c.in-Some.entry.now) _ c.in-Some.entry.now
    (c.get_mut.follows.holds c.in-Some.entry.now).0
    (sym c.get_mut.ensures.value ∙ ap option_copied_mut c.in-Some.is)

pub returns-then-not-is_of-clause-users : goal.returns-then-not-is_of-clause-users
returns-then-not-is_of-clause-users c =
    λ u. ap (λ es. clients_with u (values_of es))
    (looked_at c.args.map.now (c.get_mut.follows.lender c.in-Some.entry.now) _ c.in-Some.entry.now
    (c.get_mut.follows.holds c.in-Some.entry.now).0
    (sym c.get_mut.ensures.value ∙ ap option_copied_mut c.in-Some.is))

pub returns-clause-renewed : goal.returns-clause-renewed
returns-clause-renewed c =
    let found = sym c.get_mut.ensures.value ∙ ap option_copied_mut c.in-Some.is in
    let w : Seen = record { user = string_bytes c.entry.inside.user; at = c.args.now } in
    let alike : bytes_eq c.args.user.now c.in-Some.entry.now.user ≡ true = search rules in
    let user = ap (λ (s : Seen). s.user) c.entry.view_is
    ∙ sym (at_true c.args.user.now c.in-Some.entry.now.user alike) in
    λ _ q.
    btree_map_updates_text c.args.client.now c.args.map.now (c.get_mut.follows.lender w) (Some w)
    ((c.get_mut.follows.holds w).3 (subst IsSome (sym found) refl)) q
    ∙ ap (λ x. update bytes_eq (get_by_text c.args.map.now) c.args.client.now
    (Some (record { user = x; at = c.args.now })) q) user

pub returns-clause-users : goal.returns-clause-users
returns-clause-users c =
    let w : Seen = record { user = string_bytes c.entry.inside.user; at = c.args.now } in
    renew_weight c.args.map.now (c.get_mut.follows.lender w) _ c.in-Some.entry.now w (c.get_mut.follows.holds w).0
    (sym c.get_mut.ensures.value ∙ ap option_copied_mut c.in-Some.is) (ap (λ (s : Seen). s.user) c.entry.view_is)
