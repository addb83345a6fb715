-- First the entry is renewed, if it stands; else the user is counted and the entry put, and undone if that is refused:
-- the
-- counts stay true.
use Rattle.std.proofs.Common.{rules, arith, ap, refl, sym, ◌∙◌}
use Rattle.std.specs.Map.{values_of}
use Rattle.std.specs.FinMap as fin
use Rattle.cf_presence.specs.UserCounts.{clients_with}
use Rattle.cf_presence.proofs.Texts.{sets, get-by_text}
use Rattle.cf_presence.proofs.UserCounts.{same_counts, same_entries, entered_counts, moved_counts, undone_counts}
use Rattle.cf_presence.proofs.clients.ChannelClients.enter.Goals as goal

pub returns-then-renew-clause-ok : goal.returns-then-renew-clause-ok
returns-then-renew-clause-ok c =
    rw (← c.self.view_is) (sets c.self.inside.map c.renew.new.map c.args.client.now
    _ (c.renew.ensures.renewed (search rules)))

pub returns-in_err-add_user-clause-again : goal.returns-in_err-add_user-clause-again
returns-in_err-add_user-clause-again c =
    rw (← c.self.view_is, get-by_text) (λ h. absurd (grind (arith, c.renew.ensures.there h)))

pub returns-in-Err-clause-again : goal.returns-in-Err-clause-again
returns-in-Err-clause-again c =
    rw (← c.self.view_is, get-by_text) (λ h. absurd (grind (arith, c.renew.ensures.there h)))

pub invariant_of-self-in-Ok-None : goal.invariant_of-self-in-Ok-None
invariant_of-self-in-Ok-None c =
    let stood = same_counts c.self.inside.users _ _ c.self.invariant (λ u. sym (c.renew.ensures.users u)) in
    let made = c.in-Ok-None.ensures.puts in
    entered_counts c.self.inside.users c.add_user.new.users c.renew.new.map c.put_entry.new.map made.key
    _ c.args.user.now stood made.ordered made.entries (sym c.in-Ok-None.field-0-is ∙ made.had) refl
    c.in_ok-add_user.ensures.ok

pub returns-in-Ok-None-clause-ok : goal.returns-in-Ok-None-clause-ok
returns-in-Ok-None-clause-ok c =
    rw (← c.self.view_is)
    (sets c.renew.new.map c.put_entry.new.map c.args.client.now _ c.in-Ok-None.ensures.sets
    ∙ ap (λ m. fin.insert m c.args.client.now (record { user = c.args.user.now; at = c.args.now }))
    (same_entries c.self.inside.map c.renew.new.map (c.renew.ensures.same (search rules))))

pub invariant_of-self-in-Ok-Some : goal.invariant_of-self-in-Ok-Some
invariant_of-self-in-Ok-Some c =
    let stood = same_counts c.self.inside.users _ _ c.self.invariant (λ u. sym (c.renew.ensures.users u)) in
    let made = c.in-Ok-Some.ensures.puts in
    moved_counts c.self.inside.users c.add_user.new.users c.drop_user.new.users c.renew.new.map c.put_entry.new.map
    made.key _ c.in-Ok-Some.before c.args.user.now c.user.result.now stood made.ordered made.entries
    (sym c.in-Ok-Some.field-0-is ∙ made.had) refl c.user.ensures c.in_ok-add_user.ensures.ok c.drop_user.ensures

pub returns-in-Ok-Some-clause-ok : goal.returns-in-Ok-Some-clause-ok
returns-in-Ok-Some-clause-ok c =
    rw (← c.self.view_is)
    (sets c.renew.new.map c.put_entry.new.map c.args.client.now _ c.in-Ok-Some.ensures.sets
    ∙ ap (λ m. fin.insert m c.args.client.now (record { user = c.args.user.now; at = c.args.now }))
    (same_entries c.self.inside.map c.renew.new.map (c.renew.ensures.same (search rules))))

pub invariant_of-self-in-Err : goal.invariant_of-self-in-Err
invariant_of-self-in-Err c =
    let stood = same_counts c.self.inside.users _ _ c.self.invariant (λ u. sym (c.renew.ensures.users u)) in
    same_counts c.drop_user-in-Err.new.users _ _
    (undone_counts c.self.inside.users c.add_user.new.users c.drop_user-in-Err.new.users _ c.args.user.now stood
    c.in_ok-add_user.ensures.ok c.drop_user-in-Err.ensures)
    (λ u. ap (λ es. clients_with u (values_of es)) (sym c.in-Err.ensures.err))
