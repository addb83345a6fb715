-- Where an answer is owed: what may be unread puts it off, and else it is late by the definition's own difference.
use Rattle.std.proofs.Common.{rules, ◌≡◌, ◌-◌, ℕ, Bool, true, false, not, if◌then◌else◌, nat_le, Option, Some, sym, ap}
use Rattle.std.proofs.Common.{◌∙◌}
use Rattle.std.specs.Prelude.{◌&&◌}
use Rattle.cf_dispatch.specs.Pongs.{Watched, is_late, is_ping_due, owed_after}
use Rattle.cf_dispatch.proofs.pongs.PongWatch.second_comes.Goals as goal

-- what may be unread isn't late
unread : (now since : ℕ) (unheard due : Bool) (owed : Option ℕ) → owed ≡ Some since → unheard ≡ true
    → Some now ≡ owed_after now unheard due owed
unread now since unheard due owed e h =
    sym (ap (owed_after now unheard due) e ∙ ap (λ (b : Bool). Some (if b then now else since)) h)

-- what is all read is late after 8 seconds
late : (now since passed : ℕ) (unheard : Bool) (owed : Option ℕ) → owed ≡ Some since → unheard ≡ false
    → passed ≡ now - since → nat_le 8 passed ≡ is_late now unheard owed
late now since passed unheard owed e h p =
    ap (nat_le 8) p ∙ sym (ap (is_late now unheard) e ∙ ap (λ (b : Bool). not b && nat_le 8 (now - since)) h)

pub returns-then-is_unheard-clause-after : goal.returns-then-is_unheard-clause-after
returns-then-is_unheard-clause-after c =
    let w : Watched = c.args.self.now in
    let now : ℕ = c.args.now in
    let pinged : c.if-is_due.self-inside.pinged ≡ (if is_ping_due now w then now else w.pinged) = search rules in
    let asked : w.owed ≡ Some c.in-Some.since = search rules in
    ap (λ (n : ℕ). record { pinged = n; owed = Some now }) pinged
    ∙ ap (λ (o : Option ℕ). record { pinged = if is_ping_due now w then now else w.pinged; owed = o })
    (unread now c.in-Some.since c.args.is_unheard (is_ping_due now w) w.owed asked c.if-is_unheard.true)

pub returns-clause-late : goal.returns-clause-late
returns-clause-late c =
    let asked : c.args.self.now.owed ≡ Some c.in-Some.since = search rules in
    late c.args.now c.in-Some.since c.saturating_sub.result c.args.is_unheard c.args.self.now.owed asked
    c.if-is_unheard.false c.saturating_sub.ensures
