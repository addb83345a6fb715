-- A slot within the accounts pays: its own account is the one that changes, and each capped sum is the definition's.
use Rattle.std.proofs.Common.{rules, ◌≡◌, ◌<◌, ◌/◌, ◌==◌, ℕ, Bool, true, false, if◌then◌else◌, List, length, slice_set}
use Rattle.std.proofs.Common.{get_or, max, nat_lt, refl, sym, ap, subst, ◌∙◌}
use Rattle.std.proofs.lemmas.List.{get_or_read, get_or-set_same, get_or-set_other}
use Rattle.cf_fair.specs.Fair.{Fair, Pays, PaysIf, up}
use Rattle.cf_fair.proofs.Lanes.{differs, same}
use Rattle.cf_fair.proofs.queue.FairQueue.charge.Goals as goal

-- a slot that came once pays
paid : (b : Bool) (k cost others : ℕ) (old new : Fair) → b ≡ true → Pays k cost others old new
    → PaysIf b k cost others old new
paid true k cost others old new e p = p
paid false k cost others old new e p = absurd (cc)

-- one account is another, and the others stay
put : (xs : List (ℕ × ℕ)) (k : ℕ) (v : ℕ × ℕ) → k < length xs → (j : ℕ)
    → get_or (slice_set xs k v) j (0, 0) ≡ (if k == j then v else get_or xs j (0, 0))
put xs k v l j = by_value j (k == j) refl
  where
    by_value : (j : ℕ) (b : Bool) → (k == j) ≡ b → get_or (slice_set xs k v) j (0, 0)
        ≡ (if b then v else get_or xs j (0, 0))
    by_value j true e =
        subst (λ (i : ℕ). get_or (slice_set xs k v) i (0, 0) ≡ v) (same k j e) (get_or-set_same xs k v (0, 0) l)
    by_value j false e = get_or-set_other xs k j v (0, 0) (λ h. absurd (differs k j e (sym h)))

pub returns-then-slot-len : goal.returns-then-slot-len
returns-then-slot-len c =
    let q = c.self.inside in
    let k : ℕ = c.args.slot in
    let within : k < length q.accounts.items = search rules in
    let known : nat_lt k (length q.accounts.items) ≡ true = search rules in
    let was : ℕ × ℕ = get_or q.accounts.items k (0, 0) in
    let now : ℕ × ℕ = (up was.0 c.args.cost, max c.args.cost (was.1 / 2)) in
    let read : c.index.result.now ≡ was = get_or_read q.accounts.items _ _ within c.index.ensures (0, 0) in
    let read_again : c.index-then-slot-len.result.now ≡ was =
    get_or_read q.accounts.items _ _ within c.index-then-slot-len.ensures (0, 0) in
    let time : c.saturating_add-time.result ≡ now.0 =
    c.saturating_add-time.ensures ∙ ap (λ (v : ℕ × ℕ). up v.0 c.args.cost) read in
    let due : c.max-expected.result ≡ max c.args.cost (c.index-then-slot-len.result.now.1 / 2) = search rules in
    let account : (c.saturating_add-time.result, c.max-expected.result) ≡ now =
    ap (λ (n : ℕ). (n, c.max-expected.result)) time
    ∙ ap (λ (n : ℕ). (now.0, n)) (due ∙ ap (λ (v : ℕ × ℕ). max c.args.cost (v.1 / 2)) read_again) in
    rw (← c.self.view_is) (paid _ _ _ _ _ _ known (record {
      light = refl;
      held = refl;
      accounts = λ j. put q.accounts.items k (c.saturating_add-time.result, c.max-expected.result) within j
          ∙ ap (λ (v : ℕ × ℕ). if k == j then v else get_or q.accounts.items j (0, 0)) account;
      clock = c.saturating_add-self-inside.ensures ∙ ap (λ (n : ℕ). up q.clock (c.args.cost / n))
          (c.saturating_add.ensures ∙ ap (λ (n : ℕ). up n 1)
          (c.saturating_add-waiting.ensures ∙ ap (λ (n : ℕ). up n c.args.others) c.len-then-slot-len.ensures.len));
      budget = refl;
      number = refl;
    }))
