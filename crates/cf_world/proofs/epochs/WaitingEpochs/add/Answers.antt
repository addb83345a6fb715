-- An epoch that is empty or came before is left out, as the definition has it by one test.
use Rattle.std.proofs.Common.{rules, ◌≡◌, ℕ, List, Bool, true, false, cond, ◌==◌, ◌||◌, length, refl, sym, subst, ◌∙◌}
use Rattle.std.proofs.Common.{if◌then◌else◌}
use Rattle.std.specs.BTreeSet.{contains_text}
use Rattle.std.specs.Str.{bytes_eq}
use Rattle.std.specs.String.{string_bytes}
use Rattle.std.proofs.lemmas.Map.Text.{btree_set_updates_text}
use Rattle.cf_world.proofs.epochs.WaitingEpochs.add.Goals as goal

either : (a b : Bool) → cond a true b ≡ (a || b)
either true b = refl
either false b = refl

pub returns-clause-came : goal.returns-clause-came
returns-clause-came c = λ e.
    let key = c.in_ok-key.key in
    let epoch : List ℕ = c.args.epoch in
    let new : (length epoch == 0) || contains_text c.args.self.now.came epoch ≡ false = search rules in
    let same : string_bytes key ≡ epoch = search rules in
    let updated =
    btree_set_updates_text (string_bytes key) c.args.self.now.came c.insert.new.self true
    c.in_ok-insert.ensures.updates e in
    subst (λ (t : Bool). contains_text c.insert.new.self e
    ≡ (if t then contains_text c.args.self.now.came e else bytes_eq epoch e
    || contains_text c.args.self.now.came e)) (sym new)
    (subst (λ (bs : List ℕ). contains_text c.insert.new.self e
    ≡ (bytes_eq bs e || contains_text c.args.self.now.came e)) same
    (updated ∙ either (bytes_eq (string_bytes key) e) (contains_text c.args.self.now.came e)))
