-- The name and its number go together, and the names of the others stay.
use Rattle.std.proofs.Common.{◌∙◌, ℕ, List, None, sym, ap, subst, arith}
use Rattle.std.specs.BTreeMap.{get_by_text}
use Rattle.std.specs.Prelude.{option_map, string_bytes}
use Rattle.std.proofs.lemmas.Map.Text.{text_keys}
use Rattle.cf_subscribers.specs.Names.{name_at, number_at}
use Rattle.cf_subscribers.specs.Numbers.{SetsNumber}
use Rattle.cf_subscribers.proofs.Numbering.{numbered_less, set_by}
use Rattle.cf_subscribers.proofs.names.Names.remove.Goals as goal

pub returns-in-Some-clause-numbered : goal.returns-in-Some-clause-numbered
returns-in-Some-clause-numbered c =
    let old = c.args.self.now in
    let numbers : SetsNumber c.args.self.now.numbers c.remove-number.new.self (string_bytes c.in-Some.name) None =
    subst (λ (t : List ℕ). SetsNumber c.args.self.now.numbers c.remove-number.new.self t None) c.as_str.ensures.value
    (λ q. grind (arith, text_keys)) in
    numbered_less (number_at old) (get_by_text c.remove-number.new.self) (name_at old)
    (λ n. option_map string_bytes (Rattle.slab.specs.Slab.get c.try_remove.new.self n))
    (string_bytes c.in-Some.name) c.args.number
    c.requires.numbered (ap (option_map string_bytes) (sym c.try_remove.ensures.value ∙ c.in-Some.is)) numbers
    (set_by old.names c.try_remove.new.self c.args.number None c.try_remove.ensures.updates)
