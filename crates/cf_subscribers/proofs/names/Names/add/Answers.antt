-- The number is free, so to give it to the name leaves the names of the others.
use Rattle.std.proofs.Common.{◌≡◌, ◌∙◌, ◌==◌, if◌then◌else◌, ℕ, List, Option, None, Some, sym, ap, rules, arith}
use Rattle.std.specs.BTreeMap.{get_by_text}
use Rattle.std.specs.Prelude.{option_map, string_bytes}
use Rattle.std.proofs.lemmas.Map.Text.{text_keys}
use Rattle.slab.specs.Slab.{get}
use Rattle.cf_subscribers.specs.Names.{name_at, number_at}
use Rattle.cf_subscribers.specs.Numbers.{SetsNumber}
use Rattle.cf_subscribers.proofs.Numbering.{numbered_more, set_by, same_slots}
use Rattle.cf_subscribers.proofs.names.Names.add.Goals as goal

pub returns-clause-numbered : goal.returns-clause-numbered
returns-clause-numbered c =
    let old = c.args.self.now in
    let key : c.insert_reserved.result ≡ c.in-Ok.number = search rules in
    let is : string_bytes c.in_ok-text.text ≡ c.args.name.now = search rules in
    let free : name_at c.args.self.now c.in-Ok.number ≡ None =
    sym (same_slots old.names c.reserve.new.self c.reserve.ensures.rest_kept c.in-Ok.number)
    ∙ ap (option_map string_bytes) (ap (get c.reserve.new.self) (sym key) ∙ c.insert_reserved.ensures.was_vacant) in
    let numbers : SetsNumber old.numbers c.insert.new.self c.args.name.now (Some c.in-Ok.number) =
    λ q. grind (arith, text_keys) in
    numbered_more (number_at old) (get_by_text c.insert.new.self) (name_at old)
    (λ m. option_map string_bytes (get c.insert_reserved.new.self m)) c.args.name.now c.in-Ok.number
    c.requires.numbered c.requires.absent
    free numbers
    (λ (m : ℕ). set_by c.reserve.new.self c.insert_reserved.new.self c.insert_reserved.result (Some c.in_ok-text.text)
    c.insert_reserved.ensures.updates m
    ∙ ap (λ (o : Option (List ℕ)). if m == c.insert_reserved.result then Some (string_bytes c.in_ok-text.text) else o)
    (same_slots old.names c.reserve.new.self c.reserve.ensures.rest_kept m)
    ∙ ap (λ (r : ℕ). if m == r then Some (string_bytes c.in_ok-text.text) else name_at old m) key
    ∙ ap (λ (b : List ℕ). if m == c.in-Ok.number then Some b else name_at old m) is)
