-- What an application gets, as the machine has it: texts by their bytes.
use Rattle.std.proofs.lemmas.Bool.{false≢true}
use Rattle.std.specs.Prelude.{Bool, true, false, IsTrue, List, [], ◌∷◌}
use Rattle.cf_client.specs.AppItem as item
use Rattle.cf_client.specs.AppItem.{AppItem}
use Rattle.cf_client.specs.Shown.{shown_item}
use Rattle.cf_machine.specs.Trace.{Item, Subscribed, Published, Resubscribing, Refused, Listed, Closed}
use Rattle.cf_world.specs.declared.entry.Item.{Item as CodeItem}
use Rattle.cf_world.specs.declared.entry.Item.TheVariants as code

-- an application isn't told of a ping
abbrev pub is_told : AppItem → Bool
is_told (item.Subscribed c was recovered p) = true
is_told (item.Published c p body) = true
is_told (item.Resubscribing c code) = true
is_told (item.Refused c code) = true
is_told (item.Listed c p count) = true
is_told item.PongDue = false

abbrev pub told : (e : AppItem) → IsTrue (is_told e) → Item
told (item.Subscribed c was recovered p) h = Subscribed c was recovered p
told (item.Published c p body) h = Published c p body
told (item.Resubscribing c code) h = Resubscribing c code
told (item.Refused c code) h = Refused c code
told (item.Listed c p count) h = Listed c p count
told item.PongDue h = absurd (false≢true h)

abbrev pub told_of : AppItem → List Item
told_of (item.Subscribed c was recovered p) = Subscribed c was recovered p ∷ []
told_of (item.Published c p body) = Published c p body ∷ []
told_of (item.Resubscribing c code) = Resubscribing c code ∷ []
told_of (item.Refused c code) = Refused c code ∷ []
told_of (item.Listed c p count) = Listed c p count ∷ []
told_of item.PongDue = []

-- what it got is a close, or it was told of it
abbrev pub is_got : CodeItem → Bool
is_got (code.Told e) = is_told (shown_item e)
is_got (code.Closed c) = true

abbrev pub got : (i : CodeItem) → IsTrue (is_got i) → Item
got (code.Told e) h = told (shown_item e) h
got (code.Closed c) h = Closed c
