-- Entries, one after another.
use Rattle.std.proofs.Common.{◌≡◌, ◌∙◌, ℕ, List, [], ◌∷◌, ◌++◌, flat_map, map, append_assoc, refl, sym, ap}
use Rattle.std.specs.Prelude.{IsTrue}
use Rattle.std.specs.String.{string_bytes}
use Rattle.std.proofs.lemmas.List.{append-nil, map-append}
use Rattle.cf_client.specs.AppItem as item
use Rattle.cf_client.specs.AppItem.{AppItem}
use Rattle.cf_client.specs.Shown.{shown_item}
use Rattle.cf_client.specs.declared.event.AppEvent.{AppEvent}
use Rattle.cf_machine.specs.Told.{entries}
use Rattle.cf_machine.specs.Trace.{Entry, Item}
use Rattle.cf_world.specs.Entries.{shown_entry}
use Rattle.cf_world.specs.Items.{is_got, is_told, got, told, told_of}
use Rattle.cf_world.specs.declared.entry.Entry.{Entry as CodeEntry}
use Rattle.cf_world.specs.declared.entry.Item.{Item as CodeItem}
use Rattle.cf_world.specs.declared.entry.Item.TheVariants as code

pub flat-append : {A B : Type 0} (f : A → List B) (xs ys : List A)
    → flat_map f (xs ++ ys) ≡ flat_map f xs ++ flat_map f ys
flat-append f [] ys = refl
flat-append f (x ∷ xs) ys =
    ap (λ zs. f x ++ zs) (flat-append f xs ys) ∙ sym (append_assoc (f x) (flat_map f xs) (flat_map f ys))

pub flat-one : {A B : Type 0} (f : A → List B) (x : A) → flat_map f (x ∷ []) ≡ f x
flat-one f x = append-nil (f x)

pub entries-then : (n : ℕ) (x : List ℕ) (is js : List Item) → entries n x (is ++ js) ≡ entries n x is ++ entries n x js
entries-then n x [] js = refl
entries-then n x (i ∷ is) js = ap (λ es. record { at = n; client = x; item = i } ∷ es) (entries-then n x is js)

-- what is no ping is told once
told-once : (e : AppItem) (h : IsTrue (is_told e)) → told_of e ≡ told e h ∷ []
told-once (item.Subscribed c was recovered p) h = refl
told-once (item.Published c p body) h = refl
told-once (item.Resubscribing c code) h = refl
told-once (item.Refused c code) h = refl
told-once (item.Listed c p count) h = refl
told-once item.PongDue h = absurd (cc)

-- what one application was told, behind what the others were
pub entry-told : (e : CodeEntry) (event : AppEvent) (x : List ℕ) → e.item ≡ code.Told event → string_bytes e.client ≡ x
    → entries e.at x (told_of (shown_item event)) ≡ shown_entry e ∷ []
entry-told e event x is name = by_item e.item e.is_got is
  where
    by_item : (i : CodeItem) (g : IsTrue (is_got i)) → i ≡ code.Told event
        → entries e.at x (told_of (shown_item event))
        ≡ (record { at = e.at; client = string_bytes e.client; item = got i g }) ∷ []
    by_item (code.Told f) g same =
        let event-is : f ≡ event = cc in
        ap (λ (v : AppEvent). entries e.at x (told_of (shown_item v))) (sym event-is)
        ∙ ap (entries e.at x) (told-once (shown_item f) g)
        ∙ ap (λ (y : List ℕ). record { at = e.at; client = y; item = told (shown_item f) g } ∷ []) (sym name)
    by_item (code.Closed c) g same = absurd (cc)

-- the entries of what was told so far, and of one event more
pub told-after : (n : ℕ) (x : List ℕ) (done : List AppEvent) (event : AppEvent) (es : List Entry)
    → entries n x (told_of (shown_item event)) ≡ es
    → entries n x (flat_map told_of (map shown_item done)) ++ es
    ≡ entries n x (flat_map told_of (map shown_item (done ++ event ∷ [])))
told-after n x done event es h =
    let before = flat_map told_of (map shown_item done) in
    ap (λ t. entries n x before ++ t) (sym h)
    ∙ sym (entries-then n x before (told_of (shown_item event)))
    ∙ ap (λ is. entries n x (before ++ is)) (sym (flat-one told_of (shown_item event)))
    ∙ sym (ap (entries n x) (ap (flat_map told_of) (map-append shown_item done (event ∷ []))
    ∙ flat-append told_of (map shown_item done) (shown_item event ∷ [])))
