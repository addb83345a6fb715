-- The line that is printed for each thing that an application got. (This project's own format.)
use Rattle.std.specs.Prelude.{ℕ, List, [], ◌∷◌, ◌++◌, flat_map, codes, Bool, if◌then◌else◌}
use Rattle.std.specs.Fmt.{decimal}
use Rattle.cf_machine.specs.Trace.{Item, Subscribed, Published, Resubscribing, Refused, Listed, Closed, Entry}

-- words separated by one space
abbrev pub spaced : List (List ℕ) → List ℕ
spaced [] = []
spaced (w ∷ []) = w
spaced (w ∷ v ∷ ws) = w ++ 32 ∷ spaced (v ∷ ws)

-- how a subscription stands to what its client had
abbrev pub answer_word : Bool → Bool → List ℕ
answer_word was_recovering recovered =
    if was_recovering then (if recovered then codes "recovered" else codes "lost") else codes "fresh"

abbrev pub item_words : Item → List (List ℕ)
item_words (Subscribed c was recovered p) =
    c ∷ codes "sub" ∷ p.epoch ∷ decimal p.offset ∷ answer_word was recovered ∷ []
item_words (Published c p body) = c ∷ codes "pub" ∷ p.epoch ∷ decimal p.offset ∷ body ∷ []
item_words (Resubscribing c code) = c ∷ codes "again" ∷ decimal code ∷ []
item_words (Refused c code) = c ∷ codes "refused" ∷ decimal code ∷ []
item_words (Listed c p count) = c ∷ codes "list" ∷ p.epoch ∷ decimal p.offset ∷ decimal count ∷ []
item_words (Closed code) = codes "closed" ∷ decimal code ∷ []

abbrev pub line_of : Entry → List ℕ
line_of e = spaced (e.client ∷ item_words e.item)

-- each line ends with a line feed
abbrev pub printed : List Entry → List ℕ
printed es = flat_map (λ e. line_of e ++ 10 ∷ []) es
