-- Which word counts which shard's log. (This project's own profile.)
use Rattle.std.specs.Prelude.{[]}
use Rattle.atomic_table.specs.Seated.{TableId}

-- the name of no word
abbrev pub no_word : TableId
no_word = record { words = 0; slots = 0; views_name = 0; atom = 0; block = 0; offset = 0; slot_names = [] }
