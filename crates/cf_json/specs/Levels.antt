-- How deep brackets nest, byte by byte; those within strings are none.
use Rattle.std.specs.Prelude.{ℕ, ◌+◌, ◌-◌, max, List, [], ◌∷◌, if◌then◌else◌}
use Rattle.cf_json.specs.Bytes.{is_opening, is_closing}
use Rattle.cf_json.specs.Squeeze.{next}
use Rattle.cf_json.specs.declared.squeeze.SqueezeMode.{SqueezeMode}
use Rattle.cf_json.specs.declared.squeeze.SqueezeMode.TheVariants.{Between, Within, Escaped}

unfoldable pub level_after : SqueezeMode → ℕ → ℕ → ℕ
level_after Between x l = if is_opening x then l + 1 else if is_closing x then l - 1 else l
level_after Within x l = l
level_after Escaped x l = l

-- the deepest level, from the level at hand and the deepest so far
unfoldable pub deepest : SqueezeMode → ℕ → ℕ → List ℕ → ℕ
deepest m l d [] = d
deepest m l d (x ∷ xs) = deepest (next m x) (level_after m x l) (max d (level_after m x l)) xs
