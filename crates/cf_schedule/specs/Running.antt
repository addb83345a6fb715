-- A world of a schedule, as contracts see it.
use Rattle.std.specs.Prelude.{ℕ, Bool}
use Rattle.cf_world.specs.declared.world.WorldParts.{WorldParts}

-- the broker, the nodes and the clients, how many events were carried out, and whether a part found no memory
pub record Running : Type 0 where
  pub parts : WorldParts
  pub count : ℕ
  pub is_short : Bool
