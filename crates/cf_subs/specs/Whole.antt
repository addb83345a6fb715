-- What always holds of a table's rows in their lists, and of the ends of these.
use Rattle.std.specs.Prelude.{◌≡◌, ℕ, List, length}
use Rattle.cf_subs.specs.declared.linked_rows.LinkedRows.{LinkedRows}
use Rattle.cf_subs.specs.declared.linked_row.LinkedRow.{LinkedRow}
use Rattle.cf_subs.specs.declared.table.Row.{Row}
use Rattle.cf_subs.specs.Ends.{IsHeaded}
use Rattle.cf_subs.specs.Held.{Held}
use Rattle.cf_subs.specs.Rows.{AreRows}
use Rattle.cf_subs.specs.RowBlocks.{AreLinked, channel_of, session_of, rows_of}

-- the blocks are linked, and each list has its ends in its map
pub record IsWhole (r : LinkedRows) : Type 0 where
  pub linked : AreLinked r.row_blocks.blocks.held
  pub channels : IsHeaded channel_of r.channels r.row_blocks.blocks.held
  pub sessions : IsHeaded session_of r.sessions r.row_blocks.blocks.held

-- the blocks, and the rows in them
abbrev pub blocks_of : LinkedRows → List (Held LinkedRow)
blocks_of r = r.row_blocks.blocks.held

abbrev pub rows_in : LinkedRows → List Row
rows_in r = rows_of r.row_blocks.blocks.held

-- what always holds of a table
pub record IsTable (r : LinkedRows) (count : ℕ) : Type 0 where
  pub whole : IsWhole r
  pub rows : AreRows (rows_of r.row_blocks.blocks.held)
  pub counted : count ≡ length (rows_of r.row_blocks.blocks.held)
