-- Without a row nothing is counted, and the table is whole.
use Rattle.std.proofs.Common.{ap, length, rules, sym}
use Rattle.cf_subs.proofs.table.SubTable.new.Goals as goal

pub invariant_of-result : goal.invariant_of-result
invariant_of-result c =
    record {
      whole = c.new.ensures.whole;
      rows = rw c.new.ensures.rows (search rules);
      counted = sym (ap length c.new.ensures.rows);
    }
