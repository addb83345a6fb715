-- The rows of a session are no more than the table's, so their count fits.
use Rattle.std.proofs.Common.{arith, inl, ◌≤◌, length}
use Rattle.cf_subs.specs.Rows.{AreRows, channels_of, most_rows}
use Rattle.cf_subs.proofs.Members.{few_channels}
use Rattle.cf_subs.proofs.table.SubTable.channel_count.Goals as goal

pub count-requires-clause-fits : goal.count-requires-clause-fits
count-requires-clause-fits c =
    let rows : AreRows c.args.self.now = c.walk_session.ensures.rows in
    let few : length (channels_of c.args.self.now c.args.session) ≤ most_rows =
    few_channels c.args.self.now c.args.session rows.few in
    inl (rw c.walk_session.ensures.channels (omega (arith, few)))
