-- The last of a run stands at its end, so the end's offset is that one's.
use Rattle.std.proofs.Common.{rules, ◌≡◌, ◌-◌, Some, length, slice_get}
use Rattle.cf_hub.proofs.Runs.{last_of}
use Rattle.cf_hub.proofs.reply.end_of.Goals as goal

pub returns-in-Some : goal.returns-in-Some
returns-in-Some c =
    let got : slice_get c.args.run.now (length c.args.run.now - 1) ≡ Some c.in-Some.last.now = search rules in
    let end = last_of c.args.offset c.args.run.now c.in-Some.last.now c.requires got in search (rules, end)
