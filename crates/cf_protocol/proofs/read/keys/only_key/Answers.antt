-- The loop keeps what of the keys so far is found; the first is taken, and a second one is found to be two.
use Rattle.std.proofs.Common.{rules}
use Rattle.cf_protocol.specs.Reading.{each_under, with_value, the_key}
use Rattle.cf_protocol.proofs.Choices.{goes_past, finds_first, finds_second, chosen}
use Rattle.cf_protocol.proofs.read.keys.only_key.Goals as goal

pub loop-entry-preserved-in_default : goal.loop-entry-preserved-in_default
loop-entry-preserved-in_default g c fs reads =
    let keys = c.args.keys.now in
    goes_past c.args.members.now.text.now with_value c.loop-entry.only (each_under with_value keys fs) keys
    c.loop-entry.entry-index c.entry-item.result fs
    (record { other = _; within = c.loop-entry-test.true; is = c.entry-item.is }) (c.in_default.ensures fs reads)
    (c.loop-entry.invariant fs reads)

pub loop-entry-preserved : goal.loop-entry-preserved
loop-entry-preserved g c fs reads =
    let keys = c.args.keys.now in
    finds_first c.args.members.now.text.now with_value c.loop-entry.only (each_under with_value keys fs) keys
    c.loop-entry.entry-index c.entry-item.result fs c.in-Some.span
    (record { other = _; within = c.loop-entry-test.true; is = c.entry-item.is }) (c.in-Some.ensures fs reads)
    (search rules) (c.loop-entry.invariant fs reads)

pub returns-then-is_some : goal.returns-then-is_some
unfolding the_key
returns-then-is_some g c fs reads =
    let keys = c.args.keys.now in
    finds_second c.args.members.now.text.now with_value c.loop-entry.only (each_under with_value keys fs) keys
    c.loop-entry.entry-index c.entry-item.result fs c.in-Some.span
    (record { other = _; within = c.loop-entry-test.true; is = c.entry-item.is }) (c.in-Some.ensures fs reads)
    (search rules) (c.loop-entry.invariant fs reads)

pub returns : goal.returns
returns g c fs reads =
    rw c.ok_or.ensures.value
    (chosen c.args.members.now.text.now c.loop-entry.only c.args.keys.now c.loop-entry.entry-index fs
    c.loop-entry-test.false (c.loop-entry.invariant fs reads))
