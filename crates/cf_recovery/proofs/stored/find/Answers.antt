-- The loop keeps that none so far stands at the offset wanted; one that does is found.
use Rattle.std.proofs.Common.{◌+◌, ◌<◌, ◌∙◌, sym, length, arith}
use Rattle.cf_recovery.specs.Stored.{stored}
use Rattle.cf_recovery.proofs.Storing.{is_at-read, none_more, none_all, length-stored}
use Rattle.cf_recovery.proofs.stored.find.Goals as goal

pub returns-then-is_ahead-clause-found : goal.returns-then-is_ahead-clause-found
returns-then-is_ahead-clause-found c =
    let inside : c.loop-i.i < length c.args.epochs.now = omega arith in
    let read = is_at-read c.args.epochs.now c.args.publications.now c.args.at.now.epoch
    (c.args.at.now.offset + c.args.ahead) c.loop-i.i _ _ inside c.loop-i-test.true c.index-epochs-i.is
    c.index-publications-i.is in
    (c.loop-i.auto.i, c.loop-i-test.true, read ∙ sym c.is_ahead.ensures ∙ c.if-is_ahead.true)

pub loop-i-preserved : goal.loop-i-preserved
loop-i-preserved c =
    let inside : c.loop-i.i < length c.args.epochs.now = omega arith in
    let read = is_at-read c.args.epochs.now c.args.publications.now c.args.at.now.epoch
    (c.args.at.now.offset + c.args.ahead) c.loop-i.i _ _ inside c.loop-i-test.true c.index-epochs-i.is
    c.index-publications-i.is in
    none_more (stored c.args.epochs.now c.args.publications.now) c.args.at.now.epoch
    (c.args.at.now.offset + c.args.ahead) c.args.from c.loop-i.i c.loop-i.invariant
    (read ∙ sym c.is_ahead.ensures ∙ c.if-is_ahead.false)

pub returns-clause-none : goal.returns-clause-none
returns-clause-none c =
    let many = length-stored c.args.epochs.now c.args.publications.now c.requires in
    none_all (stored c.args.epochs.now c.args.publications.now) c.args.at.now.epoch
    (c.args.at.now.offset + c.args.ahead) c.args.from c.loop-i.i c.loop-i.invariant (omega arith)
