-- The loop keeps that the counts are those of who stays and of who is still to be looked at.
use Rattle.std.proofs.Common.{rules}
use Rattle.std.specs.Map.{values_of}
use Rattle.std.proofs.lemmas.Map.Iter.{rest_more}
use Rattle.cf_presence.proofs.UserCounts.{none_passed, drops_gone}
use Rattle.cf_presence.proofs.users.drop_gone.Goals as goal

pub loop-entry-init : goal.loop-entry-init
loop-entry-init c =
    none_passed c.args.now c.args.users.now (values_of c.args.clients.now.entries) _ c.requires
    c.values-rest.ensures.rest

pub loop-entry-preserved-then-not-stands : goal.loop-entry-preserved-then-not-stands
loop-entry-preserved-then-not-stands c =
    let first = rest_more _ c.loop-entry.rest c.next.new.self c.next.result c.in-Some.entry c.in-Some.is
    c.next.ensures.steps in
    drops_gone c.args.now c.loop-entry.users c.drop_user.new.users _ c.loop-entry.rest c.next.new.self
    c.in-Some.entry.now c.user.result.now c.loop-entry.invariant c.drop_user.ensures first (search rules)
    c.user.ensures
