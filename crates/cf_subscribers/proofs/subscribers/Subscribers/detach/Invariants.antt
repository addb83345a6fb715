use Rattle.std.proofs.Common.{◌≡◌, ◌≤◌, length}
use Rattle.cf_subscribers.specs.Follows.{without_session}
use Rattle.cf_subscribers.specs.Names.{AreKept, named}
use Rattle.cf_subscribers.proofs.subscribers.Subscribers.detach.Given as goal

abbrev pub invariant-loop-number : goal.invariant-loop-number
invariant-loop-number l =
    record {
      kept : AreKept l.self-inside.names l.self-inside.rows;
      left : without_session (named l.self-inside.names l.self-inside.rows) l.session
          ≡ without_session l.fn.self l.session;
      fewer : length l.self-inside.rows ≤ l.count;
    }

abbrev pub decreases-loop-number : goal.decreases-loop-number
decreases-loop-number l = length l.self-inside.rows
