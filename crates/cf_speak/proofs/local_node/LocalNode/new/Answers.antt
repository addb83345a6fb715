-- Each part is new, so the whole is the node that the definition begins with.
use Rattle.std.proofs.Common.{None, false}
use Rattle.cf_speak.proofs.local_node.LocalNode.new.Goals as goal

pub returns : goal.returns
returns c =
    λ i. record {
      hub = c.new-2.ensures i;
      streams = c.in_ok-streams.ensures.empty i;
      people = c.new-3.ensures i;
      epochs = c.args.epochs;
      number = None;
      turned_away = None;
      due = None;
      is_short = false;
    }
