-- A loop over parts of a call each: each goes on with the script where the one before left it.
use Rattle.cf_session.specs.Standing.{met_refused_memory}
use Rattle.cf_node.proofs.Carrying.{still_long}
use Rattle.cf_node.proofs.Growing.{grows_more, grows_none}
use Rattle.cf_node.proofs.desk.SessionDesk.go_on.Goals as goal

pub loop-part-init : goal.loop-part-init
loop-part-init g c = record {
  goes = λ long m end rest. rest;
  short = λ s. s;
  grows = grows_none c.args.self.now.outbox.outs.items;
}

pub loop-part-preserved : goal.loop-part-preserved
loop-part-preserved g c =
    let before = c.loop-part.invariant in
    record {
      goes = λ long m end rest.
          before.goes (still_long (met_refused_memory c.loop-part.self.talk.session)
          (met_refused_memory c.go_on-cost.new.self.session) c.go_on-cost.ensures.short long) m end
          (c.go_on-cost.ensures.goes long m end rest);
      short = λ s. c.go_on-cost.ensures.short (before.short s);
      grows = grows_more c.args.self.now.outbox.outs.items c.loop-part.self.outbox.outs.items
          c.take_over-came.new.outbox.outs.items before.grows c.take_over-came.ensures;
    }
