use Rattle.std.proofs.Common.{◌≡◌, false}
use Rattle.cf_session.specs.Standing.{tables_of, progress_of, met_refused_memory, work_of}
use Rattle.cf_session.specs.Played.{Goes}
use Rattle.cf_session.specs.Turn.{CanGoOn, StaysSetUp}
use Rattle.cf_session.proofs.serve.serve_text.Given as goal

abbrev pub invariant-loop : goal.invariant-loop
invariant-loop g l = record {
  goes : met_refused_memory l.session ≡ false
      → Goes g.N.CommandExecutor.closed g.N.CommandExecutor.does (tables_of l.fn.session) (progress_of l.fn.session) l.fn.node l.text
      (progress_of l.session) l.node;
  ready : CanGoOn l.session;
  keeps : StaysSetUp l.fn.session l.session;
  namespaces : g.N.CommandExecutor.namespaces l.node ≡ g.N.CommandExecutor.namespaces l.fn.node;
}

abbrev pub decreases-loop : goal.decreases-loop
decreases-loop g l = work_of l.session
