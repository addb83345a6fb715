use Rattle.std.proofs.Common.{◌≡◌, ◌<◌, ◌≤◌, ◌⊎◌, false}
use Rattle.cf_session.specs.Standing.{progress_of, met_refused_memory, work_of}
use Rattle.cf_session.specs.Played.{LeadsOn}
use Rattle.cf_session.specs.Turn.{CanGoOn, StaysSetUp, Spends, units_left}
use Rattle.cf_session.proofs.turn.carry_on.Given as goal

abbrev pub invariant-loop-session : goal.invariant-loop-session
invariant-loop-session g l = record {
  leads : met_refused_memory l.session ≡ false
      → LeadsOn g.N.CommandExecutor.closed g.N.CommandExecutor.does (progress_of l.fn.session) l.fn.node (progress_of l.session) l.node;
  ready : CanGoOn l.session;
  keeps : StaysSetUp l.fn.session l.session;
  namespaces : g.N.CommandExecutor.namespaces l.node ≡ g.N.CommandExecutor.namespaces l.fn.node;
  spends : Spends g.N.CommandExecutor.closed g.N.CommandExecutor.does l.fn.node (units_left l.fn.budget) l.node (units_left l.budget);
  down : work_of l.session ≤ work_of l.fn.session;
  work : (work_of l.session < work_of l.fn.session) ⊎ (units_left l.budget ≡ units_left l.fn.budget);
}

abbrev pub decreases-loop-session : goal.decreases-loop-session
decreases-loop-session g l = work_of l.session
