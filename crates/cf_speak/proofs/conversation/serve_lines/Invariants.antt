use Rattle.std.proofs.Common.{◌≡◌, true, false}
use Rattle.cf_session.specs.Standing.{is_idle, progress_of, tables_of}
use Rattle.cf_speak.specs.Scene.{is_over}
use Rattle.cf_speak.specs.Shown.{scene_of}
use Rattle.cf_speak.proofs.Turns.{GoesFrom}
use Rattle.cf_speak.proofs.conversation.serve_lines.Given as goal

abbrev pub invariant-loop : goal.invariant-loop
invariant-loop g l = record {
  over : is_over (scene_of l.node) ≡ false;
  idle : is_idle l.session ≡ true;
  tables : tables_of l.session ≡ tables_of l.fn.session;
  namespaces : (scene_of l.node).streams.namespaces ≡ (tables_of l.session).namespaces;
  goes : GoesFrom (tables_of l.fn.session) (progress_of l.fn.session) (scene_of l.fn.node)
      (g.R.Read.remaining l.fn.reader) (g.R.Read.remaining l.reader)
      (g.W.Write.contents l.fn.writer) (g.W.Write.contents l.writer) (scene_of l.node) (progress_of l.session);
}
