-- The node has a number, so the read is that of the session there.
use Rattle.std.proofs.Common.{rules, ◌≡◌, ℕ, Option, Some, refl, sym, subst, inl}
use Rattle.cf_protocol.specs.Position.{Position}
use Rattle.cf_session.specs.Calls.{Answer}
use Rattle.cf_speak.specs.Scene.{Scene}
use Rattle.cf_speak.specs.Steps.{Reads, read_at}
use Rattle.cf_speak.proofs.local_node.LocalNodeCommandExecutor.read.Goals as goal
use Rattle.std.proofs.Common.{List}

reads_at : (n : Option ℕ) (k : ℕ) (c : List ℕ) (since : Option Position) (s m : Scene) (a : Answer)
    → n ≡ Some k → Reads k c since s m a → read_at n c since s m a
reads_at n k c since s m a e h = subst (λ (x : Option ℕ). read_at x c since s m a) (sym e) (inl h)

pub returns-in-Ok-clause-does : goal.returns-in-Ok-clause-does
returns-in-Ok-clause-does c = record {
  remembered = search rules;
  step = λ long.
      reads_at _ c.in-Some.number c.args.channel.now c.args.since _ _ _ c.in-Some.is (record {
        found = c.in-Ok.recovery;
        recovery = c.in-Ok.ensures.answer;
        drawn = c.in-Ok.ensures.epochs.drawn;
        streams = c.in-Ok.ensures.makes;
        hub = c.read_done.ensures.sessions;
        answer = refl;
        rest = refl;
      });
}
