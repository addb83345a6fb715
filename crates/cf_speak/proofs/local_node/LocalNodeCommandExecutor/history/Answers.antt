-- The stream is listed, and the node then says the reply, unless memory is refused for it.
use Rattle.std.proofs.Common.{rules, ap, refl, inl, Err, Ok, Result, ◌∙◌}
use Rattle.std.specs.Prelude.{OnErr, OnOk}
use Rattle.cf_protocol.specs.declared.codes.ErrorCode.{ErrorCode}
use Rattle.cf_session.specs.Calls.{Answer, Done}
use Rattle.cf_session.specs.Shown.{shown_answer}
use Rattle.cf_session.specs.declared.action.Answer.TheVariants as answer
use Rattle.cf_stream.specs.Streams.{StreamMap}
use Rattle.cf_speak.specs.Shown.{scene_of}
use Rattle.cf_speak.specs.Steps.{history_at}
use Rattle.cf_speak.proofs.local_node.LocalNodeCommandExecutor.history.Goals as goal

-- it is answered, or memory was refused
answered : {A B : Type 0} (P : Answer → Type 0) (r : Result Unit ErrorCode) → OnOk r A → OnErr r B → (B → ⊥)
    → (A → P Done) → P (shown_answer (answer.History r))
answered P (Ok u) says err never done = done says
answered P (Err e) says err never done = absurd (never err)

pub returns-in-Ok-clause-does : goal.returns-in-Ok-clause-does
returns-in-Ok-clause-does c = record {
  remembered = c.tell_history.ensures.short;
  step = λ long.
      answered (history_at c.args.channel.now c.args.id c.args.limit c.args.since (scene_of c.args.self.now)
      (scene_of c.tell_history.new.self)) c.tell_history.result
      c.tell_history.ensures.says c.tell_history.ensures.err (λ short. absurd (cc (short, long)))
      (λ says. inl (record {
        position = c.in-Ok.history.position;
        publications = c.in-Ok.history.publications.items;
        between = record (scene_of c.args.self.now) { streams = c.history.new.self; epochs = c.history.new.epochs };
        history = search rules;
        drawn = search rules;
        streams = search rules;
        rest = refl;
        says = says long;
        answer = refl;
      }));
}

pub returns-in-Ok-clause-namespaces : goal.returns-in-Ok-clause-namespaces
returns-in-Ok-clause-namespaces c = ap (λ (k : StreamMap). k.namespaces) c.tell_history.ensures.streams ∙ search rules
