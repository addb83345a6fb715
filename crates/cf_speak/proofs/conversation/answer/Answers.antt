-- What was written before stays, so what the answer writes comes behind it, unless memory ran short.
use Rattle.std.proofs.Common.{◌≡◌, ◌∙◌, false, Some, None, List, ℕ, refl, sym, subst}
use Rattle.std.specs.Io.KnownBytes.{Appends, Keeps}
use Rattle.cf_session.specs.Standing.{met_refused_memory, progress_of, tables_of}
use Rattle.cf_speak.specs.Scene.{met_refused_memory as node_met_refused_memory, waits}
use Rattle.cf_speak.specs.Shown.{scene_of}
use Rattle.cf_session.specs.Played.{Serves}
use Rattle.cf_speak.proofs.Playing.{does_at, over_at, serves_long}
use Rattle.cf_speak.proofs.conversation.answer.Goals as goal
use Rattle.std.proofs.Common.{Option}

kept_after : (a b c : Option (List ℕ)) (xs : List ℕ) → Appends a b xs → Keeps b c → Appends a c xs
kept_after None b c xs h k = tt
kept_after (Some p) (Some q) (Some r) xs h k = k ∙ h
kept_after (Some p) (Some q) None xs h k = absurd k
kept_after (Some p) None c xs h k = absurd h

pub returns-clause-answers : goal.returns-clause-answers
returns-clause-answers g c =
    let long : met_refused_memory c.serve_text.new.session ≡ false = sym c.short.ensures ∙ c.if-short.false in
    let well : node_met_refused_memory (scene_of c.serve_text.new.node) ≡ false =
    sym c.is_out_of_memory.ensures ∙ c.if-is_out_of_memory.false in
    record {
      text = c.in-Ok.ensures.cases.1;
      given = waits (scene_of c.serve_text.new.node);
      turn = record {
        heard = scene_of c.serve_text.new.node;
        serves = serves_long (tables_of c.args.session.now) (progress_of c.args.session.now) c.args.node.now
            c.args.line.now
            c.serve_text.new.node (progress_of c.serve_text.new.session)
            (subst (λ (x : List ℕ). Serves over_at does_at (tables_of c.args.session.now)
            (progress_of c.args.session.now) c.args.node.now x
            c.serve_text.new.node (progress_of c.serve_text.new.session)) c.in-Ok.ensures.cases.0
            (c.serve_text.ensures.serves long)) well;
        gives = refl;
        drained = c.in_ok-write_waiting.ensures.drained;
      };
      written = kept_after _ _ _ _ c.in_ok-write_waiting.ensures.written c.in_ok-flush.ensures.bytes;
    }
