-- What the session waits for is the answer that this action has, as `next` says.
use Rattle.std.proofs.Common.{◌≡◌, ◌∙◌, Option, Some, not, option_map, ap, sym, subst}
use Rattle.cf_session.specs.Played.{asked_kind}
use Rattle.cf_session.specs.Shown.{answer_kind, shown_action, shown_answer}
use Rattle.cf_session.specs.Standing.{progress_of}
use Rattle.cf_session.specs.declared.action.Action.{Action}
use Rattle.cf_session.specs.declared.action.Answer.{Answer}
use Rattle.cf_world.proofs.Long.{out-awaits}
use Rattle.cf_world.specs.Acting.{Performs}
use Rattle.cf_world.specs.Stepping.{Next}
use Rattle.cf_world.proofs.stepping.step.Goals as goal

pub answer_to-requires : goal.answer_to-requires
answer_to-requires c =
    let s = c.args.session.now in
    let t = c.next.new.session in
    let n : Next s t (Some (shown_action c.in-Some.action)) =
    subst (λ (o : Option Action). Next s t (option_map shown_action o)) c.in-Some.is c.in_ok-action.ensures in
    let kind : Some (answer_kind c.in-Some-2.answer) ≡ asked_kind (shown_action c.in-Some.action) =
    subst (λ (o : Option Answer). option_map answer_kind o ≡ asked_kind (shown_action c.in-Some.action)) c.in-Some-2.is
    c.in_ok-answer.ensures.kind in
    sym (out-awaits (progress_of s) (progress_of t) (shown_action c.in-Some.action) n.does) ∙ sym kind

pub returns : goal.returns
returns c =
    let s = c.args.session.now in
    let t = c.next.new.session in
    let act = shown_action c.in-Some.action in
    let n : Next s t (Some act) =
    subst (λ (o : Option Action). Next s t (option_map shown_action o)) c.in-Some.is c.in_ok-action.ensures in
    record {
      act = Some act;
      answer = Some c.in-Some-2.answer;
      mid = progress_of t;
      does = n.does;
      kind = subst (λ (o : Option Answer). option_map answer_kind o ≡ asked_kind act) c.in-Some-2.is
          c.in_ok-answer.ensures.kind;
      performs = subst (λ (o : Option Answer). Performs c.args.number act (option_map shown_answer o) c.args.broker.now
          c.carry_out_action.new.broker c.args.hub.now c.carry_out_action.new.hub) c.in-Some-2.is
          c.in_ok-answer.ensures.does;
      goes = c.in_ok-answer_to.ensures.goes;
      more_is = ap not c.is_begun-begun.ensures;
      stays = record {
        tables = c.in_ok-answer_to.ensures.stays.tables ∙ n.stays.tables;
        long = c.in_ok-answer_to.ensures.stays.long;
      };
      idle = λ none. absurd (cc (none));
    }
