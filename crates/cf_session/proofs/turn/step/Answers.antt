-- One action: what the session's next action says of its act, the node is asked for, and the way from there is the
-- script's (lemmas of Playing).
use Rattle.std.proofs.Common.{◌≡◌, ◌∙◌, ◌-◌, ℕ, false, Option, Some, None, option_map, sym, ap, subst}
use Rattle.cf_protocol.specs.Settings.{NamespaceTable}
use Rattle.cf_session.specs.CommandScripts.{Tables}
use Rattle.cf_session.specs.SessionMachine.{Acts, Does}
use Rattle.cf_session.specs.Shown.{shown_action}
use Rattle.cf_session.specs.Standing.{tables_of, progress_of, met_refused_memory, refusals}
use Rattle.cf_session.specs.declared.action.Action.{Action}
use Rattle.cf_session.specs.Played.{ActHasStream, AskStreams}
use Rattle.cf_session.specs.Turn.{Spends, acts, cost, units_left}
use Rattle.cf_session.proofs.Playing.{acts_awaited, acts_does, acts_ask, acts_none, acts_stream, can_go_on_at}
use Rattle.cf_session.proofs.Playing.{leads_same, long_now, next_leads, same_can_go_on, short_stays, still_long}
use Rattle.cf_session.proofs.turn.step.Goals as goal

pub carry_out-requires-clause-kind : goal.carry_out-requires-clause-kind
carry_out-requires-clause-kind g c =
    let head = c.args.session.now in
    let next = c.next_action.new.self in
    acts_awaited (tables_of head) (progress_of head) (shown_action c.in-Some.action) (progress_of next) (refusals next)
    c.in-Some.ensures.acts

pub carry_out-requires-clause-stream : goal.carry_out-requires-clause-stream
carry_out-requires-clause-stream g c =
    let head = c.args.session.now in
    let next = c.next_action.new.self in
    subst (λ (t : NamespaceTable). ActHasStream t (shown_action c.in-Some.action)) (sym c.requires.tables)
    (acts_stream (tables_of head) (progress_of head) (shown_action c.in-Some.action) (progress_of next) (refusals next)
    c.in-Some.ensures.acts c.requires.ready.asks)

pub carry_out-requires-clause-asks : goal.carry_out-requires-clause-asks
carry_out-requires-clause-asks g c =
    let head = c.args.session.now in
    let next = c.next_action.new.self in
    subst (λ (t : NamespaceTable). AskStreams t (progress_of next)) (sym c.requires.tables)
    (acts_ask (tables_of head) (progress_of head) _ (progress_of next) (refusals next) c.frames_have_streams.ensures
    c.in-Some.ensures.acts c.requires.ready.asks)

pub returns-clause-leads : goal.returns-clause-leads
returns-clause-leads g c = λ long.
    let head = c.args.session.now in
    let next = c.next_action.new.self in
    let last = c.carry_out.new.session in
    let long_next : met_refused_memory next ≡ false =
    still_long (met_refused_memory next) (met_refused_memory last) c.carry_out.ensures.keeps.short long in
    let d : Does (progress_of head) (Some (shown_action c.in-Some.action)) (progress_of next) =
    acts_does (tables_of head) (progress_of head) (Some (shown_action c.in-Some.action)) (progress_of next)
    (refusals next) c.in-Some.ensures.acts
    (long_now (met_refused_memory head) (met_refused_memory next) (refusals next) c.next_action.ensures.keeps.short
    long_next) in
    next_leads g.N.CommandExecutor.closed g.N.CommandExecutor.does (progress_of head) (progress_of last) c.args.node.now c.carry_out.new.node
    c.requires.stands
    (c.carry_out.ensures.next (progress_of head) d long)

pub returns-clause-spends : goal.returns-clause-spends
returns-clause-spends g c = λ n units so_far.
    let paid : units_left c.spend.new.self ≡ units_left c.args.budget.now - cost (shown_action c.in-Some.action) =
    c.spend.ensures ∙ ap (λ k. units_left c.args.budget.now - k) c.cost_of.ensures in
    subst (λ (left : ℕ). Spends g.N.CommandExecutor.closed g.N.CommandExecutor.does n units c.carry_out.new.node left) (sym paid)
    (acts c.args.node.now c.carry_out.new.node (units_left c.args.budget.now) (shown_action c.in-Some.action) so_far
    c.requires.stands c.requires.left c.carry_out.ensures.does)

pub returns-clause-ready : goal.returns-clause-ready
returns-clause-ready g c =
    let head = c.args.session.now in
    let last = c.carry_out.new.session in
    let same : tables_of last ≡ tables_of head =
    c.carry_out.ensures.keeps.tables ∙ c.next_action.ensures.keeps.tables in
    can_go_on_at _ last (c.requires.tables ∙ ap (λ (t : Tables). t.namespaces) (sym same)) c.carry_out.ensures.awaits
    c.carry_out.ensures.asks

pub returns-clause-keeps : goal.returns-clause-keeps
returns-clause-keeps g c =
    let head = c.args.session.now in
    let next = c.next_action.new.self in
    record {
      tables = c.carry_out.ensures.keeps.tables ∙ c.next_action.ensures.keeps.tables;
      short = λ s. c.carry_out.ensures.keeps.short (short_stays (met_refused_memory head) (met_refused_memory next)
          (refusals next) c.next_action.ensures.keeps.short s);
    }

pub returns-in_default-clause-leads : goal.returns-in_default-clause-leads
returns-in_default-clause-leads g c = λ long.
    let head = c.args.session.now in
    let next = c.next_action.new.self in
    let done : Acts (tables_of head) (progress_of head) None (progress_of next) (refusals next) =
    subst (λ (r : Option Action). Acts (tables_of head) (progress_of head) (option_map shown_action r)
    (progress_of next) (refusals next)) c.in_default.is c.next_action.ensures.acts in
    leads_same g.N.CommandExecutor.closed g.N.CommandExecutor.does (progress_of head) (progress_of next) c.args.node.now
    (acts_none (tables_of head) (progress_of head) (progress_of next) (refusals next) done c.requires.ready.awaits)

pub returns-in_default-clause-ready : goal.returns-in_default-clause-ready
returns-in_default-clause-ready g c =
    let head = c.args.session.now in
    let next = c.next_action.new.self in
    let done : Acts (tables_of head) (progress_of head) None (progress_of next) (refusals next) =
    subst (λ (r : Option Action). Acts (tables_of head) (progress_of head) (option_map shown_action r)
    (progress_of next) (refusals next)) c.in_default.is c.next_action.ensures.acts in
    same_can_go_on head next c.next_action.ensures.keeps.tables
    (acts_none (tables_of head) (progress_of head) (progress_of next) (refusals next) done c.requires.ready.awaits)
    c.requires.ready

pub returns-in_default-clause-keeps : goal.returns-in_default-clause-keeps
returns-in_default-clause-keeps g c =
    let head = c.args.session.now in
    let next = c.next_action.new.self in
    record {
      tables = c.next_action.ensures.keeps.tables;
      short = short_stays (met_refused_memory head) (met_refused_memory next) (refusals next)
          c.next_action.ensures.keeps.short;
    }
