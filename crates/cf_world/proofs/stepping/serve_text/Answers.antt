-- By how many steps it took to the end: each is one of the script, so the whole is a run of it.
use Rattle.std.proofs.Common.{◌≡◌, ◌∙◌, inl, inr, ℕ, List, false, sym, subst}
use Rattle.cf_session.specs.Standing.{Keeps, HearsFrame, met_refused_memory, progress_of, refusals, tables_of}
use Rattle.cf_session.specs.declared.session.Session.{Session}
use Rattle.cf_world.proofs.Long.{hears-long, long-now}
use Rattle.cf_hub.specs.Hub.{Node}
use Rattle.cf_world.specs.Serving.{Plays, Runs}
use Rattle.cf_world.specs.Stepping.{Steps}
use Rattle.cf_world.specs.declared.broker.WorldBroker.{WorldBroker}
use Rattle.cf_world.proofs.stepping.serve_text.Goals as goal

plays-by : (k : ℕ) (s heard t : Session) (text : List ℕ) (old new : WorldBroker) (h g : Node) → HearsFrame s text heard
    → Keeps s heard → met_refused_memory heard ≡ false
    → Runs 2 k heard t old new h g → Plays k s t text old new h g
plays-by k s heard t text old new h g hears keeps long runs = record {
  heard = heard;
  hears = hears-long (tables_of s) (progress_of s) text (progress_of heard) (refusals heard) hears
      (long-now (met_refused_memory s) (met_refused_memory heard) (refusals heard) keeps.short long);
  stays = record { tables = keeps.tables; long = long };
  runs = runs;
}

pub returns-then-not-branch : goal.returns-then-not-branch
returns-then-not-branch c =
    let heard = c.on_text.new.self in
    plays-by c.args.number c.args.session.now heard c.step.new.session c.args.text.now c.args.broker.now
    c.step.new.broker c.args.hub.now c.step.new.hub c.on_text.ensures.hears c.on_text.ensures.keeps
    (sym c.short.ensures ∙ c.if-short.false)
    (inl (subst (Steps c.args.number heard c.step.new.session c.args.broker.now c.step.new.broker c.args.hub.now
    c.step.new.hub) c.if-not-branch.true c.in_ok-step.ensures))

pub returns-then-not-branch-2 : goal.returns-then-not-branch-2
returns-then-not-branch-2 c =
    let heard = c.on_text.new.self in
    plays-by c.args.number c.args.session.now heard c.step-2.new.session c.args.text.now c.args.broker.now
    c.step-2.new.broker c.args.hub.now c.step-2.new.hub c.on_text.ensures.hears c.on_text.ensures.keeps
    (sym c.short.ensures ∙ c.if-short.false)
    (inr (
      c.step.new.session,
      c.step.new.broker,
      c.step.new.hub,
      subst (Steps c.args.number heard c.step.new.session c.args.broker.now c.step.new.broker c.args.hub.now
          c.step.new.hub) c.if-not-branch.false c.in_ok-step.ensures,
      inl (subst (Steps c.args.number c.step.new.session c.step-2.new.session c.step.new.broker c.step-2.new.broker
          c.step.new.hub c.step-2.new.hub) c.if-not-branch-2.true c.in_ok-step-2.ensures),
    ))

pub returns : goal.returns
returns c =
    let heard = c.on_text.new.self in
    plays-by c.args.number c.args.session.now heard c.step-3.new.session c.args.text.now c.args.broker.now
    c.step-3.new.broker c.args.hub.now c.step-3.new.hub c.on_text.ensures.hears c.on_text.ensures.keeps
    (sym c.short.ensures ∙ c.if-short.false)
    (inr (
      c.step.new.session,
      c.step.new.broker,
      c.step.new.hub,
      subst (Steps c.args.number heard c.step.new.session c.args.broker.now c.step.new.broker c.args.hub.now
          c.step.new.hub) c.if-not-branch.false c.in_ok-step.ensures,
      inr (
        c.step-2.new.session,
        c.step-2.new.broker,
        c.step-2.new.hub,
        subst (Steps c.args.number c.step.new.session c.step-2.new.session c.step.new.broker c.step-2.new.broker
            c.step.new.hub c.step-2.new.hub) c.if-not-branch-2.false c.in_ok-step-2.ensures,
        (_, c.in_ok-_more.ensures),
      ),
    ))
