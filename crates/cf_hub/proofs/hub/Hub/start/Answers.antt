-- The row is added first, which is allowed since none was there; if the session then refuses, it is removed, and all is
-- as
-- before.
use Rattle.std.proofs.Common.{◌≡◌, ◌∙◌, ℕ, Option, List, option_map, is_some, sym, ap, subst, not, false}
use Rattle.cf_hub.specs.Hub.{Node, attached_in, is_open, moves}
use Rattle.cf_hub.specs.Rows.{Agrees, sub_in}
use Rattle.cf_hub.specs.Session.{Attached}
use Rattle.cf_model.specs.Sessions.{is_off, begins}
use Rattle.cf_hub.specs.Wordings.{plain}
use Rattle.cf_subscribers.specs.Follows.{Follow, follows, with_follow, without_follow}
use Rattle.cf_hub.proofs.Hubs.{seen, seen_in, agrees_shown}
use Rattle.cf_hub.proofs.Bounds.{bounded_by, bounded_move}
use Rattle.cf_hub.proofs.Begun.{begun_agrees, same_all, undone_agrees, with_without}
use Rattle.cf_hub.proofs.hub.Hub.start.Goals as goal

pub add-requires : goal.add-requires
add-requires c = record {
  absent =
      c.self.invariant.0 c.args.channel.now c.args.session
      ∙ ap (λ (g : ℕ → Option Attached). not (is_off (sub_in (g c.args.session) c.args.channel.now)))
      (sym (seen c.args.self.now c.self.inside.sessions (ap (λ (h : Node). h.sessions) (sym c.self.view_is))))
      ∙ ap not c.requires.may.1;
}

pub begin_one-requires : goal.begin_one-requires
begin_one-requires c =
    ap (λ (g : ℕ → Option Attached). is_off (sub_in (g c.args.session) c.args.channel.now))
    (sym (seen c.args.self.now c.self.inside.sessions (ap (λ (h : Node). h.sessions) (sym c.self.view_is))))
    ∙ c.requires.may.1

abbrev gone : List ℕ → ℕ → List Follow → List Follow
gone ch k rs = without_follow rs ch k

pub invariant_of-self-in-Ok-begin_one : goal.invariant_of-self-in-Ok-begin_one
invariant_of-self-in-Ok-begin_one c = (
  subst (λ (rows : List Follow). Agrees (attached_in c.begin_one.new.sessions) rows) (sym c.in-Ok.ensures.ok)
      (begun_agrees c.args.channel.now c.args.session c.args.id c.args.since c.self.inside.sessions
      c.begin_one.new.sessions c.self.inside.rows c.self.invariant.0
      (ap (λ (g : ℕ → Option Attached). is_open (g c.args.session))
      (sym (seen c.args.self.now c.self.inside.sessions (ap (λ (h : Node). h.sessions) (sym c.self.view_is))))
      ∙ c.requires.may.0) c.in-Ok-begin_one.ensures.here c.begin_one.ensures.others),
  bounded_move c.args.session c.self.inside.sessions c.begin_one.new.sessions
      (begins plain c.args.channel.now c.args.id c.args.since) c.self.invariant.1 c.in-Ok-begin_one.ensures.here
      c.begin_one.ensures.others,
)

pub returns-in-Ok-begin_one-clause-ok : goal.returns-in-Ok-begin_one-clause-ok
returns-in-Ok-begin_one-clause-ok c =
    record {
      one = record {
        here = seen_in c.begin_one.new.sessions c.args.session ∙ c.in-Ok-begin_one.ensures.here
            ∙ ap (λ (g : ℕ → Option Attached). option_map
            (moves (begins plain c.args.channel.now c.args.id c.args.since)) (g c.args.session))
            (sym (seen c.args.self.now c.self.inside.sessions (ap (λ (h : Node). h.sessions) (sym c.self.view_is))));
        others = λ j h. seen_in c.begin_one.new.sessions j ∙ c.begin_one.ensures.others j h
            ∙ ap (λ (g : ℕ → Option Attached). g j) (sym (seen c.args.self.now c.self.inside.sessions
            (ap (λ (h : Node). h.sessions) (sym c.self.view_is))));
        agrees = agrees_shown c.begin_one.new.sessions c.add.new.self (invariant_of-self-in-Ok-begin_one c).0;
      };
      rows = c.in-Ok.ensures.ok ∙ ap (λ (h : Node). with_follow h.rows c.args.channel.now c.args.session)
          c.self.view_is;
      rest = record {
        node = ap (λ (h : Node). h.node) c.self.view_is;
        boot = ap (λ (h : Node). h.boot) c.self.view_is;
        used = ap (λ (h : Node). h.used) c.self.view_is;
        refused = ap (λ (h : Node). h.refused) c.self.view_is;
      };
    }

pub invariant_of-self-in-Err-begin_one : goal.invariant_of-self-in-Err-begin_one
invariant_of-self-in-Err-begin_one c =
    let absent : follows c.self.inside.rows c.args.channel.now c.args.session ≡ false =
    c.self.invariant.0 c.args.channel.now c.args.session
    ∙ ap (λ (g : ℕ → Option Attached). not (is_off (sub_in (g c.args.session) c.args.channel.now)))
    (sym (seen c.args.self.now c.self.inside.sessions (ap (λ (h : Node). h.sessions) (sym c.self.view_is))))
    ∙ ap not c.requires.may.1 in
    let left : c.remove-added.new.self ≡ c.self.inside.rows =
    c.remove-added.ensures.removed ∙ ap (gone c.args.channel.now c.args.session) c.in-Ok.ensures.ok
    ∙ with_without c.self.inside.rows c.args.channel.now c.args.session absent in (
      undone_agrees c.self.inside.sessions c.begin_one.new.sessions c.self.inside.rows c.remove-added.new.self
          c.self.invariant.0 (same_all c.args.session c.self.inside.sessions c.begin_one.new.sessions
          c.in-Err-begin_one.ensures.err c.begin_one.ensures.others) left,
      bounded_by c.args.session c.self.inside.sessions c.begin_one.new.sessions c.self.invariant.1
          (ap is_some c.in-Err-begin_one.ensures.err) c.begin_one.ensures.others,
    )

pub returns-in-Err-begin_one-clause-err : goal.returns-in-Err-begin_one-clause-err
returns-in-Err-begin_one-clause-err c =
    let absent : follows c.self.inside.rows c.args.channel.now c.args.session ≡ false =
    c.self.invariant.0 c.args.channel.now c.args.session
    ∙ ap (λ (g : ℕ → Option Attached). not (is_off (sub_in (g c.args.session) c.args.channel.now)))
    (sym (seen c.args.self.now c.self.inside.sessions (ap (λ (h : Node). h.sessions) (sym c.self.view_is))))
    ∙ ap not c.requires.may.1 in
    let left : c.remove-added.new.self ≡ c.self.inside.rows =
    c.remove-added.ensures.removed ∙ ap (gone c.args.channel.now c.args.session) c.in-Ok.ensures.ok
    ∙ with_without c.self.inside.rows c.args.channel.now c.args.session absent in
    record {
      sessions = λ j. seen_in c.begin_one.new.sessions j
          ∙ same_all c.args.session c.self.inside.sessions c.begin_one.new.sessions c.in-Err-begin_one.ensures.err
          c.begin_one.ensures.others j ∙ ap (λ (g : ℕ → Option Attached). g j)
          (sym (seen c.args.self.now c.self.inside.sessions (ap (λ (h : Node). h.sessions) (sym c.self.view_is))));
      rows = left ∙ ap (λ (h : Node). h.rows) c.self.view_is;
      rest = record {
        node = ap (λ (h : Node). h.node) c.self.view_is;
        boot = ap (λ (h : Node). h.boot) c.self.view_is;
        used = ap (λ (h : Node). h.used) c.self.view_is;
        refused = ap (λ (h : Node). h.refused) c.self.view_is;
      };
    }
