-- A pong changes a badge and no subscription, so rows and sessions agree as before.
use Rattle.std.proofs.Common.{◌≡◌, ◌∙◌, ℕ, Option, Some, None, List, [], option_map, sym, ap, refl}
use Rattle.cf_hub.specs.declared.fate.Fate.TheVariants as fate
use Rattle.cf_hub.specs.Hub.{Node, attached_in}
use Rattle.cf_hub.specs.Rows.{sub_in}
use Rattle.cf_hub.specs.Session.{Attached, badge_ponged}
use Rattle.cf_model.specs.Sessions.{is_off}
use Rattle.cf_hub.proofs.Bounds.{bounded_map}
use Rattle.cf_hub.proofs.Hubs.{seen, seen_in}
use Rattle.cf_hub.proofs.Walks.{agrees_by}
use Rattle.cf_hub.proofs.hub.Hub.pong.Goals as goal

same_offs : (o : Option Attached) (d : List ℕ) → is_off (sub_in (option_map badge_ponged o) d) ≡ is_off (sub_in o d)
same_offs None d = refl
same_offs (Some a) d = refl

pub invariant_of-self : goal.invariant_of-self
invariant_of-self c = (
  agrees_by fate.Passed [] c.args.session (attached_in c.self.inside.sessions) (attached_in c.pong_one.new.sessions)
      c.self.inside.rows c.self.invariant.0
      (λ d. ap (λ (o : Option Attached). is_off (sub_in o d)) c.pong_one.ensures.here
      ∙ same_offs (attached_in c.self.inside.sessions c.args.session) d) c.pong_one.ensures.others,
  bounded_map c.args.session c.self.inside.sessions c.pong_one.new.sessions c.self.invariant.1 badge_ponged
      c.pong_one.ensures.here c.pong_one.ensures.others,
)

pub returns-clause-here : goal.returns-clause-here
returns-clause-here c =
    seen_in c.pong_one.new.sessions c.args.session ∙ c.pong_one.ensures.here
    ∙ ap (λ (g : ℕ → Option Attached). option_map badge_ponged (g c.args.session))
    (sym (seen c.args.self.now c.self.inside.sessions (ap (λ (h : Node). h.sessions) (sym c.self.view_is))))

pub returns-clause-others : goal.returns-clause-others
returns-clause-others c = λ j h.
    seen_in c.pong_one.new.sessions j ∙ c.pong_one.ensures.others j h
    ∙ ap (λ (g : ℕ → Option Attached). g j) (sym (seen c.args.self.now c.self.inside.sessions
    (ap (λ (h : Node). h.sessions) (sym c.self.view_is))))
