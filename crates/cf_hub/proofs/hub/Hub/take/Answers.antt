-- One session changes (`one_agrees`, `one_seen`) by its front item, which is given.
use Rattle.std.proofs.Common.{◌∙◌, Option, [], ℕ, sym, ap, refl, option_and_then, slice_get}
use Rattle.cf_hub.specs.declared.fate.Fate.TheVariants as fate
use Rattle.cf_hub.specs.Hub.{Node}
use Rattle.cf_hub.specs.Session.{Attached}
use Rattle.cf_model.specs.Sessions.{takes_front}
use Rattle.cf_hub.proofs.Hubs.{seen}
use Rattle.cf_hub.proofs.Bounds.{bounded_move}
use Rattle.cf_hub.proofs.Ones.{one_agrees, one_seen}
use Rattle.cf_hub.proofs.hub.Hub.take.Goals as goal

pub invariant_of-self : goal.invariant_of-self
invariant_of-self c = (
  one_agrees fate.Passed [] c.args.session takes_front c.self.inside.sessions c.take_one.new.sessions c.self.inside.rows
      c.self.invariant.0 c.take_one.ensures.here c.take_one.ensures.others (λ l d e. refl),
  bounded_move c.args.session c.self.inside.sessions c.take_one.new.sessions takes_front c.self.invariant.1
      c.take_one.ensures.here c.take_one.ensures.others,
)

pub returns-clause-sessions : goal.returns-clause-sessions
returns-clause-sessions c =
    one_seen fate.Passed [] c.args.session takes_front c.self.inside.sessions c.take_one.new.sessions c.self.inside.rows
    c.self.invariant.0 c.take_one.ensures.here c.take_one.ensures.others (λ l d e. refl)
    c.args.self.now _ (ap (λ (h : Node). h.sessions) (sym c.self.view_is)) refl refl

pub returns-clause-front : goal.returns-clause-front
returns-clause-front c =
    c.take_one.ensures.front
    ∙ ap (λ (g : ℕ → Option Attached). option_and_then (λ (a : Attached). slice_get a.state.notes 0) (g c.args.session))
    (sym (seen c.args.self.now c.self.inside.sessions (ap (λ (h : Node). h.sessions) (sym c.self.view_is))))
