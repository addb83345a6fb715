-- One session changes (`one_agrees`, `one_seen`) by what it reads, which ends none of its subscriptions.
use Rattle.std.proofs.Common.{◌∙◌, ℕ, Option, [], sym, ap, refl}
use Rattle.cf_hub.specs.declared.fate.Fate.TheVariants as fate
use Rattle.cf_hub.specs.Hub.{Node}
use Rattle.cf_hub.specs.Rows.{sub_in}
use Rattle.cf_hub.specs.Session.{Attached}
use Rattle.cf_model.specs.Sessions.{is_asked, reads}
use Rattle.cf_hub.proofs.Bounds.{bounded_move}
use Rattle.cf_hub.proofs.Hubs.{seen}
use Rattle.cf_hub.proofs.Ones.{one_agrees, one_seen, reads_off}
use Rattle.cf_hub.specs.Subscriptions.{reading_of}
use Rattle.cf_hub.specs.Wordings.{reading}
use Rattle.cf_hub.proofs.hub.Hub.read_done.Goals as goal

pub invariant_of-self : goal.invariant_of-self
invariant_of-self c = (
  one_agrees fate.Passed [] c.args.session (reads (reading c.args.recovery.publications.items) c.args.channel.now
      (reading_of c.args.recovery)) c.self.inside.sessions c.read_one.new.sessions c.self.inside.rows c.self.invariant.0
      c.read_one.ensures.here c.read_one.ensures.others
      (λ a d e. reads_off (reading c.args.recovery.publications.items) c.args.channel.now (reading_of c.args.recovery)
      a.state d),
  bounded_move c.args.session c.self.inside.sessions c.read_one.new.sessions
      (reads (reading c.args.recovery.publications.items) c.args.channel.now (reading_of c.args.recovery))
      c.self.invariant.1 c.read_one.ensures.here c.read_one.ensures.others,
)

pub returns-clause-sessions : goal.returns-clause-sessions
returns-clause-sessions c =
    one_seen fate.Passed [] c.args.session (reads (reading c.args.recovery.publications.items) c.args.channel.now
    (reading_of c.args.recovery)) c.self.inside.sessions c.read_one.new.sessions c.self.inside.rows
    c.self.invariant.0 c.read_one.ensures.here c.read_one.ensures.others
    (λ a d e. reads_off (reading c.args.recovery.publications.items) c.args.channel.now (reading_of c.args.recovery)
    a.state d)
    c.args.self.now _ (ap (λ (h : Node). h.sessions) (sym c.self.view_is)) refl refl

pub returns-clause-asked : goal.returns-clause-asked
returns-clause-asked c =
    c.read_one.ensures.asked ∙ ap (λ (g : ℕ → Option Attached). is_asked (sub_in (g c.args.session) c.args.channel.now))
    (sym (seen c.args.self.now c.self.inside.sessions (ap (λ (h : Node). h.sessions) (sym c.self.view_is))))
