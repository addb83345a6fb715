-- One session is met (`met_agrees`, `met_seen`): what `enqueue_one` promises of the table is said of the hub.
use Rattle.std.proofs.Common.{◌∙◌, [], sym, ap, refl}
use Rattle.cf_queue.specs.OutQueue.{Text}
use Rattle.cf_hub.specs.Hub.{Node, queued_in, counted, one_if}
use Rattle.cf_model.specs.Sessions.{push}
use Rattle.cf_hub.proofs.Bounds.{bounded_both}
use Rattle.cf_hub.proofs.Hubs.{seen_in}
use Rattle.cf_hub.proofs.Mets.{met_agrees, met_seen}
use Rattle.cf_hub.specs.WantOfMemory.{OrCloses}
use Rattle.cf_hub.specs.Wordings.{plain}
use Rattle.std.specs.String.{string_bytes}
use Rattle.cf_hub.proofs.hub.Hub.say.Goals as goal

pub invariant_of-self : goal.invariant_of-self
invariant_of-self c = (
  met_agrees c.enqueue_one-said.result.1.fate [] c.args.session c.self.inside.sessions c.enqueue_one-said.new.sessions
      c.self.inside.rows c.self.invariant.0 c.enqueue_one-said.ensures.others c.enqueue_one-said.ensures.offs
      c.settle.new.rows c.settle.ensures,
  bounded_both c.args.session c.self.inside.sessions c.enqueue_one-said.new.sessions c.self.invariant.1
      _ c.enqueue_one-said.ensures.here c.enqueue_one-said.ensures.others,
)

pub returns-clause-session : goal.returns-clause-session
returns-clause-session c =
    met_seen c.enqueue_one-said.result.1.fate [] c.args.session c.self.inside.sessions c.enqueue_one-said.new.sessions
    c.self.inside.rows c.self.invariant.0 c.enqueue_one-said.ensures.others c.enqueue_one-said.ensures.offs
    c.args.self.now _ (ap (λ (h : Node). h.sessions) (sym c.self.view_is)) refl c.settle.ensures
    (λ hit. OrCloses hit plain (push plain (Text (string_bytes c.args.text)))) c.enqueue_one-said.result.1.refused
    c.enqueue_one-said.ensures.here
    (c.count_more-self-inside.ensures ∙ ap (λ (h : Node). counted (one_if c.enqueue_one-said.result.1.refused)
    h.refused) c.self.view_is)

pub returns-clause-said : goal.returns-clause-said
returns-clause-said c =
    c.enqueue_one-said.ensures.said ∙ ap queued_in (sym (seen_in c.enqueue_one-said.new.sessions c.args.session))
