-- One answer more in the draft leaves the calls without that id, by the lemmas on what is found and answered.
use Rattle.std.proofs.Common.{◌≡◌, ◌==◌, ◌∙◌, Bool, None, if◌then◌else◌, refl, sym, ap, rules}
use Rattle.std.specs.List.{list_any}
use Rattle.std.specs.Option.{option_map}
use Rattle.cf_client.specs.ClientCalls.{channel_under}
use Rattle.cf_client.specs.Shown.{calls_of}
use Rattle.cf_client.proofs.Drafting.{answered_more, found_after}
use Rattle.cf_client.proofs.draft.Draft.answer_call.Goals as goal
use Rattle.cf_client.proofs.draft.Draft.answer_call.Goals.{then-contains, else-contains}

pub returns-clause-found : goal.returns-clause-found
returns-clause-found c =
    let ids = c.args.self.now.answered.items in
    let ks = calls_of c.args.known.now.calls.items in
    let test : list_any (λ i. i == c.args.id) ids ≡ c.contains.result = search rules in
    let after = found_after c.args.id ids ks ∙ ap (λ (b : Bool). if b then None else channel_under c.args.id ks) test in
    elim c.if-contains.branch [
      | then-contains w ↦
          ap (λ o. option_map (λ s. s.now) o) w.found-is
          ∙ sym (after ∙ ap (λ (b : Bool). if b then None else channel_under c.args.id ks) w.if-contains.true)
      | else-contains w ↦
          ap (λ o. option_map (λ s. s.now) o) w.found-is ∙ w.channel_called-found.ensures
          ∙ sym (after ∙ ap (λ (b : Bool). if b then None else channel_under c.args.id ks) w.if-contains.false)
    ]

pub returns-clause-answered : goal.returns-clause-answered
returns-clause-answered c =
    answered_more c.args.known.now c.args.self.now (record c.args.self.now { answered = c.push.new.self }) c.args.id
    refl c.in_ok-push.ensures.items
