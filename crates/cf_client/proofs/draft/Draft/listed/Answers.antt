-- The channel of the call is the definition's, so what is told is a list of that channel.
use Rattle.std.proofs.Common.{◌≡◌, ◌∙◌, refl, ap, sym, List, ℕ, Some, map, Bor}
use Rattle.std.proofs.lemmas.Result.{on_ok_weaker}
use Rattle.std.specs.Prelude.{option_to_list}
use Rattle.std.specs.Option.{option_map}
use Rattle.cf_client.specs.ClientCalls.{channel_under}
use Rattle.cf_client.specs.AppItem.{Listed}
use Rattle.cf_client.specs.Draft.{drafted}
use Rattle.cf_client.proofs.Taking.{told_next_call}
use Rattle.cf_client.proofs.draft.Draft.listed.Goals as goal

pub returns : goal.returns
returns c =
    let k = c.args.known.now in
    let tells = λ (n : List ℕ). Listed n c.args.position.now c.args.count in
    let out = channel_under c.args.id (drafted k c.args.self.now).out in
    let said = c.in-Some.channel.now in
    let found : Some said ≡ out =
    sym (ap (λ o. option_map (λ (b : Bor (List ℕ)). b.now) o) c.in-Some.is) ∙ c.in_ok-channel.ensures.found in
    on_ok_weaker c.tell.result (λ told. (
      map tells (option_to_list out),
      (ap (drafted k) c.tell.ensures.same ∙ c.in_ok-channel.ensures.answered, refl),
      told_next_call tells c.args.self.now.events.items c.answer_call.new.self.events.items c.tell.new.self.events.items
          _ said out (ap (λ v. v.items) c.answer_call.ensures.events) told (ap tells c.in_ok-channel-2.ensures.ok)
          found,
    ))
    c.tell.ensures.told
