-- Without a channel that asks, nothing is told; with one, it becomes live at the position, and that is told.
use Rattle.std.proofs.Common.{[], ◌∷◌, map, sym, ap, ◌∙◌, refl, List, ℕ, inl, inr}
use Rattle.std.proofs.lemmas.List.{append-nil}
use Rattle.std.proofs.lemmas.Result.{on_ok_weaker}
use Rattle.cf_model.specs.Clients.{Live}
use Rattle.cf_client.specs.AppItem.{Subscribed, published}
use Rattle.cf_client.specs.Draft.{drafted}
use Rattle.cf_client.proofs.Drafting.{moves_asking}
use Rattle.cf_client.proofs.Taking.{told_next, told_reply}
use Rattle.cf_client.proofs.draft.Draft.subscribed.Goals as goal

pub returns-in_default : goal.returns-in_default
returns-in_default c =
    ([], inr (c.in_default.ensures.none, (refl, refl)), sym (append-nil _))

pub returns : goal.returns
returns c =
    let s = drafted c.args.known.now c.args.self.now in
    let k = c.args.known.now in
    let at = c.args.position.now in
    let name = c.in-Some.channel.now in
    let asks = c.in-Some.ensures.some in
    let sub = Subscribed name c.args.was_recovering c.args.recovered at in
    let pubs = map (published name at.epoch) c.args.publications.items in
    let goes = ap (drafted k) c.tell.ensures.same
    ∙ moves_asking k c.args.self.now c.put.new.self _ name c.args.id (Live at) refl asks
    (c.in_ok-put.ensures.moved k) in
    on_ok_weaker c.pass_all.result (λ passed. (
      sub ∷ pubs,
      inl (record { channel = name; asks = asks; moves = goes; tells = refl }),
      told_reply c.args.self.now.events.items c.tell.new.self.events.items c.pass_all.new.events.items sub pubs
          (told_next c.args.self.now.events.items c.put.new.self.events.items c.tell.new.self.events.items _ sub
          (ap (λ v. v.items) c.put.ensures.events) c.in_ok-tell.ensures.told
          (ap (λ (n : List ℕ). Subscribed n c.args.was_recovering c.args.recovered at) c.in_ok-name.ensures.ok))
          passed,
    ))
    c.pass_all.ensures
