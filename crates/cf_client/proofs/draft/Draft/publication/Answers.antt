-- A channel that isn't live takes nothing; a live one moves to the publication's offset, which is told.
use Rattle.std.proofs.Common.{◌≡◌, ◌∙◌, [], ◌∷◌, sym, ap, subst, List, ℕ}
use Rattle.std.proofs.lemmas.List.{append-nil}
use Rattle.std.proofs.lemmas.Result.{on_ok_weaker}
use Rattle.std.specs.String.{string_bytes}
use Rattle.cf_model.specs.Clients.{Live}
use Rattle.cf_client.specs.ClientCalls.{moves}
use Rattle.cf_client.specs.AppItem.{published}
use Rattle.cf_client.specs.Draft.{drafted, drafted_mode}
use Rattle.cf_client.specs.Shown.{shown_mode, shown_item}
use Rattle.cf_client.proofs.Drafting.{moves_live}
use Rattle.cf_client.proofs.Taking.{live_at, not_live, passes_publication, takes_publication, told_next}
use Rattle.cf_client.proofs.draft.Draft.publication.Goals as goal

pub returns-in_default : goal.returns-in_default
returns-in_default c =
    let base = c.args.known.now.channels in
    let old = c.args.self.now.changed in
    let name = string_bytes c.args.channel in
    let found : shown_mode c.mode_at.result ≡ drafted_mode base old name =
    subst (λ (n : List ℕ). shown_mode c.mode_at.result ≡ drafted_mode base old n) c.as_str.ensures.value
    c.mode_at.ensures in (
      [],
      passes_publication name c.args.publication (drafted_mode base old name)
          (drafted c.args.known.now c.args.self.now) (not_live c.mode_at.result _ found c.in_default.not-Live),
      sym (append-nil _),
    )

pub returns : goal.returns
returns c =
    let base = c.args.known.now.channels in
    let old = c.args.self.now.changed in
    let k = c.args.known.now in
    let to = c.put.new.self in
    let name = string_bytes c.args.channel in
    let q = c.args.publication in
    let p = c.in-Live.at in
    let told = published name p.epoch q in
    let found : shown_mode c.mode_at.result ≡ drafted_mode base old name =
    subst (λ (n : List ℕ). shown_mode c.mode_at.result ≡ drafted_mode base old n) c.as_str.ensures.value
    c.mode_at.ensures in
    let live : drafted_mode base old name ≡ Live p = live_at c.mode_at.result _ p found c.in-Live.is in
    let sets = moves_live k c.args.self.now to _ name p _ c.as_str-2.ensures.value live (c.in_ok-put.ensures.moved k) in
    let goes : drafted k to ≡ moves name (Live (record { epoch = p.epoch; offset = q.offset }))
    (drafted k c.args.self.now) =
    subst (λ o. drafted k to ≡ moves name (Live (record { epoch = p.epoch; offset = o })) (drafted k c.args.self.now))
    (ap (λ x. x.offset) c.publication.view_is) sets in
    let says : shown_item c.passed.result ≡ told = c.passed.ensures in
    on_ok_weaker c.tell.result (λ tells. (
      told ∷ [],
      takes_publication name q (drafted_mode base old name) p (drafted c.args.known.now c.args.self.now) _ live
          (ap (drafted k) c.tell.ensures.same ∙ goes),
      told_next c.args.self.now.events.items c.put.new.self.events.items c.tell.new.self.events.items c.passed.result
          told (ap (λ v. v.items) c.put.ensures.events) tells says,
    ))
    c.tell.ensures.told
