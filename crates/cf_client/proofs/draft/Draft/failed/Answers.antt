-- If a channel asked under the id its subscription failed; else the call that is answered did, and the draft has it
-- told.
use Rattle.std.proofs.Common.{◌≡◌, ◌∙◌, refl, ◌∷◌, [], ap, sym, subst, List, ℕ, inl, inr, map, Bor}
use Rattle.std.proofs.lemmas.Result.{on_ok_weaker}
use Rattle.std.specs.Prelude.{option_to_list}
use Rattle.std.specs.Option.{option_map}
use Rattle.cf_model.specs.Clients.{Mode, idle}
use Rattle.cf_client.specs.ClientCalls.{channel_under, moves}
use Rattle.cf_client.specs.AppItem.{Refused}
use Rattle.cf_client.specs.Draft.{drafted, drafted_mode}
use Rattle.cf_client.specs.Shown.{shown_item, shown_mode}
use Rattle.cf_client.proofs.Drafting.{moves_asking}
use Rattle.cf_client.proofs.Taking.{told_next_call, told_no_call, told_next, none_found}
use Rattle.cf_client.proofs.draft.Draft.failed.Goals as goal
use Rattle.cf_client.proofs.draft.Draft.failed.Goals.{in-Some+in_ok-put-in-Some, in-None+in_ok-refused-in-None}

pub returns-in_default : goal.returns-in_default
returns-in_default c =
    elim c.match-channel_asking.branch [
      | in-Some+in_ok-put-in-Some w ↦ absurd (c.in_default.not-Some _ w.refused-is)
      | in-None+in_ok-refused-in-None w ↦
          let k = c.args.known.now in
          let out = channel_under c.args.id (drafted k c.args.self.now).out in
          let found : option_map (λ (b : Bor (List ℕ)). b.now) c.match-channel_asking.refused ≡ out =
          ap (λ o. option_map (λ (b : Bor (List ℕ)). b.now) o) w.refused-is ∙ w.in_ok-refused-in-None.ensures.found in
          let same = ap (λ d. map shown_item d.events.items) w.self-is
          ∙ ap (λ v. map shown_item v.items) w.answer_call.ensures.events in (
            map (λ n. Refused n c.args.code) (option_to_list out),
            inr (
              w.in-None.ensures.none,
              (
                ap (λ d. drafted k d) w.self-is ∙ w.in_ok-refused-in-None.ensures.answered,
                refl,
              ),
            ),
            same ∙ told_no_call (λ n. Refused n c.args.code) c.args.self.now.events.items out
                (none_found c.match-channel_asking.refused c.in_default.not-Some ∙ found),
          )
    ]

pub returns : goal.returns
returns c =
    let k = c.args.known.now in
    let base = k.channels in
    let old = c.args.self.now.changed in
    let before = c.args.self.now.events.items in
    let after = c.tell.new.self.events.items in
    let said = c.in-Some-refused.channel.now in
    let says = ap (λ (n : List ℕ). Refused n c.args.code) c.in_ok-channel.ensures.ok in
    let kept = ap (drafted k) c.tell.ensures.same in
    elim c.match-channel_asking.branch [
      | in-Some+in_ok-put-in-Some w ↦
          let name = w.in-Some.channel.now in
          let same : c.in-Some-refused.channel ≡ w.in-Some.channel = cc (c.in-Some-refused.is, w.refused-is) in
          let asks = w.in-Some.ensures.some in
          let as_idle : shown_mode w.idle-mode.result ≡ idle (drafted_mode base old name) =
          ap shown_mode w.idle-mode.ensures ∙ ap idle w.mode_at.ensures in
          let goes = moves_asking k c.args.self.now w.put.new.self _ name c.args.id _ refl asks
          (w.in_ok-put-in-Some.ensures.moved k) in
          let moved = subst (λ (m : Mode). drafted k w.put.new.self ≡ moves name m (drafted k c.args.self.now)) as_idle
          goes in
          let silent = ap (λ d. d.events.items) w.self-is ∙ ap (λ v. v.items) w.put.ensures.events in
          on_ok_weaker c.tell.result (λ told. (
            Refused name c.args.code ∷ [],
            inl (record {
              channel = name;
              asks = asks;
              moves = kept ∙ ap (λ d. drafted k d) w.self-is ∙ moved;
              tells = refl;
            }),
            told_next before _ after _ (Refused name c.args.code) silent told
                (says ∙ ap (λ (b : Bor (List ℕ)). Refused b.now c.args.code) same),
          ))
          c.tell.ensures.told
      | in-None+in_ok-refused-in-None w ↦
          let out = channel_under c.args.id (drafted k c.args.self.now).out in
          let found : option_map (λ (b : Bor (List ℕ)). b.now) c.match-channel_asking.refused ≡ out =
          ap (λ o. option_map (λ (b : Bor (List ℕ)). b.now) o) w.refused-is ∙ w.in_ok-refused-in-None.ensures.found in
          let silent = ap (λ d. d.events.items) w.self-is ∙ ap (λ v. v.items) w.answer_call.ensures.events in
          on_ok_weaker c.tell.result (λ told. (
            map (λ n. Refused n c.args.code) (option_to_list out),
            inr (
              w.in-None.ensures.none,
              (
                kept ∙ ap (λ d. drafted k d) w.self-is
                    ∙ w.in_ok-refused-in-None.ensures.answered,
                refl,
              ),
            ),
            told_next_call (λ n. Refused n c.args.code) before _ after _ said out silent told says
                (sym (ap (λ o. option_map (λ (b : Bor (List ℕ)). b.now) o) c.in-Some-refused.is) ∙ found),
          ))
          c.tell.ensures.told
    ]
