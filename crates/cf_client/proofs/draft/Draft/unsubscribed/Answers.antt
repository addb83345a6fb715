-- By the mode's variant, and then by the code: from a limit on the channel is asked for again, and else it becomes
-- idle.
use Rattle.std.proofs.Common.{◌≡◌, [], ◌∷◌, map, true, false, Some, nat_le, ap, ◌∙◌, sym, subst, refl, List, ℕ, arith}
use Rattle.std.proofs.lemmas.List.{append-nil}
use Rattle.std.proofs.lemmas.Result.{on_ok_weaker}
use Rattle.cf_client.specs.Shown.{shown_item}
use Rattle.std.proofs.lemmas.Bool.Decides.{nat_tests}
use Rattle.std.specs.String.{string_bytes}
use Rattle.cf_model.specs.Clients.{Idle, Live}
use Rattle.cf_client.specs.AppItem.{Resubscribing}
use Rattle.cf_client.specs.Draft.{drafted, drafted_mode}
use Rattle.cf_client.specs.Shown.{shown_mode}
use Rattle.cf_client.proofs.Drafting.{moves_live}
use Rattle.cf_client.proofs.Taking.{live_at, not_live, passes_end, takes_end, told_next}
use Rattle.cf_client.proofs.draft.Draft.unsubscribed.Goals as goal

pub returns-in_default : goal.returns-in_default
returns-in_default c =
    let base = c.args.known.now.channels in
    let old = c.args.self.now.changed in
    let name = string_bytes c.args.channel in
    let found : shown_mode c.mode_at.result ≡ drafted_mode base old name =
    subst (λ (n : List ℕ). shown_mode c.mode_at.result ≡ drafted_mode base old n) c.as_str.ensures.value
    c.mode_at.ensures in (
      [],
      passes_end name c.args.code (drafted_mode base old name) (drafted c.args.known.now c.args.self.now)
          (not_live c.mode_at.result _ found c.in_default.not-Live),
      sym (append-nil _),
    )

pub returns-then-code-ge-ASKS_AGAIN : goal.returns-then-code-ge-ASKS_AGAIN
returns-then-code-ge-ASKS_AGAIN c =
    let s = drafted c.args.known.now c.args.self.now in
    let base = c.args.known.now.channels in
    let old = c.args.self.now.changed in
    let k = c.args.known.now in
    let to = c.put.new.self in
    let name = string_bytes c.args.channel in
    let p = c.in-Live.at in
    let found : shown_mode c.mode_at.result ≡ drafted_mode base old name =
    subst (λ (n : List ℕ). shown_mode c.mode_at.result ≡ drafted_mode base old n) c.as_str.ensures.value
    c.mode_at.ensures in
    let live : drafted_mode base old name ≡ Live p = live_at c.mode_at.result _ p found c.in-Live.is in
    let goes = moves_live k c.args.self.now to _ name p (Idle (Some p)) c.as_str-2.ensures.value live
    (c.in_ok-put.ensures.moved k) in
    let says : nat_le 2500 c.args.code ≡ true = grind (arith, nat_tests, c.if-code-ge-ASKS_AGAIN.true) in
    on_ok_weaker c.tell.result (λ told. (
      Resubscribing name c.args.code ∷ [],
      takes_end name c.args.code true (drafted_mode base old name) p s _ live says
          (ap (drafted k) c.tell.ensures.same ∙ goes),
      told_next c.args.self.now.events.items c.put.new.self.events.items c.tell.new.self.events.items
          _ (Resubscribing name c.args.code) (ap (λ v. v.items) c.put.ensures.events) told refl,
    ))
    c.tell.ensures.told

pub returns-else-code-ge-ASKS_AGAIN : goal.returns-else-code-ge-ASKS_AGAIN
returns-else-code-ge-ASKS_AGAIN c =
    let s = drafted c.args.known.now c.args.self.now in
    let base = c.args.known.now.channels in
    let old = c.args.self.now.changed in
    let k = c.args.known.now in
    let to = c.put.new.self in
    let name = string_bytes c.args.channel in
    let p = c.in-Live.at in
    let found : shown_mode c.mode_at.result ≡ drafted_mode base old name =
    subst (λ (n : List ℕ). shown_mode c.mode_at.result ≡ drafted_mode base old n) c.as_str.ensures.value
    c.mode_at.ensures in
    let live : drafted_mode base old name ≡ Live p = live_at c.mode_at.result _ p found c.in-Live.is in
    let goes = moves_live k c.args.self.now to _ name p (Idle (Some p)) c.as_str-2.ensures.value live
    (c.in_ok-put.ensures.moved k) in
    let says : nat_le 2500 c.args.code ≡ false = grind (arith, nat_tests, c.if-code-ge-ASKS_AGAIN.false) in (
      [],
      takes_end name c.args.code false (drafted_mode base old name) p s _ live says goes,
      ap (λ v. map shown_item v.items) c.put.ensures.events ∙ sym (append-nil _),
    )
