-- The epoch isn't empty, and none of those before is the same, as the test says.
use Rattle.std.proofs.Common.{◌≡◌, length, false, sym, ap, ◌∙◌, subst}
use Rattle.std.specs.Prelude.{◌==◌, not}
use Rattle.std.specs.List.{list_any}
use Rattle.std.specs.Str.{bytes_eq}
use Rattle.std.proofs.lemmas.Bool.{not-true}
use Rattle.cf_protocol.specs.Epoch.{epoch_of}
use Rattle.cf_speak.proofs.Giving.{can_follow, follows_so}
use Rattle.cf_speak.proofs.epochs.can_follow.Goals as goal

pub returns-then-not-is_empty : goal.returns-then-not-is_empty
returns-then-not-is_empty c =
    let es = c.args.epochs.now.items in
    let word = c.args.word.now in
    let some : (length (epoch_of word) == 0) ≡ false =
    subst (λ e. (length e == 0) ≡ false) c.from_text-epoch.ensures
    (sym c.is_empty.ensures ∙ c.if-not-is_empty.true) in
    let among = subst (λ e. c.is_among.result ≡ list_any (bytes_eq e) es) c.from_text-epoch.ensures
    c.is_among.ensures in (
      λ t. can_follow es word some (sym among ∙ not-true c.is_among.result t),
      λ h. ap not (among ∙ (follows_so es word h).1),
    )
