-- Name, key and data have passed, so the first check that fails is one of the namespace's, and those pass as well.
use Rattle.std.proofs.Common.{rules, ◌≡◌, ◌≤◌, ◌||◌, ℕ, Bool, true, false, None, List, [], ◌∷◌, length, refl, sym, ◌∙◌}
use Rattle.cf_protocol.specs.Checks.{Check, first_failed, is_bad_channel, is_bad_data, is_bad_key, may_publish, set_up}
use Rattle.cf_protocol.specs.Shown.{shown_data}
use Rattle.cf_protocol.specs.declared.codes.ErrorCode.{ErrorCode}
use Rattle.cf_session.proofs.refusal.publish_refusal.Goals as goal

-- a key of 64 bytes at most
short_key : (key : List ℕ) → length key ≤ 64 → is_bad_key key ≡ false
short_key key l = search (rules, l)

-- name, key and data are well
passes : (a k d : Bool) (e f : ErrorCode) (rest : List Check) → a ≡ false → k ≡ false → d ≡ false
    → first_failed ((a, e) ∷ (k || d, f) ∷ rest) ≡ first_failed rest
passes true k d e f rest h i j = absurd (cc)
passes false true d e f rest h i j = absurd (cc)
passes false false true e f rest h i j = absurd (cc)
passes false false false e f rest h i j = refl

pub returns : goal.returns
returns c =
    let t = c.args.namespaces.now in
    let channel : List ℕ = c.args.channel.now in
    let named : is_bad_channel channel ≡ false = search rules in
    let short : is_bad_key c.args.key.now ≡ false = short_key c.args.key.now c.if-key-gt-LONGEST_KEY.false in
    let whole : is_bad_data (shown_data c.args.body.now) ≡ false = search rules in
    let others : List Check = set_up t channel ∷ may_publish t channel ∷ [] in
    let rest : None ≡ first_failed others = search rules in
    rest ∙ sym (passes _ _ _ _ _ others named short whole)
