-- An entry that can't be read, or whose token stands already, is refused as the definition does; else it is pushed
-- behind the
-- others.
use Rattle.std.proofs.Common.{sym, ap, ◌∙◌, ◌∷◌, [], ◌++◌, subst, ◌≡◌}
use Rattle.std.specs.Prelude.{None}
use Rattle.std.specs.String.{string_bytes}
use Rattle.std.proofs.lemmas.List.{map-append}
use Rattle.cf_protocol.specs.Settings.{named, in_bytes, entry_at}
use Rattle.cf_protocol.specs.SettingsText.{IsToken}
use Rattle.cf_protocol.proofs.Entering.{one_token}
use Rattle.cf_protocol.proofs.Listing.{stands, stands_not, pushed}
use Rattle.cf_protocol.proofs.Tables.{absent_named, absent_in_bytes}
use Rattle.cf_protocol.proofs.tokens.add.Goals as goal

pub returns-in_default : goal.returns-in_default
returns-in_default c = λ e h fresh. c.in_default.ensures e h

pub returns-then-is_some : goal.returns-then-is_some
returns-then-is_some c = λ e h fresh.
    let same = one_token c.args.text.now e (c.in-Some.token.now, c.in-Some.user.now) h c.in-Some.ensures in
    stands c.value_of.result (entry_at (named c.args.entries.now.items) c.in-Some.token.now) c.value_of.ensures
    (sym c.if-is_some.ensures)
    (absent_named c.args.entries.now.items c.in-Some.token.now
    (subst (λ f. entry_at (in_bytes c.args.entries.now.items) f.0 ≡ None) same fresh))

pub returns : goal.returns
returns c =
    let old = c.args.entries.now.items in
    let new = c.push.new.self.items in
    let token = c.in_ok-token.token in
    let user = c.in_ok-user.user in
    pushed IsToken c.args.text.now (in_bytes old) (in_bytes new) (c.in-Some.token.now, c.in-Some.user.now) c.push.result
    c.map_err.result _ new _ _ c.map_err.ensures.cases (λ _ _ is. is) c.push.ensures.items
    (λ more.
    ap in_bytes more
    ∙ map-append (λ e. (string_bytes e.0, string_bytes e.1)) old ((token, user) ∷ [])
    ∙ ap (λ t. in_bytes old ++ (t, string_bytes user) ∷ []) c.in_ok-token.ensures.ok
    ∙ ap (λ u. in_bytes old ++ (c.in-Some.token.now, u) ∷ []) c.in_ok-user.ensures.ok)
    c.in-Some.ensures (absent_in_bytes old c.in-Some.token.now
    (stands_not c.value_of.result (entry_at (named old) c.in-Some.token.now) c.value_of.ensures
    (sym c.if-is_some.ensures)))
