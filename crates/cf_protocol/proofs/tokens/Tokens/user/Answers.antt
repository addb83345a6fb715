-- In an empty table any token stands for itself; else the user is the one of the token's entry, or there is none.
use Rattle.std.proofs.Common.{sym, ◌∙◌, ap, option_map}
use Rattle.std.specs.Option.{option_copied}
use Rattle.std.specs.String.{string_bytes}
use Rattle.cf_protocol.specs.Settings.{entry_at}
use Rattle.cf_protocol.proofs.Tables.{entry_at-map, user_of-empty, user_of-looked_up}
use Rattle.cf_protocol.proofs.tokens.Tokens.user.Goals as goal

pub returns-in-Some : goal.returns-in-Some
returns-in-Some c =
    let looked = user_of-looked_up c.args.self.now c.args.token.now (sym c.is_empty.ensures ∙ c.if-is_empty.false) in
    let at = entry_at-map string_bytes string_bytes c.self.inside.entries.items c.args.token.now in
    rw c.as_str.ensures.value
    (ap (option_map string_bytes) (ap option_copied (sym c.in-Some.is) ∙ c.value_of.ensures) ∙ sym at
    ∙ ap (λ t. entry_at t c.args.token.now) c.self.view_is ∙ sym looked)

pub returns-in-None : goal.returns-in-None
returns-in-None c =
    let looked = user_of-looked_up c.args.self.now c.args.token.now (sym c.is_empty.ensures ∙ c.if-is_empty.false) in
    let at = entry_at-map string_bytes string_bytes c.self.inside.entries.items c.args.token.now in
    ap (option_map string_bytes) (ap option_copied (sym c.in-None.is) ∙ c.value_of.ensures) ∙ sym at
    ∙ ap (λ t. entry_at t c.args.token.now) c.self.view_is ∙ sym looked

pub returns-then-is_empty : goal.returns-then-is_empty
returns-then-is_empty c = sym (user_of-empty c.args.self.now c.args.token.now (sym c.if-is_empty.ensures))
