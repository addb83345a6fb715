-- By the part that can't be read: each early end is the one that the definition has there.
use Rattle.std.proofs.Common.{sym}
use Rattle.cf_protocol.proofs.Entering.{token_uncut, token_misnamed, token_unused, token_found}
use Rattle.cf_protocol.proofs.tokens.read_entry.Goals as goal

pub returns-in_err-token : goal.returns-in_err-token
returns-in_err-token c = rw c.from_residual.ensures (token_uncut c.args.text.now c.in_err-token.ensures)

pub returns-then-not-is_name : goal.returns-then-not-is_name
returns-then-not-is_name c = token_misnamed c.args.text.now _ _ c.in_ok-token.ensures (sym c.if-not-is_name.ensures)

pub returns-then-not-is_name-2 : goal.returns-then-not-is_name-2
returns-then-not-is_name-2 c = token_unused c.args.text.now _ _ c.in_ok-token.ensures (sym c.if-not-is_name-2.ensures)

pub returns : goal.returns
returns c = token_found c.args.text.now _ _ c.in_ok-token.ensures (sym c.if-not-is_name.ensures)
    (sym c.if-not-is_name-2.ensures)
