-- A connect whose token is known has its attach next (`attach_next`); without memory for that it is given up.
use Rattle.std.proofs.Common.{◌≡◌, ◌∙◌, inr, ap, sym, option_copied, string_bytes, Some}
use Rattle.cf_protocol.specs.Settings.{user_of}
use Rattle.cf_protocol.specs.Shown.{shown_request}
use Rattle.cf_session.specs.Standing.{tables_of, rest_with}
use Rattle.cf_session.proofs.Steps.{attach_next, stays_out_at}
use Rattle.cf_session.proofs.session.Session.open.Goals as goal

pub returns-clause-acts : goal.returns-clause-acts
returns-clause-acts c =
    let s = c.args.self.now in
    let known : user_of (tables_of s).tokens (string_bytes c.in-Connect.token) ≡ Some c.in-Some.user.now =
    ap (user_of (tables_of s).tokens) (sym c.as_str.ensures.value) ∙ sym c.user_in.ensures
    ∙ ap option_copied c.in-Some.is in
    inr (
    stays_out_at (tables_of s) _ _ _ _ (attach_next (tables_of s) c.args.id (shown_request c.args.request)
    (string_bytes c.in-Connect.token) c.in-Some.user.now (rest_with s) (ap shown_request c.in-Connect.is) known)
    (ap Some c.give_up.ensures.act) c.give_up.ensures.progress c.give_up.ensures.refusals
    )
