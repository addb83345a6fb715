-- What `all_finished` promises of the found session is carried to the session in the view.
use Rattle.std.proofs.Common.{◌↔◌, ◌≡◌, ◌∙◌, ℕ, List, Bool, Option, false, sym, ap, subst, option_map}
use Rattle.std.specs.Prelude.{IsTrue}
use Rattle.std.specs.Option.{option_copied}
use Rattle.cf_hub.specs.Rows.{sub_in}
use Rattle.cf_hub.specs.Session.{Attached, attached_of, state_of}
use Rattle.cf_model.specs.Sessions.{is_unfinished}
use Rattle.cf_hub.proofs.Settling.{ready}
use Rattle.cf_hub.proofs.hub.Hub.is_settled.Goals as goal

pub returns-in-Some : goal.returns-in-Some
returns-in-Some c =
    subst (λ (o : Option Attached). IsTrue c.all_finished.result ↔ ((x : List ℕ) → is_unfinished (sub_in o x) ≡ false))
    (ap (λ o. option_map attached_of (option_copied o)) (sym c.in-Some.is) ∙ c.session.ensures)
    (subst (λ (b : Bool). IsTrue b ↔ ((x : List ℕ) → is_unfinished ((state_of c.in-Some.session.now).subs x) ≡ false))
    (sym c.all_finished.ensures.all)
    (ready c.in-Some.session.now.subscriptions c.all_finished.ensures.unique))
