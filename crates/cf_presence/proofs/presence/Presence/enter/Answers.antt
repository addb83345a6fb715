-- What `enter_in` promises of the map is carried over the view.
use Rattle.std.proofs.lemmas.Result.{on_ok_weaker, on_err_weaker}
use Rattle.cf_presence.proofs.Texts.{get-by_text, sets, keeps}
use Rattle.cf_presence.proofs.presence.Presence.enter.Goals as goal

pub returns-clause-ok : goal.returns-clause-ok
returns-clause-ok c =
    rw (← c.self.view_is, get-by_text)
    (on_ok_weaker c.enter_in.result (λ h. sets c.self.inside.map c.enter_in.new.map c.args.channel.now _ h)
    c.enter_in.ensures.ok)

pub returns-clause-err : goal.returns-clause-err
returns-clause-err c =
    rw (← c.self.view_is) (on_err_weaker c.enter_in.result (λ h. keeps c.self.inside.map c.enter_in.new.map h)
    c.enter_in.ensures.err)

pub returns-clause-again : goal.returns-clause-again
returns-clause-again c = rw (← c.self.view_is, get-by_text) c.enter_in.ensures.again
