-- Each kind of text is one call, whose clauses are read with the variant that is matched; a ping has a pong told.
use Rattle.std.proofs.Common.{◌∷◌, [], ap, refl}
use Rattle.std.proofs.lemmas.Result.{on_ok_weaker}
use Rattle.cf_client.specs.AppItem.{PongDue}
use Rattle.cf_client.specs.Draft.{drafted}
use Rattle.cf_client.proofs.Taking.{told_one}
use Rattle.cf_client.proofs.draft.Draft.take.Goals as goal

pub returns-in-Ping : goal.returns-in-Ping
returns-in-Ping c =
    rw (c.in-Ping.is)
    (on_ok_weaker c.tell.result (λ told. (
      PongDue ∷ [],
      (ap (drafted c.args.known.now) c.tell.ensures.same, refl),
      told_one c.args.self.now.events.items c.tell.new.self.events.items _ PongDue told refl,
    ))
    c.tell.ensures.told)
