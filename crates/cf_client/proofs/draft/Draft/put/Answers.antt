-- What `put_mode` promises of the changed modes is said of the state that the draft stands for.
use Rattle.std.proofs.Common.{refl}
use Rattle.std.proofs.lemmas.Result.{on_ok_weaker}
use Rattle.cf_client.proofs.Drafting.{put_moves}
use Rattle.cf_client.proofs.draft.Draft.put.Goals as goal

pub returns-clause-moved : goal.returns-clause-moved
returns-clause-moved c =
    on_ok_weaker c.put_mode.result (λ puts k there.
    put_moves k c.args.self.now (record c.args.self.now { changed = c.put_mode.new.channels }) c.args.channel.now
    c.args.mode puts refl there)
    c.put_mode.ensures.puts
