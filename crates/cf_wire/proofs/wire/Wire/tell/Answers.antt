-- A close that settles, whichever way, is one that the peer was told (`tells_settled`).
use Rattle.cf_wire.proofs.Turns.{tells_settled}
use Rattle.cf_wire.proofs.wire.Wire.tell.Goals as goal

pub returns : goal.returns
returns g c = tells_settled g.S.Write.contents _ _ c.args.code _ c.shut-told.ensures.put
