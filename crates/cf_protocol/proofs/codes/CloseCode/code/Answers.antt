-- In the arm that isn't refuted at once the code is reckoned out.
use Rattle.std.proofs.Common.{refl}
use Rattle.cf_protocol.proofs.codes.CloseCode.code.Goals as goal

pub returns-in-InvalidToken : goal.returns-in-InvalidToken
returns-in-InvalidToken c = rw c.in-InvalidToken.is refl
