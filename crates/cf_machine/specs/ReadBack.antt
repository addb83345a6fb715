-- What is published can be read back. (This project's own profile.)
use Rattle.cf_protocol.specs.Datum.{Datum}
use Rattle.cf_protocol.specs.Regular.{IsBody, IsInfo}

-- a datum whose text can be read back, and who published it
abbrev pub IsDatum : Datum → Type 0
IsDatum d = IsBody d.body × IsInfo d.info
