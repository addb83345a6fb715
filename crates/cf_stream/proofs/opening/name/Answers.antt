-- What `get` promises of the map is read key by key.
use Rattle.std.proofs.Common.{arith}
use Rattle.std.proofs.lemmas.Map.Text.{text_keys}
use Rattle.cf_stream.proofs.opening.name.Goals as goal

pub returns-in-Some : goal.returns-in-Some
returns-in-Some c = λ q. grind (arith, text_keys)
