-- In the one arm that isn't refuted at once, the answer is that of the mode that is matched.
use Rattle.std.proofs.Common.{refl}
use Rattle.cf_client.proofs.channels.Mode.is_asking.Goals as goal

pub returns-in-Asking : goal.returns-in-Asking
returns-in-Asking c = rw c.in-Asking.is refl
