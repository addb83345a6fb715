-- The law of the theory, cited by name.
use Rattle.cf_client.proofs.laws.one_meaning.Goals as goal
use Rattle.cf_client.proofs.Meaning as meaning

pub returns : goal.returns
returns c = meaning.one_meaning
