-- The three facts are laws of the theory, cited by name.
use Rattle.cf_json.proofs.Quotes.{escaped_is_text, characters-escaped, length-quoted}
use Rattle.cf_json.proofs.text.quoting_reads_back.Goals as goal

pub returns : goal.returns
returns c = record { is_text = escaped_is_text; characters = characters-escaped; length = length-quoted }
