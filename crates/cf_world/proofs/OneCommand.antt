-- A text that has not one command.
use Rattle.std.proofs.Common.{◌≡◌, ◌∙◌, length, List, [], ◌∷◌, sym, ap, map}
use Rattle.std.proofs.lemmas.List.{length-map}
use Rattle.cf_protocol.specs.Request.{Command}
use Rattle.cf_protocol.specs.Shown.{shown_command}
use Rattle.cf_protocol.specs.declared.command.Command.{Command as CodeCommand}

pub not_one : (cs : List CodeCommand) (k : Command) → (length cs ≡ 1 → ⊥) → k ∷ [] ≡ map shown_command cs → ⊥
not_one cs k other f = other (sym (length-map cs shown_command) ∙ sym (ap length f))
