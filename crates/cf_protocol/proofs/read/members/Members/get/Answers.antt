-- The value at the key is that of the member, as the table's look-up has it.
use Rattle.std.proofs.Common.{◌∙◌, sym, subst}
use Rattle.cf_protocol.specs.Fields.{look_up}
use Rattle.cf_protocol.specs.Reading.{Finds}
use Rattle.cf_protocol.proofs.Standing.{looked_up}
use Rattle.cf_protocol.proofs.read.members.Members.get.Goals as goal

pub returns : goal.returns
returns c fs reads =
    let members = c.args.self.now in
    let key = c.args.key.now in
    subst (λ o. Finds members.text.now o (look_up key fs)) (sym (c.copied.ensures ∙ c.value_of.ensures))
    (looked_up members.text.now key members.found.items fs reads)
