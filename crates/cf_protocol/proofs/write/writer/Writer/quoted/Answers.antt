-- A text of plain letters is written as it is, between two quotation marks.
use Rattle.std.proofs.Common.{sym, ◌∙◌}
use Rattle.cf_protocol.proofs.Plain.{between_quotes}
use Rattle.cf_protocol.proofs.write.writer.Writer.quoted.Goals as goal

pub returns-then-is_plain-clause-text : goal.returns-then-is_plain-clause-text
returns-then-is_plain-clause-text c =
    between_quotes c.args.self.now c.push.new.self c.push-then-is_plain.new.self c.push-then-is_plain-2.new.self
    c.args.text.now (sym c.is_plain.ensures ∙ c.if-is_plain.true) c.push.ensures.text
    c.push-then-is_plain.ensures.text c.push-then-is_plain-2.ensures.text
