-- The text is written piece by piece; together the pieces are the epoch at the source's count.
use Rattle.std.proofs.Common.{rules, ◌≡◌, length-append}
use Rattle.cf_epochs.specs.Source.{IsSource, epoch_at}
use Rattle.cf_epochs.proofs.Spelling.{spelled, epoch_of-epoch_at, length-epoch_at}
use Rattle.cf_epochs.proofs.source.BootEpochs.last.Goals as goal

pub push_str-requires-5 : goal.push_str-requires-5
push_str-requires-5 c =
    let known : IsSource c.args.self.now = rw (← c.self.view_is) (search rules) in
    let short = length-epoch_at c.args.self.now known in
    search (rules, length-append)

pub returns-clause-source : goal.returns-clause-source
returns-clause-source c = rw (← c.self.view_is) (search rules)

pub returns-clause-text : goal.returns-clause-text
returns-clause-text c =
    let known : IsSource c.args.self.now = rw (← c.self.view_is) (search rules) in
    let text : c.as_str.result.now ≡ epoch_at c.args.self.now =
    rw (
      c.as_str.ensures.value,
      c.push_str-5.ensures.bytes,
      c.push_str-4.ensures.bytes,
      c.push_str-3.ensures.bytes,
      c.push_str-2.ensures.bytes,
      c.push_str.ensures.bytes,
      c.new-text.ensures,
    ) (search (rules, spelled)) in
    rw (c.from_text.ensures, text) (epoch_of-epoch_at c.args.self.now known)
