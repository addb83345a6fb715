-- The plain front of a block is a front of the text, so the text's end is the same behind it.
use Rattle.std.proofs.Common.{◌≡◌, take, drop, true, sym, ap, ◌∙◌, subst}
use Rattle.std.proofs.lemmas.List.{take-append-drop}
use Rattle.std.specs.List.{list_all}
use Rattle.cf_json.specs.Bytes.{is_plain}
use Rattle.cf_json.specs.declared.token.Within.TheVariants.{Plain}
use Rattle.cf_json.specs.Reading.{text_end}
use Rattle.cf_json.proofs.PlainRuns.{plain_run}
use Rattle.cf_json.proofs.token.after_few.Goals as goal
use lib.Seq.{take-take}

pub returns-clause-same : goal.returns-clause-same
returns-clause-same c =
    let n = c.plain_front.result in
    let text = c.args.text.now in
    let front : take n c.in-Some.block.now ≡ take n text =
    rw (c.in-Some.ensures.cases.0) (take-take n 16 text c.plain_front.ensures.within) in
    let plain : list_all is_plain (take n text) ≡ true =
    subst (λ w. list_all is_plain w ≡ true) front c.plain_front.ensures.plain in
    ap (text_end Plain) c.split_at.ensures.back ∙ sym (plain_run (take n text) (drop n text) plain)
    ∙ ap (text_end Plain) (take-append-drop n text)
