-- A zero or a plus in front is refused; else the number is the kit's, if it is in bounds.
use Rattle.std.proofs.Common.{◌≢◌, ℕ, arith, sym, get_or, ◌∙◌, Ok, Err}
use Rattle.std.proofs.lemmas.Bool.{false≢true}
use Rattle.std.proofs.lemmas.Str.Pattern.{starts_char}
use Rattle.cf_protocol.proofs.Cutting.{count_plus, count_zero, count_parsed, count_found, count_other, count_unparsed}
use Rattle.cf_protocol.proofs.words.count_of.Goals as goal

pub returns-then-starts_with : goal.returns-then-starts_with
returns-then-starts_with c =
    count_zero c.args.most c.args.text.now (omega arith)
    ((starts_char 48 c.args.text.now c.starts_with.result c.starts_with.ensures.cases (omega arith) (omega arith)).0
    c.if-starts_with.true)

pub returns-then-starts_with-2 : goal.returns-then-starts_with-2
returns-then-starts_with-2 c =
    count_plus c.args.most c.args.text.now (omega arith)
    ((starts_char 43 c.args.text.now c.starts_with-2.result c.starts_with-2.ensures.cases (omega arith)
    (omega arith)).0 c.if-starts_with-2.true)

pub returns : goal.returns
returns c =
    let s = c.args.text.now in
    let no_zero : get_or s 0 0 ≢ 48 =
    λ e. false≢true (sym c.if-starts_with.false ∙ (starts_char 48 s c.starts_with.result c.starts_with.ensures.cases
    (omega arith) (omega arith)).1 e) in
    let no_plus : get_or s 0 0 ≢ 43 =
    λ e. false≢true (sym c.if-starts_with-2.false
    ∙ (starts_char 43 s c.starts_with-2.result c.starts_with-2.ensures.cases (omega arith) (omega arith)).1 e) in
    let parsed = count_parsed {E = ℕ} s (Ok c.in-Ok.number) c.in-Ok.ensures.value.0 no_plus in
    count_found c.args.most s c.in-Ok.number parsed.0.0 no_zero (parsed.0.1, parsed.0.2) parsed.1 c.if-number-most.false

pub returns-then-number-most : goal.returns-then-number-most
returns-then-number-most c =
    let s = c.args.text.now in
    let no_plus : get_or s 0 0 ≢ 43 =
    λ e. false≢true (sym c.if-starts_with-2.false
    ∙ (starts_char 43 s c.starts_with-2.result c.starts_with-2.ensures.cases (omega arith) (omega arith)).1 e) in
    let parsed = count_parsed {E = ℕ} s (Ok c.in-Ok.number) c.in-Ok.ensures.value.0 no_plus in
    count_other c.args.most s c.in-Ok.number (omega arith) parsed.1 c.if-number-most.true

pub returns-in_default : goal.returns-in_default
returns-in_default c =
    let s = c.args.text.now in
    let no_plus : get_or s 0 0 ≢ 43 =
    λ e. false≢true (sym c.if-starts_with-2.false
    ∙ (starts_char 43 s c.starts_with-2.result c.starts_with-2.ensures.cases (omega arith) (omega arith)).1 e) in
    count_unparsed c.args.most s (omega arith) (count_parsed s (Err c.in_default.field-0) c.in_default.ensures.value.0
    no_plus)
