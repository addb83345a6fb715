-- The loop keeps that the epochs so far are read, and that each may follow those before it.
use Rattle.std.proofs.Common.{◌∷◌, [], ◌++◌, lit<, map, sym, ap, ◌∙◌, subst}
use Rattle.std.proofs.lemmas.Iterator.Consumers.{YieldsList-so_far, YieldsList-turn, YieldsList-end}
use Rattle.std.proofs.lemmas.Iterator.Splits.{YieldsList-from_str_split}
use Rattle.std.proofs.lemmas.List.{map-append}
use Rattle.cf_speak.specs.Drawing.{words_of, AreGiven, CanFollow}
use Rattle.cf_speak.proofs.Giving.{epoch_kept, given_more, word_at, follows_at}
use Rattle.cf_speak.proofs.epochs.GivenEpochs.read.Goals as goal

pub returns-then-not-can_follow-clause-bad : goal.returns-then-not-can_follow-clause-bad
returns-then-not-can_follow-clause-bad c =
    let is_split = c.into_iter-word-iterator.ensures.into_iter_gives in
    let split = c.split-word-items.ensures in
    let road = YieldsList-from_str_split {s = c.into_iter-word-iterator.result} 44 c.args.text.now (lit< tt)
    (rw is_split split.text) (rw is_split split.has_more) (rw is_split split.pattern) in
    let turn = YieldsList-turn road c.loop-word.yielded _ c.loop-word.yielded_by _ _ c.in-Some.word c.in-Some.is
    c.next.ensures.steps in
    let so_far = YieldsList-so_far road c.loop-word.yielded _ c.loop-word.yielded_by in
    let word = c.in-Some.word.now in
    let cut = word_at (words_of c.args.text.now) word (map (λ s. s.now) c.loop-word.yielded) _ so_far turn.0 turn.1 in
    λ bad given.
    let follows = follows_at (map (λ s. s.now) c.loop-word.yielded) word _ (subst AreGiven cut given) in
    let goes_on = c.can_follow.ensures.1 (subst (λ es. CanFollow es word) (sym c.loop-word.invariant.read) follows) in
    let ends = c.if-not-can_follow.true in
    absurd (cc)

pub loop-word-preserved : goal.loop-word-preserved
loop-word-preserved c =
    let word = c.in-Some.word.now in
    let old = c.loop-word.left.items in
    let follows = c.can_follow.ensures.0 c.if-not-can_follow.false in
    let one_more =
    c.in_ok-push_back.ensures.items ∙ ap (λ e. old ++ e ∷ []) (c.from_text.ensures ∙ epoch_kept word follows.0.0) in
    record {
      read = one_more ∙ ap (λ l. l ++ word ∷ []) c.loop-word.invariant.read
          ∙ sym (map-append (λ s. s.now) c.loop-word.yielded (c.in-Some.word ∷ []));
      given = subst AreGiven (sym one_more) (given_more old word c.loop-word.invariant.given follows);
    }

pub returns-clause-found : goal.returns-clause-found
returns-clause-found c =
    let is_split = c.into_iter-word-iterator.ensures.into_iter_gives in
    let split = c.split-word-items.ensures in
    let road = YieldsList-from_str_split {s = c.into_iter-word-iterator.result} 44 c.args.text.now (lit< tt)
    (rw is_split split.text) (rw is_split split.has_more) (rw is_split split.pattern) in
    let whole = YieldsList-end road c.loop-word.yielded _ c.loop-word.yielded_by _ _ c.in-None.is
    c.next.ensures.steps in
    c.loop-word.invariant.read ∙ whole.0

pub returns-clause-given : goal.returns-clause-given
returns-clause-given c = subst AreGiven (returns-clause-found c) c.loop-word.invariant.given
