-- By whether the channel has a first row: that one is held, or there is none.
use Rattle.std.proofs.Common.{◌≡◌, ◌∙◌, ap}
use Rattle.std.specs.Prelude.{is_some, nat_eq, true}
use Rattle.std.specs.HashMap.{get}
use Rattle.std.specs.List.{list_any}
use Rattle.cf_subs.specs.RowBlocks.{channel_of}
use Rattle.cf_subs.proofs.Finds.{all_none, any_held}
use Rattle.cf_subs.proofs.Heads.{first_there, none_is, nothing}
use Rattle.cf_subs.proofs.linked_rows.LinkedRows.any.Goals as goal

pub returns-in-Some-clause-held : goal.returns-in-Some-clause-held
returns-in-Some-clause-held c =
    let b = c.args.self.now.row_blocks.blocks in
    any_held channel_of b.held c.in-Some.number.now c.first_in_channel.result c.first_in_channel.ensures b.apart

pub returns-in-Some-clause-none : goal.returns-in-Some-clause-none
returns-in-Some-clause-none c =
    let r = c.args.self.now in let hs = r.row_blocks.blocks.held in let k = c.in-Some.number.now in
    let there : is_some c.first_in_channel.result ≡ true =
    ap is_some c.first_in_channel.ensures ∙ first_there channel_of r.channels hs k c.next.new.self
    c.requires.whole.channels (c.keys.ensures.has k ∙ ap (λ ks. list_any (nat_eq k) ks) c.in-Some.ensures.steps) in
    λ none. absurd cc

pub returns-in-None-clause-none : goal.returns-in-None-clause-none
returns-in-None-clause-none c =
    let r = c.args.self.now in let hs = r.row_blocks.blocks.held in
    λ _. all_none channel_of hs (λ k. none_is channel_of r.channels hs k c.requires.whole.channels
    (nothing (get nat_eq r.channels k) (c.keys.ensures.has k
    ∙ ap (λ ks. list_any (nat_eq k) ks) c.in-None.ensures.steps.0)))
