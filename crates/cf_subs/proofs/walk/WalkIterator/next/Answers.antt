-- One step of the walk (`channel_step`): the row here, and the walk on from the next one, to its end.
use Rattle.std.proofs.Common.{◌≡◌, ℕ, ◌<◌, List, ◌∷◌, length, map, sym, ap, ◌∙◌, subst, arith}
use Rattle.cf_subs.specs.RowBlocks.{IsChannelWalk, channel_of, sessions_onward}
use Rattle.cf_subs.proofs.Finds.{channel_step}
use Rattle.cf_subs.proofs.Walks.{walk_ends}
use Rattle.cf_subs.proofs.walk.WalkIterator.next.Goals as goal

pub invariant_of-self : goal.invariant_of-self
invariant_of-self c =
    let w = c.self.inside in let b = w.row_blocks.now.blocks in
    (channel_step b.held w.channel c.in-Some.at c.row.result c.next_in_channel-self-inside.result
    (subst (IsChannelWalk b.held w.channel) c.in-Some.is c.self.invariant) b.apart c.row.ensures
    c.next_in_channel-self-inside.ensures).stands

pub returns-in-Some-clause-steps : goal.returns-in-Some-clause-steps
returns-in-Some-clause-steps c =
    let w = c.self.inside in let b = w.row_blocks.now.blocks in
    sym c.self.view_is ∙ ap (sessions_onward b.held w.channel) c.in-Some.is
    ∙ (channel_step b.held w.channel c.in-Some.at c.row.result c.next_in_channel-self-inside.result
    (subst (IsChannelWalk b.held w.channel) c.in-Some.is c.self.invariant) b.apart c.row.ensures
    c.next_in_channel-self-inside.ensures).left

pub returns-in-Some-clause-goes : goal.returns-in-Some-clause-goes
returns-in-Some-clause-goes c =
    let w = c.self.inside in let b = w.row_blocks.now.blocks in
    let rest : List ℕ = sessions_onward b.held w.channel c.next_in_channel-self-inside.result in
    let steps : c.args.self.now ≡ c.row.result.session ∷ rest =
    sym c.self.view_is ∙ ap (sessions_onward b.held w.channel) c.in-Some.is
    ∙ (channel_step b.held w.channel c.in-Some.at c.row.result c.next_in_channel-self-inside.result
    (subst (IsChannelWalk b.held w.channel) c.in-Some.is c.self.invariant) b.apart c.row.ensures
    c.next_in_channel-self-inside.ensures).left in
    let less : length rest < length c.args.self.now = omega (arith, ap length steps) in
    record { on = λ _. (tt, tt, less); keeps = tt; rests = λ _. tt }

pub returns-in-None-clause-steps : goal.returns-in-None-clause-steps
returns-in-None-clause-steps c =
    let w = c.self.inside in
    let e = sym c.self.view_is ∙ ap (map (λ h. h.value.row.session))
    (walk_ends channel_of w.channel w.row_blocks.now.blocks.held w.next c.in-None.is) in
    (e, e)
