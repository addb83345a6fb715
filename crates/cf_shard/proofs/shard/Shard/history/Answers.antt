-- The log gains an opening if no stream stood (`made`): the invariant and the answer off the log follow from that.
use Rattle.std.proofs.Common.{sym, ℤ, ◌≡◌, ◌++◌, [], ap, subst, w32, ◌∙◌}
use Rattle.std.proofs.lemmas.Result.{err_from_is_err_and}
use Rattle.std.proofs.lemmas.Int.{to_z-of_z}
use Rattle.cf_stream.specs.ChannelLists.{ListsAt}
use Rattle.cf_shard.specs.Shard.{Lent}
use Rattle.cf_shard.proofs.Opening.{call-leads, fresh-opened, fresh-still}
use Rattle.cf_shard.proofs.Calls.{opening_stood, logged, kept, still, history_by_log, follows}
use Rattle.cf_shard.proofs.Refusals.{history_refused_by, left_by}
use Rattle.cf_shard.proofs.Resizing.{stays_up}
use Rattle.cf_stream.specs.LogState.{opening}
use Rattle.cf_stream.specs.Streams.{stream_of}
use Rattle.cf_shard.proofs.shard.Shard.history.Given.{Over}
use Rattle.cf_shard.proofs.shard.Shard.history.Goals as goal

-- what it makes of the owner
made : (g : Over) (c : goal.After-log_opening g)
    → (c.log_opening.new.owner.word ≡ c.self.inside.owner.word)
    × (c.log_opening.new.owner.log ≡ c.self.inside.owner.log
    ++ opening (stream_of c.self.inside.streams c.args.channel.now) c.args.channel.now
    c.in_ok-history.history.position.epoch [])
made g c =
    logged _ _ _ _ _ c.follow.ensures.owner c.log_opening.ensures.owner
    (opening_stood c.self.inside.streams c.args.channel.now _ _ _ _ c.position.ensures.position
    c.top_of-stood.ensures)

pub history-requires : goal.history-requires
history-requires g c = stays_up _ _ _ c.args.channel.now c.self.invariant.0.state c.requires.set_up

pub returns-in_err-history-clause-refusals : goal.returns-in_err-history-clause-refusals
returns-in_err-history-clause-refusals g c =
    let p = err_from_is_err_and c.from_residual.result c.from_residual.ensures.1 in
    history_refused_by g.E.Epochs.draws c.args.channel.now c.args.since _ _ _ _ _ p.0 _ c.self.view_is
    c.deref_mut.ensures.value p.1 p.2 c.in_err-history.ensures.refusals c.in_err-history.ensures.epochs

pub returns-in_err-history-clause-err : goal.returns-in_err-history-clause-err
returns-in_err-history-clause-err g c =
    let p = err_from_is_err_and c.from_residual.result c.from_residual.ensures.1 in
    left_by _ _ _ _ p.0 _ c.self.view_is p.1 p.2 c.in_err-history.ensures.err (ap (λ o. o.log) c.follow.ensures.owner)
    (λ other. c.in_err-history.ensures.epochs.undrawn other ∙ c.deref_mut.ensures.value)

pub invariant_of-self-2 : goal.invariant_of-self-2
invariant_of-self-2 g c = (
  kept _ _ _ _ _ _ _ c.self.invariant.0 c.in_ok-history.ensures.log (made g c).0 (made g c).1,
  fresh-opened g.E.Epochs.draws _ _ _ [] _ _ _ _ (rw c.deref_mut.ensures.value at c.in_ok-history.ensures.epochs.drawn)
      (made g c).1 tt c.self.invariant.1,
)

pub returns-clause-answer : goal.returns-clause-answer
returns-clause-answer g c =
    let h = c.in_ok-history.history in
    let listed = ListsAt c.self.inside.streams c.args.channel.now c.args.since in
    let same = to_z-of_z w32 c.args.limit c.ranges.limit in
    rw (← c.self.view_is)
    (subst (λ (limit : ℤ). listed limit h.position h.publications.items) same c.in_ok-history.ensures.lists.answer)

pub returns-clause-by_log : goal.returns-clause-by_log
returns-clause-by_log g c =
    let h = c.in_ok-history.history in
    let listed = ListsAt c.self.inside.streams c.args.channel.now c.args.since in
    let same = to_z-of_z w32 c.args.limit c.ranges.limit in
    history_by_log _ _ _ _ _ _ _ _ _ _ _ c.self.invariant.0
    (subst (λ (limit : ℤ). listed limit h.position h.publications.items) same c.in_ok-history.ensures.lists.answer)
    c.follow.ensures.seen.0 (c.log_opening.ensures.whole.0 ∙ (made g c).1)

pub returns-clause-makes : goal.returns-clause-makes
returns-clause-makes g c = record {
  streams = rw (← c.self.view_is) c.in_ok-history.ensures.makes;
  log = rw (← c.self.view_is) (made g c).1;
  drawn = rw (← c.self.view_is) (rw c.deref_mut.ensures.value at c.in_ok-history.ensures.epochs.drawn);
}

pub returns-clause-seen : goal.returns-clause-seen
returns-clause-seen g c =
    follows _ _ _ _ _ _ 0 c.follow.ensures.seen.0 c.follow.ensures.pass (made g c).1 c.log_opening.ensures.whole
    c.log_opening.ensures.share

pub returns-clause-stays : goal.returns-clause-stays
returns-clause-stays g c = record {
  presence = ap (λ (s : Lent g.row.E.Denot). s.presence) c.self.view_is;
  whole = c.log_opening.ensures.whole.0;
  state = rw (← c.self.view_is) c.self.invariant.0.state;
}

pub returns-in_err-history-clause-stays : goal.returns-in_err-history-clause-stays
returns-in_err-history-clause-stays g c = record {
  presence = ap (λ (s : Lent g.row.E.Denot). s.presence) c.self.view_is;
  whole = ap (λ p. p.log) c.follow.ensures.pass ∙ sym (ap (λ o. o.log) c.follow.ensures.owner);
  state = rw (← c.self.view_is) c.self.invariant.0.state;
}

pub returns-then-not-has_room-clause-stays : goal.returns-then-not-has_room-clause-stays
returns-then-not-has_room-clause-stays g c = record {
  presence = ap (λ (s : Lent g.row.E.Denot). s.presence) c.self.view_is;
  whole = ap (λ p. p.log) c.follow.ensures.pass ∙ sym (ap (λ o. o.log) c.follow.ensures.owner);
  state = rw (← c.self.view_is) c.self.invariant.0.state;
}

pub invariant_of-self-in_err-history : goal.invariant_of-self-in_err-history
invariant_of-self-in_err-history g c = (
  still _ _ _ _ _ _ c.self.invariant.0 c.in_err-history.ensures.err c.follow.ensures.owner,
  fresh-still g.E.Epochs.draws _ _ _ _ (call-leads g.E.Epochs.draws
      _ _ _ _ _ (rw c.deref_mut.ensures.value at c.history.ensures.epochs)) (ap (λ o. o.log) c.follow.ensures.owner)
      c.self.invariant.1,
)
