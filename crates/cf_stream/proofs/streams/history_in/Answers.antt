-- By whether a stream stood: the map has it used then (`sets`); else one opens, unless a position was given.
use Rattle.std.proofs.Common.{Some, refl, sym, ap, ◌∙◌, rules, w32}
use Rattle.std.proofs.lemmas.Int.{to_z-of_z}
use Rattle.std.specs.BTreeMap.{get_by_text}
use Rattle.std.proofs.lemmas.Map.Text.{btree_map_updates_text}
use Rattle.std.proofs.lemmas.Result.{IfOk-weaker}
use Rattle.cf_stream.specs.Streams.{SetsAt}
use Rattle.cf_stream.specs.declared.answer.History.{History}
use Rattle.cf_stream.proofs.Standing.{kept_stood, used_stood, another_stood}
use Rattle.cf_stream.proofs.streams.history_in.Given as given
use Rattle.cf_stream.proofs.streams.history_in.Goals as goal

-- the map has the stream that was used
sets : (g : given.Over) (c : goal.After-map-in-Some-1 g)
    → SetsAt c.args.map.now (c.get_mut.follows.lender c.history.new.self) c.args.channel.now (Some c.history.new.self)
sets g c = btree_map_updates_text c.args.channel.now c.args.map.now (c.get_mut.follows.lender c.history.new.self)
    _ ((c.get_mut.follows.holds c.history.new.self).3 (search rules))

pub returns-in-Some-clause-ok : goal.returns-in-Some-clause-ok
returns-in-Some-clause-ok g c =
    used_stood c.args.map.now (c.get_mut.follows.lender c.history.new.self) c.args.channel.now c.in-Some.stream.now
    c.history.new.self (sym c.in-Some.ensures.value) (sets g c) c.history.result (λ (x : History). x.position.epoch)
    c.args.size c.args.now c.history.ensures.makes

pub returns-in-Some-clause-err : goal.returns-in-Some-clause-err
returns-in-Some-clause-err g c =
    kept_stood c.args.map.now (c.get_mut.follows.lender c.history.new.self) c.args.channel.now c.in-Some.stream.now
    c.history.new.self (sym c.in-Some.ensures.value) (sets g c) c.history.result c.history.ensures.err

pub open_idle-requires-clause-absent : goal.open_idle-requires-clause-absent
open_idle-requires-clause-absent g c =
    ap (λ m. get_by_text m c.args.channel.now) c.get_mut.follows.holds-at-none ∙ sym c.in-None.ensures.value

pub returns-then-is_some-clause-err : goal.returns-then-is_some-clause-err
returns-then-is_some-clause-err g c = λ q. ap (λ m. get_by_text m q) c.get_mut.follows.holds-at-none

pub returns-in_ok-position-in-None-clause-ok : goal.returns-in_ok-position-in-None-clause-ok
returns-in_ok-position-in-None-clause-ok g c =
    rw (← c.in-None.ensures.value, ← c.get_mut.follows.holds-at-none) c.in_ok-position-in-None.ensures.ok

pub returns-in_ok-position-in-None-clause-drawn : goal.returns-in_ok-position-in-None-clause-drawn
returns-in_ok-position-in-None-clause-drawn g c = rw (← c.in-None.ensures.value) c.in_ok-position-in-None.ensures.drawn

pub returns-in-Some-clause-answer : goal.returns-in-Some-clause-answer
returns-in-Some-clause-answer g c =
    rw (← c.in-Some.ensures.value) (rw (to_z-of_z w32 c.args.limit c.ranges.limit) at c.history.ensures.answer)

pub returns-in-Some-clause-drawn : goal.returns-in-Some-clause-drawn
returns-in-Some-clause-drawn g c =
    rw (← c.in-Some.ensures.value) (IfOk-weaker c.history.result _ _ (λ (x : History) a. (ap (λ p. p.epoch) a.at, refl))
    c.history.ensures.answer)

pub returns-in-Some-clause-wrong_epoch : goal.returns-in-Some-clause-wrong_epoch
returns-in-Some-clause-wrong_epoch g c =
    rw (← c.in-Some.ensures.value) (another_stood c.in-Some.stream.now c.args.since _ c.history.ensures.wrong_epoch)
