-- By whether a stream stood: the map has it used then (`sets`); else one opens, as `open_idle` promises.
use Rattle.std.proofs.Common.{Some, sym, ap, ◌∙◌, rules}
use Rattle.std.specs.BTreeMap.{get_by_text}
use Rattle.std.proofs.lemmas.Map.Text.{btree_map_updates_text}
use Rattle.cf_stream.specs.Streams.{SetsAt}
use Rattle.cf_stream.specs.declared.answer.Recovery.{Recovery}
use Rattle.cf_stream.proofs.Standing.{kept_stood, used_stood}
use Rattle.cf_stream.proofs.streams.read_in.Given as given
use Rattle.cf_stream.proofs.streams.read_in.Goals as goal

-- the map has the stream that was used
sets : (g : given.Over) (c : goal.After-map-in-Some-1 g)
    → SetsAt c.args.map.now (c.get_mut.follows.lender c.recover.new.self) c.args.channel.now (Some c.recover.new.self)
sets g c = btree_map_updates_text c.args.channel.now c.args.map.now (c.get_mut.follows.lender c.recover.new.self)
    _ ((c.get_mut.follows.holds c.recover.new.self).3 (search rules))

pub returns-in-Some-clause-ok : goal.returns-in-Some-clause-ok
returns-in-Some-clause-ok g c =
    used_stood c.args.map.now (c.get_mut.follows.lender c.recover.new.self) c.args.channel.now c.in-Some.stream.now
    c.recover.new.self (sym c.in-Some.ensures.value) (sets g c) c.recover.result
    (λ (x : Recovery). x.position.epoch) c.args.size c.args.now c.recover.ensures.makes

pub returns-in-Some-clause-err : goal.returns-in-Some-clause-err
returns-in-Some-clause-err g c =
    kept_stood c.args.map.now (c.get_mut.follows.lender c.recover.new.self) c.args.channel.now c.in-Some.stream.now
    c.recover.new.self (sym c.in-Some.ensures.value) (sets g c) c.recover.result c.recover.ensures.err

pub open_idle-requires-clause-absent : goal.open_idle-requires-clause-absent
open_idle-requires-clause-absent g c =
    ap (λ m. get_by_text m c.args.channel.now) c.get_mut.follows.holds-at-none ∙ sym c.in-None.ensures.value

pub returns-in_ok-position-in-None-clause-ok : goal.returns-in_ok-position-in-None-clause-ok
returns-in_ok-position-in-None-clause-ok g c =
    rw (← c.in-None.ensures.value, ← c.get_mut.follows.holds-at-none) c.in_ok-position-in-None.ensures.ok

pub returns-in_ok-position-in-None-clause-drawn : goal.returns-in_ok-position-in-None-clause-drawn
returns-in_ok-position-in-None-clause-drawn g c = rw (← c.in-None.ensures.value) c.in_ok-position-in-None.ensures.drawn
