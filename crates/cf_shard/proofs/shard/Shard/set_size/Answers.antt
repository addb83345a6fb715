-- The owner's log gains the entry of the size, and the streams change as their own call says.
use Rattle.std.proofs.Common.{ap, refl, [], ◌∷◌, ◌∙◌}
use Rattle.cf_protocol.specs.LogEntry.Entry.{Size}
use Rattle.cf_shard.specs.Shard.{Lent}
use Rattle.cf_shard.proofs.Opening.{fresh-more}
use Rattle.cf_shard.proofs.Calls.{logged, kept, passed, follows}
use Rattle.cf_shard.proofs.Resizing.{name_stays_up}
use Rattle.cf_shard.proofs.shard.Shard.set_size.Goals as goal

pub set_size-requires-clause-set_up : goal.set_size-requires-clause-set_up
set_size-requires-clause-set_up g c = name_stays_up _ _ _ c.args.name.now c.self.invariant.0.state c.requires.set_up

pub invariant_of-self-2 : goal.invariant_of-self-2
invariant_of-self-2 g c =
    let owner = logged _ _ _ _ _ c.follow.ensures.owner c.append.ensures.owner refl in (
      kept _ _ _ _ _ _ _ c.self.invariant.0 c.set_size.ensures.log owner.0 owner.1,
      fresh-more g.E.Epochs.draws _ _ _ _ (Size c.args.name.now c.args.size ∷ []) (λ _ w. w) owner.1 (refl, tt)
          c.self.invariant.1,
    )

pub returns-clause-makes : goal.returns-clause-makes
returns-clause-makes g c =
    let owner = logged _ _ _ _ _ c.follow.ensures.owner c.append.ensures.owner refl in record {
      streams = rw (← c.self.view_is) (record {
        sizes = c.set_size.ensures.namespaces;
        streams = c.set_size.ensures.streams;
      });
      log = rw (← c.self.view_is) owner.1;
      undrawn = ap (λ (s : Lent g.row.E.Denot). s.epochs) c.self.view_is;
    }

pub returns-clause-by_log : goal.returns-clause-by_log
returns-clause-by_log g c =
    let owner = logged _ _ _ _ _ c.follow.ensures.owner c.append.ensures.owner refl in
    let pass = passed c.follow.new.pass c.append.new.pass c.append.new.owner.log (Size c.args.name.now c.args.size)
    c.append.ensures.pass in record {
      before = c.self.inside.owner.log;
      begins = c.follow.ensures.seen.0;
      gained = pass.0.0 ∙ owner.1;
      answered = tt;
    }

pub returns-clause-seen : goal.returns-clause-seen
returns-clause-seen g c =
    let owner = logged _ _ _ _ _ c.follow.ensures.owner c.append.ensures.owner refl in
    let pass = passed c.follow.new.pass c.append.new.pass c.append.new.owner.log (Size c.args.name.now c.args.size)
    c.append.ensures.pass in
    follows _ _ _ _ _ _ 0 c.follow.ensures.seen.0 c.follow.ensures.pass owner.1 pass.0 pass.1

pub returns-clause-stays : goal.returns-clause-stays
returns-clause-stays g c = record {
  presence = ap (λ (s : Lent g.row.E.Denot). s.presence) c.self.view_is;
  whole = (passed c.follow.new.pass c.append.new.pass c.append.new.owner.log (Size c.args.name.now c.args.size)
      c.append.ensures.pass).0.0;
  state = rw (← c.self.view_is) c.self.invariant.0.state;
}
