-- The loop keeps what was taken, and how much at least; one item more is the front that waited (`takes_more`).
use Rattle.std.proofs.Common.{◌≡◌, ◌∙◌, ◌++◌, ◌∷◌, ◌+◌, [], List, ap, inl, length, option_map, sum_by, sym, arith}
use Rattle.std.proofs.lemmas.List.{length_push}
use Rattle.std.proofs.lemmas.List.Sums.{sum_by-append}
use Rattle.cf_queue.specs.Meaning.{meaning}
use Rattle.cf_queue.specs.declared.queue.Out.{Out}
use Rattle.cf_dispatch.specs.Outlet.{bytes_in}
use Rattle.cf_dispatch.proofs.Taking.{takes_more}
use Rattle.cf_dispatch.proofs.outlet.fill.Goals as goal

-- room was made, and one more stands in the list
module _ (had room has : List Out) (out : Out) (same : room ≡ had) (pushed : has ≡ room ++ out ∷ []) where
  gains : has ≡ had ++ out ∷ []
  gains = pushed ∙ ap (λ (l : List Out). l ++ out ∷ []) same

  longer : length has ≡ length had + 1
  longer = ap length gains ∙ length_push had out

  heavier : sum_by bytes_in has ≡ sum_by bytes_in had + sum_by bytes_in (out ∷ [])
  heavier = ap (sum_by bytes_in) gains ∙ sum_by-append bytes_in had (out ∷ [])

pub loop-count-preserved : goal.loop-count-preserved
loop-count-preserved g c =
    let before = c.loop-count.invariant in
    let out = c.in-Some.out in
    let had = c.loop-count.taken.items in
    let has = c.push_back_reserved.new.self.items in
    record {
      takes =
          takes_more c.args.session c.args.hub.now.node c.loop-count.hub.node c.take.new.self.node
          c.args.taken.now.items had has out before.takes
          (ap (option_map meaning) (sym c.in-Some.is) ∙ c.take.ensures.front) c.take.ensures.sessions
          c.take.ensures.turns
          (gains had c.has_room.new.taken.items has out c.has_room.ensures.same c.push_back_reserved.ensures.items);
      counted = omega (
        arith,
        longer had c.has_room.new.taken.items has out c.has_room.ensures.same
            c.push_back_reserved.ensures.items,
        before.counted,
      );
      heavy = omega (
        arith,
        heavier had c.has_room.new.taken.items has out c.has_room.ensures.same
            c.push_back_reserved.ensures.items,
        before.heavy,
        c.length_of.ensures,
        c.saturating_add-bytes.ensures,
      );
      room = omega (arith, before.room, c.has_room.ensures.keeps, c.push_back_reserved.ensures.capacity);
    }

pub returns-then-bytes-ge-MOST_TAKEN-clause-takes : goal.returns-then-bytes-ge-MOST_TAKEN-clause-takes
returns-then-bytes-ge-MOST_TAKEN-clause-takes g c =
    let before = c.loop-count.invariant in
    let out = c.in-Some.out in
    let had = c.loop-count.taken.items in
    let has = c.push_back_reserved.new.self.items in
    takes_more c.args.session c.args.hub.now.node c.loop-count.hub.node c.take.new.self.node c.args.taken.now.items had
    has out before.takes
    (ap (option_map meaning) (sym c.in-Some.is) ∙ c.take.ensures.front) c.take.ensures.sessions c.take.ensures.turns
    (gains had c.has_room.new.taken.items has out c.has_room.ensures.same c.push_back_reserved.ensures.items)

pub returns-then-bytes-ge-MOST_TAKEN-clause-limit : goal.returns-then-bytes-ge-MOST_TAKEN-clause-limit
returns-then-bytes-ge-MOST_TAKEN-clause-limit g c =
    let before = c.loop-count.invariant in
    let had = c.loop-count.taken.items in
    let has = c.push_back_reserved.new.self.items in
    let more = heavier had c.has_room.new.taken.items has c.in-Some.out c.has_room.ensures.same
    c.push_back_reserved.ensures.items in
    λ _. inl (omega (
      arith,
      more,
      before.heavy,
      c.length_of.ensures,
      c.saturating_add-bytes.ensures,
      c.if-bytes-ge-MOST_TAKEN.true,
    ))
