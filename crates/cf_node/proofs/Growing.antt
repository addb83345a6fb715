-- What was taken for a client stays in front of what is taken for it later.
use Rattle.std.proofs.Common.{◌≡◌, ◌∙◌, ◌++◌, ℕ, Bool, true, false, Option, Some, None, List, [], sym, ap}
use Rattle.std.proofs.lemmas.List.{append-nil, append_assoc}
use Rattle.cf_queue.specs.declared.queue.Out.{Out}
use Rattle.cf_dispatch.specs.Outlet.{Boxed, is_for}
use Rattle.cf_node.specs.Desk.{Grows, TakesIf, TakesOwn}

pub grows_none : (xs : List Out) → Grows xs xs
grows_none xs = record { came = []; gained = sym (append-nil xs) }

pub grows_more : (xs ys zs : List Out) → Grows xs ys → Grows ys zs → Grows xs zs
grows_more xs ys zs a b = record {
  came = a.came ++ b.came;
  gained = b.gained ∙ (ap (λ (l : List Out). l ++ b.came) a.gained ∙ append_assoc xs a.came b.came);
}

grows_same : (had has : Boxed) → has ≡ had → Grows had.outs.items has.outs.items
grows_same had has same = record {
  came = [];
  gained = ap (λ (b : Boxed). b.outs.items) same ∙ sym (append-nil had.outs.items);
}

grows_if : (may : Bool) (k : ℕ) (had has : Boxed) → TakesIf may k had has → Grows had.outs.items has.outs.items
grows_if false k had has same = grows_same had has same
grows_if true k had has took = record { came = took.1; gained = took.2 }

-- what is taken for the client's own session alone comes behind
pub grows_own : (own : Option ℕ) (had has : Boxed) → TakesOwn own had has → Grows had.outs.items has.outs.items
grows_own None had has same = grows_same had has same
grows_own (Some k) had has took = grows_if (is_for k had) k had has took
