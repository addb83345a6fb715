-- What stands under the name from an entry on is the entry's value, if that is its name, and else what comes behind.
use Rattle.std.proofs.Common.{◌≡◌, ℕ, ◌<◌, ◌+◌, suc, List, ◌∷◌, drop, get_or, length, cond, Some, String, Global, sym}
use Rattle.std.proofs.Common.{ap, ◌∙◌, add-one}
use Rattle.std.proofs.Math.Seq.{drop-cons}
use Rattle.std.specs.Str.{bytes_eq}
use Rattle.std.specs.String.{string_bytes}
use Rattle.cf_protocol.specs.Settings.{entry_at, named}
use Rattle.cf_protocol.proofs.table.value_of.Goals as goal

-- what stands under a name from the entry at hand on
from_here : {V : Type 0} (es : List (String Global × V)) (i : ℕ) (e : String Global × V) (k : List ℕ) → i < length es
    → e ≡ get_or es i e
    → entry_at (named (drop i es)) k ≡ cond (bytes_eq (string_bytes e.0) k) (Some e.1)
    (entry_at (named (drop (i + 1) es)) k)
from_here es i e k l is =
    ap (λ xs. entry_at (named xs) k) (drop-cons es i e l ∙ ap (λ x. x ∷ drop (suc i) es) (sym is))
    ∙ ap (λ n. cond (bytes_eq (string_bytes e.0) k) (Some e.1) (entry_at (named (drop n es)) k)) (sym (add-one i))

pub returns-then-eq : goal.returns-then-eq
returns-then-eq g c =
    let same = c.deref-entry-items.ensures.value in
    let e = c.entry-item.result in
    let test = ap (λ s. bytes_eq s c.args.name.now) (sym c.as_str.ensures.value) ∙ sym c.eq.ensures ∙ c.if-eq.true in
    let at = from_here c.args.entries.now.items c.loop-entry.entry-index e c.args.name.now
    (rw (← same) c.loop-entry-test.true) (rw (← same) c.entry-item.is) in
    sym (at ∙ ap (λ b. cond b (Some e.1) (entry_at
    (named (drop (c.loop-entry.entry-index + 1) c.args.entries.now.items)) c.args.name.now)) test)
    ∙ c.loop-entry.invariant

pub loop-entry-preserved : goal.loop-entry-preserved
loop-entry-preserved g c =
    let same = c.deref-entry-items.ensures.value in
    let e = c.entry-item.result in
    let test = ap (λ s. bytes_eq s c.args.name.now) (sym c.as_str.ensures.value) ∙ sym c.eq.ensures ∙ c.if-eq.false in
    let at = from_here c.args.entries.now.items c.loop-entry.entry-index e c.args.name.now
    (rw (← same) c.loop-entry-test.true) (rw (← same) c.entry-item.is) in
    sym (at ∙ ap (λ b. cond b (Some e.1) (entry_at
    (named (drop (c.loop-entry.entry-index + 1) c.args.entries.now.items)) c.args.name.now)) test)
    ∙ c.loop-entry.invariant
