-- What a desk hands out, what is taken for it, and what is published for its client, by what was answered.
use Rattle.std.proofs.Common.{◌≡◌, ◌++◌, ◌∙◌, ℕ, Bool, true, false, Option, Some, None, List, [], ◌∷◌, refl, sym}
use Rattle.std.specs.Prelude.{IsFalse, IsTrue, IfOk, Result, Ok, Err, string_bytes}
use Rattle.cf_protocol.specs.Datum.{Who}
use Rattle.cf_protocol.specs.LogEntry.{Entry}
use Rattle.cf_protocol.specs.Settings.{NamespaceTable}
use Rattle.cf_queue.specs.declared.queue.Out.{Out}
use Rattle.cf_dispatch.specs.Outlet.{Boxed, is_for}
use Rattle.cf_shard.specs.LogAnswer.{IsPublished}
use Rattle.cf_shard.specs.declared.refusal.Refused.{Refused}
use Rattle.cf_stream.specs.declared.answer.Published.{Published}
use Rattle.cf_node.specs.Answered.{WasPublished}
use Rattle.cf_node.specs.Desk.{HandsOut, TakesIf, TakesOwn}

-- the front of what was taken before, and the rest is left
pub hands_front : (xs ys : List Out) (code : Option ℕ) (out : Out) → xs ≡ out ∷ ys → HandsOut xs code (Some out) ys
hands_front [] ys code out e = absurd (cc)
hands_front (x ∷ rest) ys code out e = (cc, cc)

abbrev pub Took : ℕ → Boxed → Boxed → Type 0
Took k had has = (has.session ≡ Some k) × (came : List Out) × (has.outs.items ≡ had.outs.items ++ came)

takes_if : (may : Bool) (k : ℕ) (had has : Boxed) → (IsFalse may → has ≡ had) → (IsTrue may → Took k had has)
    → TakesIf may k had has
takes_if false k had has nothing took = nothing refl
takes_if true k had has nothing took = took refl

-- what is taken for a session is the client's own, if that is its session
pub takes_own : (own : Option ℕ) (k : ℕ) (had has : Boxed) → own ≡ Some k → (IsFalse (is_for k had) → has ≡ had)
    → (IsTrue (is_for k had) → Took k had has) → TakesOwn own had has
takes_own own k had has is nothing took = rw is (takes_if (is_for k had) k had has nothing took)

-- a broker's answer, at some point of a log
pub was_published : (t : NamespaceTable) (before after : List Entry) (channel key body : List ℕ) (who : Who)
    (r : Result Published Refused) → IfOk r (IsPublished t before after channel key (record { body = body; info = Some who }))
    → IfOk r (WasPublished t channel key body who)
was_published t before after channel key body who (Ok p) h = (before, after, h)
was_published t before after channel key body who (Err e) h = h
