-- A source of cf_epochs gives no epoch twice, so no epoch opens again in a shard's log.
use Rattle.std.proofs.Common.{◌≡◌, ◌≢◌, ◌<◌, ℕ, ◌+◌, ◌&&◌, Bool, true, false, if◌then◌else◌, Some, None, List, [], ◌∷◌}
use Rattle.std.proofs.Common.{◌++◌, append-nil, append_assoc, refl, sym, ap, ◌∙◌, subst, arith}
use Rattle.std.specs.Prelude.{fold}
use Rattle.std.specs.Str.{bytes_eq}
use mathlib.Core.List.{IsPrefix}
use Rattle.cf_protocol.specs.LogEntry.{Entry}
use Rattle.cf_protocol.specs.LogEntry.Entry.{Open, Publish, Trim, Forget, Size}
use Rattle.cf_epochs.specs.Source.{IsSource, Source, draws_next, epoch_at}
use Rattle.cf_stream.specs.LogState.{epoch_in, list_in}
use Rattle.cf_machine.proofs.Names.{not_this}
use Rattle.cf_shard.specs.Opening.{GivesNoneTwice, NeverOpens, OpenNew, OpensOnce, WillGive, later, now}
use Rattle.cf_node_hub.specs.Seen.{Turn, listed_in, no_turn, turn_after}
use Rattle.cf_node_hub.proofs.Sound.{OpensFresh, once_of}

-- ---- the source

-- what will be given has a greater count
record Ahead (e : List ℕ) (s : Source) : Type 0 where
  pub at : Source
  pub is : e ≡ epoch_at at
  pub source : IsSource at
  pub above : s.count < at.count

ahead : (e : List ℕ) (s : Source) → WillGive draws_next e s → Ahead e s
ahead e _ (now s t d) = record {
  at = t;
  is = d.0.0;
  source = d.0.1;
  above = let counted : t.count ≡ s.count + 1 = ap (λ (u : Source). u.count) d.1 in omega (arith, counted);
}
ahead e _ (later s t None d w) = subst (Ahead e) d.1 (ahead e t w)
ahead e _ (later s t (Some x) d w) =
    let a = ahead e t w in record {
      at = a.at;
      is = a.is;
      source = a.source;
      above = let counted : t.count ≡ s.count + 1 = ap (λ (u : Source). u.count) d.1 in let more = a.above in
          omega (arith, counted, more);
    }

pub none-twice : ((s t : Source) → IsSource s → IsSource t → epoch_at s ≡ epoch_at t → s ≡ t)
    → GivesNoneTwice draws_next
none-twice told e s t d w =
    let a = ahead e t w in
    let same : t.count ≡ a.at.count = ap (λ (u : Source). u.count) (told t a.at d.0.1 a.source (sym d.0.0 ∙ a.is)) in
    let more = a.above in
    absurd (omega (arith, same, more))

-- ---- the log

-- in an epoch in which none opens, nothing is listed more
never : (c y : List ℕ) (es : List Entry) (t : Turn) → t.stands ≡ false → t.list ≡ [] → NeverOpens y es
    → (fold (turn_after c y) t es).list ≡ []
never c y [] t s l h = l
never c y (Open q e ∷ es) t s l h = never c y es (turn_after c y t (Open q e)) (by_bool (bytes_eq q c)) l h.1
  where
    other : e ≢ y
    other is = h.0 (ap Some is)

    by_bool : (b : Bool) → (if b then bytes_eq e y else t.stands) ≡ false
    by_bool true = not_this e y other
    by_bool false = s
never c y (Publish q key d ∷ es) t s l h =
    never c y es (turn_after c y t (Publish q key d)) s (by_bool (bytes_eq q c) t.stands s) h.1
  where
    by_bool : (a b : Bool) → b ≡ false → (if a && b then t.list ++ d ∷ [] else t.list) ≡ []
    by_bool true true k = absurd (cc)
    by_bool true false k = l
    by_bool false b k = l
never c y (Trim q n ∷ es) t s l h = never c y es t s l h.1
never c y (Forget q ∷ es) t s l h = never c y es (turn_after c y t (Forget q)) (by_bool (bytes_eq q c)) l h.1
  where
    by_bool : (b : Bool) → (if b then false else t.stands) ≡ false
    by_bool true = refl
    by_bool false = s
never c y (Size name n ∷ es) t s l h = never c y es t s l h.1

back : (xs ys a : List Entry) → OpenNew a (xs ++ ys) → OpenNew (a ++ xs) ys
back [] ys a h = subst (λ (l : List Entry). OpenNew l ys) (sym (append-nil a)) h
back (x ∷ xs) ys a h =
    subst (λ (l : List Entry). OpenNew l ys) (append_assoc a (x ∷ []) xs) (back xs ys (a ++ x ∷ []) h.1)

opens-fresh : (c : List ℕ) (log : List Entry) → OpensOnce log → OpensFresh c log
opens-fresh c log h = λ before after q y is about.
    let may = back before (Open q y ∷ after) [] (subst (OpenNew []) is h) in
    never c y before no_turn refl refl (may.0 y refl)

pub once-by-log : (c e : List ℕ) (before log : List Entry) → OpensOnce log → IsPrefix before log
    → epoch_in before c ≡ Some e → list_in before c ≡ listed_in before c e
once-by-log c e before log h begins is = once_of c e before log (opens-fresh c log h) begins is
