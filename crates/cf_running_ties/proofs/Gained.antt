-- A log that was gained entry by entry has no stream above the last offset.
use Rattle.std.proofs.Common.{◌≡◌, ◌≤◌, ℕ, nat_lt, ◌&&◌, Bool, true, false, cond, Option, Some, None, List, [], ◌∷◌}
use Rattle.std.proofs.Common.{◌++◌, length, append-nil, append_assoc, refl, sym, subst, arith}
use Rattle.std.specs.Prelude.{IfSome, option_map}
use Rattle.std.specs.Str.{bytes_eq}
use Rattle.std.proofs.lemmas.Bool.Decides.{nat_tests}
use Rattle.std.proofs.lemmas.List.{length-append}
use Rattle.std.proofs.lemmas.Slice.Eq.{bytes_eq-Decides}
use Rattle.cf_protocol.specs.Datum.{Datum}
use Rattle.cf_protocol.specs.LogEntry.{Entry}
use Rattle.cf_protocol.specs.LogEntry.Entry.{Open, Publish, Trim, Forget, Size}
use Rattle.cf_protocol.specs.Settings.{NamespaceTable}
use Rattle.cf_stream.specs.LogState.{life_in, sizes_in}
use Rattle.cf_stream.specs.PublicationList.{kept_newest, opened, published}
use Rattle.cf_model.specs.Streams.{Life}
use Rattle.cf_model.specs.Streams.{last_offset}
use Rattle.cf_stream.specs.Streams.{size_at}
use Rattle.cf_model.specs.Streams.{in_namespace}
use Rattle.cf_stream.proofs.LogStates.{changed}
use Rattle.cf_machine.specs.Config.{Config}
use Rattle.cf_running.specs.Server.{is_below, may_gain}
use Rattle.cf_running.proofs.Gaining.{life-more}
use Rattle.cf_running_ties.specs.ShardCalls.{MayAll}

abbrev pub IsWithin : Option Life → Type 0
IsWithin o = IfSome o (λ l. length l.list ≤ last_offset)

by_cond : (b : Bool) (new old : Option Life) → (b ≡ true → IsWithin new) → IsWithin old → IsWithin (cond b new old)
by_cond true new old h k = h refl
by_cond false new old h k = k

first : (a b : Bool) → (a && b) ≡ true → a ≡ true
first true b h = refl
first false b h = absurd (cc)

second : (a b : Bool) → (a && b) ≡ true → b ≡ true
second true b h = h
second false b h = absurd (cc)

one-longer : (ds : List Datum) (d : Datum) → nat_lt (length ds) last_offset ≡ true → length (ds ++ d ∷ []) ≤ last_offset
one-longer ds d h = let e = length-append ds (d ∷ []) in grind (arith, nat_tests, e)

grown : (size : ℕ) (key : List ℕ) (d : Datum) (o : Option Life) → is_below o ≡ true
    → IsWithin (option_map (published size key d) o)
grown size key d None h = absurd (cc)
grown size key d (Some l) h = one-longer l.list d h

trimmed : (n : ℕ) (o : Option Life) → IsWithin o → IsWithin (option_map (kept_newest n) o)
trimmed n None h = tt
trimmed n (Some l) h = h

module _ (cfg : Config) where
  abbrev life : List Entry → List ℕ → Option Life
  life log q = life_in cfg.namespaces log q

  abbrev Fits : List Entry → Type 0
  Fits log = (q : List ℕ) → IsWithin (life log q)

  step : (log : List Entry) (x : Entry) → Fits log → may_gain cfg log x ≡ true → Fits (log ++ x ∷ [])
  step log x h can q = subst IsWithin (sym (life-more cfg.namespaces log x q)) (by_entry x can)
    where
      sizes : NamespaceTable
      sizes = sizes_in cfg.namespaces log

      by_entry : (y : Entry) → may_gain cfg log y ≡ true → IsWithin (changed sizes q (life log q) y)
      by_entry (Open c e) k = by_cond (bytes_eq c q) (Some (opened e)) (life log q) (λ t. omega arith) (h q)
      by_entry (Publish c key d) k =
          by_cond (bytes_eq c q) (option_map (published (size_at sizes q) key d) (life log q)) (life log q)
          (λ t. grown (size_at sizes q) key d (life log q)
          (subst (λ (z : List ℕ). is_below (life log z) ≡ true) ((bytes_eq-Decides c q).0 t)
          (first _ _ (second _ _ k))))
          (h q)
      by_entry (Trim c n) k =
          by_cond (bytes_eq c q) (option_map (kept_newest n) (life log q)) (life log q)
          (λ t. trimmed n (life log q) (h q)) (h q)
      by_entry (Forget c) k = by_cond (bytes_eq c q) None (life log q) (λ t. tt) (h q)
      by_entry (Size name n) k =
          by_cond (in_namespace name q) (option_map (kept_newest n) (life log q)) (life log q)
          (λ t. trimmed n (life log q) (h q)) (h q)

  all_fit : (xs log : List Entry) → Fits log → MayAll cfg log xs → Fits (log ++ xs)
  all_fit [] log h k = subst Fits (sym (append-nil log)) h
  all_fit (x ∷ xs) log h k =
      subst Fits (append_assoc log (x ∷ []) xs) (all_fit xs (log ++ x ∷ []) (step log x h k.0) k.1)

  pub fits : (log : List Entry) → MayAll cfg [] log → (q : List ℕ) → IsWithin (life log q)
  fits log k = all_fit log [] (λ q. tt) k

  joined : (b a xs : List Entry) → MayAll cfg a b → MayAll cfg (a ++ b) xs → MayAll cfg a (b ++ xs)
  joined [] a xs h k = subst (λ (l : List Entry). MayAll cfg l xs) (append-nil a) k
  joined (x ∷ b) a xs h k = (
    h.0,
    joined b (a ++ x ∷ []) xs h.1 (subst (λ (l : List Entry). MayAll cfg l xs) (sym (append_assoc a (x ∷ []) b))
        k),
  )

  pub goes_on : (log more : List Entry) → MayAll cfg [] log → MayAll cfg log more → MayAll cfg [] (log ++ more)
  goes_on log more h k = joined log [] more h k
