-- The entries of a tick may be gained one after another: each channel has one at most, and its stream still stands
-- then.
use Rattle.std.proofs.Common.{◌≡◌, ℕ, List, [], ◌∷◌, ◌++◌, Bool, true, false, cond, is_some, Option, Some, None, refl}
use Rattle.std.proofs.Common.{sym, ap, ◌∙◌, subst, map, T}
use Rattle.std.specs.Prelude.{◌&&◌}
use Rattle.std.specs.FinMap as fin
use Rattle.std.specs.FinMap.Entries.{below_all, is_sorted}
use Rattle.std.specs.List.{cons_option}
use Rattle.std.specs.Option.{option_map}
use Rattle.std.specs.Ordering.{nat_cmp, is_lt, is_eq}
use Rattle.std.specs.declared.cmp.Ordering.{Ordering}
use Rattle.std.specs.declared.cmp.Ordering.TheVariants.{Less, Equal, Greater}
use Rattle.std.specs.Cmp.Lexicographic.{slice_cmp}
use Rattle.std.specs.Str.{bytes_eq}
use Rattle.std.proofs.lemmas.Slice.Eq.{bytes_eq-Decides}
use Rattle.cf_protocol.specs.Settings.{NamespaceTable}
use Rattle.cf_protocol.specs.LogEntry.{Entry}
use Rattle.cf_protocol.specs.LogEntry.Entry.{Trim, Forget}
use Rattle.cf_stream.specs.declared.due.Due.{Due}
use Rattle.cf_stream.specs.declared.due.Due.TheVariants.{Forget as ToForget, Empty as ToEmpty}
use Rattle.cf_stream.specs.ChannelLists.{ShowsAt}
use Rattle.cf_stream.specs.LogState.{IsState, due_entries, due_entry, life_in}
use Rattle.cf_stream.specs.PublicationList.{kept_newest}
use Rattle.cf_model.specs.Streams.{Life}
use Rattle.cf_stream.specs.Stream.{Shown}
use Rattle.cf_stream.specs.Streams.{StreamMap, due_channels, due_of, seconds_at, size_at}
use Rattle.cf_stream.proofs.Channels.{same_key}
use Rattle.cf_machine.specs.Config.{Config}
use Rattle.cf_machine.proofs.Names.{itself}
use Rattle.cf_shard.specs.ShardLog.{entries_of_tick}
use Rattle.cf_running_ties.specs.ShardCalls.{MayAll}
use Rattle.cf_running.proofs.Gaining.{life-more}
use Rattle.cf_running_ties.proofs.ShardCalls.{shows, some-life}

abbrev Entries : Type 0
Entries = List (List ℕ × Shown)

abbrev find : List ℕ → Entries → Option Shown
find q es = fin.find (slice_cmp nat_cmp) q es

-- ---- each key stands once

first : (a b : Bool) → T (a && b) → T a
first true b h = tt
first false b h = h

second : (a b : Bool) → T (a && b) → T b
second true b h = h
second false b h = absurd h

less : (o : Ordering) → T (is_lt o) → is_eq o ≡ false
less Less h = refl
less Equal h = absurd h
less Greater h = absurd h

abbrev Apart : Entries → Type 0
Apart [] = Unit {0}
Apart (e ∷ es) = (find e.0 es ≡ None) × Apart es

find_below : (q : List ℕ) (es : Entries) → T (below_all (slice_cmp nat_cmp) q es) → find q es ≡ None
find_below q [] h = refl
find_below q (e ∷ es) h =
    let rest : Entries = es in
    ap (λ b. cond b (Some e.1) (find q rest)) (less (slice_cmp nat_cmp q e.0)
    (first (is_lt (slice_cmp nat_cmp q e.0)) (below_all (slice_cmp nat_cmp) q es) h))
    ∙ find_below q es (second (is_lt (slice_cmp nat_cmp q e.0)) (below_all (slice_cmp nat_cmp) q es) h)

sorted_apart : (es : Entries) → T (is_sorted (slice_cmp nat_cmp) es) → Apart es
sorted_apart [] h = tt
sorted_apart (e ∷ es) h = (
  find_below e.0 es (first (below_all (slice_cmp nat_cmp) e.0 es) (is_sorted (slice_cmp nat_cmp) es) h),
  sorted_apart es (second (below_all (slice_cmp nat_cmp) e.0 es) (is_sorted (slice_cmp nat_cmp) es) h),
)

-- what is not in a list is none of its keys
not_first : (q : List ℕ) (e : List ℕ × Shown) (es : Entries) → find q (e ∷ es) ≡ None → (bytes_eq e.0 q ≡ false)
    × (find q es ≡ None)
not_first q e es h = by_key (bytes_eq e.0 q) (ap (λ b. cond b (Some e.1) (find q es)) (same_key e.0 q) ∙ h) refl
  where
    by_key : (b : Bool) → cond b (Some e.1) (find q es) ≡ None → bytes_eq e.0 q ≡ b → (bytes_eq e.0 q ≡ false)
        × (find q es ≡ None)
    by_key true k i = absurd (cc)
    by_key false k i = (i, k)

-- ---- all of these hold

abbrev Each : (List ℕ → Shown → Type 0) → Entries → Type 0
Each P [] = Unit {0}
Each P (e ∷ es) = P e.0 e.1 × Each P es

each-more : (P Q : List ℕ → Shown → Type 0) (es : Entries) → ((q : List ℕ) (s : Shown) → P q s → Q q s) → Each P es
    → Each Q es
each-more P Q [] f h = tt
each-more P Q (e ∷ es) f h = (f e.0 e.1 h.0, each-more P Q es f h.1)

-- each is found under its key
found : (es : Entries) → Apart es → Each (λ q s. find q es ≡ Some s) es
found [] h = tt
found (e ∷ es) h = (
  ap (λ b. cond b (Some e.1) (find e.0 es)) (sym (same_key e.0 e.0) ∙ itself e.0),
  each-more (λ q s. find q es ≡ Some s) (λ q s. find q (e ∷ es) ≡ Some s) es
      (λ q s k. by_key q s k (bytes_eq e.0 q) refl) (found es h.1),
)
  where
    by_key : (q : List ℕ) (s : Shown) → find q es ≡ Some s → (b : Bool) → bytes_eq e.0 q ≡ b → find q (e ∷ es) ≡ Some s
    by_key q s k true i =
        absurd (let same : e.0 ≡ q = (bytes_eq-Decides e.0 q).0 i in let no : Some s ≡ None = sym k
        ∙ ap (λ z. find z es) (sym same) ∙ h.0 in cc)
    by_key q s k false i = ap (λ b. cond b (Some e.1) (find q es)) (sym (same_key e.0 q) ∙ i) ∙ k

-- ---- one entry after another

module _ (cfg : Config) where
  abbrev Stands : List Entry → List ℕ → Shown → Type 0
  Stands log q s = is_some (life_in cfg.namespaces log q) ≡ true

  -- an entry of another channel
  due_elsewhere : (log : List Entry) (c : List ℕ) (d : Due) (q : List ℕ) → bytes_eq c q ≡ false
      → life_in cfg.namespaces (log ++ due_entry c d ∷ []) q ≡ life_in cfg.namespaces log q
  due_elsewhere log c ToForget q h =
      life-more cfg.namespaces log (Forget c) q ∙ ap (λ b. cond b None (life_in cfg.namespaces log q)) h
  due_elsewhere log c ToEmpty q h =
      life-more cfg.namespaces log (Trim c 0) q ∙ ap
      (λ b. cond b (option_map (kept_newest 0) (life_in cfg.namespaces log q)) (life_in cfg.namespaces log q)) h

  still_stand : (log : List Entry) (c : List ℕ) (d : Due) (es : Entries) → find c es ≡ None → Each (Stands log) es
      → Each (Stands (log ++ due_entry c d ∷ [])) es
  still_stand log c d [] n h = tt
  still_stand log c d (e ∷ es) n h =
      let k = not_first c e es n in (
        ap (λ (o : Option Life). is_some o) (due_elsewhere log c d e.0 (other c e.0 k.0)) ∙ h.0,
        still_stand log c d es k.1 h.1,
      )
    where
      other : (c q : List ℕ) → bytes_eq q c ≡ false → bytes_eq c q ≡ false
      other c q i = by_bool (bytes_eq c q) refl
        where
          by_bool : (b : Bool) → bytes_eq c q ≡ b → b ≡ false
          by_bool false j = refl
          by_bool true j =
              absurd (let same : c ≡ q = (bytes_eq-Decides c q).0 j in let no : true
              ≡ false = sym ((bytes_eq-Decides q c).1 (sym same)) ∙ i in cc)

  abbrev entries : ℕ → NamespaceTable → Entries → List Entry
  entries now t es = due_entries (due_channels now t es)

  all-may : (now : ℕ) (t : NamespaceTable) (es : Entries) (log : List Entry) → Apart es → Each (Stands log) es
      → MayAll cfg log (entries now t es)
  all-may now t [] log h k = tt
  all-may now t (e ∷ es) log h k =
      by_due (due_of now (seconds_at t e.0) e.1) (all-may now t es log h.1 k.1)
      (λ d. all-may now t es (log ++ due_entry e.0 d ∷ []) h.1 (still_stand log e.0 d es h.0 k.1))
    where
      by_due : (o : Option Due) → MayAll cfg log (entries now t es)
          → ((d : Due) → MayAll cfg (log ++ due_entry e.0 d ∷ []) (entries now t es))
          → MayAll cfg log (map (λ (x : List ℕ × Due). due_entry x.0 x.1)
          (cons_option (option_map (λ d. (e.0, d)) o) (due_channels now t es)))
      by_due None a b = a
      by_due (Some ToForget) a b = (k.0, b ToForget)
      by_due (Some ToEmpty) a b = (k.0, b ToEmpty)

  pub ticks : (k : StreamMap) (log : List Entry) → IsState cfg.namespaces k log → (now : ℕ)
      → MayAll cfg log (entries_of_tick k now)
  ticks k log is now =
      all-may now k.namespaces (fin.entries k.streams) log
      (sorted_apart (fin.entries k.streams) (fin.entries_sorted k.streams))
      (each-more (λ q s. find q (fin.entries k.streams) ≡ Some s) (Stands log) (fin.entries k.streams)
      (λ q s h. some-life cfg k log is q s (life_in cfg.namespaces log q)
      (subst (λ o. ShowsAt (size_at k.namespaces q) o (life_in cfg.namespaces log q)) (fin.get-entries k.streams q ∙ h)
      (shows cfg k log is q)))
      (found (fin.entries k.streams) (sorted_apart (fin.entries k.streams) (fin.entries_sorted k.streams))))
