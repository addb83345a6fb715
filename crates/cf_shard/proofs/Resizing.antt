-- What a namespace keeps while its size changes.
use Rattle.std.proofs.Common.{◌≡◌, ℕ, List, [], ◌∷◌, Bool, true, false, cond, Option, Some, None, refl, sym, ap, ◌∙◌}
use Rattle.std.proofs.Common.{subst, option_map}
use Rattle.std.specs.Prelude.{IsSome}
use Rattle.std.specs.Str.{bytes_eq}
use Rattle.cf_protocol.specs.LogEntry.{Entry}
use Rattle.cf_protocol.specs.LogEntry.Entry.{Open, Publish, Trim, Forget, Size}
use Rattle.cf_protocol.specs.Settings.{NamespaceTable, entry_at, namespace_of, settings_of, with_size}
use Rattle.cf_protocol.specs.declared.settings.Settings.{Settings}
use Rattle.cf_protocol.proofs.Sizes.{entry_at-with_size}
use Rattle.cf_stream.specs.LogState.{IsState, sizes_in}
use Rattle.cf_stream.specs.Streams.{StreamMap, seconds_at, seconds_of}

some_map : {X Y : Type 0} (f : X → Y) (o : Option X) → IsSome o → IsSome (option_map f o)
some_map f None h = absurd (cc (h))
some_map f (Some x) h = refl

seconds_map : (b : Bool) (n : ℕ) (o : Option Settings)
    → seconds_of (option_map (λ (s : Settings). cond b (record s { size = n }) s) o) ≡ seconds_of o
seconds_map b n None = refl
seconds_map true n (Some s) = refl
seconds_map false n (Some s) = refl

-- a name that is set up stays so
up_with : (name k : List ℕ) (n : ℕ) (t : NamespaceTable) → IsSome (entry_at t k)
    → IsSome (entry_at (with_size name n t) k)
up_with name k n t h =
    subst (λ (o : Option Settings). IsSome o) (sym (entry_at-with_size name n t k)) (some_map _ (entry_at t k) h)

pub up_in : (t : NamespaceTable) (log : List Entry) (k : List ℕ) → IsSome (entry_at t k)
    → IsSome (entry_at (sizes_in t log) k)
up_in t [] k h = h
up_in t (Open c e ∷ log) k h = up_in t log k h
up_in t (Publish c key d ∷ log) k h = up_in t log k h
up_in t (Trim c n ∷ log) k h = up_in t log k h
up_in t (Forget c ∷ log) k h = up_in t log k h
up_in t (Size name n ∷ log) k h = up_in (with_size name n t) log k (up_with name k n t h)

-- and keeps its seconds
seconds_in : (t : NamespaceTable) (log : List Entry) (k : List ℕ)
    → seconds_of (entry_at (sizes_in t log) k) ≡ seconds_of (entry_at t k)
seconds_in t [] k = refl
seconds_in t (Open c e ∷ log) k = seconds_in t log k
seconds_in t (Publish c key d ∷ log) k = seconds_in t log k
seconds_in t (Trim c n ∷ log) k = seconds_in t log k
seconds_in t (Forget c ∷ log) k = seconds_in t log k
seconds_in t (Size name n ∷ log) k =
    seconds_in (with_size name n t) log k ∙ ap seconds_of (entry_at-with_size name n t k)
    ∙ seconds_map (bytes_eq k name) n (entry_at t k)

-- the same of the streams' own settings
pub name_stays_up : (t : NamespaceTable) (s : StreamMap) (log : List Entry) (k : List ℕ) → IsState t s log
    → IsSome (entry_at t k) → IsSome (entry_at s.namespaces k)
name_stays_up t s log k h up = subst (λ (x : NamespaceTable). IsSome (entry_at x k)) (sym h.settings) (up_in t log k up)

pub stays_up : (t : NamespaceTable) (s : StreamMap) (log : List Entry) (c : List ℕ) → IsState t s log
    → IsSome (settings_of t c) → IsSome (settings_of s.namespaces c)
stays_up t s log c h up = name_stays_up t s log (namespace_of c) h up

pub seconds_stay : (t : NamespaceTable) (s : StreamMap) (log : List Entry) (c : List ℕ) → IsState t s log
    → seconds_at s.namespaces c ≡ seconds_at t c
seconds_stay t s log c h = ap (λ (x : NamespaceTable). seconds_at x c) h.settings ∙ seconds_in t log (namespace_of c)
