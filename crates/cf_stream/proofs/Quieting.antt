-- Before which moment a tick does nothing to the streams, where one of them changes.
use Rattle.std.proofs.Common.{◌≡◌, ℕ, ◌+◌, ◌≤◌, ◌<◌, List, [], Bool, true, false, not, cond, Option, Some, None, refl}
use Rattle.std.proofs.Common.{sym, ap, ◌∙◌, subst, length, arith, BTreeMap, String, Global, string_bytes}
use Rattle.std.specs.Prelude.{◌-◌, ◌∷◌, is_some, ◌==◌, if◌then◌else◌, ◌&&◌, Result, Ok, Err, IfOk, OnErr}
use Rattle.std.specs.BTreeMap.{get_by_text, IsOrdered}
use Rattle.std.specs.List.{cons_option}
use Rattle.std.specs.Option.{option_map}
use Rattle.std.specs.String.{string_cmp}
use Rattle.std.specs.Str.{bytes_eq}
use Rattle.std.specs.Cmp.{eq_by_cmp_equiv}
use Rattle.std.specs.Cmp.Lexicographic.{nat_list_cmp_total}
use Rattle.std.proofs.Math.Seq.{drop-nil}
use Rattle.std.proofs.lemmas.Bool.{eqb-true, lt-leb}
use Rattle.std.proofs.lemmas.Slice.Eq.{bytes_eq-Decides}
use Rattle.cf_protocol.specs.Datum.{Datum}
use Rattle.cf_protocol.specs.Settings.{NamespaceTable, entry_at, namespace_of, with_size}
use Rattle.cf_protocol.specs.declared.settings.Settings.{Settings}
use Rattle.cf_protocol.proofs.Sizes.{entry_at-with_size}
use Rattle.cf_stream.specs.declared.due.Due.{Due}
use Rattle.cf_stream.specs.declared.due.Due.TheVariants.{Forget as ToForget, Empty as ToEmpty}
use Rattle.cf_model.specs.Keys.{newest}
use Rattle.cf_stream.specs.Stream.{Shown, stays, is_over, after_publish, pushed, repeated_by, resized, trimmed, used_at}
use Rattle.cf_stream.specs.Stream.{unused_seconds}
use Rattle.cf_stream.specs.Streams.{StreamMap, SetsAt, by_channel, due_at, due_channels, due_of, due_to, resized_in}
use Rattle.cf_stream.specs.Streams.{seconds_at, seconds_of, stood_or}
use Rattle.cf_model.specs.Streams.{in_namespace}
use Rattle.cf_stream.specs.Quiet.{AreQuiet, IsQuiet}
use Rattle.cf_stream.proofs.Channels.{by_bytes, get-by_channel}
use Rattle.cf_stream.proofs.LogTicks.{due_exact}
use Rattle.cf_stream.proofs.Walks.{entries-by_channel, none_of}

-- nothing is over before its time
pub not_over : (moment seconds until now : ℕ) → until ≤ moment + seconds → now < until
    → is_over moment seconds now ≡ false
not_over moment seconds until now low early = lt-leb (moment + seconds) now (omega arith)

-- what is due of a stream, where it stays, and where it holds something for too long
abbrev due_by : Bool → Bool → Bool → Option Due
due_by stays over holds = cond stays (cond (over && holds) (Some ToEmpty) None) (Some ToForget)

stays_quiet : (b over holds : Bool) → due_by b over holds ≡ None → due_by true over holds ≡ None
stays_quiet true over holds h = h
stays_quiet false over holds h = absurd (cc)

holds_nothing : (over : Bool) → due_by true over false ≡ None
holds_nothing true = refl
holds_nothing false = refl

-- a use leaves a stream as quiet as it was
pub used_quiet : (o : Option Shown) (e : List ℕ) (size now seconds t : ℕ) → is_over now unused_seconds t ≡ false
    → due_at t seconds o ≡ None → due_of t seconds (used_at (stood_or o e size) now) ≡ None
used_quiet None e size now seconds t early h =
    ap (λ b. due_by (not b) (is_over 0 seconds t) false) early ∙ holds_nothing (is_over 0 seconds t)
used_quiet (Some s) e size now seconds t early h =
    ap (λ b. due_by (not b) (is_over s.published seconds t) (not (length s.held == 0))) early
    ∙ stays_quiet (stays t s) (is_over s.published seconds t) (not (length s.held == 0)) h

-- and so does a publication, until its time is over
pub pushed_quiet : (s : Shown) (key : List ℕ) (d : Datum) (now seconds t : ℕ) → is_over now unused_seconds t ≡ false
    → is_over now seconds t ≡ false → due_of t seconds (pushed s key d now) ≡ None
pushed_quiet s key d now seconds t unused early =
    ap (λ b. due_by (not b) (is_over now seconds t) (not (length (pushed s key d now).held == 0))) unused
    ∙ ap (λ b. due_by true b (not (length (pushed s key d now).held == 0))) early

given_by : (repeats : Bool) (o : Option Shown) (e : List ℕ) (size : ℕ) (key : List ℕ) (d : Datum) (now seconds t : ℕ)
    → is_over now unused_seconds t ≡ false → is_over now seconds t ≡ false
    → due_at t seconds o ≡ None → due_of t seconds
    (cond repeats (used_at (stood_or o e size) now) (pushed (stood_or o e size) key d now)) ≡ None
given_by true o e size key d now seconds t unused early h = used_quiet o e size now seconds t unused h
given_by false o e size key d now seconds t unused early h =
    pushed_quiet (stood_or o e size) key d now seconds t unused early

-- a publish, which is a use alone where it repeats one
pub given_quiet : (o : Option Shown) (e : List ℕ) (size : ℕ) (key : List ℕ) (d : Datum) (now seconds t : ℕ)
    → is_over now unused_seconds t ≡ false → is_over now seconds t ≡ false
    → due_at t seconds o ≡ None → due_of t seconds (after_publish (stood_or o e size) key d now) ≡ None
given_quiet o e size key d now seconds t =
    given_by (is_some (repeated_by (stood_or o e size) key)) o e size key d now seconds t

trim_cases : (stays over z : Bool) (held : List Datum) (k : ℕ) → (length held == 0) ≡ z
    → due_by stays over (not z) ≡ None → due_by stays over (not (length (newest k held) == 0)) ≡ None
trim_cases false over z held k e h = h
trim_cases true false z held k e h = refl
trim_cases true true true held k e h =
    ap (λ ds. due_by true true (not (length (newest k ds) == 0))) (none_of held (eqb-true (length held) 0 e))
    ∙ ap (λ ds. due_by true true (not (length ds == 0))) (drop-nil {A = Datum} (0 - k))
trim_cases true true false held k e h = absurd (cc)

-- nor does a cut make something due
pub trimmed_quiet : (o : Option Shown) (k seconds t : ℕ) → due_at t seconds o ≡ None
    → due_at t seconds (option_map (trimmed k) o) ≡ None
trimmed_quiet None k seconds t h = refl
trimmed_quiet (Some s) k seconds t h =
    trim_cases (stays t s) (is_over s.published seconds t) (length s.held == 0) s.held k refl h

sized_quiet : (b : Bool) (n seconds t : ℕ) (o : Option Shown) → due_at t seconds o ≡ None
    → due_at t seconds (cond b (option_map (resized n) o) o) ≡ None
sized_quiet false n seconds t o h = h
sized_quiet true n seconds t None h = refl
sized_quiet true n seconds t (Some s) h =
    trim_cases (stays t s) (is_over s.published seconds t) (length s.held == 0) s.held n refl h

sized_seconds : (b : Bool) (n : ℕ) (o : Option Settings)
    → seconds_of (option_map (λ (s : Settings). cond b (record s { size = n }) s) o) ≡ seconds_of o
sized_seconds b n None = refl
sized_seconds true n (Some s) = refl
sized_seconds false n (Some s) = refl

-- streams of another size in one namespace
pub quiet_sized : (until : ℕ) (name : List ℕ) (n : ℕ) (table : NamespaceTable) (m m' : BTreeMap (String Global) Shown)
    → AreQuiet until table (get_by_text m)
    → ((q : List ℕ) → get_by_text m' q ≡ resized_in name n q (get_by_text m q))
    → AreQuiet until (with_size name n table) (get_by_text m')
quiet_sized until name n table m m' quiet is = λ t early q.
    let key : List ℕ = namespace_of q in
    ap (due_at t (seconds_at (with_size name n table) q)) (is q)
    ∙ ap (λ o. due_at t (seconds_of o) (resized_in name n q (get_by_text m q))) (entry_at-with_size name n table key)
    ∙ ap (λ k. due_at t k (resized_in name n q (get_by_text m q)))
    (sized_seconds (bytes_eq key name) n (entry_at table key))
    ∙ sized_quiet (in_namespace name q) n (seconds_at table q) t (get_by_text m q) (quiet t early q)

-- streams of which one is another now
pub quiet_set : (until sooner : ℕ) (table : NamespaceTable) (m n : BTreeMap (String Global) Shown) (c : List ℕ)
    (w : Option Shown) → sooner ≤ until → AreQuiet until table (get_by_text m)
    → ((t : ℕ) → t < sooner → due_at t (seconds_at table c) (get_by_text m c) ≡ None
    → due_at t (seconds_at table c) w ≡ None)
    → SetsAt m n c w → AreQuiet sooner table (get_by_text n)
quiet_set until sooner table m n c w low quiet here sets = λ t early q.
    let before : (k : List ℕ) → due_at t (seconds_at table k) (get_by_text m k) ≡ None = λ k. quiet t (omega arith) k in
    let cases : (b : Bool) → bytes_eq c q ≡ b → due_at t (seconds_at table q) (cond b w (get_by_text m q)) ≡ None =
    λ b. elim b as (λ b. bytes_eq c q ≡ b → due_at t (seconds_at table q) (cond b w (get_by_text m q)) ≡ None) [
      | true ↦ λ h. subst (λ k. due_at t (seconds_at table k) w ≡ None) ((bytes_eq-Decides c q).0 h)
          (here t early (before c))
      | false ↦ λ h. before q
    ] in
    ap (due_at t (seconds_at table q)) (sets q) ∙ cases (bytes_eq c q) refl

-- streams that are as they were
pub quiet_same : (until sooner : ℕ) (table : NamespaceTable) (m n : BTreeMap (String Global) Shown) → sooner ≤ until
    → AreQuiet until table (get_by_text m)
    → ((q : List ℕ) → get_by_text n q ≡ get_by_text m q) → AreQuiet sooner table (get_by_text n)
quiet_same until sooner table m n low quiet same =
    λ t early q. ap (due_at t (seconds_at table q)) (same q) ∙ quiet t (omega arith) q

-- streams of which a call changes one, or none where it is refused
pub quiet_by : {X Y : Type 0} (r : Result X Y) (until sooner : ℕ) (table : NamespaceTable)
    (m n : BTreeMap (String Global) Shown) (c : List ℕ) (w : X → Shown) → sooner ≤ until
    → AreQuiet until table (get_by_text m) → IfOk r (λ x. SetsAt m n c (Some (w x)))
    → OnErr r ((q : List ℕ) → get_by_text n q ≡ get_by_text m q)
    → ((x : X) (t : ℕ) → t < sooner → due_at t (seconds_at table c) (get_by_text m c) ≡ None
    → due_of t (seconds_at table c) (w x) ≡ None)
    → AreQuiet sooner table (get_by_text n)
quiet_by (Ok x) until sooner table m n c w low quiet ok err here =
    quiet_set until sooner table m n c (Some (w x)) low quiet (here x) ok
quiet_by (Err e) until sooner table m n c w low quiet ok err here = quiet_same until sooner table m n low quiet err

-- ---- a walk over the streams

-- nothing is due of the first of a walk, so what is due is due of the rest
pub rest_due : (until : ℕ) (table : NamespaceTable) (e : String Global × Shown) (es : List (String Global × Shown))
    (t : ℕ) → IsQuiet until (seconds_at table (string_bytes e.0)) e.1 → t < until
    → due_channels t table (by_bytes (e ∷ es)) ≡ due_channels t table (by_bytes es)
rest_due until table e es t quiet early =
    ap (λ d. cons_option (option_map (λ (x : Due). (string_bytes e.0, x)) d) (due_channels t table (by_bytes es)))
    (quiet t early)

-- nothing is due of a map's entries, and so nothing of its streams
pub entries_quiet : (until : ℕ) (table : NamespaceTable) (m : BTreeMap (String Global) Shown) → IsOrdered string_cmp m
    → ((t : ℕ) → t < until → due_channels t table (by_bytes m.entries) ≡ []) → AreQuiet until table (get_by_text m)
entries_quiet until table m ordered none = λ t early q.
    let kept : StreamMap = record { namespaces = table; streams = by_channel m } in
    ap (due_at t (seconds_at table q)) (sym (get-by_channel m q))
    ∙ sym (due_exact kept t q)
    ∙ ap (λ es. due_to (due_channels t table es) q) (entries-by_channel m ordered)
    ∙ ap (λ ds. due_to ds q) (none t early)

-- nothing is due to any channel where a list of what is due has nothing
none_due : (ds : List (List ℕ × Due)) → ((q : List ℕ) → due_to ds q ≡ None) → ds ≡ []
none_due [] h = refl
none_due (d ∷ ds) h = absurd (
    let found : due_to (d ∷ ds) d.0 ≡ Some d.1 =
    ap (λ b. cond b (Some d.1) (due_to ds d.0)) ((eq_by_cmp_equiv nat_list_cmp_total).refl d.0) in
    let none = h d.0 in
    cc)

pub quiet_entries : (until : ℕ) (table : NamespaceTable) (m : BTreeMap (String Global) Shown) → IsOrdered string_cmp m
    → AreQuiet until table (get_by_text m)
    → (t : ℕ) → t < until → due_channels t table (by_bytes m.entries) ≡ []
quiet_entries until table m ordered quiet t early =
    let kept : StreamMap = record { namespaces = table; streams = by_channel m } in
    none_due (due_channels t table (by_bytes m.entries)) (λ q.
    ap (λ es. due_to (due_channels t table es) q) (sym (entries-by_channel m ordered))
    ∙ due_exact kept t q
    ∙ ap (due_at t (seconds_at table q)) (get-by_channel m q)
    ∙ quiet t early q)

-- a walk that gives nothing where nothing is due
pub walk_of : {A : Type 0} (b : Bool) (ds : List A) → (b ≡ true → ds ≡ []) → (if b then [] else ds) ≡ ds
walk_of true ds h = sym (h refl)
walk_of false ds h = refl
