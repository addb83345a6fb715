-- Lemmas on streams by channel.
use Rattle.std.proofs.Common.{◌≡◌, ℕ, List, [], ◌∷◌, cond, Some, None, Option, refl, sym, ap, ◌∙◌, map, BTreeMap}
use Rattle.std.proofs.Common.{String, Global, string_bytes}
use Rattle.std.specs.Ordering.{nat_cmp, is_eq, eq_by_cmp}
use Rattle.std.specs.Cmp.Lexicographic.{slice_cmp, nat_list_cmp_total}
use Rattle.std.specs.Map.{lookup}
use Rattle.std.specs.Str.{bytes_eq}
use Rattle.std.specs.BTreeMap.{get_by_text, is_at}
use Rattle.std.specs.Cmp.{eq_by_cmp_equiv}
use Rattle.std.specs.FinMap as fin
use Rattle.std.proofs.lemmas.Map.Text.{is_eq-slice_cmp}
use Rattle.cf_protocol.specs.Settings.{NamespaceTable}
use Rattle.cf_stream.specs.Stream.{Shown}
use Rattle.cf_stream.specs.Streams.{StreamMap, Channels, by_channel, SetsAt, set_stream, put_at, stream_of}

-- the entries by their bytes
abbrev pub by_bytes : List (String Global × Shown) → List (List ℕ × Shown)
by_bytes es = map (λ (e : String Global × Shown). (string_bytes e.0, e.1)) es

pub find-by_bytes : (q : List ℕ) (es : List (String Global × Shown))
    → fin.find (slice_cmp nat_cmp) q (by_bytes es) ≡ lookup (is_at (λ k. slice_cmp nat_cmp q (string_bytes k))) es
find-by_bytes q [] = refl
find-by_bytes q (e ∷ es) = ap (cond (is_eq (slice_cmp nat_cmp q (string_bytes e.0))) (Some e.1)) (find-by_bytes q es)

-- a channel's stream is what the map has at its bytes
pub get-by_channel : (m : BTreeMap (String Global) Shown) (q : List ℕ) → fin.get (by_channel m) q ≡ get_by_text m q
get-by_channel m q = fin.get-from_entries nat_list_cmp_total (by_bytes m.entries) q ∙ find-by_bytes q m.entries

-- the two tests of bytes agree
pub same_key : (bs q : List ℕ) → bytes_eq bs q ≡ eq_by_cmp (slice_cmp nat_cmp) q bs
same_key bs q = sym (is_eq-slice_cmp bs q) ∙ (eq_by_cmp_equiv nat_list_cmp_total).symm bs q

same_channels : (m n : Channels) → ((q : List ℕ) → fin.get m q ≡ fin.get n q) → m ≡ n
same_channels m n h = fin.same_map nat_list_cmp_total (fin.slice_cmp-IsAntisymmetric fin.nat_cmp-IsAntisymmetric) m n h

-- a map that has s at one channel, and is as before elsewhere
pub sets_channel : (m n : BTreeMap (String Global) Shown) (bs : List ℕ) (s : Shown) → SetsAt m n bs (Some s)
    → by_channel n ≡ fin.insert (by_channel m) bs s
sets_channel m n bs s h = same_channels (by_channel n) (fin.insert (by_channel m) bs s) (λ q.
    get-by_channel n q ∙ h q ∙ ap (λ b. cond b (Some s) (get_by_text m q)) (same_key bs q)
    ∙ ap (cond (eq_by_cmp (slice_cmp nat_cmp) q bs) (Some s)) (sym (get-by_channel m q))
    ∙ sym (fin.get-insert nat_list_cmp_total (by_channel m) bs s q))

-- a map that has no stream at one channel, and is as before elsewhere
pub removes_channel : (m n : BTreeMap (String Global) Shown) (bs : List ℕ) → SetsAt m n bs None
    → by_channel n ≡ fin.remove (by_channel m) bs
removes_channel m n bs h = same_channels (by_channel n) (fin.remove (by_channel m) bs) (λ q.
    get-by_channel n q ∙ h q ∙ ap (λ b. cond b None (get_by_text m q)) (same_key bs q)
    ∙ ap (cond (eq_by_cmp (slice_cmp nat_cmp) q bs) None) (sym (get-by_channel m q))
    ∙ sym (fin.get-remove nat_list_cmp_total (by_channel m) bs q))

-- maps that have the same streams
pub keeps_channels : (m n : BTreeMap (String Global) Shown) → ((q : List ℕ) → get_by_text n q ≡ get_by_text m q)
    → by_channel n ≡ by_channel m
keeps_channels m n h =
    same_channels (by_channel n) (by_channel m) (λ q. get-by_channel n q ∙ h q ∙ sym (get-by_channel m q))

pub sets_any : (m n : BTreeMap (String Global) Shown) (bs : List ℕ) (w : Option Shown) → SetsAt m n bs w
    → by_channel n ≡ set_stream (by_channel m) bs w
sets_any m n bs None h = removes_channel m n bs h
sets_any m n bs (Some s) h = sets_channel m n bs s h

-- what a channel has after a change at one channel
pub stream_of-put_at : (k : StreamMap) (c : List ℕ) (w : Option Shown) (q : List ℕ)
    → stream_of (put_at k c w) q ≡ cond (bytes_eq c q) w (stream_of k q)
stream_of-put_at k c None q =
    fin.get-remove nat_list_cmp_total k.streams c q ∙ ap (λ b. cond b None (fin.get k.streams q)) (sym (same_key c q))
stream_of-put_at k c (Some s) q =
    fin.get-insert nat_list_cmp_total k.streams c s q
    ∙ ap (λ b. cond b (Some s) (fin.get k.streams q)) (sym (same_key c q))

-- a change of the map, in the words of `StreamMap`
pub kept_by : (t : NamespaceTable) (m n : BTreeMap (String Global) Shown) (bs : List ℕ) (w : Option Shown)
    → SetsAt m n bs w
    → ◌≡◌ {A = StreamMap} (record { namespaces = t; streams = by_channel n })
    (record { namespaces = t; streams = set_stream (by_channel m) bs w })
kept_by t m n bs w h =
    ap (λ (x : Channels). let k : StreamMap = record { namespaces = t; streams = x } in k) (sets_any m n bs w h)

pub kept_same : (t : NamespaceTable) (m n : BTreeMap (String Global) Shown)
    → ((q : List ℕ) → get_by_text n q ≡ get_by_text m q)
    → ◌≡◌ {A = StreamMap} (record { namespaces = t; streams = by_channel n })
    (record { namespaces = t; streams = by_channel m })
kept_same t m n h =
    ap (λ (x : Channels). let k : StreamMap = record { namespaces = t; streams = x } in k) (keeps_channels m n h)
