-- One channel's mode changes, or all of them.
use Rattle.std.proofs.Common.{◌≡◌, ◌∙◌, ◌≢◌, ℕ, suc, Bool, true, false, cond, if◌then◌else◌, not, ◌==◌, Option, Some}
use Rattle.std.proofs.Common.{None, List, [], ◌∷◌, ◌++◌, refl, sym, ap, subst, inl, inr, map, filter, IsSome, ◌⊎◌}
use Rattle.std.specs.BTreeMap.{get_by_text, is_at}
use Rattle.std.specs.Cmp.Lexicographic.{slice_cmp}
use Rattle.std.specs.Ordering.{nat_cmp}
use Rattle.std.specs.String.{string_bytes}
use Rattle.std.specs.Option.{option_map}
use Rattle.std.specs.Map.{update, lookup}
use Rattle.std.specs.Map.Calls.{RetainsPairs}
use Rattle.std.specs.Str.{bytes_eq}
use Rattle.std.specs.declared.string.String.{String}
use Rattle.std.specs.declared.alloc.Global.{Global}
use Rattle.std.proofs.lemmas.List.{reverse-append, append-nil}
use Rattle.std.proofs.lemmas.Map.Text.{is_eq-slice_cmp}
use Rattle.std.proofs.lemmas.Slice.Eq.{bytes_eq-Decides}
use Rattle.cf_protocol.specs.Names.{with}
use Rattle.cf_protocol.specs.Position.{Position}
use Rattle.cf_model.specs.Clients.{Mode, Asking, idle, last_of, without}
use Rattle.cf_client.specs.ClientCalls.{Call, State, asked, answered}
use Rattle.cf_client.specs.ClientView.{mode_in, ids_of}
use Rattle.cf_client.specs.Shown.{Channels, modes_of, mode_or_idle, shown_mode, SetsMode, calls_of, shown_call}
use Rattle.cf_client.specs.declared.calls.Call.{Call as CodeCall}
use Rattle.cf_client.specs.declared.channels.Mode.{Mode as CodeMode}
use Rattle.cf_client.specs.declared.channels.Mode.TheVariants as code

-- ---- names

-- which way a test of two names went
pub text_tells : (a b : List ℕ) → ((bytes_eq a b ≡ true) × (a ≡ b)) ⊎ ((bytes_eq a b ≡ false) × (a ≢ b))
text_tells a b = by_value (bytes_eq a b) (bytes_eq-Decides a b)
  where
    by_value : (v : Bool) → (v ≡ true → a ≡ b) × (a ≡ b → v ≡ true) → ((v ≡ true) × (a ≡ b)) ⊎ ((v ≡ false) × (a ≢ b))
    by_value true h = inl (refl, h.0 refl)
    by_value false h = inr (refl, λ e. let f = h.1 e in absurd (cc))

not_this : (d c : List ℕ) → d ≢ c → bytes_eq d c ≡ false
not_this d c h =
    elim (text_tells d c) [
      | inl e ↦ absurd (h e.1)
      | inr e ↦ e.0
    ]

-- the order of the two names doesn't matter
pub either_way : (a b : List ℕ) → bytes_eq a b ≡ bytes_eq b a
either_way a b =
    elim (text_tells a b) [
      | inl h ↦ h.0 ∙ sym (subst (λ (x : List ℕ). bytes_eq b x ≡ true) (sym h.1)
          (subst (λ (x : List ℕ). bytes_eq x b ≡ true) h.1 h.0))
      | inr h ↦ h.0 ∙ sym (not_this b a (λ e. h.1 (sym e)))
    ]

-- ---- one channel

pub mode_or_idle-if : (b : Bool) (x y : Option CodeMode)
    → mode_or_idle (if b then x else y) ≡ (if b then mode_or_idle x else mode_or_idle y)
mode_or_idle-if true x y = refl
mode_or_idle-if false x y = refl

abbrev named_of : List (String Global × CodeMode) → List (List ℕ × Mode)
named_of es = map (λ (e : String Global × CodeMode). (string_bytes e.0, shown_mode e.1)) es

mode_in-entries : (es : List (String Global × CodeMode)) (c : List ℕ)
    → mode_in (named_of es) c ≡ mode_or_idle (lookup (is_at (λ k. slice_cmp nat_cmp c (string_bytes k))) es)
mode_in-entries [] c = refl
mode_in-entries (e ∷ es) c =
    let rest : Option CodeMode = lookup (is_at (λ k. slice_cmp nat_cmp c (string_bytes k))) es in
    ap (λ (m : Mode). if bytes_eq c (string_bytes e.0) then shown_mode e.1 else m) (mode_in-entries es c)
    ∙ sym (mode_or_idle-if (bytes_eq c (string_bytes e.0)) (Some e.1) rest)
    ∙ ap (λ (b : Bool). mode_or_idle (if b then Some e.1 else rest)) (sym (is_eq-slice_cmp c (string_bytes e.0)))

-- what a look-up finds
pub modes-get : (m : Channels) (c : List ℕ) → modes_of m c ≡ mode_or_idle (get_by_text m c)
modes-get m c = mode_in-entries m.entries c

pub sets_mode : (old new : Channels) (c : List ℕ) (v : CodeMode)
    → ((d : List ℕ) → get_by_text new d ≡ update bytes_eq (get_by_text old) c (Some v) d)
    → SetsMode old new c (shown_mode v)
sets_mode old new c v e = λ d.
    modes-get new d ∙ ap mode_or_idle (e d) ∙ mode_or_idle-if (bytes_eq c d) (Some v) (get_by_text old d)
    ∙ ap (λ (b : Bool). if b then shown_mode v else mode_or_idle (get_by_text old d)) (either_way c d)
    ∙ ap (λ m. if bytes_eq d c then shown_mode v else m) (sym (modes-get old d))

-- ---- all channels

-- a closure that writes g of each value and answers true, and stays as it was
pub map_all : {F K X : Type 0} (T : F → K → X → Bool → X → F → Type 0) (g : X → X) (f : F)
    → ((k : K) (v : X) (b : Bool) (w : X) (f' : F) → T f k v b w f' → (b ≡ true) × (w ≡ g v) × (f' ≡ f))
    → (es kept : List (K × X)) → RetainsPairs T f es kept → kept ≡ map (λ e. (e.0, g e.1)) es
map_all T g f each [] kept h = h
map_all {K = K} {X = X} T g f each (e ∷ es) kept h =
    let one = each e.0 e.1 h.0 h.1 h.2 h.4 in
    let rest = map_all T g f each es h.3 (subst (λ x. RetainsPairs T x es h.3) one.2 h.5) in
    h.6 ∙ (λ i. cond {A = List (K × X)} (one.0 i) ((e.0, one.1 i) ∷ rest i) (rest i))

abbrev pub code_idle : CodeMode → CodeMode
code_idle m = code.Idle (last_of (shown_mode m))

idle-if : (b : Bool) (x y : Mode) → (if b then idle x else idle y) ≡ idle (if b then x else y)
idle-if true x y = refl
idle-if false x y = refl

idle_in : (es : List (String Global × CodeMode)) (c : List ℕ)
    → mode_in (named_of (map (λ (e : String Global × CodeMode). (e.0, code_idle e.1)) es)) c
    ≡ idle (mode_in (named_of es) c)
idle_in [] c = refl
idle_in (e ∷ es) c =
    ap (λ (m : Mode). if bytes_eq c (string_bytes e.0) then idle (shown_mode e.1) else m) (idle_in es c)
    ∙ idle-if (bytes_eq c (string_bytes e.0)) (shown_mode e.1) (mode_in (named_of es) c)

pub all_idle : (old new : Channels) → new.entries ≡ map (λ e. (e.0, code_idle e.1)) old.entries → (c : List ℕ)
    → modes_of new c ≡ idle (modes_of old c)
all_idle old new is c =
    ap (λ (es : List (String Global × CodeMode)). mode_in (named_of es) c) is ∙ idle_in old.entries c

-- ---- a channel's mode is set where it is there

set_present : (b : Bool) (m : CodeMode) (o : Option CodeMode) → (b ≡ true → IsSome o)
    → (if b then Some m else o) ≡ option_map (λ v. if b then m else v) o
set_present true m None there = let h : false ≡ true = there refl in absurd (cc)
set_present true m (Some v) there = refl
set_present false m None there = refl
set_present false m (Some v) there = refl

pub set_each : (old new : Channels) (c : List ℕ) (m : CodeMode) → IsSome (get_by_text old c)
    → ((d : List ℕ) → get_by_text new d ≡ update bytes_eq (get_by_text old) c (Some m) d)
    → (d : List ℕ) → get_by_text new d ≡ option_map (λ v. if bytes_eq c d then m else v) (get_by_text old d)
set_each old new c m there sets d =
    sets d ∙ set_present (bytes_eq c d) m (get_by_text old d)
    (λ e. subst (λ x. IsSome (get_by_text old x)) ((bytes_eq-Decides c d).0 e) there)

set_absent : (b : Bool) (m : CodeMode) (o : Option CodeMode) → (b ≡ true → o ≡ None)
    → o ≡ option_map (λ v. if b then m else v) o
set_absent true m o none = none refl ∙ ap (option_map (λ v. m)) (sym (none refl))
set_absent false m None none = refl
set_absent false m (Some v) none = refl

pub set_nowhere : (old : Channels) (c : List ℕ) (m : CodeMode) → get_by_text old c ≡ None
    → (d : List ℕ) → get_by_text old d ≡ option_map (λ v. if bytes_eq c d then m else v) (get_by_text old d)
set_nowhere old c m none d =
    set_absent (bytes_eq c d) m (get_by_text old d)
    (λ e. subst (λ x. get_by_text old x ≡ None) ((bytes_eq-Decides c d).0 e) none)

-- ---- calls

pub calls-filter : (id : ℕ) (ks : List CodeCall)
    → calls_of (filter (λ k. not (k.id == id)) ks) ≡ filter (λ (k : Call). not (k.id == id)) (calls_of ks)
calls-filter id [] = refl
calls-filter id (k ∷ ks) =
    elim (not (k.id == id)) as (λ b. calls_of (cond b (k ∷ filter (λ (x : CodeCall). not (x.id == id)) ks)
    (filter (λ (x : CodeCall). not (x.id == id)) ks))
    ≡ cond b (shown_call k ∷ filter (λ (x : Call). not (x.id == id)) (calls_of ks))
    (filter (λ (x : Call). not (x.id == id)) (calls_of ks))) [
      | true ↦ ap (λ (xs : List Call). shown_call k ∷ xs) (calls-filter id ks)
      | false ↦ calls-filter id ks
    ]

-- ---- states

pub asked_here : (s : State) (id : ℕ) (new : List ℕ → Mode) (c : List ℕ) (from : Option Position) → id ≡ s.client.fresh
    → ((d : List ℕ) → new d ≡ with s.client.modes c (Asking id from (last_of (s.client.modes c))) d)
    → record s { client = record s.client { fresh = suc id; modes = new } } ≡ asked c from s
asked_here s id new c from e h =
    (λ i. record s { client = record s.client { fresh = suc id; modes = λ d. h d i } })
    ∙ ap (λ (k : ℕ). record s {
      client = record s.client
          { fresh = suc k; modes = with s.client.modes c (Asking k from (last_of (s.client.modes c))) };
    }) e

-- ---- calls that are answered

without-append : (id : ℕ) (xs ys : List ℕ) → without id (xs ++ ys) ≡ without id xs ++ without id ys
without-append id [] ys = refl
without-append id (x ∷ xs) ys =
    elim (x == id) as (λ b. (if b then without id (xs ++ ys) else x ∷ without id (xs ++ ys))
    ≡ (if b then without id xs else x ∷ without id xs) ++ without id ys) [
      | true ↦ without-append id xs ys
      | false ↦ ap (λ (zs : List ℕ). x ∷ zs) (without-append id xs ys)
    ]

pub ids_of-cons : (k : Call) (ks : List Call) → ids_of (k ∷ ks) ≡ ids_of ks ++ k.id ∷ []
ids_of-cons k ks = reverse-append (k.id ∷ []) (map (λ (x : Call). x.id) ks)

pub ids_of-filter : (id : ℕ) (ks : List Call) → ids_of (filter (λ k. not (k.id == id)) ks) ≡ without id (ids_of ks)
ids_of-filter id [] = refl
ids_of-filter id (k ∷ ks) =
    let kept : List Call = filter (λ (x : Call). not (x.id == id)) ks in
    let rest : ids_of kept ≡ without id (ids_of ks) = ids_of-filter id ks in
    let step : (b : Bool) → ids_of (cond (not b) (k ∷ kept) kept) ≡ without id (ids_of ks)
    ++ (if b then [] else k.id ∷ []) =
    λ b. elim b as (λ b. ids_of (cond (not b) (k ∷ kept) kept) ≡ without id (ids_of ks)
    ++ (if b then [] else k.id ∷ [])) [
      | true ↦ rest ∙ sym (append-nil (without id (ids_of ks)))
      | false ↦ ids_of-cons k kept ∙ ap (λ (xs : List ℕ). xs ++ k.id ∷ []) rest
    ] in
    step (k.id == id) ∙ sym (ap (without id) (ids_of-cons k ks) ∙ without-append id (ids_of ks) (k.id ∷ []))

pub answered_here : (s : State) (id : ℕ) (ks : List Call) → s.client.calls ≡ ids_of s.out
    → ks ≡ filter (λ k. not (k.id == id)) s.out
    → record s { client = record s.client { calls = ids_of ks }; out = ks } ≡ answered id s
answered_here s id ks are e =
    ap (λ (xs : List Call). record s { client = record s.client { calls = ids_of xs }; out = xs }) e
    ∙ ap (λ (is : List ℕ). record s {
      client = record s.client { calls = is };
      out = filter (λ (k : Call). not (k.id == id)) s.out;
    })
    (ids_of-filter id s.out ∙ ap (without id) (sym are))
