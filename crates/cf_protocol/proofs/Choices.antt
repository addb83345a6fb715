-- One of several keys, found by going over them.
use Rattle.std.proofs.Common.{◌≡◌, ℕ, suc, ◌+◌, ◌<◌, ◌≤◌, true, false, List, [], ◌∷◌, ◌++◌, map, drop, get_or, length}
use Rattle.std.proofs.Common.{Option, Some, None, option_map, refl, ap, sym, ◌∙◌, add-one}
use Rattle.std.specs.Prelude.{Err, option_to_list, is_some}
use Rattle.std.specs.Option.{ok_or}
use Rattle.std.specs.Borrow.{Bor}
use Rattle.std.specs.Option.{IsSomeAnd}
use Rattle.std.proofs.Math.Seq.{drop-cons}
use Rattle.std.proofs.lemmas.List.{drop_all}
use Rattle.cf_json.specs.Grammar.{Tree}
use Rattle.cf_json.specs.Spans.{Span, IsAt}
use Rattle.cf_protocol.specs.Fields.{Fields, ◌>>=◌, the_only}
use Rattle.cf_protocol.specs.Reading.{present_at, each_under, with_value, the_key, Chooses, Answers}
use Rattle.cf_protocol.specs.declared.fault.ReadFault.{ReadFault}
use Rattle.cf_protocol.specs.declared.fault.ReadFault.TheVariants.{Bad, Memory}
use Rattle.cf_protocol.proofs.Standing.{some_and}

-- what was found so far, of all that is to be found, where the rest is still to come
abbrev pub HasFound : {K A : Type 0} → List ℕ → (K → Tree → Option A) → Option (K × Span) → List (Option A)
    → List (Option A) → Type 0
HasFound text read None all rest = all ≡ rest
HasFound text read (Some r) all rest = (t : Tree) × IsAt text t r.1 × (all ≡ read r.0 t ∷ rest)

-- an entry at hand: a key, and what stands for it
pub record AtHand {K : Type 0} (ks : List (Bor (List ℕ) × K)) (i : ℕ) (k : Bor (List ℕ) × K) : Type 0 where
  pub other : Bor (List ℕ) × K
  pub within : i < length ks
  pub is : k ≡ get_or ks i other

-- the keys that are left, by the one at hand
left : {K A : Type 0} (read : K → Tree → Option A) (ks : List (Bor (List ℕ) × K)) (i : ℕ) (k : Bor (List ℕ) × K)
    (fs : Fields) (o : Option Tree) → AtHand ks i k → present_at k.0.now fs ≡ o
    → each_under read (drop i ks) fs ≡ option_to_list (option_map (read k.1) o) ++ each_under read (drop (i + 1) ks) fs
left {K} {A} read ks i k fs o at e =
    let next : drop (suc i) ks ≡ drop (i + 1) ks = ap (λ n. drop n ks) (sym (add-one i)) in
    let same : drop i ks ≡ k ∷ drop (i + 1) ks =
    drop-cons ks i at.other at.within ∙ ap (λ x. x ∷ drop (suc i) ks) (sym at.is) ∙ ap (λ l. k ∷ l) next in
    ap (λ l. each_under read l fs) same ∙ ap (λ p. option_to_list (option_map (read k.1) p)
    ++ each_under read (drop (i + 1) ks) fs) e

moves : {K A : Type 0} (text : List ℕ) (read : K → Tree → Option A) (only : Option (K × Span))
    (all rest rest' : List (Option A)) → rest ≡ rest' → HasFound text read only all rest
    → HasFound text read only all rest'
moves text read None all rest rest' e h = h ∙ e
moves text read (Some r) all rest rest' e h = (h.0, h.1, h.2 ∙ ap (λ l. read r.0 h.0 ∷ l) e)

-- the key at hand has no value
pub goes_past : {K A : Type 0} (text : List ℕ) (read : K → Tree → Option A) (only : Option (K × Span))
    (all : List (Option A)) (ks : List (Bor (List ℕ) × K)) (i : ℕ) (k : Bor (List ℕ) × K) (fs : Fields)
    → AtHand ks i k → present_at k.0.now fs ≡ None → HasFound text read only all (each_under read (drop i ks) fs)
    → HasFound text read only all (each_under read (drop (i + 1) ks) fs)
goes_past text read only all ks i k fs at e h = moves text read only all _ _ (left read ks i k fs None at e) h

-- it has one, the first
pub finds_first : {K A : Type 0} (text : List ℕ) (read : K → Tree → Option A) (only : Option (K × Span))
    (all : List (Option A)) (ks : List (Bor (List ℕ) × K)) (i : ℕ) (k : Bor (List ℕ) × K) (fs : Fields) (s : Span)
    → AtHand ks i k → IsSomeAnd (present_at k.0.now fs) (λ t. IsAt text t s) → is_some only ≡ false
    → HasFound text read only all (each_under read (drop i ks) fs)
    → HasFound text read (Some (k.1, s)) all (each_under read (drop (i + 1) ks) fs)
finds_first text read (Some r) all ks i k fs s at e none h = cc
finds_first text read None all ks i k fs s at e none h =
    let found = some_and (present_at k.0.now fs) (λ t. IsAt text t s) e in
    (found.0, found.2, h ∙ left read ks i k fs (Some found.0) at found.1)

-- it has one, and an earlier one had
pub finds_second : {K A : Type 0} (text : List ℕ) (read : K → Tree → Option A) (only : Option (K × Span))
    (all : List (Option A)) (ks : List (Bor (List ℕ) × K)) (i : ℕ) (k : Bor (List ℕ) × K) (fs : Fields) (s : Span)
    → AtHand ks i k → IsSomeAnd (present_at k.0.now fs) (λ t. IsAt text t s) → is_some only ≡ true
    → HasFound text read only all (each_under read (drop i ks) fs)
    → the_only all ≡ None
finds_second text read None all ks i k fs s at e some h = cc
finds_second text read (Some r) all ks i k fs s at e some h =
    let found = some_and (present_at k.0.now fs) (λ t. IsAt text t s) e in
    ap the_only (h.2 ∙ ap (λ l. read r.0 h.0 ∷ l) (left read ks i k fs (Some found.0) at found.1))

-- all keys were gone over
pub chosen : {K : Type 0} (text : List ℕ) (only : Option (K × Span)) (ks : List (Bor (List ℕ) × K)) (i : ℕ)
    (fs : Fields) → length ks ≤ i
    → HasFound text with_value only (each_under with_value ks fs) (each_under with_value (drop i ks) fs)
    → Chooses text (ok_or only Bad) (the_key ks fs)
unfolding the_key
chosen text None ks i fs l h = ap the_only (h ∙ ap (λ ks. each_under with_value ks fs) (drop_all i ks l))
chosen text (Some r) ks i fs l h =
    (h.0, h.1, ap the_only (h.2 ∙ ap (λ ks. Some (r.0, h.0) ∷ each_under with_value ks fs) (drop_all i ks l)))

-- ---- what a value is read as, by the key that was found

abbrev read_by : {K A : Type 0} → (K → Tree → Option A) → K × Tree → Option A
read_by read p = read p.0 p.1

bound : {K A : Type 0} (read : K → Tree → Option A) (k : K) (o : Option Tree) (xs : List (Option A))
    (ys : List (Option (K × Tree))) → xs ≡ map (λ o. o >>= read_by read) ys
    → option_to_list (option_map (read k) o) ++ xs
    ≡ map (λ o. o >>= read_by read) (option_to_list (option_map (λ t. Some (k, t)) o) ++ ys)
bound read k None xs ys h = h
bound read k (Some t) xs ys h = ap (λ l. read k t ∷ l) h

each_by : {K A : Type 0} (read : K → Tree → Option A) (ks : List (Bor (List ℕ) × K)) (fs : Fields)
    → each_under read ks fs ≡ map (λ o. o >>= read_by read) (each_under with_value ks fs)
each_by read [] fs = refl
each_by read (k ∷ ks) fs =
    bound read k.1 (present_at k.0.now fs) (each_under read ks fs) (each_under with_value ks fs) (each_by read ks fs)

only_by : {A B : Type 0} (f : A → Option B) (l : List (Option A)) → the_only (map (λ o. o >>= f) l) ≡ (the_only l >>= f)
only_by f [] = refl
only_by f (x ∷ []) = refl
only_by f (x ∷ y ∷ l) = refl

-- what is read under the keys is what the value of that one key is read as
pub by_key : {K A : Type 0} (read : K → Tree → Option A) (ks : List (Bor (List ℕ) × K)) (fs : Fields)
    (o : Option (K × Tree)) → the_key ks fs ≡ o → the_only (each_under read ks fs) ≡ (o >>= λ p. read p.0 p.1)
unfolding the_key
by_key read ks fs o is =
    ap the_only (each_by read ks fs) ∙ only_by (read_by read) (each_under with_value ks fs)
    ∙ ap (λ o. o >>= read_by read) is

-- and where there is no such key, nothing is read
pub by_fault : {K A B : Type 0} (show : B → A) (read : K → Tree → Option A) (text : List ℕ)
    (ks : List (Bor (List ℕ) × K)) (fs : Fields) (fault : ReadFault) → Chooses text (Err fault) (the_key ks fs)
    → Answers show (Err fault) (the_only (each_under read ks fs))
by_fault show read text ks fs Bad h = by_key read ks fs None h
by_fault show read text ks fs Memory h = tt
