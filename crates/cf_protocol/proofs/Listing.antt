-- Tables that a text spells, entry by entry.
use Rattle.std.proofs.Common.{◌≡◌, ◌≢◌, ℕ, suc, ◌<◌, Bool, true, false, eqb, ne_eqb, Bor, cond, List, [], ◌∷◌, ◌++◌}
use Rattle.std.proofs.Common.{map, length, get_or, take, drop, Some, None, refl, sym, ap, ◌∙◌, subst, arith, inl, inr}
use Rattle.std.specs.List.{All, AllZip, AllPairs, slice_split, join_with_byte}
use Rattle.std.specs.Str.{bytes_eq}
use Rattle.std.specs.Prelude.{Option, Result, Ok, Err, IsErrAnd, MatchResult, is_ok, option_copied, is_some}
use Rattle.std.proofs.Math.Seq.{split_at}
use Rattle.std.proofs.lemmas.Bool.{cases_Bool}
use Rattle.std.proofs.lemmas.Slice.Eq.{bytes_eq-Decides}
use Rattle.std.proofs.lemmas.List.{map-append}
use Rattle.std.proofs.lemmas.List.Elements.{All-nil, All-cons, All-head, All-tail}
use Rattle.std.proofs.lemmas.List.Quantifiers.{all_pairs_push}
use Rattle.std.proofs.lemmas.List.Splits.{slice_split_none, slice_split_at, join_with_byte-slice_split}
use Rattle.std.proofs.lemmas.List.Splits.{length-slice_split}
use Rattle.cf_protocol.specs.Settings.{entry_at}
use Rattle.cf_protocol.specs.SettingsText.{IsTable, IsReadAs}
use Rattle.cf_protocol.specs.SettingsRead.{Lacks, Adds}
use Rattle.cf_protocol.specs.declared.fault.ReadFault.{ReadFault}
use Rattle.cf_protocol.specs.declared.fault.ReadFault.TheVariants.{Bad, Memory}

-- an entry's text is that of one entry alone, and has no semicolon
pub record IsGrammar {V : Type 0} (IsEntry : List ℕ → List ℕ × V → Type 0) : Type 0 where
  pub one : (s : List ℕ) (e f : List ℕ × V) → IsEntry s e → IsEntry s f → e ≡ f
  pub whole : (s : List ℕ) (e : List ℕ × V) → IsEntry s e → Lacks 59 s

-- ---- parts

abbrev pub parts : List ℕ → List (List ℕ)
parts text = slice_split (λ b. eqb b 59) text

unbroken : (s : List ℕ) → Lacks 59 s → All (λ b. eqb b 59 ≡ false) s
unbroken [] h = All-nil (λ b. eqb b 59 ≡ false)
unbroken (x ∷ s) h = All-cons (λ b. eqb b 59 ≡ false) x s (ne_eqb x 59 h.0) (unbroken s h.1)

parts_joined : {V : Type 0} {IsEntry : List ℕ → List ℕ × V → Type 0} (g : IsGrammar IsEntry) (es : List (List ℕ))
    (t : List (List ℕ × V)) → AllZip IsEntry es t → t ≢ [] → parts (join_with_byte 59 es) ≡ es
parts_joined g [] [] h some = absurd (some refl)
parts_joined g [] (e ∷ t) h some = absurd h
parts_joined g (x ∷ es) [] h some = absurd h
parts_joined g (x ∷ []) (e ∷ []) h some = slice_split_none (λ b. eqb b 59) x (unbroken x (g.whole x e h.0))
parts_joined g (x ∷ []) (e ∷ f ∷ t) h some = absurd h.1
parts_joined g (x ∷ y ∷ es) (e ∷ []) h some = absurd h.1
parts_joined g (x ∷ y ∷ es) (e ∷ f ∷ t) h some =
    slice_split_at (λ b. eqb b 59) x 59 (join_with_byte 59 (y ∷ es)) (unbroken x (g.whole x e h.0)) refl
    ∙ ap (λ r. x ∷ r) (parts_joined g (y ∷ es) (f ∷ t) h.1 (λ q. cc))

-- a text that spells a table is cut into the table's entries
pub parts_of_table : {V : Type 0} {IsEntry : List ℕ → List ℕ × V → Type 0} (g : IsGrammar IsEntry) (text : List ℕ)
    (t : List (List ℕ × V)) → IsTable IsEntry text t → t ≢ [] → AllZip IsEntry (parts text) t
parts_of_table {IsEntry} g text t h some =
    subst (λ es. AllZip IsEntry es t) (sym (ap parts h.whole ∙ parts_joined g h.entries t h.each some)) h.each

pub table_of_parts : {V : Type 0} {IsEntry : List ℕ → List ℕ × V → Type 0} (text : List ℕ) (t : List (List ℕ × V))
    → AllZip IsEntry (parts text) t → AllPairs ◌≢◌ (map (λ e. e.0) t) → IsTable IsEntry text t
table_of_parts text t each apart =
    record { entries = parts text; whole = sym (join_with_byte-slice_split 59 text); each = each; apart = apart }

pub some_parts : {V : Type 0} (IsEntry : List ℕ → List ℕ × V → Type 0) (text : List ℕ) (t : List (List ℕ × V))
    → AllZip IsEntry (parts text) t → t ≢ []
some_parts IsEntry text t each none =
    by_parts (parts text) t each none (omega (arith, length-slice_split (λ b. eqb b 59) text))
  where
    by_parts : (es : List (List ℕ)) (u : List (List ℕ × _)) → AllZip IsEntry es u → u ≡ [] → 0 < length es → ⊥
    by_parts [] u h e l = omega arith
    by_parts (x ∷ es) [] h e l = h
    by_parts (x ∷ es) (f ∷ u) h e l = cc

-- ---- entries in a row

one_table : {V : Type 0} {IsEntry : List ℕ → List ℕ × V → Type 0} (g : IsGrammar IsEntry) (es : List (List ℕ))
    (t u : List (List ℕ × V)) → AllZip IsEntry es t → AllZip IsEntry es u → t ≡ u
one_table g [] [] [] h k = refl
one_table g [] [] (f ∷ u) h k = absurd k
one_table g [] (e ∷ t) u h k = absurd h
one_table g (x ∷ es) [] u h k = absurd h
one_table g (x ∷ es) (e ∷ t) [] h k = absurd k
one_table g (x ∷ es) (e ∷ t) (f ∷ u) h k =
    ap (λ y. y ∷ t) (g.one x e f h.0 k.0) ∙ ap (λ y. f ∷ y) (one_table g es t u h.1 k.1)

pub zip_more : {A B : Type 0} (R : A → B → Type 0) (xs : List A) (x : A) (ys : List B) (y : B) → AllZip R xs ys → R x y
    → AllZip R (xs ++ x ∷ []) (ys ++ y ∷ [])
zip_more R [] x [] y h k = (k, tt)
zip_more R [] x (b ∷ ys) y h k = absurd h
zip_more R (a ∷ xs) x [] y h k = absurd h
zip_more R (a ∷ xs) x (b ∷ ys) y h k = (h.0, zip_more R xs x ys y h.1 k)

record Zipped {A B : Type 0} (R : A → B → Type 0) (xs : List A) (x : A) (ys : List B) : Type 0 where
  before : List B
  here : B
  after : List B
  whole : ys ≡ before ++ here ∷ after
  each : AllZip R xs before
  this : R x here

zip_cut : {A B : Type 0} (R : A → B → Type 0) (xs : List A) (x : A) (zs : List A) (ys : List B)
    → AllZip R (xs ++ x ∷ zs) ys → Zipped R xs x ys
zip_cut R [] x zs [] h = absurd h
zip_cut R [] x zs (b ∷ ys) h = record { before = []; here = b; after = ys; whole = refl; each = tt; this = h.0 }
zip_cut R (a ∷ xs) x zs [] h = absurd h
zip_cut R (a ∷ xs) x zs (b ∷ ys) h =
    let z = zip_cut R xs x zs ys h.1 in
    record {
      before = b ∷ z.before;
      here = z.here;
      after = z.after;
      whole = ap (λ l. b ∷ l) z.whole;
      each = (h.0, z.each);
      this = z.this;
    }

-- ---- names that stand once

absent : {V : Type 0} (t : List (List ℕ × V)) (k : List ℕ) → entry_at t k ≡ None → All (λ j. j ≢ k) (map (λ e. e.0) t)
absent [] k h = All-nil (λ j. j ≢ k)
absent (e ∷ t) k h =
    elim (cases_Bool (bytes_eq e.0 k)) [
      | inl equal ↦ let there : cond (bytes_eq e.0 k) (Some e.1) (entry_at t k) ≡ None = h in
          absurd (some_none (bytes_eq e.0 k) e.1 (entry_at t k) equal there)
      | inr misses ↦
          All-cons (λ j. j ≢ k) e.0 (map (λ f. f.0) t)
          (λ same. let found = (bytes_eq-Decides e.0 k).1 same in cc)
          (absent t k (rw misses at h))
    ]
  where
    some_none : {A : Type 0} (b : Bool) (x : A) (o : _) → b ≡ true → cond b (Some x) o ≡ None → ⊥
    some_none true x o y h = cc
    some_none false x o y h = cc

apart_more : {V : Type 0} (t : List (List ℕ × V)) (e : List ℕ × V) → entry_at t e.0 ≡ None
    → AllPairs ◌≢◌ (map (λ f. f.0) t) → AllPairs ◌≢◌ (map (λ f. f.0) (t ++ e ∷ []))
apart_more t e h apart =
    let others = absent t e.0 h in
    subst (AllPairs ◌≢◌) (sym (map-append (λ f. f.0) t (e ∷ [])))
    (all_pairs_push ◌≢◌ (map (λ f. f.0) t) e.0 apart (λ k d l. others k d l))

first_apart : {V : Type 0} (k : List ℕ) (t : List (List ℕ × V)) (e : List ℕ × V) (u : List (List ℕ × V))
    → All (λ j. k ≢ j) (map (λ f. f.0) (t ++ e ∷ u)) → k ≢ e.0
first_apart k [] e u h = All-head (λ j. k ≢ j) e.0 (map (λ f. f.0) u) h
first_apart k (f ∷ t) e u h = first_apart k t e u (All-tail (λ j. k ≢ j) f.0 (map (λ g. g.0) (t ++ e ∷ u)) h)

unnamed : {V : Type 0} (t : List (List ℕ × V)) (e : List ℕ × V) (u : List (List ℕ × V))
    → AllPairs ◌≢◌ (map (λ f. f.0) (t ++ e ∷ u)) → entry_at t e.0 ≡ None
unnamed [] e u h = refl
unnamed (f ∷ t) e u h =
    elim (cases_Bool (bytes_eq f.0 e.0)) [
      | inl equal ↦
          absurd (first_apart f.0 t e u (λ i d l. h 0 (suc i) d (omega arith) (omega arith))
          ((bytes_eq-Decides f.0 e.0).0 equal))
      | inr misses ↦ rw misses (unnamed t e u (λ i j d l m. h (suc i) (suc j) d (omega arith) (omega arith)))
    ]

-- ---- a loop over the parts

-- the entries so far, with one more
pub table_more : {V : Type 0} (IsEntry : List ℕ → List ℕ × V → Type 0) (seen : List (List ℕ)) (x : List ℕ)
    (old new : List (List ℕ × V)) (e : List ℕ × V)
    → AllZip IsEntry seen old → AllPairs ◌≢◌ (map (λ f. f.0) old) → IsEntry x e → entry_at old e.0 ≡ None
    → new ≡ old ++ e ∷ []
    → AllZip IsEntry (seen ++ x ∷ []) new × AllPairs ◌≢◌ (map (λ f. f.0) new)
table_more IsEntry seen x old new e each apart this fresh is = (
  subst (AllZip IsEntry (seen ++ x ∷ [])) (sym is) (zip_more IsEntry seen x old e each this),
  subst (λ t. AllPairs ◌≢◌ (map (λ f. f.0) t)) (sym is) (apart_more old e fresh apart),
)

-- a part whose entries all have a name that stands ends every table
pub table_refused : {V : Type 0} {IsEntry : List ℕ → List ℕ × V → Type 0} (g : IsGrammar IsEntry) (text x : List ℕ)
    (seen rest : List (List ℕ)) (old : List (List ℕ × V))
    → parts text ≡ seen ++ x ∷ rest → AllZip IsEntry seen old
    → ((e : List ℕ × V) → IsEntry x e → entry_at old e.0 ≢ None)
    → (t : List (List ℕ × V)) → IsTable IsEntry text t → t ≢ [] → ⊥
table_refused {IsEntry} g text x seen rest old cut each none t h some =
    let z = zip_cut IsEntry seen x rest t (subst (λ es. AllZip IsEntry es t) cut (parts_of_table g text t h some)) in
    let same = one_table g seen z.before old z.each each in
    none z.here z.this (subst (λ o. entry_at o z.here.0 ≡ None) same
    (unnamed z.before z.here z.after (subst (λ u. AllPairs ◌≢◌ (map (λ f. f.0) u)) z.whole h.apart)))

-- where all parts are read
pub same_table : {V : Type 0} {IsEntry : List ℕ → List ℕ × V → Type 0} (g : IsGrammar IsEntry) (text : List ℕ)
    (t u : List (List ℕ × V)) → AllZip IsEntry (parts text) t → IsTable IsEntry text u → u ≢ [] → t ≡ u
same_table g text t u each h some = one_table g (parts text) t u each (parts_of_table g text u h some)

-- the part at a place
pub part_at : (text x : List ℕ) (seen : List (List ℕ)) (n : ℕ) → seen ≡ take n (parts text) → n < length (parts text)
    → x ≡ get_or (parts text) n x → parts text ≡ seen ++ x ∷ drop (suc n) (parts text)
part_at text x seen n so_far within is =
    split_at (parts text) n x within ∙ ap (λ s. s ++ get_or (parts text) n x ∷ drop (suc n) (parts text)) (sym so_far)
    ∙ ap (λ y. seen ++ y ∷ drop (suc n) (parts text)) (sym is)

-- ---- one entry

pub stands : {V : Type 0} (r : Option (Bor V)) (o : Option V) → option_copied r ≡ o → is_some r ≡ true → o ≡ None → ⊥
stands None o h e f = cc
stands (Some x) o h e f = let k : Some x.now ≡ None = h ∙ f in cc

pub stands_not : {V : Type 0} (r : Option (Bor V)) (o : Option V) → option_copied r ≡ o → is_some r ≡ false → o ≡ None
stands_not None o h e = sym h
stands_not (Some x) o h e = absurd (cc)

-- an entry that wasn't added ends the reading as it should
pub refused_so : {V : Type 0} {IsEntry : List ℕ → List ℕ × V → Type 0} (g : IsGrammar IsEntry) (text x : List ℕ)
    (seen rest : List (List ℕ)) (old new : List (List ℕ × V)) (fault : ReadFault)
    → parts text ≡ seen ++ x ∷ rest → AllZip IsEntry seen old → Adds IsEntry x old (Err fault) new
    → (t : List (List ℕ × V)) → IsTable IsEntry text t → t ≢ [] → IsReadAs t (Err fault)
refused_so g text x seen rest old new Bad cut each none t h some =
    table_refused g text x seen rest old cut each none t h some
refused_so g text x seen rest old new Memory cut each none t h some = tt

-- ---- one entry more

-- an entry was pushed, unless memory was refused
pub pushed : {V F I : Type 0} (IsEntry : List ℕ → List ℕ × V → Type 0) (text : List ℕ) (old new : List (List ℕ × V))
    (e : List ℕ × V) (push : Result Unit F) (answer : Result Unit ReadFault) (Named : F → ReadFault → Type 0)
    (items more was : I)
    → MatchResult push (λ x. answer ≡ Ok x) (λ f. IsErrAnd answer (Named f))
    → ((f : F) (fault : ReadFault) → Named f fault → fault ≡ Memory) → items ≡ cond (is_ok push) more was
    → (items ≡ more → new ≡ old ++ e ∷ [])
    → IsEntry text e → entry_at old e.0 ≡ None → Adds IsEntry text old answer new
pushed IsEntry text old new e (Ok x) answer Named items more was is memory h by found fresh =
    subst (λ a. Adds IsEntry text old a new) (sym is) (e, found, fresh, by h)
pushed IsEntry text old new e (Err f) (Ok y) Named items more was is memory h by found fresh = absurd is
pushed IsEntry text old new e (Err f) (Err Bad) Named items more was is memory h by found fresh = cc (memory f Bad is)
pushed IsEntry text old new e (Err f) (Err Memory) Named items more was is memory h by found fresh = tt
