-- Bytes that are written one after another.
use Rattle.std.proofs.Common.{◌≡◌, ℕ, ◌<◌, suc, Option, Some, None, Result, Ok, Err, List, [], ◌∷◌, ◌++◌, length, map}
use Rattle.std.proofs.Common.{take, drop, get_or, refl, sym, ap, subst, ◌∙◌}
use Rattle.std.specs.Prelude.{OnErr}
use Rattle.std.proofs.Math.Seq.{drop-cons}
use Rattle.std.proofs.lemmas.Grind.{flat_map-append}
use Rattle.std.specs.Io.KnownBytes.{Keeps, Appends}
use Rattle.std.proofs.lemmas.List.{append-nil, append_assoc, map-append, take-append-drop}
use Rattle.cf_machine.specs.TraceLine.{line_of, printed}
use Rattle.cf_world.specs.Entries.{shown_entry}
use Rattle.cf_world.specs.declared.entry.Entry as declared
use Rattle.cf_explain.specs.Remarks.{BeginsWith, remark}
use Rattle.cf_simulate.specs.Simulation.{AddsPart, Leaves}

abbrev pub lines_of_entries : List declared.Entry → List ℕ
lines_of_entries es = printed (map shown_entry es)

abbrev pub Bytes : Type 0
Bytes = Option (List ℕ)

pub none_added : (x : Bytes) → Appends x x []
none_added None = tt
none_added (Some xs) = sym (append-nil xs)

pub adds_more : (a b c : Bytes) (xs ys : List ℕ) → Appends a b xs → Appends b c ys → Appends a c (xs ++ ys)
adds_more None b c xs ys h k = tt
adds_more (Some p) (Some q) (Some r) xs ys h k = k ∙ ap (λ t. t ++ ys) h ∙ append_assoc p xs ys
adds_more (Some p) (Some q) None xs ys h k = absurd k
adds_more (Some p) None c xs ys h k = absurd h

pub adds_kept : (a b c : Bytes) (xs : List ℕ) → Appends a b xs → Keeps b c → Appends a c xs
adds_kept None b c xs h k = tt
adds_kept (Some p) (Some q) (Some r) xs h k = k ∙ h
adds_kept (Some p) (Some q) None xs h k = absurd k
adds_kept (Some p) None c xs h k = absurd h

pub keeps_same : (x : Bytes) → Keeps x x
keeps_same None = tt
keeps_same (Some xs) = refl

pub keeps_none : (a b : Bytes) → Appends a b [] → Keeps a b
keeps_none None b h = tt
keeps_none (Some xs) (Some ys) h = h ∙ append-nil xs
keeps_none (Some xs) None h = absurd h

pub leaves_all : (x : Bytes) (bs : List ℕ) → Leaves x x bs bs
leaves_all x bs = record { part = []; cut = refl; adds = none_added x }

pub leaves_more : (a b c : Bytes) (bs rs ts : List ℕ) → Leaves a b bs rs → Leaves b c rs ts → Leaves a c bs ts
leaves_more a b c bs rs ts h k = record {
  part = h.part ++ k.part;
  cut = h.cut ∙ ap (λ t. h.part ++ t) k.cut ∙ sym (append_assoc h.part k.part ts);
  adds = adds_more a b c h.part k.part h.adds k.adds;
}

pub leaves_none : (a b : Bytes) (bs rs : List ℕ) → Leaves a b bs rs → rs ≡ [] → Appends a b bs
leaves_none a b bs rs h e = subst (Appends a b) (sym (h.cut ∙ ap (λ t. h.part ++ t) e ∙ append-nil h.part)) h.adds

pub leaves_part : (a b c : Bytes) (bs rs : List ℕ) → Leaves a b bs rs → Keeps b c → AddsPart a c bs
leaves_part a b c bs rs h k = record { part = h.part; rest = rs; cut = h.cut; adds = adds_kept a b c h.part h.adds k }

pub no_part : (x : Bytes) (bs : List ℕ) → AddsPart x x bs
no_part x bs = record { part = []; rest = bs; cut = refl; adds = none_added x }

pub all_part : (a b c : Bytes) (bs : List ℕ) → Appends a b bs → Keeps b c → AddsPart a c bs
all_part a b c bs h k = record { part = bs; rest = []; cut = sym (append-nil bs); adds = adds_kept a b c bs h k }

pub further_part : (a b c : Bytes) (xs ys zs bs : List ℕ) → bs ≡ xs ++ (ys ++ zs) → Appends a b xs → AddsPart b c ys
    → AddsPart a c bs
further_part a b c xs ys zs bs e h k = record {
  part = xs ++ k.part;
  rest = k.rest ++ zs;
  cut = e ∙ ap (λ t. xs ++ (t ++ zs)) k.cut ∙ ap (λ t. xs ++ t) (append_assoc k.part k.rest zs)
      ∙ sym (append_assoc xs k.part (k.rest ++ zs));
  adds = adds_more a b c xs k.part h k.adds;
}

pub part_kept : (a b c : Bytes) (bs : List ℕ) → AddsPart a b bs → Keeps b c → AddsPart a c bs
part_kept a b c bs h k = record { part = h.part; rest = h.rest; cut = h.cut; adds = adds_kept a b c h.part h.adds k }

pub on_err : {T E : Type 0} (P : Type 0) (r : Result T E) → P → OnErr r P
on_err P (Ok x) h = tt
on_err P (Err e) h = h

pub entries_cut : (es : List declared.Entry) (i : ℕ) (x : declared.Entry) → i < length es → x ≡ get_or es i x
    → lines_of_entries es ≡ lines_of_entries (take i es)
    ++ ((line_of (shown_entry x) ++ 10 ∷ []) ++ lines_of_entries (drop (suc i) es))
entries_cut es i x low is =
    ap lines_of_entries (sym (take-append-drop i es)
    ∙ ap (λ t. take i es ++ t) (drop-cons es i x low ∙ ap (λ y. y ∷ drop (suc i) es) (sym is)))
    ∙ ap printed (map-append shown_entry (take i es) (x ∷ drop (suc i) es))
    ∙ flat_map-append (λ e. line_of e ++ 10 ∷ []) (map shown_entry (take i es)) (map shown_entry (x ∷ drop (suc i) es))

-- ---- remarks with more behind them

pub begins_more : (text remarks more : List ℕ) → BeginsWith text remarks → BeginsWith text (remarks ++ more)
begins_more text remarks more h = (h.0 ++ more, ap (λ t. t ++ more) h.1 ∙ append_assoc (remark text) h.0 more)
