-- Members and values where they stand in a text.
use Rattle.std.proofs.Common.{◌≡◌, ℕ, Bool, true, false, cond, List, [], ◌∷◌, Option, Some, None, refl, sym, ap, subst}
use Rattle.std.proofs.Common.{◌∙◌, string_bytes}
use Rattle.std.specs.Cmp.Lexicographic.{nat_list_eq_equiv}
use Rattle.std.specs.Option.{IsSomeAnd}
use Rattle.std.specs.Str.{bytes_eq}
use Rattle.std.specs.declared.string.String.{String}
use Rattle.std.specs.declared.alloc.Global.{Global}
use Rattle.cf_json.specs.Spans.{Span}
use Rattle.cf_protocol.specs.Fields.{Fields, look_up}
use Rattle.cf_protocol.specs.Reading.{Finds, Reads}
use Rattle.cf_protocol.specs.Settings.{entry_at, named}

-- where a member's value stands, by the table of the members
pub looked_up : (text k : List ℕ) (ms : List (String Global × Span)) (fs : Fields) → Reads text ms fs
    → Finds text (entry_at (named ms) k) (look_up k fs)
looked_up text k [] [] r = refl
looked_up text k [] (f ∷ fs) r = absurd r
looked_up text k (m ∷ ms) [] r = absurd r
looked_up text k (m ∷ ms) (f ∷ fs) r =
    let one : Bool → Option Span = λ b. cond b (Some m.1) (entry_at (named ms) k) in
    let same : bytes_eq k f.0 ≡ bytes_eq (string_bytes m.0) k =
    nat_list_eq_equiv.symm k f.0 ∙ ap (λ s. bytes_eq s k) (sym r.0.0) in
    subst (λ b. Finds text (one b) (cond (bytes_eq k f.0) (Some f.1) (look_up k fs))) same
    (elim (bytes_eq k f.0) as (λ b. Finds text (one b) (cond b (Some f.1) (look_up k fs))) [
      | true ↦ r.0.1
      | false ↦ looked_up text k ms fs r.1
    ])

pub some_and : {A : Type 0} (o : Option A) (P : A → Type 0) → IsSomeAnd o P → (x : A) × (o ≡ Some x) × P x
some_and None P h = absurd h
some_and (Some x) P h = (x, refl, h)
