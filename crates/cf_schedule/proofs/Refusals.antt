-- What is refused as unreadable.
use Rattle.std.proofs.Common.{◌≡◌, ◌≢◌, codes, inl, inr, ℕ, Bool, true, false, List, [], ◌∷◌, ◌++◌, Result, Err, refl}
use Rattle.std.proofs.Common.{sym, ap, subst, ◌∙◌}
use Rattle.std.proofs.Common.{◌<◌, MatchOption, Bor}
use Rattle.std.specs.Prelude.{◌↔◌, IsErrOf, Option, Some, None}
use Rattle.std.proofs.lemmas.Str.Pattern.{split_parts, IsSplitOnceResult}
use Rattle.cf_machine.specs.TraceLine.{spaced}
use Rattle.cf_schedule.specs.ScheduleLine.{Says}
use Rattle.cf_schedule.specs.LineRead.{IsInChannel, IsKeyBefore, IsUnspaced, Lacks, CutsAt, CutsAtSpace, Refused}
use Rattle.cf_schedule.specs.LineRead.{IsNone, Answers}
use Rattle.cf_schedule.specs.declared.event.Event as declared
use Rattle.cf_schedule.specs.declared.event.EventFault.{EventFault}
use Rattle.cf_schedule.specs.declared.event.EventFault.TheVariants.{Unreadable, Memory}
use Rattle.cf_schedule.specs.Word.{IsClientName, IsChannelName}
use Rattle.cf_schedule.proofs.Lines.{no_ask, no_askfrom, no_check, no_finish, no_leave, no_read}
use Rattle.cf_schedule.proofs.Spacing.{cut_once, lacks_at, one_cut, unspaced_key}

pub refused_so : (e : EventFault) (P Q : Type 0) → (P → Q) → Refused e P → Refused e Q
refused_so Unreadable P Q f h = f h
refused_so Memory P Q f h = tt

-- from what a name's reader says
pub refused_name : {X : Type 0} (e : EventFault) (P Q : Type 0) → (IsErrOf {T = X} (Err e) Unreadable ↔ (P → ⊥))
    → ((P → ⊥) → Q) → Refused e Q
refused_name Unreadable P Q h f = f (h.0 refl)
refused_name Memory P Q h f = tt

pub cut_same : (d : ℕ) (s a b x y : List ℕ) → CutsAt d s a b → Lacks d x → s ≡ x ++ d ∷ y → (x ≡ a) × (y ≡ b)
cut_same d s a b x y h u e = cut_once d x a y b u h.word (sym e ∙ h.whole)

pub same_cut : (s a b x y : List ℕ) → CutsAtSpace s a b → IsUnspaced x → s ≡ x ++ 32 ∷ y → (x ≡ a) × (y ≡ b)
same_cut = cut_same 32

-- one last word alone stands in what is cut, behind a key where there is one
pub one_key : (keyed : Bool) (k l s t a b : List ℕ) → a ≡ b → IsKeyBefore keyed k s a → IsKeyBefore keyed l t b → s ≡ t
one_key false k l s t a b e h g = sym h.1 ∙ e ∙ g.1
one_key true k l s t a b e h g = (one_cut k l s t (unspaced_key k h.0) (unspaced_key l g.0) (sym h.1 ∙ e ∙ g.1)).1

-- what a part's reader answers for a line that is cut so
pub answers_at : (nodes : ℕ) (line word w rest : List ℕ) (r : Result declared.Event EventFault)
    → CutsAtSpace line word rest → word ≡ w
    → Answers (Says nodes (w ++ 32 ∷ rest)) r → Answers (Says nodes line) r
answers_at nodes line word w rest r cut is h =
    subst (λ (l : List ℕ). Answers (Says nodes l) r) (sym (cut.whole ∙ ap (λ v. v ++ 32 ∷ rest) is)) h

pub none_at : (nodes : ℕ) (line word rest : List ℕ) → CutsAtSpace line word rest
    → IsNone (Says nodes (word ++ 32 ∷ rest)) → IsNone (Says nodes line)
none_at nodes line word rest cut h = subst (λ (l : List ℕ). IsNone (Says nodes l)) (sym cut.whole) h

-- what is no client and channel is no event of one
pub none_in_channel : (nodes : ℕ) (w r : List ℕ) → IsInChannel w
    → ((x c : List ℕ) → IsClientName x → IsChannelName c → r ≢ spaced (x ∷ c ∷ [])) → IsNone (Says nodes (w ++ 32 ∷ r))
none_in_channel nodes w r (inl e) none =
    subst (λ (v : List ℕ). IsNone (Says nodes (v ++ 32 ∷ r))) (sym e) (no_ask nodes r (λ x c h. none x c h.0 h.1 h.2))
none_in_channel nodes w r (inr (inl e)) none =
    subst (λ (v : List ℕ). IsNone (Says nodes (v ++ 32 ∷ r))) (sym e)
    (no_askfrom nodes r (λ x c h. none x c h.0 h.1 h.2))
none_in_channel nodes w r (inr (inr (inl e))) none =
    subst (λ (v : List ℕ). IsNone (Says nodes (v ++ 32 ∷ r))) (sym e) (no_read nodes r (λ x c h. none x c h.0 h.1 h.2))
none_in_channel nodes w r (inr (inr (inr (inl e)))) none =
    subst (λ (v : List ℕ). IsNone (Says nodes (v ++ 32 ∷ r))) (sym e)
    (no_finish nodes r (λ x c h. none x c h.0 h.1 h.2))
none_in_channel nodes w r (inr (inr (inr (inr (inl e))))) none =
    subst (λ (v : List ℕ). IsNone (Says nodes (v ++ 32 ∷ r))) (sym e) (no_leave nodes r (λ x c h. none x c h.0 h.1 h.2))
none_in_channel nodes w r (inr (inr (inr (inr (inr e))))) none =
    subst (λ (v : List ℕ). IsNone (Says nodes (v ++ 32 ∷ r))) (sym e) (no_check nodes r (λ x c h. none x c h.0 h.1 h.2))

-- the line of a client and a channel
pub line_in_channel : (w v r a b x c : List ℕ) → w ≡ v → CutsAtSpace r a b → x ≡ a → c ≡ b
    → w ++ 32 ∷ r ≡ v ++ 32 ∷ spaced (x ∷ c ∷ [])
line_in_channel w v r a b x c is cut client channel =
    ap (λ t. t ++ 32 ∷ r) is ∙ ap (λ t. v ++ 32 ∷ t) (cut.whole ∙ (λ i. sym client i ++ 32 ∷ sym channel i))

-- of the words before a client and a channel one is left
pub last_in_channel : (w : List ℕ) → IsInChannel w → w ≢ codes "ask" → w ≢ codes "askfrom" → w ≢ codes "read"
    → w ≢ codes "finish" → w ≢ codes "leave" → w ≡ codes "check"
last_in_channel w (inl e) a b c d f = absurd (a e)
last_in_channel w (inr (inl e)) a b c d f = absurd (b e)
last_in_channel w (inr (inr (inl e))) a b c d f = absurd (c e)
last_in_channel w (inr (inr (inr (inl e)))) a b c d f = absurd (d e)
last_in_channel w (inr (inr (inr (inr (inl e))))) a b c d f = absurd (f e)
last_in_channel w (inr (inr (inr (inr (inr e))))) a b c d f = e

-- what split_once answers
pub cut_by : (d : ℕ) (s : List ℕ) → d < 128 → (r : Option (Bor (List ℕ) × Bor (List ℕ))) → IsSplitOnceResult d s r
    → MatchOption r (Lacks d s) (λ p. CutsAt d s p.0.now p.1.now)
cut_by d s low None h = lacks_at d s (split_parts d s None h low)
cut_by d s low (Some p) h =
    let parts = split_parts d s (Some p) h low in
    record { whole = parts.0; word = lacks_at d p.0.now parts.1 }
