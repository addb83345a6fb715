-- Frames and their values.
use Rattle.std.proofs.Common.{◌≡◌, ◌≢◌, ℕ, ◌<◌, ◌≤◌, List, [], ◌∷◌, Option, Some, None, Err, refl, sym, ◌∙◌, arith}
use Rattle.cf_json.specs.Grammar.{Tree, depth}
use Rattle.cf_json.specs.Spans.{Span, max_depth}
use Rattle.cf_json.specs.Frame.{IsFrame, RefusesFrame, frame_depth}
use Rattle.cf_json.specs.declared.fault.Fault.{Fault}
use Rattle.cf_json.specs.declared.fault.Fault.TheVariants.{NotJson, TooDeep}
use Rattle.cf_json.specs.declared.fault.Fault.TheVariants as json
use Rattle.cf_protocol.specs.Frame.{FrameOf, unless_empty}
use Rattle.cf_protocol.specs.Unreadable.{fault_of}
use Rattle.cf_protocol.specs.Reading.{Answers, Stand}
use Rattle.cf_protocol.specs.declared.fault.ReadFault.{ReadFault}
use Rattle.cf_protocol.specs.declared.fault.ReadFault.TheVariants.{Bad, Memory}

-- each value that stands at a span nests no deeper than is read
pub all_shallow : (text : List ℕ) (spans : List Span) (ts : List Tree) → Stand text spans ts
    → frame_depth ts ≤ max_depth
all_shallow text [] [] h = omega arith
all_shallow text [] (t ∷ ts) h = absurd h
all_shallow text (s ∷ spans) [] h = absurd h
all_shallow text (s ∷ spans) (t ∷ ts) h = let first : depth t ≤ 64 = h.0.shallow in let more : frame_depth ts ≤ 64 =
    all_shallow text spans ts h.1 in omega arith

-- ---- the frame of these values

is_read : {A : Type 0} (f : List Tree → Option (List A)) (ts : List Tree) → ts ≢ [] → unless_empty f ts ≡ f ts
is_read f [] h = absurd (h refl)
is_read f (t ∷ ts) h = refl

pub is_frame : {A : Type 0} (f : List Tree → Option (List A)) (text : List ℕ) (spans : List Span) (ts : List Tree)
    (xs : List A) → IsFrame text ts → Stand text spans ts → f ts ≡ Some xs → FrameOf (unless_empty f) text xs
is_frame f text spans ts xs h stand e =
    record { values = ts; frame = h; shallow = all_shallow text spans ts stand; are = is_read f ts h.0 ∙ e }

some_same : {X : Type 0} (x y : X) → Some x ≡ Some y → x ≡ y
some_same x y e = cc

pub only_frame : {A : Type 0} (f : List Tree → Option (List A)) (text : List ℕ) (spans : List Span) (xs ks : List A)
    → ((ts : List Tree) → IsFrame text ts → Stand text spans ts)
    → ((ts : List Tree) → Stand text spans ts → f ts ≡ Some xs) → FrameOf (unless_empty f) text ks → ks ≡ xs
only_frame f text spans xs ks stands reads h =
    some_same ks xs (sym h.are ∙ is_read f h.values h.frame.0 ∙ reads h.values (stands h.values h.frame))

-- what stops at one value stops at all
pub stopped : {T A U B : Type 0} (show : T → A) (show_all : U → B) (e : ReadFault) (o : Option A) (p : Option B)
    → Answers show (Err e) o → (o ≡ None → p ≡ None) → Answers show_all (Err e) p
stopped show show_all Bad o p h stops = stops h
stopped show show_all Memory o p h stops = tt

pub no_values : {T A : Type 0} (f : List Tree → Option (List A)) (show : T → List A) (text : List ℕ) (spans : List Span)
    (e : ReadFault) (ks : List A) → ((ts : List Tree) → IsFrame text ts → Stand text spans ts)
    → ((ts : List Tree) → Stand text spans ts → Answers show (Err e) (f ts)) → e ≡ Bad
    → FrameOf (unless_empty f) text ks → ⊥
no_values f show text spans Memory ks stands reads is h = cc
no_values f show text spans Bad ks stands reads is h =
    let none : f h.values ≡ None = reads h.values (stands h.values h.frame) in
    let some : f h.values ≡ Some ks = sym (is_read f h.values h.frame.0) ∙ h.are in
    cc

pub no_frame : {A : Type 0} (f : List Tree → Option (List A)) (text : List ℕ) (fault : Fault) (ks : List A)
    → RefusesFrame text fault → fault_of fault ≡ Bad → FrameOf (unless_empty f) text ks → ⊥
no_frame f text (NotJson p) ks r is h = r.1 h.values h.frame
no_frame f text (TooDeep p) ks r is h = let deep : 64 < frame_depth h.values = r.1 h.values h.frame in
    let shallow : frame_depth h.values ≤ 64 = h.shallow in absurd (omega (arith, deep, shallow))
no_frame f text (json.Memory) ks r is h = cc
