-- What goes out, written step by step.
use Rattle.std.proofs.Common.{◌≡◌, ℕ, zero, suc, ◌+◌, ◌<◌, List, [], ◌∷◌, ◌++◌, map, length, take, get_or, Bool, true}
use Rattle.std.proofs.Common.{false, ◌==◌, Some, refl, sym, ap, subst, ◌∙◌, arith, ne_eqb}
use Rattle.std.proofs.lemmas.Bool.{false≢true}
use Rattle.std.specs.Prelude.{codes}
use Rattle.cf_json.specs.Grammar.{Tree}
use Rattle.cf_protocol.specs.Datum.{Who}
use Rattle.cf_protocol.specs.Written.{Member, ◌⇒◌, inner, text, whole, flag, info, error, message_of, reason_of}
use Rattle.cf_protocol.specs.Written.{unsubscribed}
use Rattle.cf_protocol.specs.Writing.{Adds, AddsValue, OpensMember}
use Rattle.cf_protocol.specs.declared.write.writer.Writer.{Writer}
use Rattle.cf_protocol.proofs.Writings.{then, inside, stands, inner_stands}

-- an object with a member that stands
pub inside_inner : {a b c d : Writer} {k : List ℕ} {ms : List Member} → stands ms ≡ true → OpensMember a b k (123 ∷ [])
    → Adds b c ms → AddsValue c d (125 ∷ []) → Adds a d ((k, inner ms) ∷ [])
inside_inner {a} {b} {c} {d} {k} {ms} s f g h =
    subst (λ t. Adds a d ((k, t) ∷ [])) (sym (inner_stands ms s)) (inside f g h)

pub error_stands : (code : ℕ) → (code ≡ 0 → ⊥) → stands (error code) ≡ true
error_stands code h = rw (ne_eqb code 0 h) refl

pub unsubscribed_stands : (code : ℕ) → (code ≡ 0 → ⊥) → stands (unsubscribed code) ≡ true
unsubscribed_stands code h = rw (ne_eqb code 0 h) refl

texts_stand : (a b : List ℕ) → 0 < length a + length b → stands (("client" ⇒ text a) ∷ ("user" ⇒ text b) ∷ []) ≡ true
texts_stand [] [] h = absurd (omega arith)
texts_stand [] (x ∷ b) h = refl
texts_stand (x ∷ a) b h = refl

pub info_stands : (w : Who) → 0 < length w.client + length w.user → stands (info w) ≡ true
info_stands w h = texts_stand w.client w.user h

pub position_stands : (epoch : List ℕ) (offset : ℕ) → 0 < length epoch + offset
    → stands (("epoch" ⇒ text epoch) ∷ ("offset" ⇒ whole offset) ∷ []) ≡ true
position_stands (x ∷ epoch) offset h = refl
position_stands [] zero h = absurd (omega arith)
position_stands [] (suc offset) h = rw (ne_eqb (suc offset) 0 (omega arith)) refl

pub pub_stands : (channel : List ℕ) (t : Tree) → stands (("channel" ⇒ text channel) ∷ ("pub" ⇒ Some t) ∷ []) ≡ true
pub_stands [] t = refl
pub_stands (x ∷ channel) t = refl

pub unsubscribe_stands : (channel : List ℕ) (code : ℕ) → 0 < length channel + code
    → stands (("channel" ⇒ text channel) ∷ ("unsubscribe" ⇒ inner (unsubscribed code)) ∷ []) ≡ true
unsubscribe_stands (x ∷ channel) code h = refl
unsubscribe_stands [] zero h = absurd (omega arith)
unsubscribe_stands [] (suc code) h = rw (ne_eqb (suc code) 0 (omega arith)) refl

-- ---- publications

pub map-take_more : {A B : Type 0} (f : A → B) (xs : List A) (i : ℕ) (x : A) → i < length xs → x ≡ get_or xs i x
    → map f (take (suc i) xs) ≡ map f (take i xs) ++ f x ∷ []
map-take_more f [] i x h e = absurd (omega arith)
map-take_more f (y ∷ xs) zero x h e = ap (λ z. f z ∷ []) (sym e)
map-take_more f (y ∷ xs) (suc i) x h e = ap (λ s. f y ∷ s) (map-take_more f xs i x (omega arith) e)

-- ---- members of which the code gives the parts

pub nonzero : (b : Bool) (n : ℕ) → b ≡ (n == 0) → b ≡ false → 0 < n
nonzero b zero e h = absurd (false≢true (sym h ∙ e))
nonzero b (suc n) e h = omega arith

pub error_adds : {a b c d e f : Writer} {n : ℕ} {m : List ℕ} {t : Bool} (code : ℕ) → (code ≡ 0 → ⊥) → n ≡ code
    → m ≡ message_of code → t ≡ (code == 100)
    → OpensMember a b (codes "error") (123 ∷ []) → Adds b c ((codes "code", whole n) ∷ [])
    → Adds c d ((codes "message", text m) ∷ []) → Adds d e ((codes "temporary", flag t) ∷ []) → AddsValue e f (125 ∷ [])
    → Adds a f (("error" ⇒ inner (error code)) ∷ [])
error_adds {a} {b} {c} {d} {e} {f} {n} {m} {t} code some is_n is_m is_t opens adds_n adds_m adds_t closes =
    inside_inner (error_stands code some) opens
    (then (subst (λ k. Adds b c ((codes "code", whole k) ∷ [])) is_n adds_n)
    (then (subst (λ k. Adds c d ((codes "message", text k) ∷ [])) is_m adds_m)
    (subst (λ k. Adds d e ((codes "temporary", flag k) ∷ [])) is_t adds_t)))
    closes

pub unsubscribed_adds : {a b c d e : Writer} {n : ℕ} {m : List ℕ} (code : ℕ) → (code ≡ 0 → ⊥) → n ≡ code
    → m ≡ reason_of code
    → OpensMember a b (codes "unsubscribe") (123 ∷ []) → Adds b c ((codes "code", whole n) ∷ [])
    → Adds c d ((codes "reason", text m) ∷ []) → AddsValue d e (125 ∷ [])
    → Adds a e (("unsubscribe" ⇒ inner (unsubscribed code)) ∷ [])
unsubscribed_adds {a} {b} {c} {d} {e} {n} {m} code some is_n is_m opens adds_n adds_m closes =
    inside_inner (unsubscribed_stands code some) opens
    (then (subst (λ k. Adds b c ((codes "code", whole k) ∷ [])) is_n adds_n)
    (subst (λ k. Adds c d ((codes "reason", text k) ∷ [])) is_m adds_m))
    closes
