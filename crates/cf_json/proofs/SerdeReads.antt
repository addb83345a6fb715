-- What `serde_json` reads a string as is its characters.
use Rattle.std.proofs.Common.{◌≡◌, ◌≢◌, ℕ, ◌<◌, ◌≤◌, Bool, true, false, cond, ◌&&◌, ◌||◌, ◌==◌, List, [], ◌∷◌, ◌++◌}
use Rattle.std.proofs.Common.{Option, Some, None, option_and_then, refl, sym, ap, ◌∙◌, arith}
use Rattle.std.proofs.lemmas.Bool.{ne_eqb, le-ltb, eqb-true, and_parts, and_left, agree_below, agree_below_at}
use Rattle.std.specs.Char.{encode_utf8, digit_value, is_digit}
use Rattle.json.specs.Text.{content, plain as start, after_high, code_unit as kit_code_unit, short_escape}
use Rattle.json.specs.Word.{is_operator, is_space}
use Rattle.json.specs.Lex.{lex, lex_byte, operator, space, other, in_string, token, string_token, fresh, punctuate}
use Rattle.json.specs.Json as json
use Rattle.serde_json.specs.Find.{as_str}
use Rattle.serde_json.specs.Read.{read, of_json, max_depth}
use Rattle.cf_json.specs.Bytes.{is_hex, is_digit as is_decimal, is_escape}
use Rattle.cf_json.specs.Grammar.{IsText, nothing, plain, escaped, unicode}
use Rattle.cf_json.specs.Characters.{Piece, byte, unit, meaning, hex_value, code_unit, a_piece, pieces, is_high, is_low}
use Rattle.cf_json.specs.Characters.{paired, before, alone, joined, characters}

-- ---- single bytes

is_not_u : (x : ℕ) → is_escape x ≡ true → x ≢ 117
unfolding is_escape
is_not_u x h e = let f : is_escape 117 ≡ true = ap is_escape (sym e) ∙ h in absurd cc

short : (x : ℕ) → is_escape x ≡ true → short_escape x ≡ Some (meaning x)
unfolding is_escape short_escape meaning
short x h = grind arith

hex_below : (x : ℕ) → is_hex x ≡ true → x < 103
unfolding is_hex is_decimal
hex_below x h = grind arith

abbrev same_value : ℕ → Bool
same_value x = is_digit x 16 && (digit_value x == hex_value x) && is_hex x

hex_values : agree_below is_hex same_value 103 ≡ true
unfolding is_hex is_decimal hex_value
hex_values = refl

digit : (x : ℕ) → is_hex x ≡ true → (is_digit x 16 ≡ true) × (digit_value x ≡ hex_value x)
digit x h =
    let all = and_parts (is_digit x 16 && (digit_value x == hex_value x)) (is_hex x)
    (sym (agree_below_at is_hex same_value 103 x hex_values (hex_below x h)) ∙ h) in
    let value = and_parts (is_digit x 16) (digit_value x == hex_value x) all.0 in
    (value.0, eqb-true _ _ value.1)

unit_is : (a b c d : ℕ) → is_hex a ≡ true → is_hex b ≡ true → is_hex c ≡ true → is_hex d ≡ true
    → kit_code_unit a b c d ≡ Some (code_unit a b c d)
unfolding kit_code_unit code_unit
unit_is a b c d ha hb hc hd =
    let p = digit a ha in
    let q = digit b hb in
    let r = digit c hc in
    let s = digit d hd in
    rw (p.0, q.0, r.0, s.0, p.1, q.1, r.1, s.1) refl

-- ---- no low surrogate follows

-- what stands behind a high surrogate is no escape of a code unit
abbrev NotUnit : List ℕ → Type 0
NotUnit [] = Unit {0}
NotUnit (x ∷ []) = Unit {0}
NotUnit (x ∷ y ∷ r) = ((x == 92) && (y == 117)) ≡ false

no_unit : (h : ℕ) (r : List ℕ) → NotUnit r → content (after_high h) r ≡ None
unfolding content
no_unit h [] n = refl
no_unit h (s ∷ []) n = refl
no_unit h (s ∷ u ∷ []) n = refl
no_unit h (s ∷ u ∷ a ∷ []) n = refl
no_unit h (s ∷ u ∷ a ∷ b ∷ []) n = refl
no_unit h (s ∷ u ∷ a ∷ b ∷ c ∷ []) n = refl
no_unit h (s ∷ u ∷ a ∷ b ∷ c ∷ d ∷ r) n = rw n refl

-- ---- a code unit and what follows it

-- by what the code unit is
module _ (taken here : Option (List ℕ)) where
  -- no low surrogate follows it
  by_itself : (h l : Bool) → (h ≡ true → taken ≡ None) → cond h taken (cond l None here) ≡ cond (h || l) None here
  by_itself true l none = none refl
  by_itself false true none = refl
  by_itself false false none = refl

  -- a code unit follows it, which may be a low surrogate
  with_next : (two : Option (List ℕ)) (h l low : Bool) → (h ≡ true → taken ≡ cond low two None)
      → cond h taken (cond l None here) ≡ cond (h && low) two (cond (h || l) None here)
  with_next two true l true is = is refl
  with_next two true l false is = is refl
  with_next two false true low is = refl
  with_next two false false low is = refl

-- the pieces p are read of what is spelled c, also behind a code unit
record Agrees (c : List ℕ) (p : List Piece) : Type 0 where
  reads : content start (c ++ 34 ∷ []) ≡ joined p
  after_unit : (u : ℕ) → cond (is_high u) (content (after_high u) (c ++ 34 ∷ []))
      (cond (is_low u) None (before (encode_utf8 u) (joined p))) ≡ joined (unit u ∷ p)

lone : (u : ℕ) (c : List ℕ) (p : List Piece) → NotUnit (c ++ 34 ∷ []) → joined (unit u ∷ p) ≡ alone u (joined p)
    → cond (is_high u) (content (after_high u) (c ++ 34 ∷ []))
    (cond (is_low u) None (before (encode_utf8 u) (joined p))) ≡ joined (unit u ∷ p)
lone u c p n is =
    by_itself (content (after_high u) (c ++ 34 ∷ [])) (before (encode_utf8 u) (joined p)) (is_high u) (is_low u)
    (λ _. no_unit u (c ++ 34 ∷ []) n) ∙ sym is

agrees_nothing : Agrees [] []
unfolding content joined
agrees_nothing = record { reads = refl; after_unit = λ u. lone u [] [] tt refl }

not_92 : (x : ℕ) (xs : List ℕ) → x ≢ 92 → NotUnit ((x ∷ xs) ++ 34 ∷ [])
not_92 x [] h = and_left (x == 92) (34 == 117) (ne_eqb x 92 h)
not_92 x (y ∷ xs) h = and_left (x == 92) (y == 117) (ne_eqb x 92 h)

agrees_plain : (x : ℕ) (xs : List ℕ) (p : List Piece) → 32 ≤ x → x ≢ 34 → x ≢ 92 → Agrees xs p
    → Agrees (x ∷ xs) (byte x ∷ p)
unfolding content joined
agrees_plain x xs p l q b h = record {
  reads = rw (ne_eqb x 34 q, ne_eqb x 92 b, le-ltb x 32 l) (ap (before (x ∷ [])) h.reads);
  after_unit = λ u. lone u (x ∷ xs) (byte x ∷ p) (not_92 x xs b) refl;
}

agrees_escaped : (x : ℕ) (xs : List ℕ) (p : List Piece) → is_escape x ≡ true → Agrees xs p
    → Agrees (92 ∷ x ∷ xs) (byte (meaning x) ∷ p)
unfolding content joined
agrees_escaped x xs p e h = record {
  reads = rw (ne_eqb x 117 (is_not_u x e), short x e) (ap (before (meaning x ∷ [])) h.reads);
  after_unit = λ u. lone u (92 ∷ x ∷ xs) (byte (meaning x) ∷ p) (ne_eqb x 117 (is_not_u x e)) refl;
}

agrees_unicode : (a b c d : ℕ) (xs : List ℕ) (p : List Piece) → is_hex a ≡ true → is_hex b ≡ true → is_hex c ≡ true
    → is_hex d ≡ true → Agrees xs p
    → Agrees (92 ∷ 117 ∷ a ∷ b ∷ c ∷ d ∷ xs) (unit (code_unit a b c d) ∷ p)
unfolding content joined is_high is_low
agrees_unicode a b c d xs p ha hb hc hd h =
    let v = code_unit a b c d in
    let is = unit_is a b c d ha hb hc hd in
    let taken : (u : ℕ) → content (after_high u) ((92 ∷ 117 ∷ a ∷ b ∷ c ∷ d ∷ xs) ++ 34 ∷ [])
    ≡ cond (is_low v) (before (encode_utf8 (paired u v)) (joined p)) None = λ u. rw (is, h.reads) refl in
    record {
      reads = rw (is, h.reads) (h.after_unit v);
      after_unit =
          λ u. with_next (content (after_high u) ((92 ∷ 117 ∷ a ∷ b ∷ c ∷ d ∷ xs) ++ 34 ∷ []))
          (before (encode_utf8 u) (joined (unit v ∷ p))) (before (encode_utf8 (paired u v)) (joined p)) (is_high u)
          (is_low u) (is_low v) (λ _. taken u);
    }

agrees : {c : List ℕ} → IsText c → Agrees c (pieces a_piece c)
unfolding pieces
agrees nothing = agrees_nothing
agrees (plain {x} {xs} l q b t) = rw (ne_eqb x 92 b) (agrees_plain x xs (pieces a_piece xs) l q b (agrees t))
agrees (escaped {x} {xs} h t) = rw (ne_eqb x 117 (is_not_u x h)) (agrees_escaped x xs (pieces a_piece xs) h (agrees t))
agrees (unicode {a} {b} {c} {d} {xs} ha hb hc hd t) =
    agrees_unicode a b c d xs (pieces a_piece xs) ha hb hc hd (agrees t)

pub content-characters : (c : List ℕ) → IsText c → content start (c ++ 34 ∷ []) ≡ characters c
content-characters c t = (agrees t).reads

-- ---- the lexer passes over the rest of the string

stays_inside : (o s : Bool) (x : ℕ) (r : List ℕ)
    → lex_byte in_string (cond o operator (cond s space other)) x r (λ m. lex m r) ≡ lex in_string r
stays_inside true s x r = refl
stays_inside false true x r = refl
stays_inside false false x r = refl

passes : (x : ℕ) (r : List ℕ) → x ≢ 34 → x ≢ 92 → lex in_string (x ∷ r) ≡ lex in_string r
unfolding lex
passes x r q b = rw (ne_eqb x 34 q, ne_eqb x 92 b) (stays_inside (is_operator x) (is_space x) x r)

hex_passes : (x : ℕ) (r : List ℕ) → is_hex x ≡ true → lex in_string (x ∷ r) ≡ lex in_string r
unfolding is_hex is_decimal
hex_passes x r h =
    let q : x ≢ 34 = λ e. let f : is_hex 34 ≡ true = ap is_hex (sym e) ∙ h in absurd cc in
    let b : x ≢ 92 = λ e. let f : is_hex 92 ≡ true = ap is_hex (sym e) ∙ h in absurd cc in
    passes x r q b

lexed : {c : List ℕ} → IsText c → lex in_string (c ++ 34 ∷ []) ≡ []
unfolding lex
lexed nothing = refl
lexed (plain {x} {xs} l q b t) = passes x (xs ++ 34 ∷ []) q b ∙ lexed t
lexed (escaped {x} {xs} h t) = lexed t
lexed (unicode {a} {b} {c} {d} {xs} ha hb hc hd t) =
    hex_passes a (b ∷ c ∷ d ∷ (xs ++ 34 ∷ [])) ha ∙ hex_passes b (c ∷ d ∷ (xs ++ 34 ∷ [])) hb
    ∙ hex_passes c (d ∷ (xs ++ 34 ∷ [])) hc ∙ hex_passes d (xs ++ 34 ∷ []) hd ∙ lexed t

-- ---- what is read of the whole token

read_token : (o : Option (List ℕ)) → option_and_then as_str
    (option_and_then of_json (option_and_then (λ p. json.if_last p.0 p.1)
    (json.value max_depth (punctuate fresh (token (string_token o) ∷ []))))) ≡ o
unfolding punctuate json.value
read_token None = refl
read_token (Some s) = refl

pub read-characters : (c : List ℕ) → IsText c → option_and_then as_str (read (34 ∷ (c ++ 34 ∷ []))) ≡ characters c
unfolding lex
read-characters c t =
    ap (λ l. option_and_then as_str (option_and_then of_json
    (option_and_then (λ p. json.if_last p.0 p.1) (json.value max_depth
    (punctuate fresh (token (string_token (content start (c ++ 34 ∷ []))) ∷ l)))))) (lexed t)
    ∙ read_token (content start (c ++ 34 ∷ [])) ∙ content-characters c t
