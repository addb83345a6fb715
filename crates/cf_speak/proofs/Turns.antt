-- One turn more of a conversation.
use Rattle.std.proofs.Common.{◌≡◌, ◌≢◌, ◌∙◌, ℕ, true, false, Option, Some, None, List, [], ◌∷◌, ◌++◌, refl, sym, ap}
use Rattle.std.proofs.Common.{subst, inl, inr}
use Rattle.std.proofs.lemmas.Grind.{flat_map-append}
use Rattle.std.proofs.lemmas.List.{append-nil, append_assoc}
use Rattle.std.specs.Io.BufRead.{first_piece, drop_through}
use Rattle.std.specs.Io.KnownBytes.{Appends}
use Rattle.std.specs.Str.{IsUtf8}
use Rattle.std.specs.Prelude.{IfSome}
use Rattle.cf_queue.specs.OutQueue.{Item}
use Rattle.cf_session.specs.CommandScripts.{Tables}
use Rattle.cf_session.specs.SessionMachine.{Progress}
use Rattle.cf_speak.specs.Conversation.{AnswersLine, Begins, BreaksOffFrom, IsNoText, Converses, ReadsLine, SpeaksFrom}
use Rattle.cf_speak.specs.Conversation.{Turn, line_of, lines_of}
use Rattle.cf_speak.specs.Scene.{Scene, is_over}

begins_more : (input rest line : List ℕ) (lines : List (List ℕ))
    → Begins input lines rest → rest ≢ [] → line ≡ first_piece 10 rest → IsUtf8 line
    → Begins input (lines ++ line ∷ []) (drop_through 10 rest)
begins_more input rest line [] h some is text =
    ((λ e. some (h ∙ e)), is ∙ ap (first_piece 10) h, text, ap (drop_through 10) h)
begins_more input rest line (x ∷ xs) h some is text =
    (h.0, h.1, h.2, begins_more (drop_through 10 input) rest line xs h.3 some is text)

converses_more : (t : Tables) (p q r : Progress) (s mid m : Scene) (lines : List (List ℕ)) (line : List ℕ)
    (given first : List Item)
    → is_over mid ≡ false → Converses t p s lines given mid q → Turn t q mid line first m r
    → Converses t p s (lines ++ line ∷ []) (given ++ first) m r
converses_more t p q r s mid m [] line given first over h turn = (
  subst (λ (x : Scene). is_over x ≡ false) h.0 over,
  (
    m,
    r,
    first,
    [],
    subst (λ (x : Scene). Turn t p x line first m r) h.0
        (subst (λ (x : Progress). Turn t x mid line first m r) h.1 turn),
    ap (λ (g : List Item). g ++ first) h.2 ∙ sym (append-nil first),
    (refl, refl, refl),
  ),
)
converses_more t p q r s mid m (x ∷ xs) line given first over h turn = (
  h.0,
  (
    h.1.0,
    h.1.1,
    h.1.2,
    h.1.3 ++ first,
    h.1.4,
    ap (λ (g : List Item). g ++ first) h.1.5 ∙ append_assoc h.1.2 h.1.3 first,
    converses_more t h.1.1 q r h.1.0 mid m xs line h.1.3 first over h.1.6 turn,
  ),
)

adds_more : (a b c : Option (List ℕ)) (xs ys : List ℕ) → Appends a b xs → Appends b c ys → Appends a c (xs ++ ys)
adds_more None b c xs ys h k = tt
adds_more (Some p) (Some q) (Some r) xs ys h k = k ∙ ap (λ t. t ++ ys) h ∙ append_assoc p xs ys
adds_more (Some p) (Some q) None xs ys h k = absurd k
adds_more (Some p) None c xs ys h k = absurd h

pub adds_none : (a : Option (List ℕ)) → Appends a a []
adds_none None = tt
adds_none (Some xs) = sym (append-nil xs)

pub adds_lines : (a b c : Option (List ℕ)) (xs ys : List Item)
    → Appends a b (lines_of xs) → Appends b c (lines_of ys) → Appends a c (lines_of (xs ++ ys))
adds_lines a b c xs ys h k =
    subst (Appends a c) (sym (flat_map-append line_of xs ys)) (adds_more a b c (lines_of xs) (lines_of ys) h k)

-- so far the input's first lines were served, and what they gave was written
pub record Goes (t : Tables) (p0 : Progress) (s0 : Scene) (input : List ℕ) (left old new : Option (List ℕ)) (s : Scene)
    (p : Progress) : Type 0 where
  pub lines : List (List ℕ)
  pub rest : List ℕ
  pub given : List Item
  pub reader : left ≡ Some rest
  pub cut : Begins input lines rest
  pub turns : Converses t p0 s0 lines given s p
  pub written : Appends old new (lines_of given)

abbrev pub GoesFrom : Tables → Progress → Scene → Option (List ℕ) → Option (List ℕ) → Option (List ℕ) → Option (List ℕ)
    → Scene → Progress → Type 0
GoesFrom t p0 s0 None left old new s p = Unit {0}
GoesFrom t p0 s0 (Some input) left old new s p = Goes t p0 s0 input left old new s p

pub goes_first : (t : Tables) (known old : Option (List ℕ)) (s : Scene) (p : Progress)
    → GoesFrom t p s known known old old s p
goes_first t None old s p = tt
goes_first t (Some input) old s p =
    record {
      lines = [];
      rest = input;
      given = [];
      reader = refl;
      cut = refl;
      turns = (refl, refl, refl);
      written = adds_none old;
    }

line_read : (left next : Option (List ℕ)) (rest line : List ℕ) → left ≡ Some rest → ReadsLine left next (Some line)
    → (rest ≢ []) × (line ≡ first_piece 10 rest) × (next ≡ Some (drop_through 10 rest))
line_read left next rest line e h = subst (λ (x : Option (List ℕ)). ReadsLine x next (Some line)) e h

pub goes_on : (t : Tables) (p0 : Progress) (s0 : Scene) (known left next old new then : Option (List ℕ)) (s m : Scene)
    (p q : Progress) (line : List ℕ)
    → is_over s ≡ false → GoesFrom t p0 s0 known left old new s p → ReadsLine left next (Some line)
    → AnswersLine t p s line m q new then
    → GoesFrom t p0 s0 known next old then m q
goes_on t p0 s0 None left next old new then s m p q line over g r a = tt
goes_on t p0 s0 (Some input) left next old new then s m p q line over g r a =
    let is : (g.rest ≢ []) × (line ≡ first_piece 10 g.rest) × (next ≡ Some (drop_through 10 g.rest)) =
    line_read left next g.rest line g.reader r in
    record {
      lines = g.lines ++ line ∷ [];
      rest = drop_through 10 g.rest;
      given = g.given ++ a.given;
      reader = is.2;
      cut = begins_more input g.rest line g.lines g.cut is.0 is.1 a.text;
      turns = converses_more t p0 p q s0 s m g.lines line g.given a.given over g.turns a.turn;
      written = adds_lines old new then g.given a.given g.written a.written;
    }

-- the same where tables and line go by other names
pub goes_heard : (t u : Tables) (p0 : Progress) (s0 : Scene) (known left next old new then : Option (List ℕ))
    (s m : Scene) (p q : Progress)
    (line said : List ℕ) → u ≡ t → said ≡ line
    → is_over s ≡ false → GoesFrom t p0 s0 known left old new s p → ReadsLine left next (Some line)
    → AnswersLine u p s said m q new then
    → GoesFrom t p0 s0 known next old then m q
goes_heard t u p0 s0 known left next old new then s m p q line said e f over g r a =
    goes_on t p0 s0 known left next old new then s m p q line over g r
    (subst (λ (x : List ℕ). AnswersLine t p s x m q new then) f
    (subst (λ (v : Tables). AnswersLine v p s said m q new then) e a))

no_line : (left next : Option (List ℕ)) (rest : List ℕ) → left ≡ Some rest → ReadsLine left next None → rest ≡ []
no_line left next rest e h = subst (λ (x : Option (List ℕ)). ReadsLine x next None) e h

-- the input is at its end
pub speaks_all : (t : Tables) (p0 : Progress) (s0 : Scene) (known left next old new : Option (List ℕ)) (s : Scene)
    (p : Progress)
    → GoesFrom t p0 s0 known left old new s p → ReadsLine left next None
    → IfSome known (λ input. SpeaksFrom t p0 s0 input old new)
speaks_all t p0 s0 None left next old new s p g r = tt
speaks_all t p0 s0 (Some input) left next old new s p g r =
    record {
      lines = g.lines;
      rest = g.rest;
      given = g.given;
      last = s;
      progress = p;
      cut = g.cut;
      turns = g.turns;
      ends = inl (no_line left next g.rest g.reader r);
      written = g.written;
    }

-- the session is closed
pub speaks_closed : (t : Tables) (p0 : Progress) (s0 : Scene) (known left old new : Option (List ℕ)) (s : Scene)
    (p : Progress)
    → is_over s ≡ true → GoesFrom t p0 s0 known left old new s p
    → IfSome known (λ input. SpeaksFrom t p0 s0 input old new)
speaks_closed t p0 s0 None left old new s p over g = tt
speaks_closed t p0 s0 (Some input) left old new s p over g =
    record {
      lines = g.lines;
      rest = g.rest;
      given = g.given;
      last = s;
      progress = p;
      cut = g.cut;
      turns = g.turns;
      ends = inr over;
      written = g.written;
    }

-- the next line is no text
pub breaks_off : (t : Tables) (p0 : Progress) (s0 : Scene) (known left next old new then : Option (List ℕ)) (s : Scene)
    (p : Progress) (line : List ℕ)
    → is_over s ≡ false → GoesFrom t p0 s0 known left old new s p → ReadsLine left next (Some line) → IsNoText line
    → then ≡ new
    → IfSome known (λ input. BreaksOffFrom t p0 s0 input old then)
breaks_off t p0 s0 None left next old new then s p line over g r bad same = tt
breaks_off t p0 s0 (Some input) left next old new then s p line over g r bad same =
    let is : (g.rest ≢ []) × (line ≡ first_piece 10 g.rest) × (next ≡ Some (drop_through 10 g.rest)) =
    line_read left next g.rest line g.reader r in
    record {
      lines = g.lines;
      rest = g.rest;
      given = g.given;
      last = s;
      progress = p;
      cut = g.cut;
      turns = g.turns;
      stands = over;
      more = is.0;
      no_text = subst IsNoText is.1 bad;
      written = subst (λ (w : Option (List ℕ)). Appends old w (lines_of g.given)) (sym same) g.written;
    }
