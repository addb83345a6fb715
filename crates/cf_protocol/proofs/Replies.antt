-- Replies and pushes that are read one after another.
use Rattle.std.proofs.Common.{◌≡◌, ℕ, ◌+◌, ◌≤◌, List, [], ◌∷◌, ◌++◌, map, length, Option, Some, None, option_map, sym}
use Rattle.std.proofs.Common.{ap, ◌∙◌, append-nil, append_assoc}
use Rattle.std.specs.Prelude.{flat_map}
use Rattle.std.proofs.lemmas.List.{map-append}
use Rattle.cf_json.specs.Grammar.{Tree}
use Rattle.cf_protocol.specs.declared.outgoing.Outgoing.{Outgoing as CodeOutgoing}
use Rattle.cf_protocol.specs.Frame.{all_outgoing_in}
use Rattle.cf_protocol.specs.Outgoing.{Outgoing}
use Rattle.cf_protocol.specs.Reply.{outgoing_in}
use Rattle.cf_protocol.specs.Shown.{shown_outgoing, told}
use Rattle.cf_protocol.proofs.ItemsRead.{AreRead, GoesOn, read_goes_on, read_stops, read_ends}

-- the first i values are read, and what they tell is here
pub record AreTold (ts : List Tree) (i : ℕ) (replies : List CodeOutgoing) : Type 0 where
  pub read : List (List Outgoing)
  pub are : AreRead outgoing_in ts i read
  pub shown : map shown_outgoing replies ≡ flat_map (λ os. os) read

one_more : (oss : List (List Outgoing)) (os : List Outgoing)
    → flat_map (λ ps. ps) (oss ++ os ∷ []) ≡ flat_map (λ ps. ps) oss ++ os
one_more [] os = append-nil os
one_more (ps ∷ oss) os = ap (λ s. ps ++ s) (one_more oss os) ∙ sym (append_assoc ps (flat_map (λ qs. qs) oss) os)

told_one : (ts : List Tree) (i : ℕ) (replies more : List CodeOutgoing) (t : Tree) (o : Option CodeOutgoing)
    → AreTold ts i replies → GoesOn ts i t → outgoing_in t ≡ Some (told o)
    → map shown_outgoing more ≡ map shown_outgoing replies ++ told o → AreTold ts (i + 1) more
told_one ts i replies more t o h g e is =
    record {
      read = h.read ++ told o ∷ [];
      are = read_goes_on outgoing_in ts i h.read t (told o) h.are g e;
      shown = is ∙ ap (λ s. s ++ told o) h.shown ∙ sym (one_more h.read (told o));
    }

pub told_reply : (ts : List Tree) (i : ℕ) (replies : List CodeOutgoing) (t : Tree) (o : Option CodeOutgoing)
    (r : CodeOutgoing) → AreTold ts i replies → GoesOn ts i t → outgoing_in t ≡ Some (told o) → o ≡ Some r
    → AreTold ts (i + 1) (replies ++ r ∷ [])
told_reply ts i replies t o r h g e is =
    told_one ts i replies (replies ++ r ∷ []) t o h g e
    (map-append shown_outgoing replies (r ∷ []) ∙ ap (λ p. map shown_outgoing replies ++ told p) (sym is))

pub told_nothing : (ts : List Tree) (i : ℕ) (replies : List CodeOutgoing) (t : Tree) (o : Option CodeOutgoing)
    → AreTold ts i replies → GoesOn ts i t → outgoing_in t ≡ Some (told o) → o ≡ None → AreTold ts (i + 1) replies
told_nothing ts i replies t o h g e is =
    told_one ts i replies replies t o h g e (sym (append-nil (map shown_outgoing replies))
    ∙ ap (λ p. map shown_outgoing replies ++ told p) (sym is))

pub told_stops : (ts : List Tree) (i : ℕ) (replies : List CodeOutgoing) (t : Tree) → AreTold ts i replies
    → GoesOn ts i t → outgoing_in t ≡ None → all_outgoing_in ts ≡ None
told_stops ts i replies t h g e = ap (option_map (flat_map (λ os. os))) (read_stops outgoing_in ts i h.read t h.are g e)

pub told_all : (ts : List Tree) (i : ℕ) (replies : List CodeOutgoing) → AreTold ts i replies → length ts ≤ i
    → all_outgoing_in ts ≡ Some (map shown_outgoing replies)
told_all ts i replies h l =
    ap (option_map (flat_map (λ os. os))) (read_ends outgoing_in ts i h.read h.are l) ∙ ap Some (sym h.shown)
