-- What a log gains.
use Rattle.std.proofs.Common.{◌≡◌, List, [], ◌∷◌, ◌++◌, ap, sym, ◌∙◌, subst, append_assoc}
use mathlib.Core.List.{IsPrefix}
use Rattle.cf_protocol.specs.LogEntry.{Entry}
use Rattle.cf_order.specs.Passes.{PassState}
use Rattle.cf_order.specs.Together.{Gains}
use Rattle.cf_order.proofs.Prefixes.{prefix_trans}

-- an entry that comes behind a log that begins with the old one
pub gains_append : (old log : List Entry) (e : Entry) → IsPrefix old log → Gains old (log ++ e ∷ []) e
gains_append old log e p = (p.0, [], ap (λ l. l ++ e ∷ []) (sym p.1))

-- it stays there
pub gains_more : (old new more : List Entry) (e : Entry) → Gains old new e → IsPrefix new more → Gains old more e
gains_more old new more e g p =
    (g.0, g.1 ++ p.0, sym p.1 ∙ (ap (λ l. l ++ p.0) g.2 ∙ append_assoc (old ++ g.0) (e ∷ g.1) p.0))

-- what a pass had seen begins what it sees once two that it lent came back
pub lent_begins : (pass one two : PassState) (mid new : List Entry) → one ≡ pass → two ≡ one → IsPrefix two.log mid
    → IsPrefix mid new → IsPrefix pass.log new
lent_begins pass one two mid new a b p q =
    prefix_trans pass.log mid new (subst (λ (x : PassState). IsPrefix x.log mid) (b ∙ a) p) q

-- what a lent pass gained, the lender has gained
pub lent_gains : (pass lent : List Entry) (new more : List Entry) (e : Entry) → lent ≡ pass → Gains lent new e
    → IsPrefix new more → Gains pass more e
lent_gains pass lent new more e is g p = gains_more pass new more e (subst (λ (l : List Entry). Gains l new e) is g) p
