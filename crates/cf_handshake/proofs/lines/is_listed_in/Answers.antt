-- The loop keeps that the part begun and the bytes left answer as the whole list does; a comma ends a part.
use Rattle.std.proofs.Common.{◌≡◌, ℕ, ◌+◌, ◌-◌, ◌<◌, ◌≤◌, false, ◌==◌, List, length, get_or, take, drop, refl, ◌∙◌}
use Rattle.std.proofs.Common.{arith, length-drop, get_or-drop}
use Rattle.std.specs.List.{list_any}
use Rattle.std.proofs.lemmas.List.{drop_more, take_more}
use Rattle.std.proofs.lemmas.Bool.Decides.{nat_tests}
use Rattle.cf_handshake.specs.declared.lines.Case.{Case}
use Rattle.cf_handshake.specs.Lines.{is_item, listed_in, parts_from}
use Rattle.cf_handshake.proofs.lines.is_listed_in.Goals as goal
use Rattle.cf_handshake.proofs.lines.is_listed_in.Goals.{then-list-i-eq44+else-is_item, else-list-i-eq44}

-- at a comma a new part begins
at_comma : (case : Case) (item part bs : List ℕ) (i : ℕ) → i < length bs → get_or bs i 0 ≡ 44
    → is_item case item part ≡ false
    → list_any (is_item case item) (parts_from part (drop i bs))
    ≡ list_any (is_item case item) (parts_from (take (i + 1 - (i + 1)) (drop (i + 1) bs)) (drop (i + 1) bs))
at_comma case item part bs i inside comma other =
    let none : i + 1 - (i + 1) ≡ 0 = omega arith in rw (drop_more bs i 0 inside, comma, other, none) refl

-- any other byte extends the part
in_part : (case : Case) (item bs : List ℕ) (start i : ℕ) → start ≤ i → i < length bs → (get_or bs i 0 == 44) ≡ false
    → list_any (is_item case item) (parts_from (take (i - start) (drop start bs)) (drop i bs))
    ≡ list_any (is_item case item) (parts_from (take (i + 1 - start) (drop start bs)) (drop (i + 1) bs))
in_part case item bs start i ordered inside test =
    let more : i + 1 - start ≡ i - start + 1 = omega arith in
    let back : start + (i - start) ≡ i = omega arith in
    rw (
      drop_more bs i 0 inside,
      test,
      more,
      take_more (drop start bs) (i - start) 0
          (omega (arith, length-drop start bs)),
      get_or-drop,
      back,
    ) refl

pub loop-i-init : goal.loop-i-init
unfolding listed_in
loop-i-init c = (omega arith, refl)

pub loop-i-preserved : goal.loop-i-preserved
loop-i-preserved c =
    elim c.if-list-i-eq44.branch [
      | then-list-i-eq44+else-is_item w ↦
          rw w.start-is (
            omega arith,
            c.loop-i.invariant.1
                ∙ at_comma _ _ _ c.args.list.now c.loop-i.i (omega arith) (grind (arith, nat_tests)) (grind arith),
          )
      | else-list-i-eq44 w ↦
          rw w.start-is (
            omega arith,
            c.loop-i.invariant.1
                ∙ in_part _ _ c.args.list.now c.loop-i.start c.loop-i.i c.loop-i.invariant.0 (omega arith)
                (grind (arith, nat_tests)),
          )
    ]
