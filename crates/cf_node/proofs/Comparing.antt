-- What a test tells of the two values that it compares, if it passes.
use Rattle.std.proofs.Common.{◌≡◌, ◌∙◌, ℕ, Bool, true, Option, Some, None, List, nat_eq, ap, refl, rules, sym, tests}
use Rattle.std.specs.Cmp.Lexicographic.{bytes_decides}
use Rattle.std.specs.Option.{option_eq}
use Rattle.std.specs.Str.{bytes_eq}
use Rattle.cf_protocol.specs.Position.{Position}
use Rattle.cf_protocol.specs.contracts.position.PositionPartialEq.TheImpl.{eq-value}

same_options : {T : Type 0} (test : T → T → Bool) (exact : (x y : T) → test x y ≡ true → x ≡ y) (r : Bool)
    (a b : Option T) → r ≡ option_eq test a b → r ≡ true → a ≡ b
same_options test exact r None None is passed = refl
same_options test exact r None (Some y) is passed = absurd (cc)
same_options test exact r (Some x) None is passed = absurd (cc)
same_options test exact r (Some x) (Some y) is passed = ap Some (exact x y (sym is ∙ passed))

pub same_numbers : (r : Bool) (a b : Option ℕ) → r ≡ option_eq nat_eq a b → r ≡ true → a ≡ b
same_numbers = same_options nat_eq (λ x y passed. search (tests, rules))

pub same_positions : (r : Bool) (a b : Option Position) → r ≡ option_eq eq-value.it a b → r ≡ true → a ≡ b
same_positions = same_options eq-value.it (λ x y passed. search (tests, rules))

pub same_texts : (r : Bool) (a b : List ℕ) → r ≡ bytes_eq a b → r ≡ true → a ≡ b
same_texts r a b is passed = (bytes_decides a b).0 (sym is ∙ passed)
