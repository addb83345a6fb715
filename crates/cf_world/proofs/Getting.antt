-- What a slice lends at a place.
use Rattle.std.proofs.Common.{◌≡◌, ℕ, Option, Some, None, List, length, get_or, slice_get, refl, sym}
use Rattle.std.specs.Borrow.{Bor}
use Rattle.std.proofs.Math.Dec.{ltb}
use Rattle.std.specs.Option.{option_copied, is_some, IfSome}
use Rattle.std.proofs.lemmas.Option.{slice_get_past, slice_get_read}
use Rattle.std.proofs.lemmas.Bool.{ltb-true, ltb-false}

pub copied_get : {A : Type 0} (r : Option (Bor A)) (xs : List A) (i : ℕ) → is_some r ≡ ltb i (length xs)
    → IfSome r (λ x. x.now ≡ get_or xs i x.now) → slice_get xs i ≡ option_copied r
copied_get None xs i e h = slice_get_past xs i (ltb-false i (length xs) (sym e))
copied_get (Some x) xs i e h = slice_get_read xs (length xs) i x.now refl (ltb-true i (length xs) (sym e)) h
