-- A node's sessions, each at the place of its number.
use Rattle.std.specs.Prelude.{ℕ, suc, List, [], ◌∷◌, Option, Some, None, map, option_map, slice_index_or, Box}
use Rattle.std.specs.declared.alloc.Global.{Global}
use Rattle.cf_hub.specs.declared.session.AttachedSession.{AttachedSession}

abbrev pub Places : Type 0
Places = List (Option AttachedSession)

-- the session of number k, if there is one
abbrev pub session_in : Places → ℕ → Option AttachedSession
session_in ps k = slice_index_or ps k None

-- each session beside its number, in order, if the first place is that of number n
abbrev pub numbered : ℕ → Places → List (ℕ × AttachedSession)
numbered n [] = []
numbered n (None ∷ ps) = numbered (suc n) ps
numbered n (Some s ∷ ps) = (n, s) ∷ numbered (suc n) ps

-- what stands in the boxes
abbrev pub unboxed : Option (Box AttachedSession Global) → Option AttachedSession
unboxed o = option_map (λ b. b.value) o

abbrev pub unboxed_all : List (Option (Box AttachedSession Global)) → Places
unboxed_all os = map unboxed os
