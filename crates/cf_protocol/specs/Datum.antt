-- What contracts see of a publication. It is the compact text of its data, and by which client it was, if by one.
use Rattle.std.specs.Prelude.{ℕ, ◌+◌, List, [], ◌∷◌, Option, refl}
use Rattle.std.specs.Coded.{Coded, code_by, coded×, coded_list, coded_ℕ, coded_option}

-- the bytes of a user's name and of a client's id
pub record Who : Type 0 where
  pub user : List ℕ
  pub client : List ℕ

-- what was published: the compact text of its data, and by which client, if by one
pub record Datum : Type 0 where
  pub body : List ℕ
  pub info : Option Who

-- a datum at its offset
pub record Placed : Type 0 where
  pub offset : ℕ
  pub datum : Datum

-- the data at the offsets after o, one after another
abbrev pub numbered : ℕ → List Datum → List Placed
numbered o [] = []
numbered o (d ∷ ds) = record { offset = o + 1; datum = d } ∷ numbered (o + 1) ds

-- how these are stored in the values of other models
abbrev pub coded_who : Coded Who
coded_who =
    code_by (List ℕ × List ℕ) (coded× (coded_list coded_ℕ) (coded_list coded_ℕ))
    (λ w. (w.user, w.client)) (λ p. record { user = p.0; client = p.1 }) (λ _. refl)

abbrev pub coded_datum : Coded Datum
coded_datum =
    code_by (List ℕ × Option Who) (coded× (coded_list coded_ℕ) (coded_option coded_who))
    (λ d. (d.body, d.info)) (λ p. record { body = p.0; info = p.1 }) (λ _. refl)
