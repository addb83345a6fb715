-- A stream whose writes are gathered.
use Rattle.std.specs.Prelude.{ℕ, List, Option, refl}
use Rattle.std.specs.Coded.{Coded, code_by, coded×, coded_ℕ, coded_list}
use Rattle.std.specs.Io.KnownBytes.{append_known}

-- the stream, the bytes that wait to be written to it, and how many may wait before they are
pub record Gathered (S : Type 0) : Type 0 where
  pub stream : S
  pub waiting : List ℕ
  pub limit : ℕ

module _ {S : Type 0} where
  abbrev pub gathered_code : Coded S → Coded (Gathered S)
  gathered_code code =
      code_by (S × (List ℕ × ℕ)) (coded× code (coded× (coded_list coded_ℕ) coded_ℕ))
      (λ g. (g.stream, (g.waiting, g.limit))) (λ p. record { stream = p.0; waiting = p.1.0; limit = p.1.1 })
      (λ _. refl)

  -- all that was written: what is on the stream, and then what waits
  abbrev pub written : (S → Option (List ℕ)) → Gathered S → Option (List ℕ)
  written contents g = append_known (contents g.stream) g.waiting
