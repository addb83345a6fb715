-- The rule of a shard's word: what holds of the word and of all views between any two steps. (This project's own
-- profile.)
use Rattle.std.specs.Prelude.{◌≡◌, ℕ, ◌+◌, true, List, [], ◌∷◌, length}
use mathlib.Core.Option.{some}
use mathlib.Core.List.{IsPrefix}
use lib.ListN.{get_elem?}
use Rattle.cf_protocol.specs.LogEntry.{Entry}
use Rattle.cf_order.specs.Passes.{published}
use Rattle.cf_order.specs.View.{View}

-- what the views hold for their own, added up
abbrev pub shares : List View → ℕ
shares [] = 0
shares (v ∷ vs) = v.share + shares vs

-- what one view has to do with the log: only the owner's seat owns, and has it whole; what a view has seen is a
-- beginning of what it was told of, and that is one of the log
pub record Fits (seat : ℕ) (log : List Entry) (id : ℕ) (v : View) : Type 0 where
  pub owns : v.owns ≡ true → (id ≡ seat) × (v.log ≡ log)
  pub seen : IsPrefix v.log v.found
  pub found : IsPrefix v.found log
  pub met : IsPrefix v.met v.found

-- the seat has the owner's view, which has this log
pub record HasOwner (views : List View) (seat : ℕ) (log : List Entry) : Type 0 where
  pub top : View
  pub there : get_elem? views seat ≡ some top
  pub owns : top.owns ≡ true
  pub whole : top.log ≡ log

-- the word is the length of the owner's log, the shares of all views add up to its publishes, and each view fits it
pub record IsOneLog (words : List ℕ) (views : List View) : Type 0 where
  pub seat : ℕ
  pub log : List Entry
  pub owner : HasOwner views seat log
  pub word : words ≡ length log ∷ []
  pub shared : shares views ≡ published log
  pub fits : (id : ℕ) (v : View) → get_elem? views id ≡ some v → Fits seat log id v
