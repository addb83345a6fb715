-- The moves of a hub's calls in notes, if between the notes other texts wait for the client, as a connect reply or
-- an answer about presence: they are none of the machine's, but they weigh. So a session may be closed as too slow
-- if its notes alone would have room. (This project's own profile.)
use Rattle.std.specs.Prelude.{◌≡◌, ◌⊎◌, ⊤, ℕ, Bool, Option, List, [], ◌∷◌}
use Rattle.cf_protocol.specs.Datum.{Placed}
use Rattle.cf_protocol.specs.Note.{Lists, Note, Reading}
use Rattle.cf_protocol.specs.Note as note
use Rattle.cf_protocol.specs.Position.{Position}
use Rattle.cf_protocol.specs.Regular.{IsCode}
use Rattle.cf_queue.specs.OutQueue.{Item, Text, Close}
use Rattle.cf_hub.specs.Alike.{AlikeSub}
use Rattle.cf_hub.specs.AlikeMoves.{Notes, Texts}
use Rattle.cf_hub.specs.Finish.{FinishesAt}
use Rattle.cf_hub.specs.InNotes.{AreMissed, IsListed, SaysNote}
use Rattle.cf_model.specs.Sessions.{begins, checks, closes_now, comes, finishes, leaves, opens, push, reads}
use Rattle.cf_model.specs.Sessions.{takes_front}
use Rattle.cf_model.specs.Sessions.{spoken}
use Rattle.cf_hub.specs.WantOfMemory.{OrCloses, Serves}
use Rattle.cf_hub.specs.Wordings.{at_offset, delivering, plain, reading}
use Rattle.cf_machine.specs.ClientLink.{finishes_over, finishes_amid}
use Rattle.cf_hub_moves.specs.Held.{IsHeld}

-- a text that says no note: which those are is for the caller to say
abbrev pub IsAside : (List ℕ → Type 0) → Item → Type 0
IsAside A (Text t) = A t
IsAside A (Close code) = ⊥

-- some of these say those, in order, and the others are asides
abbrev pub SaysSome : (List ℕ → Type 0) → Lists → List Item → List Note → Type 0
SaysSome A lists [] [] = ⊤
SaysSome A lists [] (n ∷ ns) = ⊥
SaysSome A lists (i ∷ is) [] = IsAside A i × SaysSome A lists is []
SaysSome A lists (i ∷ is) (n ∷ ns) =
    (SaysNote lists i n × SaysSome A lists is ns) ⊎ (IsAside A i × SaysSome A lists is (n ∷ ns))

pub record SaysAmong (A : List ℕ → Type 0) (lists : Lists) (a : Texts) (b : Notes) : Type 0 where
  pub subs : (c : List ℕ) → AlikeSub (IsHeld lists c) (a.subs c) (b.subs c)
  pub notes : SaysSome A lists a.notes b.notes
  pub closed : a.closed ≡ b.closed

abbrev pub KeepSaying : (List ℕ → Type 0) → Lists → (Texts → Texts) → (Notes → Notes) → Type 0
KeepSaying A lists f g = (a : Texts) (b : Notes) → SaysAmong A lists a b → SaysAmong A lists (f a) (g b)

-- the session of notes makes the move; or it is closed with some code first, and then makes it
abbrev pub MovesOrCloses : (List ℕ → Type 0) → Lists → (Notes → Notes) → Texts → Notes → Type 0
MovesOrCloses A lists g new b =
    SaysAmong A lists new (g b) ⊎ ((code : ℕ) × SaysAmong A lists new (g (closes_now (note.Close code) b)))

-- what a finish comes to: a finish; one as if more had arrived than are kept; one that is broken off; or the second,
-- and then the session is closed
abbrev pub FinishesAmong : (List ℕ → Type 0) → Lists → List ℕ → Texts → Notes → Type 0
FinishesAmong A lists c new b =
    SaysAmong A lists new (finishes (spoken lists) c b)
    ⊎ (SaysAmong A lists new (finishes_over (spoken lists) c b)
    ⊎ (((count : ℕ) × ((code : ℕ) × SaysAmong A lists new (finishes_amid (spoken lists) c count code b)))
    ⊎ ((code : ℕ) × SaysAmong A lists new (closes_now (note.Close code) (finishes_over (spoken lists) c b)))))

pub record MovesAmong (A : List ℕ → Type 0) (lists : Lists) : Type 0 where
  pub opens : SaysAmong A lists opens opens
  pub begins : (c : List ℕ) (id : ℕ) (since : Option Position) → IsCode id
      → KeepSaying A lists (begins plain c id since) (begins (spoken lists) c id since)
  pub leaves : (c : List ℕ) → KeepSaying A lists (leaves c) (leaves c)
  pub reads : (c : List ℕ) (r : Reading) (missed : List Placed) → AreMissed lists c r missed
      → KeepSaying A lists (reads (reading missed) c r) (reads (spoken lists) c r)
  pub closes : (code : ℕ) → KeepSaying A lists (closes_now (Close code)) (closes_now (note.Close code))
  -- what is taken is a note, or an aside
  pub takes : (a : Texts) (b : Notes) → SaysAmong A lists a b
      → SaysAmong A lists (takes_front a) (takes_front b) ⊎ SaysAmong A lists (takes_front a) b
  pub says : (hit : Bool) (i : Item) (n : Note) (a new : Texts) (b : Notes) → SaysNote lists i n
      → SaysAmong A lists a b
      → OrCloses hit plain (push plain i) a new → MovesOrCloses A lists (push (spoken lists) n) new b
  pub says_aside : (hit : Bool) (t : List ℕ) (a new : Texts) (b : Notes) → A t → SaysAmong A lists a b
      → OrCloses hit plain (push plain (Text t)) a new → MovesOrCloses A lists (λ v. v) new b
  pub checks : (hit : Bool) (c : List ℕ) (top : Option Position) (a new : Texts) (b : Notes) → SaysAmong A lists a b
      → OrCloses hit plain (checks plain c top) a new → MovesOrCloses A lists (checks (spoken lists) c top) new b
  pub delivers : (hit : Bool) (c e : List ℕ) (p : Placed) (a new : Texts) (b : Notes) → IsListed lists c e p
      → SaysAmong A lists a b
      → Serves hit (delivering p) c (comes (delivering p) c (at_offset e p)) a new
      → MovesOrCloses A lists (comes (spoken lists) c (at_offset e p)) new b
  pub finishes : (hit : Bool) (c : List ℕ) (a new : Texts) (b : Notes) → SaysAmong A lists a b
      → FinishesAt hit c (a.subs c) a new → FinishesAmong A lists c new b
