-- What a session of texts does, a session of notes that it says does too: by move, and by call of the hub.
use Rattle.std.specs.Prelude.{◌≡◌, ◌≢◌, ℕ, false, Option, List}
use Rattle.cf_protocol.specs.Datum.{Placed}
use Rattle.cf_protocol.specs.Note.{Lists, Note, Reading}
use Rattle.cf_protocol.specs.Note as note
use Rattle.cf_protocol.specs.Position.{Position}
use Rattle.cf_protocol.specs.Regular.{IsCode}
use Rattle.cf_queue.specs.OutQueue.{Item, Close}
use Rattle.cf_hub.specs.Finish.{FinishesAt}
use Rattle.cf_hub.specs.Hub.{Delivers, Meets, Node, One, Opens, OthersStay, attached_at, sub_at}
use Rattle.cf_hub.specs.InNotes.{AreMissed, IsListed, SaysAt, SaysNote, SaysSession}
use Rattle.cf_model.specs.Sessions.{SessionState, begins, checks, closes_now, comes, finishes, leaves, opens, push}
use Rattle.cf_model.specs.Sessions.{reads, takes_front}
use Rattle.cf_model.specs.Sessions.{spoken}
use Rattle.cf_hub.specs.WantOfMemory.{OrCloses}
use Rattle.cf_hub.specs.Wordings.{Held, at_offset, delivering, plain, reading}

abbrev pub Texts : Type 0
Texts = SessionState Held Item

abbrev pub Notes : Type 0
Notes = SessionState (List Position) Note

-- the two moves keep what a session says
abbrev pub AreAlike : Lists → (Texts → Texts) → (Notes → Notes) → Type 0
AreAlike lists f g = (a : Texts) (b : Notes) → SaysSession lists a b → SaysSession lists (f a) (g b)

pub record MovesAreAlike (lists : Lists) : Type 0 where
  pub opens : SaysSession lists opens opens
  pub begins : (c : List ℕ) (id : ℕ) (since : Option Position) → IsCode id
      → AreAlike lists (begins plain c id since) (begins (spoken lists) c id since)
  pub leaves : (c : List ℕ) → AreAlike lists (leaves c) (leaves c)
  pub reads : (c : List ℕ) (r : Reading) (missed : List Placed) → AreMissed lists c r missed
      → AreAlike lists (reads (reading missed) c r) (reads (spoken lists) c r)
  pub comes : (c e : List ℕ) (p : Placed) → IsListed lists c e p
      → AreAlike lists (comes (delivering p) c (at_offset e p)) (comes (spoken lists) c (at_offset e p))
  pub finishes : (c : List ℕ) (a new : Texts) (b : Notes) → SaysSession lists a b
      → FinishesAt false c (a.subs c) a new → SaysSession lists new (finishes (spoken lists) c b)
  pub checks : (c : List ℕ) (top : Option Position)
      → AreAlike lists (checks plain c top) (checks (spoken lists) c top)
  pub says : (i : Item) (n : Note) → SaysNote lists i n → AreAlike lists (push plain i) (push (spoken lists) n)
  pub closes : (code : ℕ) → AreAlike lists (closes_now (Close code)) (closes_now (note.Close code))
  pub takes : AreAlike lists takes_front takes_front

-- ---- calls of the hub that met no refused request for memory: session k said b before

-- it says what the move makes of that
abbrev pub GoesOn : Lists → ℕ → (Notes → Notes) → Node → Node → Type 0
GoesOn lists k g old new = (b : Notes) → SaysAt lists (attached_at old k) b → SaysAt lists (attached_at new k) (g b)

pub record CallsAreAlike (lists : Lists) : Type 0 where
  pub attaches : (k now : ℕ) (user : List ℕ) (old new : Node) → Opens k user now old new
      → SaysAt lists (attached_at new k) opens
  pub one : (k : ℕ) (f : Texts → Texts) (g : Notes → Notes) (old new : Node) → AreAlike lists f g
      → One k f old new
      → GoesOn lists k g old new
  pub delivers : (c e : List ℕ) (p : Placed) (old new : Node) → IsListed lists c e p → Delivers c e p old new
      → new.refused ≡ 0
      → (k : ℕ) → GoesOn lists k (comes (spoken lists) c (at_offset e p)) old new
  pub finishes : (k : ℕ) (c : List ℕ) (old new : Node)
      → Meets k (λ hit. FinishesAt hit c (sub_at old k c)) old new
      → new.refused ≡ 0
      → GoesOn lists k (finishes (spoken lists) c) old new
  pub meets : (k : ℕ) (f : Texts → Texts) (g : Notes → Notes) (old new : Node) → AreAlike lists f g
      → Meets k (λ hit. OrCloses hit plain f) old new → new.refused ≡ 0 → GoesOn lists k g old new
  pub others : (k j : ℕ) (old new : Node) → OthersStay k old new → j ≢ k → GoesOn lists j (λ b. b) old new
