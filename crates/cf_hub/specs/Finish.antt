-- What a finish makes of a session.
use Rattle.std.specs.Prelude.{◌≡◌, ℕ, Bool, List}
use Rattle.cf_protocol.specs.Datum.{Placed}
use Rattle.cf_protocol.specs.Note.{Reading}
use Rattle.cf_queue.specs.OutQueue.{Item}
use Rattle.cf_recovery.specs.ArrivalBuffer.{IsRun}
use Rattle.cf_model.specs.Sessions.{Subscription, Off, Asked, Ready, On, SessionState, finish_notes, finished}
use Rattle.cf_model.specs.Sessions.{put_sub}
use Rattle.cf_hub.specs.WantOfMemory.{SaysAll}
use Rattle.cf_hub.specs.Wordings.{Held, releasing}

-- The run is what was kept behind the reply's position. If no memory is refused b is `finishes (releasing run) c a`.
pub record Finishes (refused : Bool) (c : List ℕ) (id : ℕ) (was : Bool) (r : Reading) (h : Held)
    (a b : SessionState Held Item) : Type 0 where
  pub run : List Placed
  pub is_run : IsRun h.kept (record { epoch = r.epoch; offset = r.top }) run
  pub said : SaysAll refused (releasing run) (finish_notes (releasing run) c id was r h)
      (put_sub c (finished (releasing run) r h) a) b

-- nothing changes if there is nothing to finish
abbrev pub FinishesAt : Bool → List ℕ → Subscription Held → SessionState Held Item → SessionState Held Item
    → Type 0
FinishesAt refused c Off a b = b ≡ a
FinishesAt refused c (Asked id since h) a b = b ≡ a
FinishesAt refused c (Ready id was r h) a b = Finishes refused c id was r h a b
FinishesAt refused c (On at behind_at) a b = b ≡ a
