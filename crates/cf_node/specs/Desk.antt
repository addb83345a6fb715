-- What becomes of a text that a client sent, in the turn in which it is heard and in those after it.
-- (Centrifugo's client protocol: commands are carried out in order.)
use Rattle.std.specs.Prelude.{◌≡◌, ◌==◌, ◌&&◌, ◌++◌, not, ℕ, Bool, true, false, Option, Some, None, List, [], ◌∷◌}
use Rattle.cf_session.specs.Standing.{is_idle, met_refused_memory, progress_of, tables_of}
use Rattle.cf_session.specs.declared.session.Session.{Session}
use Rattle.cf_protocol.specs.Settings.{NamespaceTable}
use Rattle.cf_session.specs.Played.{Goes, LeadsOn}
use Rattle.cf_node.specs.Answered.{IsDone}
use Rattle.cf_queue.specs.declared.queue.Out.{Out}
use Rattle.cf_queue.specs.declared.queue.Out.TheVariants as out
use Rattle.cf_dispatch.specs.Outlet.{Boxed, is_for}

module _ {C : Type 0} (t : NamespaceTable) (closed : C → Bool) where
  -- Unless memory was refused to the session, the text is on its way: its script is played, action by action, by who
  -- carries it out, with what its calls answer, and after the close nothing of it.
  abbrev pub Hears : Session → C → List ℕ → Session → C → Type 0
  Hears old before text new after =
      met_refused_memory new ≡ false
      → Goes closed (λ _ act a _. IsDone t act a) (tables_of old) (progress_of old) before text (progress_of new) after

  -- Unless memory was refused, what was on its way goes on so.
  abbrev pub CarriesOn : Session → C → Session → C → Type 0
  CarriesOn old before new after =
      met_refused_memory new ≡ false → LeadsOn closed (λ _ act a _. IsDone t act a) (progress_of old) before
      (progress_of new) after

-- A desk hears a text where it is to hear in this turn, a unit of the turn's budget is left, and the session is idle
-- and not over.
abbrev pub is_ready : Bool → ℕ → Bool → Session → Bool
is_ready hears left over session = hears && not (left == 0) && not over && is_idle session

-- if it may, this was taken for session k, and stands behind what was taken for it before
abbrev pub TakesIf : Bool → ℕ → Boxed → Boxed → Type 0
TakesIf false k had has = has ≡ had
TakesIf true k had has = (has.session ≡ Some k) × (came : List Out) × (has.outs.items ≡ had.outs.items ++ came)

-- Nothing is taken without a session of its own, nor into what was taken for another.
abbrev pub TakesOwn : Option ℕ → Boxed → Boxed → Type 0
TakesOwn None had has = has ≡ had
TakesOwn (Some k) had has = TakesIf (is_for k had) k had has

-- more stands behind what was taken for a client before, all of which is still there
pub record Grows (had has : List Out) : Type 0 where
  pub came : List Out
  pub gained : has ≡ had ++ came

-- What goes out is the front of what was taken before, which then has the rest; if nothing was, the code of a close
-- that came before there was a session; else it is of what is taken now.
abbrev pub HandsOut : List Out → Option ℕ → Option Out → List Out → Type 0
HandsOut (x ∷ rest) code result has = (result ≡ Some x) × (has ≡ rest)
HandsOut [] (Some code) result has = (result ≡ Some (out.Close code)) × (has ≡ [])
HandsOut [] None result has = result ≡ None → has ≡ []
