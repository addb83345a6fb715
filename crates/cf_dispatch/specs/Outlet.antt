-- What is taken from a node's hub for a client. (This project's own profile.)
use Rattle.std.specs.Prelude.{◌≡◌, ◌≤◌, ◌==◌, ◌+◌, ◌&&◌, ◌⊎◌, ℕ, Bool, true, false, ◌++◌, List, length, map, Option}
use Rattle.std.specs.Prelude.{Some, None, option_map}
use Rattle.std.specs.Prelude.{sum_by}
use Rattle.std.specs.Global.{Global}
use Rattle.std.specs.VecDeque.{deque_capacity, deque_len}
use Rattle.std.specs.declared.collections.VecDeque.{VecDeque}
use Rattle.cf_queue.specs.Meaning.{meaning}
use Rattle.cf_queue.specs.OutQueue.{Item}
use Rattle.cf_queue.specs.declared.queue.Out.{Out}
use Rattle.cf_queue.specs.declared.queue.Out.TheVariants as out
use Rattle.cf_hub.specs.Hub.{Node, OthersStay, attached_at, moves, waits_in}
use Rattle.cf_hub.specs.Session.{Attached}
use Rattle.cf_dispatch.specs.declared.outlet.Taken.{Taken}
use Rattle.cf_dispatch.specs.declared.outlet.Taken.TheVariants.{All, Blocked, Limit, Memory}

-- what waits in the hub for the client of session k
abbrev pub waits_at : Node → ℕ → List Item
waits_at h k = waits_in (attached_at h k)

-- the session, with this left of what waits for its client
abbrev pub left_with : List Item → Attached → Attached
left_with items = moves (λ s. record s { notes = items })

-- Some of what waits for session k was taken, the first first, and stands behind what was taken before. All else is
-- as it was.
pub record Takes (k : ℕ) (old new : Node) (had has : List Out) : Type 0 where
  pub taken : List Out
  pub gained : has ≡ had ++ taken
  pub waited : waits_at old k ≡ map meaning taken ++ waits_at new k
  pub here : attached_at new k ≡ option_map (left_with (waits_at new k)) (attached_at old k)
  pub others : OthersStay k old new
  pub turns : new.turns ≡ old.turns

-- how many bytes of text it has
abbrev pub bytes_in : Out → ℕ
bytes_in (out.Text text) = length text
bytes_in (out.Close code) = 0

-- so many bytes of texts are taken at once, or as many items
abbrev pub most_taken : ℕ
most_taken = 65536

-- so much was taken
abbrev pub IsAtLimit : List Out → List Out → Type 0
IsAtLimit had has =
    (sum_by bytes_in had + most_taken ≤ sum_by bytes_in has) ⊎ (length had + most_taken ≤ length has)

-- what was taken for a client and isn't sent yet, with the room that there is for it
abbrev pub Outs : Type 0
Outs = VecDeque Out Global

-- the session of which that is, once something was taken for one, and what was taken
pub record Boxed : Type 0 where
  pub session : Option ℕ
  pub outs : Outs

-- it is of session k, or of none yet
abbrev pub is_own : ℕ → Option ℕ → Bool
is_own k None = true
is_own k (Some own) = own == k

abbrev pub is_for : ℕ → Boxed → Bool
is_for k b = is_own k b.session

-- what waits for session k is taken into it where the wire is free and it isn't another's
abbrev pub may_take : ℕ → Bool → Boxed → Bool
may_take k is_free b = is_free && is_for k b

-- there is no room for one more
abbrev pub IsFull : Outs → Type 0
IsFull has = deque_capacity has ≤ deque_len has

-- the room isn't less
abbrev pub KeepsRoom : Outs → Outs → Type 0
KeepsRoom had has = deque_capacity had ≤ deque_capacity has

-- more may wait where a taking ended so
abbrev pub leaves_more : Taken → Bool
leaves_more All = false
leaves_more Limit = true
leaves_more Memory = true
leaves_more Blocked = true
