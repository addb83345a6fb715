-- Those who wait for a turn, in the order in which they will have it. (This project's own profile.)
use Rattle.std.specs.Prelude.{◌≡◌, ◌==◌, ◌||◌, ℕ, Bool, false, if◌then◌else◌, Option, Some, None}
use Rattle.std.specs.Prelude.{List, [], ◌∷◌, get_or}
use Rattle.std.specs.declared.cmp.Ordering.{Ordering}
use Rattle.std.specs.Ordering.{is_gt, nat_cmp, ordering_then}
use Rattle.std.specs.BTreeSet.{insert_key}

-- a slot that waits: when it is due, the number under which it came, and the slot
abbrev pub Ticket : Type 0
Ticket = ℕ × ℕ × ℕ

-- who is due earlier comes first, and of those who are due together who came first
abbrev pub ticket_cmp : Ticket → Ticket → Ordering
ticket_cmp t u = ordering_then (ordering_then (nat_cmp t.0 u.0) (nat_cmp t.1 u.1)) (nat_cmp t.2 u.2)

-- these, with one more at its place in the order
abbrev pub with_ticket : Ticket → List Ticket → List Ticket
with_ticket t ts = insert_key ticket_cmp ts t

-- whether slot k waits
abbrev pub is_there : ℕ → List Ticket → Bool
is_there k [] = false
is_there k (t ∷ ts) = (t.2 == k) || is_there k ts

-- these, without slot k
abbrev pub without : ℕ → List Ticket → List Ticket
without k [] = []
without k (t ∷ ts) = if t.2 == k then ts else t ∷ without k ts

-- each slot waits once
abbrev pub AreOnce : List Ticket → Type 0
AreOnce [] = Unit {0}
AreOnce (t ∷ ts) = (is_there t.2 ts ≡ false) × AreOnce ts

-- none of these comes before t
abbrev pub IsFirst : Ticket → List Ticket → Type 0
IsFirst t [] = Unit {0}
IsFirst t (u ∷ us) = (is_gt (ticket_cmp t u) ≡ false) × IsFirst t us

-- when slot k is due and its number, if it waits
abbrev pub key_of : ℕ → List Ticket → Option (ℕ × ℕ)
key_of k [] = None
key_of k (t ∷ ts) = if t.2 == k then Some (t.0, t.1) else key_of k ts

abbrev pub key_at : List (Option (ℕ × ℕ)) → ℕ → Option (ℕ × ℕ)
key_at keys k = get_or keys k None

-- how a lane is kept: by slot, when it is due and under which number it waits
pub record AreKept (tickets : List Ticket) (keys : List (Option (ℕ × ℕ))) : Type 0 where
  pub once : AreOnce tickets
  pub kept : (k : ℕ) → key_of k tickets ≡ key_at keys k
