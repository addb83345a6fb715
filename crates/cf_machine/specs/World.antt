-- The broker, the nodes and all clients. A session stands with its client's link, and a node is a number that links
-- name.
use Rattle.std.specs.Prelude.{ℕ, suc, ◌+◌, ◌==◌, ◌&&◌, ◌||◌, not, Bool, false, if◌then◌else◌, is_some, Option, Some}
use Rattle.std.specs.Prelude.{None, List, [], ◌∷◌}
use Rattle.cf_protocol.specs.Names.{with}
use Rattle.cf_model.specs.Sessions.{is_off, is_unfinished}
use Rattle.cf_machine.specs.PublicationList.{Broker, new_broker}
use Rattle.cf_machine.specs.ClientLink.{ClientLink, no_link}
use Rattle.cf_machine.specs.Session.{Sub}

pub record World : Type 0 where
  pub broker : Broker
  -- by node: its boot number, and how many sessions it had in this boot
  pub boots : ℕ → ℕ
  pub counters : ℕ → ℕ
  -- the clients that ever connected, each once
  pub clients : List (List ℕ)
  -- by client
  pub links : List ℕ → ClientLink

-- the function, with one number's value changed
abbrev pub with_at : (ℕ → ℕ) → ℕ → ℕ → ℕ → ℕ
with_at f k v j = if j == k then v else f j

abbrev pub first_boot : ℕ → ℕ
first_boot n = 1

abbrev pub no_session : ℕ → ℕ
no_session n = 0

abbrev pub nobody : List ℕ → ClientLink
nobody x = no_link

abbrev pub start : World
start = record { broker = new_broker; boots = first_boot; counters = no_session; clients = []; links = nobody }

abbrev pub link_with : List ℕ → ClientLink → World → World
link_with x l w = record w { links = with w.links x l }

abbrev pub broker_with : Broker → World → World
broker_with b w = record w { broker = b }

abbrev pub on_node : ℕ → Option ℕ → Bool
on_node n None = false
on_node n (Some m) = m == n

-- how many of these channels are not off
abbrev pub count_on : (List ℕ → Sub) → List (List ℕ) → ℕ
count_on subs [] = 0
count_on subs (c ∷ cs) = if is_off (subs c) then count_on subs cs else suc (count_on subs cs)

-- how many channels a session has
abbrev pub rows : ClientLink → ℕ
rows l = count_on l.session.subs l.channels

-- how many sessions a node has, and how many subscriptions of all its sessions
abbrev pub sessions_of : ℕ → (List ℕ → ClientLink) → List (List ℕ) → ℕ
sessions_of n links [] = 0
sessions_of n links (x ∷ xs) =
    if on_node n (links x).node then suc (sessions_of n links xs) else sessions_of n links xs

abbrev pub rows_of : ℕ → (List ℕ → ClientLink) → List (List ℕ) → ℕ
rows_of n links [] = 0
rows_of n links (x ∷ xs) =
    if on_node n (links x).node then rows (links x) + rows_of n links xs else rows_of n links xs

abbrev pub is_connected : List ℕ → World → Bool
is_connected x w = is_some (w.links x).node

-- whether one of these channels waits for its reply
abbrev pub any_unfinished : (List ℕ → Sub) → List (List ℕ) → Bool
any_unfinished subs [] = false
any_unfinished subs (c ∷ cs) = is_unfinished (subs c) || any_unfinished subs cs

-- A client is ready if it is connected and its session has no unfinished subscription: commands are carried out in
-- order.
abbrev pub is_ready : ClientLink → Bool
is_ready l = is_some l.node && not (any_unfinished l.session.subs l.channels)
