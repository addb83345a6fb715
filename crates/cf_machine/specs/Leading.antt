-- What waits for a live client leads from its position to its node's, publication by publication.
use Rattle.std.specs.Prelude.{◌≡◌, ℕ, ◌≤◌, Bool, true, false, Option, Some, None, List, [], ◌∷◌, ◌++◌}
use Rattle.std.specs.Str.{bytes_eq}
use Rattle.cf_protocol.specs.Position.{Position}
use Rattle.cf_protocol.specs.Note.{Note, Reply, Pub, End, Fails, Put as Accepted, Left, Listed, PingDue, Close}
use Rattle.cf_model.specs.Recovery.{next}
use Rattle.cf_model.specs.Sessions.{On}
use Rattle.cf_model.specs.Clients.{Mode, Idle, Asking, Live}
use Rattle.cf_machine.specs.ClientLink.{ClientLink}
use Rattle.cf_machine.specs.Session.{Sub}

-- what is on its way to the client, in order: what left the node, then what waits there
abbrev pub coming : ClientLink → List Note
coming l = l.way ++ l.session.notes

-- the first fact if the test holds, else the second
abbrev pub if_same : Bool → Type 0 → Type 0 → Type 0
if_same true A B = A
if_same false A B = B

-- The publications of c that are coming follow p one by one, up to where the node's side stands, or to an end or a
-- close.
abbrev pub Lead : List ℕ → Position → List Note → Sub → Type 0
Lead c p [] (On q behind_at) = p ≡ q
Lead c p [] s = ⊥
Lead c p (Pub d q ∷ ns) s = if_same (bytes_eq d c) ((q ≡ next p) × Lead c q ns s) (Lead c p ns s)
Lead c p (End d ∷ ns) s = if_same (bytes_eq d c) (Unit {0}) (Lead c p ns s)
Lead c p (Close code ∷ ns) s = Unit {0}
Lead c p (Reply d k was r ∷ ns) s = Lead c p ns s
Lead c p (Fails d k code ∷ ns) s = Lead c p ns s
Lead c p (Accepted k ∷ ns) s = Lead c p ns s
Lead c p (Left k ∷ ns) s = Lead c p ns s
Lead c p (Listed d k at low count ∷ ns) s = Lead c p ns s
Lead c p (PingDue ∷ ns) s = Lead c p ns s

abbrev pub LeadsOn : List ℕ → Mode → List Note → Sub → Type 0
LeadsOn c (Idle last) ns s = Unit {0}
LeadsOn c (Asking id from last) ns s = Unit {0}
LeadsOn c (Live p) ns s = Lead c p ns s

-- a position is not above the list of its epoch
abbrev pub IsListed : (List ℕ → ℕ) → Option Position → Type 0
IsListed top None = Unit {0}
IsListed top (Some p) = p.offset ≤ top p.epoch
