-- What is done in a hub for a client's own session.
use Rattle.std.proofs.Common.{◌≡◌, ℕ, Option, Some, None, List}
use Rattle.cf_protocol.specs.Position.{Position}
use Rattle.cf_queue.specs.declared.queue.Out.{Out}
use Rattle.cf_hub.specs.Hub.{Begins, Node, Opens, OthersStay, attached_at}
use Rattle.cf_dispatch.specs.Outlet.{Takes}
use Rattle.cf_node.specs.Own.{BeginsOwn, MovesOwn, OpensOwn, SparesOthers, ToOwn}

pub to_own : (befalls : ℕ → Node → Node → Type 0) (own : Option ℕ) (k : ℕ) (old new : Node) → own ≡ Some k
    → befalls k old new → ToOwn befalls own old new
to_own befalls own k old new is done = rw is done

pub begins_own : (own : Option ℕ) (k : ℕ) (c : List ℕ) (id : ℕ) (since : Option Position) (old new : Node)
    → own ≡ Some k → Begins k c id since old new → BeginsOwn own c id since old new
begins_own own k c id since old new is begins = rw is begins

pub opens_own : (own : Option ℕ) (k : ℕ) (user : List ℕ) (now : ℕ) (old new : Node)
    → own ≡ Some k → Opens k user now old new → OpensOwn own user now old new
opens_own own k user now old new is opens = rw is opens

pub moves_own : (own : Option ℕ) (k : ℕ) (old new : Node) (had has : List Out)
    → own ≡ Some k → Takes k old new had has → MovesOwn own old new had has
moves_own own k old new had has is takes = rw is takes

pub spares_others : (own : Option ℕ) (k : ℕ) (old new : Node) → own ≡ Some k → OthersStay k old new
    → SparesOthers own old new
spares_others own k old new is others = rw is others

-- the sessions of all stay
pub spares_all : (own : Option ℕ) (old new : Node) → ((j : ℕ) → attached_at new j ≡ attached_at old j)
    → SparesOthers own old new
spares_all None old new same = same
spares_all (Some k) old new same = λ j other. same j
