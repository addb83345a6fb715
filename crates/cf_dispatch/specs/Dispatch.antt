-- What a dispatcher does with what comes over its link. (This project's own profile.)
use Rattle.std.specs.Prelude.{◌≡◌, ◌+◌, ◌==◌, not, Bool, true, false, Option, Some, None, List, [], ◌∷◌}
use Rattle.cf_hub.specs.declared.delivered.Delivered.{Delivered}

-- a client got something by a delivery: the publication, that its subscription ended, or a close
abbrev pub stirs : Delivered → Bool
stirs d = not (d.passed + d.ended + d.closed == 0)

module _ {P L : Type 0} (receives : P → Option L → P → Type 0)
    (brings : P → L → Delivered → P → Type 0)
    (wakes : P → P → Type 0) where
  -- it is woken, if so
  abbrev pub WakesIf : Bool → P → P → Type 0
  WakesIf true p q = wakes p q
  WakesIf false p q = q ≡ p

  -- a publication is brought to the hub, and the IO loop is woken where a client got something by it
  pub record Forwards (d : L) (p q : P) : Type 0 where
    pub delivered : Delivered
    pub brought : P
    pub bringing : brings p d delivered brought
    pub waking : WakesIf (stirs delivered) brought q

  -- so is what came, if something did
  abbrev pub ForwardsIf : Option L → P → P → Type 0
  ForwardsIf None p q = q ≡ p
  ForwardsIf (Some d) p q = Forwards d p q

  -- one delivery, in which this came, or nothing did
  pub record PassesOn (came : Option L) (p q : P) : Type 0 where
    pub received : P
    pub receiving : receives p came received
    pub forwarding : ForwardsIf came received q

  abbrev pub Delivers : P → P → Type 0
  Delivers p q = (came : Option L) × PassesOn came p q

  -- deliveries one after another, the newest first
  abbrev pub Dispatched : List (Option L) → P → P → Type 0
  Dispatched [] p q = q ≡ p
  Dispatched (came ∷ before) p q = (mid : P) × Dispatched before p mid × PassesOn came mid q

  -- some deliveries
  abbrev pub Dispatches : P → P → Type 0
  Dispatches p q = (came : List (Option L)) × Dispatched came p q
