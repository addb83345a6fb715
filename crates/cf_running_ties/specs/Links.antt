-- What is sent on the links of the nodes and received from them, beside what waits on the links of the running server.
-- (This project's own profile.)
use Rattle.std.specs.Prelude.{◌≡◌, ◌⊎◌, ℕ, zero, suc, Bool, true, false, if◌then◌else◌, Some, List, [], ◌∷◌, ◌++◌}
use Rattle.std.specs.List.{AllZip}
use Rattle.cf_protocol.specs.Datum.{Datum}
use Rattle.cf_protocol.specs.LogEntry.{Entry}
use Rattle.cf_protocol.specs.LogEntry.Entry.{Publish}
use Rattle.cf_stream.specs.declared.answer.Published.{Published}
use Rattle.cf_hub.specs.InNotes.{IsListed}
use Rattle.cf_machine.specs.PublicationList.{Place}
use Rattle.cf_machine.specs.ReadBack.{IsDatum}
use Rattle.cf_shard.specs.Delivery.{Carried, IsNext, Left}
use Rattle.cf_shard.specs.LogAnswer.{IsPublished}
use Rattle.cf_running.specs.Server.{Delivers, Offers, Section, Server, Site, ToPublish, at_number, can_gain, lists_of}
use Rattle.cf_running.specs.Server.{log_of, place_of}

-- where a publication on its way stands
abbrev pub place : Carried → Place
place x = record { channel = x.channel; at = record { epoch = x.epoch; offset = x.publication.offset } }

-- it was accepted under this number, and is listed at its place with its datum
pub record IsNumbered (site : Site) (s : Server) (number : ℕ) (x : Carried) : Type 0 where
  pub accepted : place_of number s.accepted ≡ Some (place x)
  pub listed : IsListed (lists_of site s) x.channel x.epoch x.publication

-- a worker's publish may be carried out, of data that can be read back, and this is what its contract answers
pub record IsAnswered (site : Site) (s : Server) (k : ℕ) (c key : List ℕ) (d : Datum) (p : Published) : Type 0 where
  pub id : ℕ
  pub seen : List Entry
  pub work : (s.connections k).work ≡ ToPublish c id key d
  pub may : p.repeated ≡ false → can_gain site (site.shard_of c) (Publish c key d) s ≡ true
  pub answer : IsPublished site.config.namespaces seen
      (if p.repeated then log_of site s c else log_of site s c ++ Publish c key d ∷ []) c key d p
  pub regular : IsDatum d

-- no log gains anything, nothing is accepted, and nothing is put on a link
pub record AddsNothing (old new : Server) : Type 0 where
  pub logs : new.logs ≡ old.logs
  pub accepted : new.accepted ≡ old.accepted
  pub links : new.links ≡ old.links

-- by node, what was sent on its link, or received from it, in order
abbrev pub Lines : Type 0
Lines = ℕ → List Carried

-- an offer to a node is sent on its link, or lost
abbrev pub IsSentOrLost : Lines → ℕ → Carried → Lines → Type 0
IsSentOrLost old n x new = (new ≡ at_number old n (old n ++ x ∷ [])) ⊎ (new ≡ old)

-- the next copy that is left of an accepted publication is taken, and is offered to a node
pub record OffersNext (node : ℕ) (before : Left) (old : Lines) (after : Left) (new : Lines) : Type 0 where
  pub delivery : Carried
  pub next : IsNext delivery before after
  pub offered : IsSentOrLost old node delivery new

-- so is a copy to each of the first nodes, the first node first, and nothing else is offered
abbrev pub OffersCopies : (count : ℕ) → (before : Left) (old : Lines) (after : Left) (new : Lines) → Type 0
OffersCopies zero before old after new = (after ≡ before) × (new ≡ old)
OffersCopies (suc n) before old after new =
    (left : Left) × (mid : Lines) × OffersCopies n before old left mid × OffersNext n left mid after new

-- what was sent on each link and not received is what waits there in the running server, number by number
pub record Waits (site : Site) (s : Server) (sent received : Lines) : Type 0 where
  pub at : (n : ℕ)
      → (left : List Carried) × (sent n ≡ received n ++ left) × AllZip (IsNumbered site s) (s.links n) left

-- what waits first on a node's link is this publication, by its number: it is what the next delivery there delivers
pub record IsFirst (site : Site) (s : Server) (n : ℕ) (x : Carried) : Type 0 where
  pub number : ℕ
  pub rest : List ℕ
  pub waits : s.links n ≡ number ∷ rest
  pub is : IsNumbered site s number x

-- a section that puts something on a link, or takes something off one
abbrev pub is_at_link : Section → Bool
is_at_link (Offers number n) = true
is_at_link (Delivers n) = true
is_at_link other = false
