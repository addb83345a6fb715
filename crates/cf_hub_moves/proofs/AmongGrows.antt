-- What a session says among asides, and keeps, stays when the publication lists grow.
use Rattle.std.proofs.Common.{inl, inr, ℕ, Option, Some, None, List, [], ◌∷◌}
use Rattle.std.proofs.lemmas.List.Elements.{All-weaker}
use Rattle.cf_protocol.specs.Datum.{Placed}
use Rattle.cf_protocol.specs.Note.{Lists, Note, Reading}
use Rattle.cf_protocol.specs.Position.{Position}
use Rattle.cf_queue.specs.OutQueue.{Item, Text, Close}
use Rattle.cf_hub.specs.Alike.{AlikeSub}
use Rattle.cf_hub.specs.AlikeMoves.{Notes, Texts}
use Rattle.cf_hub.specs.InNotes.{Grown, IsListed, MissedBy, SaysNote, placed_of}
use Rattle.cf_model.specs.Sessions.{Subscription, Off, Asked, Ready, On}
use Rattle.cf_hub.specs.Wordings.{Held}
use Rattle.cf_hub.proofs.InNotes.{grown_then}
use Rattle.cf_hub_moves.specs.Held.{IsHeld}
use Rattle.cf_hub_moves.specs.HubAsides.{SaysAmong, SaysSome}
use Rattle.cf_hub_moves.proofs.Later.{listed-later}

module _ (A : List ℕ → Type 0) (lists more : Lists) (g : Grown lists more) where
  said-grows : (i : Item) (n : Note) → SaysNote lists i n → SaysNote more i n
  said-grows (Text t) n s =
      record { said = s.said; stays = λ later h. s.stays later (grown_then g h); regular = s.regular; text = s.text }
  said-grows (Close code) n s = s

  some-grow : (is : List Item) (ns : List Note) → SaysSome A lists is ns → SaysSome A more is ns
  some-grow [] [] h = tt
  some-grow [] (n ∷ ns) h = absurd h
  some-grow (i ∷ is) [] h = (h.0, some-grow is [] h.1)
  some-grow (i ∷ is) (n ∷ ns) (inl h) = inl (said-grows i n h.0, some-grow is ns h.1)
  some-grow (i ∷ is) (n ∷ ns) (inr h) = inr (h.0, some-grow is (n ∷ ns) h.1)

  missed-grows : (c : List ℕ) (x : Option Reading) (ps : List Placed) → MissedBy lists c x ps → MissedBy more c x ps
  missed-grows c None ps h = h
  missed-grows c (Some r) ps h =
      record { listed = λ later k. h.listed later (grown_then g k); regular = h.regular; position = h.position }

  held-grows : (c : List ℕ) (id : ℕ) (x : Option Reading) (h : Held) (arrived : List Position)
      → IsHeld lists c id x h arrived → IsHeld more c id x h arrived
  held-grows c id x h arrived k = record {
    is_code = k.is_code;
    within = k.within;
    stands = k.stands;
    listed = All-weaker (λ a. IsListed lists c a.at.epoch (placed_of a)) (λ a. IsListed more c a.at.epoch (placed_of a))
        (λ a l. listed-later lists more c a.at.epoch (placed_of a) g l) h.kept.arrived k.listed;
    missed = missed-grows c x h.missed k.missed;
  }

  sub-grows : (c : List ℕ) (s : Subscription Held) (t : Subscription (List Position)) → AlikeSub (IsHeld lists c) s t
      → AlikeSub (IsHeld more c) s t
  sub-grows c Off Off e = tt
  sub-grows c (Asked id since k) (Asked id' since' k') e = (e.0, e.1, held-grows c id None k k' e.2)
  sub-grows c (Ready id was x k) (Ready id' was' x' k') e = (e.0, e.1, e.2, held-grows c id (Some x) k k' e.3)
  sub-grows c (On p behind_at) (On p' behind_at') e = e
  sub-grows c Off (Asked id since k) e = absurd e
  sub-grows c Off (Ready id was x k) e = absurd e
  sub-grows c Off (On p behind_at) e = absurd e
  sub-grows c (Asked id since k) Off e = absurd e
  sub-grows c (Asked id since k) (Ready id' was x k') e = absurd e
  sub-grows c (Asked id since k) (On p behind_at) e = absurd e
  sub-grows c (Ready id was x k) Off e = absurd e
  sub-grows c (Ready id was x k) (Asked id' since k') e = absurd e
  sub-grows c (Ready id was x k) (On p behind_at) e = absurd e
  sub-grows c (On p behind_at) Off e = absurd e
  sub-grows c (On p behind_at) (Asked id since k) e = absurd e
  sub-grows c (On p behind_at) (Ready id was x k) e = absurd e

  pub among-grows : (a : Texts) (b : Notes) → SaysAmong A lists a b → SaysAmong A more a b
  among-grows a b h =
      record {
        subs = λ c. sub-grows c (a.subs c) (b.subs c) (h.subs c);
        notes = some-grow a.notes b.notes h.notes;
        closed = h.closed;
      }
