-- What a read of a stream answers is, in positions, what the stream answers.
use Rattle.std.proofs.Common.{◌≡◌, Bool, cond, Option, Some, None, List, [], ◌∷◌, ◌++◌, append-nil, refl, ap, ◌∙◌, ℕ}
use Rattle.cf_protocol.specs.Datum.{Placed}
use Rattle.cf_protocol.specs.LogEntry.{Entry}
use Rattle.cf_protocol.specs.LogEntry.Entry.{Open}
use Rattle.cf_protocol.specs.Position.{Position}
use Rattle.cf_protocol.specs.Settings.{NamespaceTable}
use Rattle.cf_stream.specs.ChannelLists.{life_or}
use Rattle.cf_stream.specs.LogState.{life_in, opening}
use Rattle.cf_stream.specs.PublicationList.{IsRead, opened, state_of}
use Rattle.cf_stream.proofs.LogStates.{life_in-append}
use Rattle.cf_model.specs.Streams.{Life}
use Rattle.cf_model.specs.Streams.{read_of}
use Rattle.cf_machine.proofs.Names.{itself}
use Rattle.cf_machine.proofs.Readings.{reading-is as answer-is}
use Rattle.cf_hub_moves.specs.Readings.{answered}

-- the answer of the code is the stream's reading
pub reading-is : (l : Life) (since : Option Position) (p : Position) (recovered : Bool) (items : List Placed)
    → IsRead l since p recovered items
    → answered p recovered items ≡ read_of since (state_of l)
reading-is l since p recovered items r = answer-is since (state_of l) l.list p recovered items refl r.at r.exact r.run

-- the stream that a call found or opened
pub life-opened : (sizes : NamespaceTable) (log : List Entry) (c e : List ℕ)
    → life_in sizes (log ++ opening (life_in sizes log c) c e []) c ≡ Some (life_or (life_in sizes log c) e)
life-opened sizes log c e = by_life (life_in sizes log c) refl
  where
    by_life : (o : Option Life) → life_in sizes log c ≡ o
        → life_in sizes (log ++ opening o c e []) c ≡ Some (life_or o e)
    by_life None h =
        life_in-append sizes c (Open c e ∷ []) log ∙ ap (λ b. cond b (Some (opened e)) (life_in sizes log c)) (itself c)
    by_life (Some l) h = ap (λ (z : List Entry). life_in sizes z c) (append-nil log) ∙ h
