-- How the code says and keeps things: texts and closes, and the publications that came.
use Rattle.std.specs.Prelude.{◌≡◌, ◌||◌, ℕ, true, Bool, List, [], map, length, Option, None, IfSome}
use Rattle.cf_protocol.specs.Datum.{Placed}
use Rattle.cf_protocol.specs.Note.{Reading, insufficient}
use Rattle.cf_protocol.specs.Outgoing.{Ping, Answer, Push, Subscribed, Publication, Unsubscribe}
use Rattle.cf_protocol.specs.Position.{Position}
use Rattle.cf_protocol.specs.Written.{outgoing_text}
use Rattle.cf_queue.specs.OutQueue.{Item, Text, Close}
use Rattle.cf_recovery.specs.ArrivalBuffer.{ArrivalBuffer, arrival, given_up, nothing_kept, places, with_arrival}
use Rattle.cf_model.specs.Recovery.{falls_short}
use Rattle.cf_model.specs.Sessions.{Wording}

-- what the code has of a subscription before its reply: the publications that came, and those that the read gave
pub record Held : Type 0 where
  pub kept : ArrivalBuffer
  pub missed : List Placed

abbrev pub held : ArrivalBuffer → List Placed → Held
held k ps = record { kept = k; missed = ps }

-- ---- texts

abbrev pub reply_text : ℕ → Bool → Reading → List Placed → List ℕ
reply_text id was r ps =
    outgoing_text (Answer id (Subscribed (record { epoch = r.epoch; offset = r.top }) ps r.recovered was))

abbrev pub push_text : List ℕ → Placed → List ℕ
push_text c p = outgoing_text (Push c (Publication p))

abbrev pub end_text : List ℕ → List ℕ
end_text c = outgoing_text (Push c (Unsubscribe insufficient))

abbrev pub ping_text : List ℕ
ping_text = outgoing_text Ping

-- a close has no weight
abbrev pub item_weight : Item → ℕ
item_weight (Text t) = length t
item_weight (Close code) = 0

-- ---- the code's wording

-- if this publication is delivered, the read gave these, and these follow the reply
abbrev pub texts : Placed → List Placed → List Placed → Wording Held Item
texts p missed run =
    record {
      reply = λ c id was r b. Text (reply_text id was r b.missed);
      run = λ c r b. map (λ x. Text (push_text c x)) run;
      reach = λ r b. length run;
      falls_short = λ r b. b.kept.overflow || falls_short (places b.kept.arrived) r;
      place = λ c q. Text (push_text c p);
      end = λ c. Text (end_text c);
      ping = Text ping_text;
      close = λ code. Close code;
      weight = item_weight;
      empty = held nothing_kept [];
      with_one = λ q b. record b { kept = with_arrival (arrival q.epoch p) b.kept };
      with_read = λ b. record b { missed = missed };
      given_up = λ b. record b { kept = given_up true };
    }

abbrev pub no_publication : Placed
no_publication = record { offset = 0; datum = record { body = []; info = None } }

-- the one of a delivery, of a read, of a release, and of a call that has to do with no publication
abbrev pub delivering : Placed → Wording Held Item
delivering p = texts p [] []

abbrev pub reading : List Placed → Wording Held Item
reading missed = texts no_publication missed []

abbrev pub releasing : List Placed → Wording Held Item
releasing run = texts no_publication [] run

abbrev pub plain : Wording Held Item
plain = texts no_publication [] []

-- the place of a publication of this epoch
abbrev pub at_offset : List ℕ → Placed → Position
at_offset e p = record { epoch = e; offset = p.offset }

-- the text, if there is one, is the push of this publication
abbrev pub IsWritten : Option (List ℕ) → List ℕ → Placed → Type 0
IsWritten text c p = IfSome text (λ t. t ≡ push_text c p)
