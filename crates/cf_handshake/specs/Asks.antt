-- What the head of a request asks for. (RFC 6455, 4.2.1 and 4.4; RFC 9110, 7.8; RFC 9112, 3.2.)
use Rattle.std.specs.Prelude.{◌≡◌, ◌≤◌, ℕ, Bool, false, cond, not, ◌&&◌, ◌||◌, ◌==◌, List, [], map, length, codes}
use Rattle.std.specs.Prelude.{bytes_eq, is_some, Option, None, Some}
use Rattle.std.specs.List.{starts_with}
use Rattle.httparse.specs.Grammar.{RequestHead, ReadsRequest}
use Rattle.httparse.specs.Spans.{name_and_value}
use Rattle.websocket.specs.Headers.{Fields}
use Rattle.websocket.specs.Handshake.{IsValidKey, accept_key_of}
use Rattle.cf_handshake.specs.Lines.{has_line, lists, only_value}
use Rattle.cf_handshake.specs.declared.lines.Case.TheVariants.{Matters, Ignored}
use Rattle.cf_handshake.specs.declared.answer.HandshakeError.TheVariants.{BadRequest, UpgradeRequired}
use Rattle.cf_handshake.specs.declared.asked.HeadAsk.{HeadAsk}
use Rattle.cf_handshake.specs.declared.asked.HeadAsk.TheVariants.{Socket, Health, Refused}

-- a request's parts: of its version the minor number, of each line the name and the value without the white space
-- around it
pub record Request : Type 0 where
  pub method : List ℕ
  pub target : List ℕ
  pub minor : ℕ
  pub lines : Fields

abbrev pub request : List ℕ → List ℕ → ℕ → Fields → Request
request method target minor lines = record { method = method; target = target; minor = minor; lines = lines }

-- the parts of a head, as `httparse` reads it
abbrev pub request_of : RequestHead → Request
request_of h = request h.method h.target h.minor (map name_and_value h.fields)

-- a head may have so many lines
abbrev pub most_lines : ℕ
most_lines = 124

-- the bytes are this head and nothing else, with no more lines than are read
abbrev pub IsWhole : List ℕ → RequestHead → Type 0
IsWhole head h = ReadsRequest head h [] × (length h.fields ≤ most_lines)

-- the bytes are no such head
abbrev pub IsUnread : List ℕ → Type 0
IsUnread head = (h : RequestHead) → ¬ (IsWhole head h)

-- one line names the host; in HTTP/1.0 there may be none
abbrev pub has_host : ℕ → Fields → Bool
has_host minor lines = is_some (only_value lines (codes "Host")) || (minor == 0 && not (has_line lines (codes "Host")))

-- the path is `/health`, with a query or without
abbrev pub is_health : List ℕ → Bool
is_health target = bytes_eq target (codes "/health") || starts_with ◌==◌ target (codes "/health?")

-- without an upgrade
abbrev pub asked_plainly : List ℕ → HeadAsk
asked_plainly target = cond (is_health target) Health (Refused UpgradeRequired)

-- the protocols asked for have `websocket`, and the options of the connection `upgrade`
abbrev pub is_upgrade : Fields → Bool
is_upgrade lines =
    lists Ignored (codes "websocket") lines (codes "Upgrade")
    && lists Ignored (codes "upgrade") lines (codes "Connection")

abbrev pub is_text : List ℕ → Option (List ℕ) → Bool
is_text text None = false
is_text text (Some value) = bytes_eq value text

-- the one version asked for is 13
abbrev pub has_version : Fields → Bool
has_version lines = is_text (codes "13") (only_value lines (codes "Sec-WebSocket-Version"))

-- `centrifuge-json` is among the subprotocols offered
abbrev pub offers_json : Fields → Bool
offers_json lines = lists Matters (codes "centrifuge-json") lines (codes "Sec-WebSocket-Protocol")

-- a valid key opens a WebSocket by the key that answers it
abbrev pub AsksWithKey : Option (List ℕ) → Bool → HeadAsk → Type 0
AsksWithKey None json asked = asked ≡ Refused BadRequest
AsksWithKey (Some key) json (Socket opening) =
    IsValidKey key × (opening.accept ≡ accept_key_of key) × (opening.offers_json ≡ json)
AsksWithKey (Some key) json Health = ⊥
AsksWithKey (Some key) json (Refused refusal) = ¬ (IsValidKey key) × (refusal ≡ BadRequest)

-- by the one key, if all else is as it is to be
abbrev pub AsksByKey : Fields → HeadAsk → Type 0
AsksByKey lines asked = AsksWithKey (only_value lines (codes "Sec-WebSocket-Key")) (offers_json lines) asked

-- the first rule that is broken decides: 1. `GET`, and one host; 2. if no line asks for an upgrade, the path; 3.
-- HTTP/1.1, and an upgrade to `websocket`; 4. version 13; 5. one key, the base64 of sixteen bytes
abbrev pub Asks : Request → HeadAsk → Type 0
Asks r asked =
    cond (not (bytes_eq r.method (codes "GET")) || not (has_host r.minor r.lines)) (asked ≡ Refused BadRequest)
    (cond (not (has_line r.lines (codes "Upgrade"))) (asked ≡ asked_plainly r.target)
    (cond (r.minor == 0 || not (is_upgrade r.lines)) (asked ≡ Refused BadRequest)
    (cond (not (has_version r.lines)) (asked ≡ Refused UpgradeRequired)
    (AsksByKey r.lines asked))))
