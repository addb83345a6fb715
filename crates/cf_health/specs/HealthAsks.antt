-- Which requests ask for a node's health otherwise than by `GET`, and what they are answered. (RFC 9110, 9.3.2, 10.2.1
-- and 15.5.6.)
use Rattle.std.specs.Prelude.{◌≤◌, ℕ, Bool, true, false, cond, not, ◌||◌, List, [], length, codes, bytes_eq, Option}
use Rattle.std.specs.Prelude.{None, Some}
use Rattle.httparse.specs.Grammar.{RequestHead, ReadsRequest}
use Rattle.websocket.specs.Headers.{field_line}
use Rattle.cf_handshake.specs.Answers.{closing_text}
use Rattle.cf_handshake.specs.Asks.{Request, has_host, is_health, most_lines}
use Rattle.cf_health.specs.declared.ask.HealthAsk.{HealthAsk}
use Rattle.cf_health.specs.declared.ask.HealthAsk.TheVariants.{Head, Other}

-- the bytes begin with this head, which has no more lines than are read
abbrev pub IsBegun : List ℕ → RequestHead → List ℕ → Type 0
IsBegun bytes h rest = ReadsRequest bytes h rest × (length h.fields ≤ most_lines)

-- the bytes begin with no such head
abbrev pub HasNoHead : List ℕ → Type 0
HasNoHead bytes = (h : RequestHead) (rest : List ℕ) → ¬ (IsBegun bytes h rest)

-- by `HEAD`, or by another method than that and `GET`
abbrev pub ask_by_method : List ℕ → Option HealthAsk
ask_by_method method =
    cond (bytes_eq method (codes "GET")) None
    (cond (bytes_eq method (codes "HEAD")) (Some Head) (Some Other))

-- the path is that of the health, and the host is named as it is to be
abbrev pub ask_of : Request → Option HealthAsk
ask_of r = cond (not (is_health r.target) || not (has_host r.minor r.lines)) None (ask_by_method r.method)

-- what the answer to `GET` has behind its head
abbrev pub health_body : Bool → List ℕ
health_body true = codes "ok"
health_body false = codes "stuck"

-- the answer names the methods that are served
abbrev pub not_allowed_text : List ℕ
not_allowed_text =
    closing_text (codes "405 Method Not Allowed") (field_line (codes "Allow") (codes "GET, HEAD")) []
    (codes "method not allowed\n")
