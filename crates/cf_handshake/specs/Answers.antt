-- The texts that answer the head of a request. (RFC 6455, 4.2.2 and 4.4; RFC 9110, 7.6.1, 8.6, 15.5.1, 15.5.22 and
-- 15.6.4.)
use Rattle.std.specs.Prelude.{ℕ, Bool, true, false, List, [], ◌++◌, length, codes}
use Rattle.std.specs.Fmt.{decimal}
use Rattle.websocket.specs.Headers.{crlf, field_line}
use Rattle.cf_handshake.specs.declared.answer.Opening.{Opening}
use Rattle.cf_handshake.specs.declared.answer.HandshakeError.{HandshakeError}
use Rattle.cf_handshake.specs.declared.answer.HandshakeError.TheVariants.{BadRequest, UpgradeRequired}

abbrev pub status_line : List ℕ → List ℕ
status_line status = codes "HTTP/1.1 " ++ status ++ crlf

-- the subprotocol is chosen if it was offered
abbrev pub protocol_line : Bool → List ℕ
protocol_line true = field_line (codes "Sec-WebSocket-Protocol") (codes "centrifuge-json")
protocol_line false = []

-- what stands behind the key
abbrev pub opening_end : Bool → List ℕ
opening_end offers_json = crlf ++ protocol_line offers_json ++ crlf

abbrev pub opening_text : Opening → List ℕ
opening_text opening =
    status_line (codes "101 Switching Protocols")
    ++ field_line (codes "Upgrade") (codes "websocket")
    ++ field_line (codes "Connection") (codes "Upgrade")
    ++ codes "Sec-WebSocket-Accept: " ++ opening.accept ++ opening_end opening.offers_json

-- an answer with a body, after which the connection is closed
abbrev pub closing_text : List ℕ → List ℕ → List ℕ → List ℕ → List ℕ
closing_text status lines options body =
    status_line status ++ lines
    ++ field_line (codes "Content-Type") (codes "text/plain")
    ++ field_line (codes "Content-Length") (decimal (length body))
    ++ field_line (codes "Connection") (codes "close" ++ options)
    ++ crlf ++ body

abbrev pub refusal_text : HandshakeError → List ℕ
refusal_text BadRequest = closing_text (codes "400 Bad Request") [] [] (codes "bad request\n")
refusal_text UpgradeRequired =
    closing_text (codes "426 Upgrade Required")
    (field_line (codes "Upgrade") (codes "websocket") ++ field_line (codes "Sec-WebSocket-Version") (codes "13"))
    (codes ", Upgrade") (codes "upgrade required\n")

abbrev pub health_text : Bool → List ℕ
health_text true = closing_text (codes "200 OK") [] [] (codes "ok")
health_text false = closing_text (codes "503 Service Unavailable") [] [] (codes "stuck")
