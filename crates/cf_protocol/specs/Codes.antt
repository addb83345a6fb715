-- The codes of errors and of closes. Each is a number on the wire, beside a message or a reason of its own.
-- (Centrifugo's client protocol.)
use Rattle.std.specs.Prelude.{ℕ, ◌==◌, if◌then◌else◌, List, [], codes}
use Rattle.cf_protocol.specs.declared.codes.ErrorCode.{ErrorCode}
use Rattle.cf_protocol.specs.declared.codes.ErrorCode.TheVariants as error
use Rattle.cf_protocol.specs.declared.codes.CloseCode.{CloseCode}
use Rattle.cf_protocol.specs.declared.codes.CloseCode.TheVariants as close

-- The message that stands beside each is message_of, of Written.
abbrev pub code_of : ErrorCode → ℕ
code_of error.Internal = 100
code_of error.UnknownChannel = 102
code_of error.PermissionDenied = 103
code_of error.AlreadySubscribed = 105
code_of error.LimitExceeded = 106
code_of error.BadRequest = 107
code_of error.NotAvailable = 108
code_of error.UnrecoverablePosition = 112

-- A client may connect again after a code below 3500.
abbrev pub close_code_of : CloseCode → ℕ
close_code_of close.Shutdown = 3001
close_code_of close.InternalError = 3004
close_code_of close.Slow = 3008
close_code_of close.NoPong = 3012
close_code_of close.InvalidToken = 3500
close_code_of close.BadRequest = 3501

abbrev pub close_reason_of : CloseCode → List ℕ
close_reason_of close.Shutdown = codes "shutdown"
close_reason_of close.InternalError = codes "internal server error"
close_reason_of close.Slow = codes "slow"
close_reason_of close.NoPong = codes "no pong"
close_reason_of close.InvalidToken = codes "invalid token"
close_reason_of close.BadRequest = codes "bad request"

-- if this is the code's number its reason, and else what follows
abbrev pub reason_or : CloseCode → ℕ → List ℕ → List ℕ
reason_or c n others = if n == close_code_of c then close_reason_of c else others

-- the reason of a close by its number; empty for a number that isn't one of ours
abbrev pub close_reason_by : ℕ → List ℕ
close_reason_by n =
    reason_or close.Shutdown n (reason_or close.InternalError n (reason_or close.Slow n
    (reason_or close.NoPong n (reason_or close.InvalidToken n (reason_or close.BadRequest n [])))))
