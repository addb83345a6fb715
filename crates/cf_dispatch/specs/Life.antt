-- How long a connection may stand that gets nowhere, in seconds. (This project's own profile.)
use Rattle.std.specs.Prelude.{ℕ}

-- from its accept to a whole head
abbrev pub seconds_for_head : ℕ
seconds_for_head = 10

-- from its close until its socket has taken what it is told
abbrev pub seconds_for_close : ℕ
seconds_for_close = 25
