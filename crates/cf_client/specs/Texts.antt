-- Which commands a client's texts are. (Centrifugo's client protocol: commands and their ids.)
use Rattle.std.specs.Prelude.{◌≡◌, ℕ, List, Option}
use Rattle.std.specs.String.{string_bytes}
use Rattle.std.specs.declared.string.String.{String}
use Rattle.std.specs.declared.alloc.Global.{Global}
use Rattle.cf_protocol.specs.Position.{Position}
use Rattle.cf_protocol.specs.Request.{Request}
use Rattle.cf_protocol.specs.Written.{command_text}
use Rattle.cf_model.specs.Clients.{last_of}
use Rattle.cf_client.specs.ClientView.{ClientView, state_of}

-- the text is that of a command with this id
abbrev pub IsCommand : ℕ → Request → String Global → Type 0
IsCommand id request text = string_bytes text ≡ command_text (record { id = id; request = request })

-- the text is that of a command with the client's next id
abbrev pub IsNextCommand : ClientView → Request → String Global → Type 0
IsNextCommand client request text = IsCommand (state_of client).client.fresh request text

-- the last position that the client had on a channel
abbrev pub last_at : ClientView → (channel : List ℕ) → Option Position
last_at client channel = last_of ((state_of client).client.modes channel)
