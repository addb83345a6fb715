-- What a client is to send, as the machine has it.
use Rattle.std.specs.Prelude.{⊤, ℕ, IsTrue, List}
use Rattle.cf_protocol.specs.Fields.{is_limit}
use Rattle.cf_protocol.specs.Regular.{IsBody}
use Rattle.cf_machine.specs.Event.{Event, Ask, AskFrom, Leave, PublishBy, ListHistory}
use Rattle.cf_world.specs.declared.client_command.ClientCommand.{ClientCommand}
use Rattle.cf_world.specs.declared.client_command.ClientCommand.TheVariants as client_command

abbrev pub event_by : ClientCommand → List ℕ → Event
event_by (client_command.Ask channel) x = Ask x channel.now
event_by (client_command.AskFrom channel) x = AskFrom x channel.now
event_by (client_command.Leave channel) x = Leave x channel.now
event_by (client_command.Put channel key body) x = PublishBy x channel.now key.now body.now
event_by (client_command.List channel limit) x = ListHistory x channel.now limit

-- what it brings is read back
abbrev pub IsReadBack : ClientCommand → Type 0
IsReadBack (client_command.Ask channel) = ⊤
IsReadBack (client_command.AskFrom channel) = ⊤
IsReadBack (client_command.Leave channel) = ⊤
IsReadBack (client_command.Put channel key body) = IsBody body.now
IsReadBack (client_command.List channel limit) = IsTrue (is_limit limit)
