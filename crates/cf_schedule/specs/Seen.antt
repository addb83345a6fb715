-- The program's configuration and events, as the definitions have them.
use Rattle.std.specs.Prelude.{ℕ, List, [], Option, Some, None}
use Rattle.cf_machine.specs.Config.{Config}
use Rattle.cf_machine.specs.Event.{Event, Epoch, Connect, Ask, AskFrom, Read, Finish, Publish, PublishBy, Deliver}
use Rattle.cf_machine.specs.Event.{Take, Break, Leave, Trim, Forget, BrokerRestart, SetSize, Restart, Check}
use Rattle.cf_machine.specs.Event.{ListHistory}
use Rattle.cf_schedule.specs.declared.config.Config.{Config as CodeConfig}
use Rattle.cf_schedule.specs.declared.event.Event as declared
use Rattle.cf_schedule.specs.declared.event.Event.TheVariants as variant

abbrev pub shown_config : CodeConfig → Config
shown_config c = record { nodes = c.nodes; namespaces = c.namespaces }

-- the key of a publish: the empty one if it has none
abbrev pub key_of : Option (List ℕ) → List ℕ
key_of None = []
key_of (Some key) = key

abbrev pub seen : declared.Event → Event
seen (variant.Epoch e) = Epoch e
seen (variant.Connect x n) = Connect x n
seen (variant.Ask x c) = Ask x c
seen (variant.AskFrom x c) = AskFrom x c
seen (variant.Read x c) = Read x c
seen (variant.Finish x c) = Finish x c
seen (variant.Publish c key body) = Publish c (key_of key) body
seen (variant.PublishBy x c key body) = PublishBy x c (key_of key) body
seen (variant.Deliver n i) = Deliver n i
seen (variant.Take x) = Take x
seen (variant.Break x) = Break x
seen (variant.Leave x c) = Leave x c
seen (variant.Trim c k) = Trim c k
seen (variant.Forget c) = Forget c
seen variant.BrokerRestart = BrokerRestart
seen (variant.SetSize name n) = SetSize name n
seen (variant.Restart n) = Restart n
seen (variant.Check x c) = Check x c
seen (variant.ListHistory x c limit) = ListHistory x c limit
