-- Why a call of the node was refused, by the refusals of the hub, of streams and of presence.
use Rattle.cf_protocol.specs.Checks.{Refusal, Already, Full, AtLastOffset, OtherEpoch, NoSession, NoEpoch, NoMemory}
use Rattle.cf_hub.specs.declared.refusal.HubRefusal.{HubRefusal}
use Rattle.cf_hub.specs.declared.refusal.HubRefusal.TheVariants as hub
use Rattle.cf_stream.specs.declared.refusal.StreamRefusal.{StreamRefusal}
use Rattle.cf_stream.specs.declared.refusal.StreamRefusal.TheVariants as stream
use Rattle.cf_presence.specs.declared.error.PresenceError.{PresenceError}
use Rattle.cf_presence.specs.declared.error.PresenceError.TheVariants as presence

abbrev pub of_hub : HubRefusal → Refusal
of_hub hub.NoSession = NoSession
of_hub hub.Already = Already
of_hub hub.TooMany = Full
of_hub hub.Memory = NoMemory

abbrev pub of_stream : StreamRefusal → Refusal
of_stream stream.AtLastOffset = AtLastOffset
of_stream stream.WrongEpoch = OtherEpoch
of_stream stream.NoEpoch = NoEpoch
of_stream stream.Memory = NoMemory

abbrev pub of_presence : PresenceError → Refusal
of_presence presence.Memory = NoMemory
