-- The values of the code as the definitions' values, texts by their bytes.
use Rattle.std.specs.Prelude.{◌≡◌, ⊤, ℕ, Bool, false, Option, Some, None, List, ◌++◌, map}
use Rattle.std.specs.BTreeMap.{BTreeMap}
use Rattle.std.specs.String.{string_bytes}
use Rattle.std.specs.declared.string.String.{String}
use Rattle.std.specs.declared.alloc.Global.{Global}
use Rattle.cf_protocol.specs.Names.{with}
use Rattle.cf_protocol.specs.Frame.{IsReplies}
use Rattle.cf_protocol.specs.Outgoing.{Outgoing}
use Rattle.cf_model.specs.Clients.{Mode, Idle, Asking, Live}
use Rattle.cf_client.specs.ClientCalls.{Call, State}
use Rattle.cf_client.specs.ClientView.{ClientView, mode_in, state_of}
use Rattle.cf_client.specs.AppItem as item
use Rattle.cf_client.specs.AppItem.{AppItem}
use Rattle.cf_client.specs.declared.calls.Call.{Call as CodeCall}
use Rattle.cf_client.specs.declared.channels.Mode.{Mode as CodeMode}
use Rattle.cf_client.specs.declared.channels.Mode.TheVariants as code
use Rattle.cf_client.specs.declared.known.Known.{Known as CodeKnown}
use Rattle.cf_client.specs.declared.event.AppEvent.{AppEvent}
use Rattle.cf_client.specs.declared.event.AppEvent.TheVariants as event
use Rattle.cf_client.specs.declared.fault.ClientFault.{ClientFault}
use Rattle.cf_client.specs.declared.fault.ClientFault.TheVariants.{Bad, NotNow, AtLastId, Memory}

abbrev pub shown_item : AppEvent → AppItem
shown_item (event.Subscribed channel was_recovering recovered position) =
    item.Subscribed (string_bytes channel) was_recovering recovered position
shown_item (event.Published channel position body) = item.Published (string_bytes channel) position (string_bytes body)
shown_item (event.Resubscribing channel code) = item.Resubscribing (string_bytes channel) code
shown_item (event.Refused channel code) = item.Refused (string_bytes channel) code
shown_item (event.Listed channel position count) = item.Listed (string_bytes channel) position count
shown_item event.PongDue = item.PongDue

abbrev pub shown_call : CodeCall → Call
shown_call k = record { id = k.id; channel = string_bytes k.channel }

abbrev pub shown_mode : CodeMode → Mode
shown_mode (code.Idle last) = Idle last
shown_mode (code.Asking id from last) = Asking id from last
shown_mode (code.Live at) = Live at

-- a channel that it never asked for is idle
abbrev pub mode_or_idle : Option CodeMode → Mode
mode_or_idle None = Idle None
mode_or_idle (Some m) = shown_mode m

abbrev pub Channels : Type 0
Channels = BTreeMap (String Global) CodeMode

-- the channels as contracts see them
abbrev pub named : Channels → List (List ℕ × Mode)
named m = map (λ e. (string_bytes e.0, shown_mode e.1)) m.entries

abbrev pub modes_of : Channels → List ℕ → Mode
modes_of m = mode_in (named m)

abbrev pub calls_of : List CodeCall → List Call
calls_of = map shown_call

-- what it knows, as contracts see it
abbrev pub view_of : CodeKnown → ClientView
view_of k = record {
  connected = k.is_connected;
  last_id = k.last_id;
  channels = named k.channels;
  calls = calls_of k.calls.items;
}

abbrev pub known_state : CodeKnown → State
known_state k = state_of (view_of k)

-- one channel's mode is set, and the others stay
abbrev pub SetsMode : Channels → Channels → List ℕ → Mode → Type 0
SetsMode old new c m = (d : List ℕ) → modes_of new d ≡ with (modes_of old) c m d

-- why a text is refused: it is none of a node's; or it is one, and the client isn't connected; or there is no memory
abbrev pub TextRefused : List ℕ → Bool → ClientFault → Type 0
TextRefused text connected Bad = (os : List Outgoing) → IsReplies text os → ⊥
TextRefused text connected NotNow = (connected ≡ false) × (os : List Outgoing) × IsReplies text os
TextRefused text connected AtLastId = ⊥
TextRefused text connected Memory = ⊤

-- what was told is told after what was told before
abbrev pub TellsAlso : (List AppItem → Type 0) → List AppEvent → List AppEvent → Type 0
TellsAlso P before after = (told : List AppItem) × P told × (map shown_item after ≡ map shown_item before ++ told)
