-- What a draft makes of what a client knows. No public contract names it.
use Rattle.std.specs.Prelude.{ℕ, suc, ◌==◌, not, Option, Some, None, List, [], ◌∷◌, filter}
use Rattle.std.specs.BTreeMap.{get_by_text}
use Rattle.std.specs.Option.{option_map}
use Rattle.cf_client.specs.AppItem.{AppItem}
use Rattle.cf_model.specs.Clients.{Mode}
use Rattle.cf_client.specs.ClientCalls.{Call, State}
use Rattle.cf_client.specs.ClientView.{ids_of}
use Rattle.cf_client.specs.Shown.{Channels, mode_or_idle, calls_of, TellsAlso}
use Rattle.cf_client.specs.declared.channels.Mode.{Mode as CodeMode}
use Rattle.cf_client.specs.declared.draft.Draft.{Draft as CodeDraft}
use Rattle.cf_client.specs.declared.known.Known.{Known as CodeKnown}

-- what was changed, or else what was there
abbrev pub changed_or : Option CodeMode → CodeMode → CodeMode
changed_or None v = v
changed_or (Some w) v = w

-- a channel's mode with the changes; one that it never asked for stays so
abbrev pub drafted_code : Channels → Channels → List ℕ → Option CodeMode
drafted_code base changed c = option_map (changed_or (get_by_text changed c)) (get_by_text base c)

abbrev pub drafted_mode : Channels → Channels → List ℕ → Mode
drafted_mode base changed c = mode_or_idle (drafted_code base changed c)

-- the calls without those of these ids
abbrev pub drafted_calls : List ℕ → List Call → List Call
drafted_calls [] ks = ks
drafted_calls (id ∷ ids) ks = drafted_calls ids (filter (λ k. not (k.id == id)) ks)

-- what a client knows with the changes
abbrev pub drafted : CodeKnown → CodeDraft → State
drafted k d = record {
  connected = k.is_connected;
  client = record {
    fresh = suc k.last_id;
    modes = drafted_mode k.channels d.changed;
    calls = ids_of (drafted_calls d.answered.items (calls_of k.calls.items));
  };
  out = drafted_calls d.answered.items (calls_of k.calls.items);
}

-- a draft takes this step, and the application is told what the step says
abbrev pub Drafts : CodeKnown → (State → State → List AppItem → Type 0) → CodeDraft → CodeDraft → Type 0
Drafts k step old new = TellsAlso (step (drafted k old) (drafted k new)) old.events.items new.events.items
