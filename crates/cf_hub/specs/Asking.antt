-- A subscription for which the stream was not read yet, as the code answers it.
use Rattle.std.specs.Prelude.{Option, Some, None}
use Rattle.cf_model.specs.Sessions.{Subscription, Off, Asked, Ready, On}
use Rattle.cf_hub.specs.declared.asking.UnreadSubscription.{UnreadSubscription as Answer}

abbrev pub asked_of : {B : Type 0} → Subscription B → Option Answer
asked_of Off = None
asked_of (Asked id since b) = Some (record { since = since })
asked_of (Ready id was r b) = None
asked_of (On at behind_at) = None
