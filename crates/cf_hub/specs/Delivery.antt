-- What a call did with one session, and how many sessions a delivery met by what it did with them.
use Rattle.std.specs.Prelude.{ℕ, ◌+◌, ◌&&◌, not, if◌then◌else◌, Option, Some, None, List, [], ◌∷◌}
use Rattle.cf_protocol.specs.Position.{Position}
use Rattle.cf_model.specs.Recovery.{Verdict, Drop, Pass, Insufficient, verdict}
use Rattle.cf_hub.specs.Session.{Attached}
use Rattle.cf_model.specs.Sessions.{Subscription, Off, Asked, Ready, On, SessionState}
use Rattle.cf_hub.specs.declared.delivered.Delivered.{Delivered}
use Rattle.cf_hub.specs.declared.fate.Fate.{Fate}
use Rattle.cf_hub.specs.declared.fate.Fate.TheVariants.{Passed, Kept, Dropped, Ended, Closed}

abbrev pub verdict_fate : Verdict → Fate
verdict_fate Drop = Dropped
verdict_fate Pass = Passed
verdict_fate Insufficient = Ended

abbrev pub sub_fate : {B : Type 0} → Position → Subscription B → Fate
sub_fate q Off = Dropped
sub_fate q (Asked id since b) = Kept
sub_fate q (Ready id was r b) = Kept
sub_fate q (On p behind_at) = verdict_fate (verdict p q)

-- closed if the call closed it, else this
abbrev pub fate_or : {B N : Type 0} → SessionState B N → SessionState B N → Fate → Fate
fate_or a b f = if not a.closed && b.closed then Closed else f

-- what a delivery did with a session that went from the one state to the other
abbrev pub fate_of : {B N : Type 0} → List ℕ → Position → SessionState B N → SessionState B N → Fate
fate_of c q a b = fate_or a b (sub_fate q (a.subs c))

abbrev pub fate_at : List ℕ → Position → Option Attached → Option Attached → Fate
fate_at c q None b = Dropped
fate_at c q (Some a) None = Dropped
fate_at c q (Some a) (Some b) = fate_of c q a.state b.state

abbrev pub none : Delivered
none = record { passed = 0; kept = 0; dropped = 0; ended = 0; closed = 0 }

abbrev pub one_more : Fate → Delivered → Delivered
one_more Passed d = record d { passed = d.passed + 1 }
one_more Kept d = record d { kept = d.kept + 1 }
one_more Dropped d = record d { dropped = d.dropped + 1 }
one_more Ended d = record d { ended = d.ended + 1 }
one_more Closed d = record d { closed = d.closed + 1 }

-- each of these once, by its fate
abbrev pub tally : (ℕ → Fate) → List ℕ → Delivered → Delivered
tally f [] d = d
tally f (k ∷ ks) d = tally f ks (one_more (f k) d)

abbrev pub total : Delivered → ℕ
total d = d.passed + d.kept + d.dropped + d.ended + d.closed
