-- A session's subscriptions as the code has them, and as the definitions have them.
use Rattle.std.specs.Prelude.{◌≡◌, ◌⊎◌, ◌-◌, ℕ, List, [], length, true, Option, Some, None, option_map, map}
use Rattle.std.specs.Prelude.{string_bytes, Box}
use Rattle.indexmap.specs.IndexMap.{IndexMap, get_by_text, keys}
use Rattle.std.specs.Map.{update}
use Rattle.std.specs.Str.{bytes_eq}
use Rattle.std.specs.declared.alloc.Global.{Global}
use Rattle.std.specs.declared.hash.BuildHasherDefault.{BuildHasherDefault}
use Rattle.std.specs.declared.hash.FoldHasher.{FoldHasher}
use Rattle.std.specs.declared.string.String.{String}
use Rattle.cf_protocol.specs.Datum.{Placed}
use Rattle.cf_protocol.specs.Note.{Reading}
use Rattle.cf_protocol.specs.Position.{Position}
use Rattle.cf_recovery.specs.ArrivalBuffer.{arrival, given_up, with_arrival}
use Rattle.cf_model.specs.Recovery.{Verdict, Drop, Pass, Insufficient, verdict}
use Rattle.cf_recovery.specs.declared.verdict.Verdict.{Verdict as Answer}
use Rattle.cf_recovery.specs.declared.verdict.Verdict.TheVariants as answer
use Rattle.cf_hub.specs.declared.subscription.Meets.{Meets}
use Rattle.cf_hub.specs.declared.subscription.Met.{Met}
use Rattle.cf_hub.specs.declared.subscription.Meets.TheVariants as meets
use Rattle.cf_stream.specs.declared.answer.Recovery.{Recovery}
use Rattle.cf_model.specs.Sessions.{Subscription, Off, Asked, Ready, On}
use Rattle.cf_hub.specs.Wordings.{Held, at_offset, held}
use Rattle.cf_hub.specs.declared.subscription.Progress.{Progress}
use Rattle.cf_hub.specs.declared.subscription.Progress.TheVariants as code

abbrev pub Subscriptions : Type 0
Subscriptions = IndexMap (String Global) (Box Progress Global) (BuildHasherDefault FoldHasher)

-- the channels' names, in the order of asking
abbrev pub names : Subscriptions → List (List ℕ)
names m = map string_bytes (keys m)

-- what stands in a box, if there is one
abbrev pub in_box : Option (Box Progress Global) → Option Progress
in_box o = option_map (λ b. b.value) o

-- the subscription of a channel
abbrev pub progress_at : Subscriptions → List ℕ → Option Progress
progress_at m c = in_box (get_by_text m c)

-- what a read of the stream found
abbrev pub reading_of : Recovery → Reading
reading_of r =
    record {
      epoch = r.position.epoch;
      low = r.position.offset - length r.publications.items;
      top = r.position.offset;
      recovered = r.recovered;
    }

abbrev pub sub_of : Option Progress → Subscription Held
sub_of None = Off
sub_of (Some (code.Asked id since waiting)) = Asked id since (held waiting [])
sub_of (Some (code.Ready id was recovery waiting)) =
    Ready id was (reading_of recovery) (held waiting recovery.publications.items)
sub_of (Some (code.On at behind_at)) = On at behind_at

-- new has w at the channel, and elsewhere what old has
abbrev pub SetsAt : Subscriptions → Subscriptions → List ℕ → Option Progress → Type 0
SetsAt old new c w = (q : List ℕ) → progress_at new q ≡ update bytes_eq (progress_at old) c w q

-- where a finished subscription stands after what is at q: there, if that is the next one
abbrev pub stands_by : Verdict → Position → Position → Position
stands_by Drop at q = at
stands_by Pass at q = q
stands_by Insufficient at q = at

abbrev pub stands_after : Position → Position → Position
stands_after at q = stands_by (verdict at q) at q

-- a publication came
abbrev pub takes : List ℕ → Placed → Progress → Progress
takes e p (code.Asked id since waiting) = code.Asked id since (with_arrival (arrival e p) waiting)
takes e p (code.Ready id was recovery waiting) = code.Ready id was recovery (with_arrival (arrival e p) waiting)
takes e p (code.On at behind_at) = code.On (stands_after at (at_offset e p)) behind_at

-- what came is given up
abbrev pub loses : Progress → Progress
loses (code.Asked id since waiting) = code.Asked id since (given_up true)
loses (code.Ready id was recovery waiting) = code.Ready id was recovery (given_up true)
loses (code.On at behind_at) = code.On at behind_at

-- a verdict as the code answers it
abbrev pub verdict_code : Verdict → Answer
verdict_code Drop = answer.Drop
verdict_code Pass = answer.Pass
verdict_code Insufficient = answer.Insufficient

-- what a delivery meets
abbrev pub coming : Position → Progress → Meets
coming q (code.Asked id since waiting) = meets.Buffer
coming q (code.Ready id was recovery waiting) = meets.Buffer
coming q (code.On at behind_at) = meets.On (verdict_code (verdict at q))

abbrev pub meeting : Position → Option Progress → Meets
meeting q None = meets.Nothing
meeting q (Some s) = coming q s

-- memory was refused for what was to be kept
abbrev pub IsGivenUp : Met → Type 0
IsGivenUp m = (m.meets ≡ meets.Buffer) × (m.refused ≡ true)

-- the channel took the publication, or memory was refused for it and the channel's buffer is given up
abbrev pub TakesAt : Met → List ℕ → List ℕ → Placed → Subscriptions → Subscriptions → Type 0
TakesAt m c e p old new =
    SetsAt old new c (option_map (takes e p) (progress_at old c))
    ⊎ (IsGivenUp m × SetsAt old new c (option_map loses (progress_at old c)))
