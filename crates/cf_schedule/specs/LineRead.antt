-- What the readers of a line's parts answer. (This project's own format.)
use Rattle.std.specs.Prelude.{◌≡◌, ◌≢◌, ◌⊎◌, codes, ℕ, Bool, true, false, ◌≤◌, List, [], ◌∷◌, ◌++◌, Result, Ok, Err}
use Rattle.std.specs.Prelude.{Option, Some, None}
use Rattle.std.specs.Fmt.{decimal}
use Rattle.cf_machine.specs.Event.{Event}
use Rattle.cf_machine.specs.TraceLine.{spaced}
use Rattle.cf_schedule.specs.ScheduleLine.{IsData, last_number}
use Rattle.cf_schedule.specs.Seen.{seen}
use Rattle.cf_schedule.specs.Word.{IsChannelName, IsKey}
use Rattle.cf_schedule.specs.declared.event.Event as declared
use Rattle.cf_schedule.specs.declared.event.EventFault.{EventFault}
use Rattle.cf_schedule.specs.declared.event.EventFault.TheVariants.{Unreadable, Memory}

-- ---- words

-- the byte d doesn't stand in the word
abbrev pub Lacks : ℕ → List ℕ → Type 0
Lacks d [] = Unit {0}
Lacks d (b ∷ bs) = (b ≢ d) × Lacks d bs

abbrev pub IsUnspaced : List ℕ → Type 0
IsUnspaced = Lacks 32

-- s is cut at its first d
pub record CutsAt (d : ℕ) (s before after : List ℕ) : Type 0 where
  pub whole : s ≡ before ++ d ∷ after
  pub word : Lacks d before

abbrev pub CutsAtSpace : List ℕ → List ℕ → List ℕ → Type 0
CutsAtSpace = CutsAt 32

-- s writes no number
abbrev pub IsNoNumber : List ℕ → Type 0
IsNoNumber s = (n : ℕ) → n ≤ last_number → s ≢ decimal n

-- what stands behind this word is a client and a channel
abbrev pub IsInChannel : List ℕ → Type 0
IsInChannel w =
    (w ≡ codes "ask") ⊎ ((w ≡ codes "askfrom") ⊎ ((w ≡ codes "read") ⊎ ((w ≡ codes "finish")
    ⊎ ((w ≡ codes "leave") ⊎ (w ≡ codes "check")))))

-- the words of a publish, with a key and without
abbrev pub publish_word : Bool → List ℕ
publish_word false = codes "publish"
publish_word true = codes "publishkey"

abbrev pub put_word : Bool → List ℕ
put_word false = codes "put"
put_word true = codes "putkey"

-- r is the last word s, behind the key k if there is one
abbrev pub IsKeyBefore : Bool → List ℕ → List ℕ → List ℕ → Type 0
IsKeyBefore false k s r = (k ≡ []) × (r ≡ s)
IsKeyBefore true k s r = IsKey k × (r ≡ spaced (k ∷ s ∷ []))

-- r is the channel c, perhaps the key k, and a datum
abbrev pub IsPublication : Bool → List ℕ → List ℕ → List ℕ → List ℕ → Type 0
IsPublication keyed c k body r =
    IsChannelName c × (s end : List ℕ) × IsKeyBefore keyed k s end × IsData s body
    × (r ≡ spaced (c ∷ end ∷ []))

-- ---- what is refused

-- if something is refused as unreadable, this holds of it
abbrev pub Refused : EventFault → Type 0 → Type 0
Refused Unreadable P = P
Refused Memory P = Unit {0}

-- s holds no datum
abbrev pub IsNoData : List ℕ → Type 0
IsNoData s = (body : List ℕ) → IsData s body → ⊥

-- no event is as Q says
abbrev pub IsNone : (Event → Type 0) → Type 0
IsNone Q = (e : Event) → Q e → ⊥

-- the event that was read is as Q says, or there is none
abbrev pub Answers : (Event → Type 0) → Result declared.Event EventFault → Type 0
Answers Q (Ok e) = Q (seen e)
Answers Q (Err e) = Refused e (IsNone Q)

-- the event e was read, unless memory ran out
abbrev pub ReadAs : Event → Result (Option declared.Event) EventFault → Type 0
ReadAs e (Ok (Some d)) = seen d ≡ e
ReadAs e (Ok None) = ⊥
ReadAs e (Err Unreadable) = ⊥
ReadAs e (Err Memory) = Unit {0}
