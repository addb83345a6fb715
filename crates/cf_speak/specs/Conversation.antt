-- A conversation with one client over the lines of an input, and what is written. (The form of a line that tells of a
-- close is this project's own.)
use Rattle.std.specs.Prelude.{◌≡◌, ◌≢◌, ◌⊎◌, ℕ, true, false, Option, None, Some, List, [], ◌∷◌, ◌++◌, flat_map, codes}
use Rattle.std.specs.Fmt.{decimal}
use Rattle.std.specs.Io.BufRead.{first_piece, drop_through}
use Rattle.std.specs.Io.KnownBytes.{Appends}
use Rattle.std.specs.Str.{IsUtf8}
use Rattle.cf_protocol.specs.Codes.{close_reason_by}
use Rattle.cf_queue.specs.OutQueue.{Item, Text, Close}
use Rattle.cf_hub.specs.Hub.{Node, One, attached_at, moves, OthersStay}
use Rattle.cf_model.specs.Sessions.{takes_front}
use Rattle.std.specs.Option.{option_map}
use Rattle.cf_session.specs.CommandScripts.{Tables}
use Rattle.cf_session.specs.Script.{Served}
use Rattle.cf_session.specs.SessionMachine.{Progress, Todo}
use Rattle.cf_session.specs.Played.{Serves}
use Rattle.cf_speak.specs.Scene.{Scene, is_over, opening, waits}
use Rattle.cf_speak.specs.Steps.{Step}

-- ---- the input

-- The input begins with these lines, each up to a line feed or the input's end, and each of them UTF-8; the rest is
-- not read.
abbrev pub Begins : List ℕ → List (List ℕ) → List ℕ → Type 0
Begins input [] rest = rest ≡ input
Begins input (line ∷ lines) rest =
    (input ≢ []) × (line ≡ first_piece 10 input) × IsUtf8 line × Begins (drop_through 10 input) lines rest

-- ---- the output

-- a text, or a close with its code and reason
abbrev pub line_of : Item → List ℕ
line_of (Text text) = text ++ 10 ∷ []
line_of (Close code) = codes "close " ++ (decimal code ++ (32 ∷ (close_reason_by code ++ 10 ∷ [])))

abbrev pub lines_of : List Item → List ℕ
lines_of items = flat_map line_of items

-- ---- turns

-- these are left of what waited for the client, and all else is as it was
abbrev pub left_at : Option ℕ → List Item → Node → Node → Type 0
left_at None items old new = new ≡ old
left_at (Some k) items old new =
    (attached_at new k ≡ option_map (moves (λ a. record a { notes = items })) (attached_at old k))
    × OthersStay k old new

pub record Leaves (items : List Item) (s m : Scene) : Type 0 where
  pub hub : left_at s.number items s.hub m.hub
  pub rest : m ≡ record s { hub = m.hub }

-- the front of what waits is taken
abbrev pub takes_at : Option ℕ → Node → Node → Type 0
takes_at None old new = new ≡ old
takes_at (Some k) old new = One k takes_front old new

pub record Takes (s m : Scene) : Type 0 where
  pub hub : takes_at s.number s.hub m.hub
  pub rest : m ≡ record s { hub = m.hub }

-- A line of the client is served by its script, and then all that waits is given out.
pub record Turn (t : Tables) (p : Progress) (s : Scene) (line : List ℕ) (given : List Item) (m : Scene)
    (q : Progress) : Type 0 where
  pub heard : Scene
  pub serves : Serves is_over Step t p s line heard q
  pub gives : given ≡ waits heard
  pub drained : Leaves [] heard m

-- the turns of these lines, one after another, none after a close; and all that they give
abbrev pub Converses : Tables → Progress → Scene → List (List ℕ) → List Item → Scene → Progress → Type 0
Converses t p s [] given m q = (m ≡ s) × (q ≡ p) × (given ≡ [])
Converses t p s (line ∷ lines) given m q =
    (is_over s ≡ false)
    × ((next : Scene) × (between : Progress) × (first : List Item) × (others : List Item)
    × Turn t p s line first next between × (given ≡ first ++ others) × Converses t between next lines others m q)

abbrev pub IsNoText : List ℕ → Type 0
IsNoText line = IsUtf8 line → ⊥

-- one line is answered
pub record AnswersLine (t : Tables) (p : Progress) (s : Scene) (line : List ℕ) (m : Scene) (q : Progress)
    (old new : Option (List ℕ)) : Type 0 where
  pub text : IsUtf8 line
  pub given : List Item
  pub turn : Turn t p s line given m q
  pub written : Appends old new (lines_of given)

-- the next line of an input whose bytes are known, if one is left
abbrev pub ReadsLine : Option (List ℕ) → Option (List ℕ) → Option (List ℕ) → Type 0
ReadsLine None new line = Unit {0}
ReadsLine (Some input) new None = input ≡ []
ReadsLine (Some input) new (Some line) =
    (input ≢ []) × (line ≡ first_piece 10 input) × (new ≡ Some (drop_through 10 input))

-- ---- the whole

-- The input's lines are served from here on up to its end or a close, and what that gives is written, a line for each
-- text or close.
pub record SpeaksFrom (t : Tables) (p : Progress) (s : Scene) (input : List ℕ)
    (old new : Option (List ℕ)) : Type 0 where
  pub lines : List (List ℕ)
  pub rest : List ℕ
  pub given : List Item
  pub last : Scene
  pub progress : Progress
  pub cut : Begins input lines rest
  pub turns : Converses t p s lines given last progress
  pub ends : (rest ≡ []) ⊎ (is_over last ≡ true)
  pub written : Appends old new (lines_of given)

-- so they are by a session that waits for its client's connect, on a node on which nothing has happened
abbrev pub Speaks : Tables → List (List ℕ) → List ℕ → Option (List ℕ) → Option (List ℕ) → Type 0
Speaks t epochs input old new = SpeaksFrom t (Todo (Served None)) (opening t.namespaces epochs) input old new

-- The input's lines are served from here on up to one that is not UTF-8, no earlier one closed the session, and what
-- they gave is written.
pub record BreaksOffFrom (t : Tables) (p : Progress) (s : Scene) (input : List ℕ)
    (old new : Option (List ℕ)) : Type 0 where
  pub lines : List (List ℕ)
  pub rest : List ℕ
  pub given : List Item
  pub last : Scene
  pub progress : Progress
  pub cut : Begins input lines rest
  pub turns : Converses t p s lines given last progress
  pub stands : is_over last ≡ false
  pub more : rest ≢ []
  pub no_text : IsNoText (first_piece 10 rest)
  pub written : Appends old new (lines_of given)

abbrev pub BreaksOff : Tables → List (List ℕ) → List ℕ → Option (List ℕ) → Option (List ℕ) → Type 0
BreaksOff t epochs input old new = BreaksOffFrom t (Todo (Served None)) (opening t.namespaces epochs) input old new
