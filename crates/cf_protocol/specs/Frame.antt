-- What a frame holds: the commands of a client, or the replies and pushes to one.
-- (Centrifugo's client protocol, JSON form: messages of one frame stand one behind another.)
use Rattle.std.specs.Prelude.{◌≡◌, ◌≤◌, ℕ, List, [], ◌∷◌, Option, Some, None, option_map, flat_map}
use Rattle.cf_json.specs.Grammar.{Tree}
use Rattle.cf_json.specs.Spans.{max_depth}
use Rattle.cf_json.specs.Frame.{IsFrame, frame_depth}
use Rattle.cf_protocol.specs.Request.{Command}
use Rattle.cf_protocol.specs.Outgoing.{Outgoing}
use Rattle.cf_protocol.specs.Fields.{read_all}
use Rattle.cf_protocol.specs.Command.{command_of}
use Rattle.cf_protocol.specs.Reply.{outgoing_in}

-- A frame without a value is unreadable, and so is one with an unreadable value.
abbrev pub unless_empty : {A : Type 0} → (List Tree → Option A) → List Tree → Option A
unless_empty f [] = None
unless_empty f (t ∷ ts) = f (t ∷ ts)

abbrev pub commands_of : List Tree → Option (List Command)
commands_of = unless_empty (read_all command_of)

-- the text is a frame, no value of which nests deeper than is read, and its values are read as these
pub record FrameOf {A : Type 0} (read : List Tree → Option (List A)) (s : List ℕ) (xs : List A) : Type 0 where
  pub values : List Tree
  pub frame : IsFrame s values
  pub shallow : frame_depth values ≤ max_depth
  pub are : read values ≡ Some xs

abbrev pub IsCommands : List ℕ → List Command → Type 0
IsCommands = FrameOf commands_of

-- the replies and pushes of all of them, without what is passed over
abbrev pub all_outgoing_in : List Tree → Option (List Outgoing)
all_outgoing_in ts = option_map (flat_map (λ os. os)) (read_all outgoing_in ts)

abbrev pub replies_of : List Tree → Option (List Outgoing)
replies_of = unless_empty all_outgoing_in

abbrev pub IsReplies : List ℕ → List Outgoing → Type 0
IsReplies = FrameOf replies_of
