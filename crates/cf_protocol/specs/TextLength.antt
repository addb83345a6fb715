-- How many bytes a written text has: a sum over its tree.
use Rattle.std.specs.Prelude.{ℕ, ◌+◌, List, length, Bool, true, false}
use Rattle.cf_json.specs.Grammar.{Tree, null, boolean, number, text, array, object, Parts, no_parts, part}
use Rattle.cf_protocol.specs.Request.{Command}
use Rattle.cf_protocol.specs.Outgoing.{Outgoing}
use Rattle.cf_protocol.specs.Written.{as_it_is, command_tree, outgoing_tree}

-- a key with its two quotes and its colon; an item of an array has none
abbrev pub key_length : Bool → List ℕ → ℕ
key_length false k = 0
key_length true k = 3 + length k

-- an array or object has two brackets, and a comma before each part but the first
abbrev mutual
  pub text_length : Tree → ℕ
  text_length null = 4
  text_length (boolean true) = 4
  text_length (boolean false) = 5
  text_length (number n) = length n
  text_length (text c) = 2 + length c
  text_length (array ps) = 2 + first_length false ps
  text_length (object ps) = 2 + first_length true ps

  pub first_length : Bool → Parts → ℕ
  first_length keyed no_parts = 0
  first_length keyed (part k t ps) = key_length keyed k + text_length t + more_length keyed ps

  pub more_length : Bool → Parts → ℕ
  more_length keyed no_parts = 0
  more_length keyed (part k t ps) = 1 + key_length keyed k + text_length t + more_length keyed ps

abbrev pub command_length : Command → ℕ
command_length c = text_length (command_tree as_it_is c)

abbrev pub outgoing_length : Outgoing → ℕ
outgoing_length o = text_length (outgoing_tree as_it_is o)
