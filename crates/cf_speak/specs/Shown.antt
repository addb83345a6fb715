-- A node of the code as the definitions' scene.
use Rattle.std.specs.Option.{option_map}
use Rattle.std.specs.String.{string_bytes}
use Rattle.cf_stream.specs.declared.refusal.StreamRefusal.{StreamRefusal}
use Rattle.cf_stream.specs.declared.refusal.StreamRefusal.TheVariants as stream
use Rattle.std.specs.Prelude.{Bool, true, false}
use Rattle.cf_speak.specs.Scene.{Scene}
use Rattle.cf_speak.specs.declared.local_node.LocalNode.{LocalNode}

abbrev pub scene_of : LocalNode → Scene
scene_of s =
    record {
      hub = s.hub;
      streams = s.streams;
      people = s.presence;
      epochs = s.epochs;
      number = s.number;
      turned_away = s.turned_away;
      due = option_map string_bytes s.due;
      is_short = s.is_short;
    }

abbrev pub is_memory : StreamRefusal → Bool
is_memory stream.Memory = true
is_memory other = false
