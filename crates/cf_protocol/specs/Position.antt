-- Where a client stands in a channel's stream. (Centrifugo, history and recovery: the stream position.)
-- The epoch is its characters, the empty one standing for none. The offset is that of the last publication that was
-- seen.
use Rattle.cf_protocol.specs.declared.position.Position as declared

abbrev pub Position : Type 0
Position = declared.Position
