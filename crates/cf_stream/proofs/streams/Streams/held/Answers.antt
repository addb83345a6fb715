-- A channel without a stream holds nothing; another holds what its stream does, carried over the view.
use Rattle.cf_stream.proofs.Channels.{get-by_channel}
use Rattle.cf_stream.proofs.streams.Streams.held.Goals as goal

pub returns-in-None : goal.returns-in-None
returns-in-None c = rw (← c.self.view_is, get-by_channel, ← c.in-None.ensures.value)

pub returns-in-Some : goal.returns-in-Some
returns-in-Some c = rw (← c.self.view_is, get-by_channel, ← c.in-Some.ensures.value) c.held.ensures.held
