-- THE RUNNING SERVER, SECTION BY SECTION. Each section is what one thread does in one go: under a shard's lock, under
-- a hub's lock, at a link, or at its own end of a connection. Threads take them in any order. What a section makes of
-- what it finds there is what the contract of its call says; here in notes, as cf_hub's laws say that a session of
-- texts may be seen. If a section has two entries for a shard's log, as an opening and a publication, or a tick's,
-- they are two steps here. (This project's own profile.)
use Rattle.std.specs.Prelude.{ℕ, ℤ, zero, suc, ◌+◌, ◌==◌, nat_le, nat_lt, ◌&&◌, ◌||◌, not, Bool, true, false}
use Rattle.std.specs.Prelude.{if◌then◌else◌, is_some, is_none, Option, Some, None, option_map, List, [], ◌∷◌, ◌++◌}
use Rattle.std.specs.Prelude.{length, slice_get, fold}
use Rattle.std.specs.Str.{bytes_eq}
use Rattle.cf_protocol.specs.Names.{with, is_among}
use Rattle.cf_protocol.specs.Datum.{Datum, Who}
use Rattle.cf_protocol.specs.LogEntry.{Entry}
use Rattle.cf_protocol.specs.LogEntry.Entry.{Open, Publish, Trim, Forget, Size}
use Rattle.cf_protocol.specs.Note.{Lists, Reading, Note, Fails, Put, Left, Listed, PingDue, Close}
use Rattle.cf_protocol.specs.Position.{Position}
use Rattle.cf_protocol.specs.Settings.{settings_of}
use Rattle.cf_stream.specs.ChannelLists.{stands_at}
use Rattle.cf_model.specs.Keys.{repeat_of}
use Rattle.cf_stream.specs.LogState.{life_in}
use Rattle.cf_stream.specs.PublicationList.{state_of}
use Rattle.cf_model.specs.Streams.{Life}
use Rattle.cf_model.specs.Streams.{last_offset}
use Rattle.cf_model.specs.Streams.{read_of, listed_above}
use Rattle.cf_model.specs.Sessions.{opens, begins, leaves, reads, comes, finishes, checks, closes_now, push}
use Rattle.cf_model.specs.Sessions.{takes_front, is_off}
use Rattle.cf_model.specs.Clients.{Client, new_client, last_of, is_idle, hears, reconnects}
use Rattle.cf_model.specs.Streams.{last_id}
use Rattle.cf_machine.specs.ClientLink.{client_sends, finishes_over, finishes_amid}
use Rattle.cf_machine.specs.ClientRequest.{ClientRequest, SentCommand, Subscribe, Unsubscribe}
use Rattle.cf_machine.specs.ClientRequest.{Publish as PublishRequest, History}
use Rattle.cf_machine.specs.Config.{Config}
use Rattle.cf_machine.specs.PublicationList.{Place}
use Rattle.cf_machine.specs.Session.{Session, Words}
use Rattle.cf_machine.specs.Told.{first_items}
use Rattle.cf_machine.specs.Trace.{Item}
use Rattle.cf_machine.specs.Weights.{wording}
use Rattle.cf_running.specs.ShardLogs.{epochs_in}

-- ---- what there is

-- what a worker has in hand for a connection, between two sections
pub data Work : Type 0 where
  Free : Work
  -- a subscription began, and the stream is to be read; it was read, and the answer is on its way to the hub; the hub
  -- has it
  Began : (channel : List ℕ) → (id : ℕ) → (since : Option Position) → Work
  HasRead : (channel : List ℕ) → (reading : Reading) → Work
  ToFinish : (channel : List ℕ) → Work
  -- the read was refused
  ToGiveUp : (channel : List ℕ) → (id : ℕ) → (code : ℕ) → Work
  -- a publish or a history was heard, and the broker is to be asked
  ToPublish : (channel : List ℕ) → (id : ℕ) → (key : List ℕ) → (datum : Datum) → Work
  ToList : (channel : List ℕ) → (id : ℕ) → (limit : ℤ) → Work
  -- an answer to a command for this channel is on its way to the hub
  ToSay : (channel : List ℕ) → (note : Note) → Work

-- a connection: whose it was when it came, and to which node
pub record Connection : Type 0 where
  pub client : List ℕ
  pub node : ℕ
  -- in the node's hub, which has it until it is detached
  pub session : Session
  pub attached : Bool
  pub work : Work
  -- what is on its way there, and back
  pub up : List SentCommand
  pub way : List Note

-- where a position that was looked up is on its way to
pub record Lookup : Type 0 where
  pub connection : ℕ
  pub channel : List ℕ
  pub top : Option Position

pub record Server : Type 0 where
  -- by shard
  pub logs : ℕ → List Entry
  -- what was accepted, in the order of time; and by node what waits on its link, by its number in that order
  pub accepted : List Place
  pub links : ℕ → List ℕ
  pub lookups : List Lookup
  -- by number, and how many there were
  pub connections : ℕ → Connection
  pub count : ℕ
  -- by name: what a client knows, and which connection it has. One that its client has left goes on at its node.
  pub clients : List ℕ → Client
  pub connection_of : List ℕ → Option ℕ

abbrev pub nowhere : Connection
nowhere = record { client = []; node = 0; session = opens; attached = false; work = Free; up = []; way = [] }

abbrev pub start : Server
start = record {
  logs = λ n. [];
  accepted = [];
  links = λ n. [];
  lookups = [];
  connections = λ k. nowhere;
  count = 0;
  clients = λ x. new_client;
  connection_of = λ x. None;
}

-- ---- what is read off the logs

-- the namespaces and nodes, and which shard a channel is in
pub record Site : Type 0 where
  pub config : Config
  pub shard_of : List ℕ → ℕ

-- all that was ever published to a channel in an epoch; and the epoch in which the channel's stream stands
abbrev pub is_in : List ℕ → Option (List ℕ) → Bool
is_in e None = false
is_in e (Some i) = bytes_eq e i

abbrev pub gathered : List ℕ → List ℕ → Option (List ℕ) × List Datum → Entry
    → Option (List ℕ) × List Datum
gathered c e p (Open d i) = if bytes_eq d c then (Some i, p.1) else p
gathered c e p (Publish d key x) = if bytes_eq d c && is_in e p.0 then (p.0, p.1 ++ x ∷ []) else p
gathered c e p (Trim d n) = p
gathered c e p (Forget d) = if bytes_eq d c then (None, p.1) else p
gathered c e p (Size name n) = p

abbrev pub gathered_in : List Entry → List ℕ → List ℕ → Option (List ℕ) × List Datum
gathered_in log c e = fold (gathered c e) (None, []) log

abbrev pub log_of : Site → Server → List ℕ → List Entry
log_of site s c = s.logs (site.shard_of c)

abbrev pub lists_of : Site → Server → Lists
lists_of site s c e = (gathered_in (log_of site s c) c e).1

-- a channel's stream, with its list
abbrev pub life_of : Site → Server → List ℕ → Option Life
life_of site s c = life_in site.config.namespaces (log_of site s c) c

abbrev pub words_of : Site → Server → Words
words_of site s = wording (lists_of site s)

-- whether a log may gain an entry
abbrev pub is_below : Option Life → Bool
is_below None = false
is_below (Some l) = nat_lt (length l.list) last_offset

-- whether a publish with this key repeats a publication of the stream
abbrev pub repeats : (key : List ℕ) → Option Life → Bool
repeats key None = false
repeats key (Some l) = is_some (repeat_of key l.keys)

abbrev pub may_gain : Config → List Entry → Entry → Bool
may_gain cfg log (Open c e) =
    is_none (life_in cfg.namespaces log c) && (not (length e == 0) && not (is_among e (epochs_in log c)))
may_gain cfg log (Publish c key d) =
    let life =
    life_in cfg.namespaces log c in is_some (settings_of cfg.namespaces c)
    && (is_below life && not (repeats key life))
may_gain cfg log (Trim c n) = is_some (life_in cfg.namespaces log c)
may_gain cfg log (Forget c) = is_some (life_in cfg.namespaces log c)
may_gain cfg log (Size name n) = true

-- the same at the log of this number
abbrev pub can_gain : Site → ℕ → Entry → Server → Bool
can_gain site n x s = may_gain site.config (s.logs n) x

-- ---- what changes

abbrev pub at_number : {A : Type 0} → (ℕ → A) → ℕ → A → ℕ → A
at_number f k v j = if j == k then v else f j

-- the log of this number, with an entry
abbrev pub gain : ℕ → Entry → Server → Server
gain n x s = record s { logs = at_number s.logs n (s.logs n ++ x ∷ []) }

-- something happens at a connection
abbrev pub change : ℕ → (Connection → Connection) → Server → Server
change k f s = record s { connections = at_number s.connections k (f (s.connections k)) }

-- ---- under a shard's lock

-- the log gains an entry, if it may: an opening, a tick's or a trim's or a forget's, and another size
abbrev pub gains : Site → ℕ → Entry → Server → Server
gains site n x s = if can_gain site n x s then gain n x s else s

abbrev pub place_in : List ℕ → Option Life → List Place
place_in c None = []
place_in c (Some l) = record { channel = c; at = record { epoch = l.epoch; offset = length l.list + 1 } } ∷ []

-- a publish that is accepted
abbrev pub accepts : Site → (channel key : List ℕ) → Datum → Server → Server
accepts site c key d s =
    record (gain (site.shard_of c) (Publish c key d) s) { accepted = s.accepted ++ place_in c (life_of site s c) }

-- its answer is on its way
abbrev pub answers : List ℕ → ℕ → Connection → Connection
answers c id x = record x { work = ToSay c (Put id) }

-- A publish that repeats one is answered, and that is all. Another is accepted and answered, if the log may gain it.
abbrev pub publishes : Site → ℕ → Work → Server → Server
publishes site k (ToPublish c id key d) s =
    if repeats key (life_of site s c) then change k (answers c id) s
    else if can_gain site (site.shard_of c) (Publish c key d) s then change k (answers c id) (accepts site c key d s)
    else s
publishes site k other s = s

-- What was accepted under a number is put on a node's link, whenever, however often and in whatever order. A full
-- link loses it, and then this doesn't happen.
abbrev pub place_of : ℕ → List Place → Option Place
place_of zero ps = None
place_of (suc i) ps = slice_get ps i

abbrev pub offers : ℕ → ℕ → Server → Server
offers i n s =
    if is_some (place_of i s.accepted) then record s { links = at_number s.links n (s.links n ++ i ∷ []) } else s

-- a read, and a history, of a stream that stands
abbrev pub reading_by : List ℕ → Option Position → Option Life → Connection → Connection
reading_by c since None x = x
reading_by c since (Some l) x = record x { work = HasRead c (read_of since (state_of l)) }

abbrev pub listing_by : List ℕ → ℕ → ℤ → Option Life → Connection → Connection
listing_by c id limit None x = x
listing_by c id limit (Some l) x =
    let found = listed_above 0 limit (state_of l) in record x {
      work = ToSay c (Listed c id found.at found.low found.count);
    }

abbrev pub asks_shard : Site → Server → Work → Connection → Connection
asks_shard site s (Began c id since) x = reading_by c since (life_of site s c) x
asks_shard site s (ToList c id limit) x = listing_by c id limit (life_of site s c) x
asks_shard site s other x = x

-- what is asked is refused
abbrev pub is_refused : ℕ → Work → Connection → Connection
is_refused code (Began c id since) x = record x { work = ToGiveUp c id code }
is_refused code (ToPublish c id key d) x = record x { work = ToSay c (Fails c id code) }
is_refused code (ToList c id limit) x = record x { work = ToSay c (Fails c id code) }
is_refused code other x = x

-- ---- under a hub's lock, or where a worker reads a text

abbrev pub is_free : Work → Bool
is_free Free = true
is_free other = false

-- the worker of a connection takes the first command
abbrev pub first_command : (SentCommand → List SentCommand → Connection → Connection) → List SentCommand
    → Connection
    → Connection
first_command f [] x = x
first_command f (k ∷ rest) x = f k rest x

abbrev pub hears_by : (SentCommand → List SentCommand → Connection → Connection) → Connection → Connection
hears_by f x = if x.attached && is_free x.work then first_command f x.up x else x

-- it begins a subscription, of an open session that hasn't got the channel
abbrev pub begins_by : Words → ℕ → ClientRequest → List SentCommand → Connection → Connection
begins_by w id (Subscribe c since) rest x =
    if x.session.closed || not (is_off (x.session.subs c)) then x
    else record x { up = rest; session = begins w c id since x.session; work = Began c id since }
begins_by w id other rest x = x

-- it leaves a channel
abbrev pub leaves_by : ℕ → ClientRequest → List SentCommand → Connection → Connection
leaves_by id (Unsubscribe c) rest x = record x { up = rest; session = leaves c x.session; work = ToSay c (Left id) }
leaves_by id other rest x = x

-- it is to publish, under this name, or to list
abbrev pub calls_by : Option Who → ℕ → ClientRequest → List SentCommand → Connection → Connection
calls_by info id (PublishRequest c key body) rest x = record x {
  up = rest;
  work = ToPublish c id key (record { body = body; info = info });
}
calls_by info id (History c limit) rest x = record x { up = rest; work = ToList c id limit }
calls_by info id other rest x = x

-- it refuses a subscribe, a publish or a history, or an unsubscribe from a channel that the session hasn't got
abbrev pub refuses_by : ℕ → ℕ → ClientRequest → List SentCommand → Connection → Connection
refuses_by code id (Unsubscribe c) rest x =
    if is_off (x.session.subs c) then record x { up = rest; work = ToSay c (Fails c id code) } else x
refuses_by code id (Subscribe c since) rest x = record x { up = rest; work = ToSay c (Fails c id code) }
refuses_by code id (PublishRequest c key body) rest x = record x { up = rest; work = ToSay c (Fails c id code) }
refuses_by code id (History c limit) rest x = record x { up = rest; work = ToSay c (Fails c id code) }

-- what was read reaches the hub; the subscription is finished in one of three ways, or given up; an answer is said
abbrev pub read_done : Words → Work → Connection → Connection
read_done w (HasRead c r) x = record x { session = reads w c r x.session; work = ToFinish c }
read_done w other x = x

abbrev pub finishes_by : (List ℕ → Session → Session) → Work → Connection → Connection
finishes_by f (ToFinish c) x = record x { session = f c x.session; work = Free }
finishes_by f other x = x

-- If it is broken off, the session was open: the first notes are said, and then it is closed, for want of memory,
-- or as too slow, if what waits for its client besides notes leaves no room for more.
abbrev pub breaks_off : Words → (count code : ℕ) → Work → Connection → Connection
breaks_off w count code h x = if x.session.closed then x else finishes_by (λ c. finishes_amid w c count code) h x

-- if the session is closed, the rest is dropped
abbrev pub drops : Connection → Connection
drops x = if x.session.closed then record x { work = Free } else x

abbrev pub gives_up : Work → Connection → Connection
gives_up (ToGiveUp c id code) x = record x { session = leaves c x.session; work = ToSay c (Fails c id code) }
gives_up other x = x

abbrev pub says : Words → Work → Connection → Connection
says w (ToSay c n) x = record x { session = push w n x.session; work = Free }
says w other x = x

-- an error is said in place of the answer, as when memory for its text is refused
abbrev pub error_for : ℕ → List ℕ → Note → Note
error_for code c (Put id) = Fails c id code
error_for code c (Left id) = Fails c id code
error_for code c (Listed d id at low count) = Fails c id code
error_for code c (Fails d id other) = Fails d id code
error_for code c n = n

abbrev pub errs : ℕ → Work → Connection → Connection
errs code (ToSay c n) x = record x { work = ToSay c (error_for code c n) }
errs code other x = x

-- something happens at a session that the hub still has
abbrev pub at_session : (Session → Session) → Connection → Connection
at_session f x = if x.attached then record x { session = f x.session } else x

-- the front of what waits goes on its way
abbrev pub takes_first : List Note → Connection → Connection
takes_first [] x = x
takes_first (n ∷ ns) x = record x { session = takes_front x.session; way = x.way ++ n ∷ [] }

abbrev pub takes : Connection → Connection
takes x = if x.attached then takes_first x.session.notes x else x

-- A connection is detached, wherever its worker is: its session is closed, what the worker has in hand is dropped, and
-- what then happens at it counts for nothing.
abbrev pub detaches : ℕ → Connection → Connection
detaches code x = record x { session = closes_now (Close code) x.session; work = Free; attached = false }

-- what came over a link is delivered to all sessions of the node
abbrev pub comes_by : Words → ℕ → Option Place → (ℕ → Connection) → ℕ → Connection
comes_by w n None xs k = xs k
comes_by w n (Some p) xs k =
    let x = xs k in if x.node == n then record x { session = comes w p.channel p.at x.session } else x

abbrev pub delivers_first : Site → ℕ → List ℕ → Server → Server
delivers_first site n [] s = s
delivers_first site n (i ∷ rest) s =
    record s {
      links = at_number s.links n rest;
      connections = comes_by (words_of site s) n (place_of i s.accepted) s.connections;
    }

-- a client comes to a node
abbrev pub comes_to : Site → List ℕ → ℕ → Option ℕ → Server → Server
comes_to site x n (Some k) s = s
comes_to site x n None s =
    if nat_lt n site.config.nodes then record s {
      connections = at_number s.connections s.count (record nowhere { client = x; node = n; attached = true });
      count = s.count + 1;
      connection_of = with s.connection_of x (Some s.count);
    } else s

-- somebody comes who is none of the clients, or a client whose connection is gone by then; and on a connection that
-- no client has anything may be sent
abbrev pub wanders : Site → ℕ → Server → Server
wanders site n s =
    if nat_lt n site.config.nodes
    then record s {
      connections = at_number s.connections s.count (record nowhere { node = n; attached = true });
      count = s.count + 1;
    }
    else s

abbrev pub is_connection : ℕ → Option ℕ → Bool
is_connection k None = false
is_connection k (Some j) = j == k

abbrev pub strays : ℕ → SentCommand → Server → Server
strays k e s =
    if is_connection k (s.connection_of (s.connections k).client) then s
    else change k (λ x. record x { up = x.up ++ e ∷ [] }) s

-- a position that was looked up is on its way
abbrev pub looks_up : Site → ℕ → List ℕ → Server → Server
looks_up site k c s = record s {
  lookups = record { connection = k; channel = c; top = option_map stands_at (life_of site s c) } ∷ s.lookups;
}

-- one of those that are on their way reaches the hub; that it may do so again does no harm
abbrev pub checks_by : Words → Option Lookup → Server → Server
checks_by w None s = s
checks_by w (Some a) s = change a.connection (at_session (checks w a.channel a.top)) s

-- ---- a client's own end

-- what a client is told to do
pub data ClientCommand : Type 0 where
  Ask : (channel : List ℕ) → ClientCommand
  AskFrom : (channel : List ℕ) → ClientCommand
  Leave : (channel : List ℕ) → ClientCommand
  Tell : (channel : List ℕ) → (key : List ℕ) → (body : List ℕ) → ClientCommand
  List_of : (channel : List ℕ) → (limit : ℤ) → ClientCommand

abbrev pub request_by : Client → ClientCommand → ClientRequest
request_by x (Ask c) = Subscribe c None
request_by x (AskFrom c) = Subscribe c (last_of (x.modes c))
request_by x (Leave c) = Unsubscribe c
request_by x (Tell c key body) = PublishRequest c key body
request_by x (List_of c limit) = History c limit

abbrev pub may_send : Client → ClientCommand → Bool
may_send x (Ask c) = is_idle (x.modes c)
may_send x (AskFrom c) = is_idle (x.modes c)
may_send x (Leave c) = not (is_idle (x.modes c))
may_send x (Tell c key body) = true
may_send x (List_of c limit) = true

abbrev pub sends_by : List ℕ → ClientCommand → Option ℕ → Server → Server
sends_by x e None s = s
sends_by x e (Some k) s =
    let client = s.clients x in
    if nat_le client.fresh last_id && may_send client e
    then record
    (change k (λ l. record l { up = l.up ++ record { id = client.fresh; request = request_by client e } ∷ [] }) s) {
      clients = with s.clients x (client_sends (request_by client e) client);
    }
    else s

-- its connection is gone
abbrev pub parts : List ℕ → Server → Server
parts x s = record s {
  connection_of = with s.connection_of x None;
  clients = with s.clients x (reconnects (s.clients x));
}

abbrev pub parts_from : List ℕ → Option ℕ → Server → Server
parts_from x None s = s
parts_from x (Some k) s = parts x s

-- a note reaches it
abbrev pub gets : List ℕ → Note → Server → Server
gets x (Close code) s = parts x s
gets x n s = record s { clients = with s.clients x (hears n (s.clients x)) }

abbrev pub receives_first : List ℕ → ℕ → List Note → Server → Server
receives_first x k [] s = s
receives_first x k (n ∷ ns) s = gets x n (change k (λ l. record l { way = ns }) s)

abbrev pub receives_by : List ℕ → Option ℕ → Server → Server
receives_by x None s = s
receives_by x (Some k) s = receives_first x k (s.connections k).way s

-- ---- THE SECTIONS

pub data Section : Type 0 where
  -- at a shard: an opening, a trim or a forget; another size for a namespace; a publish; a publication, by its
  -- number, on one node's link; a read or a history; a position; a refusal
  Gains : (entry : Entry) → Section
  Sizes : (shard : ℕ) → (name : List ℕ) → (count : ℕ) → Section
  Publishes : (connection : ℕ) → Section
  Offers : (number : ℕ) → (node : ℕ) → Section
  AsksShard : (connection : ℕ) → Section
  LooksUp : (connection : ℕ) → (channel : List ℕ) → Section
  IsRefused : (connection : ℕ) → (code : ℕ) → Section
  -- at a hub, by the worker of a connection
  Begins : (connection : ℕ) → Section
  Leaves : (connection : ℕ) → Section
  Calls : (connection : ℕ) → (info : Option Who) → Section
  Refuses : (connection : ℕ) → (code : ℕ) → Section
  ReadDone : (connection : ℕ) → Section
  Finishes : (connection : ℕ) → Section
  FinishesOver : (connection : ℕ) → Section
  FinishesAmid : (connection : ℕ) → (count : ℕ) → (code : ℕ) → Section
  GivesUp : (connection : ℕ) → Section
  Drops : (connection : ℕ) → Section
  Says : (connection : ℕ) → Section
  Errs : (connection : ℕ) → (code : ℕ) → Section
  Takes : (connection : ℕ) → Section
  Detaches : (connection : ℕ) → (code : ℕ) → Section
  -- at a hub, by others
  Delivers : (node : ℕ) → Section
  Checks : (lookup : ℕ) → Section
  Pings : (connection : ℕ) → Section
  Closes : (connection : ℕ) → (code : ℕ) → Section
  Attaches : (client : List ℕ) → (node : ℕ) → Section
  Wanders : (node : ℕ) → Section
  -- at a connection that no client has
  Strays : (connection : ℕ) → (command : SentCommand) → Section
  -- at a client
  Sends : (client : List ℕ) → (command : ClientCommand) → Section
  Receives : (client : List ℕ) → Section
  Breaks : (client : List ℕ) → Section

-- what a section makes of the server; nothing if it cannot be
abbrev pub server_after : Site → Section → Server → Server
server_after site (Gains (Publish c key d)) s = s
server_after site (Gains (Size name n)) s = s
server_after site (Gains (Open c e)) s = gains site (site.shard_of c) (Open c e) s
server_after site (Gains (Trim c n)) s = gains site (site.shard_of c) (Trim c n) s
server_after site (Gains (Forget c)) s = gains site (site.shard_of c) (Forget c) s
server_after site (Sizes shard name n) s = gains site shard (Size name n) s
server_after site (Publishes k) s = publishes site k (s.connections k).work s
server_after site (Offers i n) s = offers i n s
server_after site (AsksShard k) s = change k (asks_shard site s (s.connections k).work) s
server_after site (LooksUp k c) s = looks_up site k c s
server_after site (IsRefused k code) s = change k (is_refused code (s.connections k).work) s
server_after site (Begins k) s = change k (hears_by (λ c. begins_by (words_of site s) c.id c.request)) s
server_after site (Leaves k) s = change k (hears_by (λ c. leaves_by c.id c.request)) s
server_after site (Calls k info) s = change k (hears_by (λ c. calls_by info c.id c.request)) s
server_after site (Refuses k code) s = change k (hears_by (λ c. refuses_by code c.id c.request)) s
server_after site (ReadDone k) s = change k (read_done (words_of site s) (s.connections k).work) s
server_after site (Finishes k) s = change k (finishes_by (finishes (words_of site s)) (s.connections k).work) s
server_after site (FinishesOver k) s = change k (finishes_by (finishes_over (words_of site s)) (s.connections k).work) s
server_after site (FinishesAmid k count code) s =
    change k (breaks_off (words_of site s) count code (s.connections k).work) s
server_after site (GivesUp k) s = change k (gives_up (s.connections k).work) s
server_after site (Drops k) s = change k drops s
server_after site (Says k) s = change k (says (words_of site s) (s.connections k).work) s
server_after site (Errs k code) s = change k (errs code (s.connections k).work) s
server_after site (Takes k) s = change k takes s
server_after site (Detaches k code) s = change k (detaches code) s
server_after site (Delivers n) s = delivers_first site n (s.links n) s
server_after site (Checks i) s = checks_by (words_of site s) (slice_get s.lookups i) s
server_after site (Pings k) s = change k (at_session (push (words_of site s) PingDue)) s
server_after site (Closes k code) s = change k (at_session (closes_now (Close code))) s
server_after site (Attaches x n) s = comes_to site x n (s.connection_of x) s
server_after site (Wanders n) s = wanders site n s
server_after site (Strays k e) s = strays k e s
server_after site (Sends x e) s = sends_by x e (s.connection_of x) s
server_after site (Receives x) s = receives_by x (s.connection_of x) s
server_after site (Breaks x) s = parts_from x (s.connection_of x) s

abbrev pub ran : Site → Server → List Section → Server
ran site s [] = s
ran site s (x ∷ xs) = ran site (server_after site x s) xs

-- ---- what applications are told

pub record Told : Type 0 where
  pub client : List ℕ
  pub item : Item

abbrev pub telling : List ℕ → List Item → List Told
telling x [] = []
telling x (i ∷ is) = record { client = x; item = i } ∷ telling x is

abbrev pub told_at : Site → List ℕ → Option ℕ → Server → List Told
told_at site x None s = []
told_at site x (Some k) s = telling x (first_items (lists_of site s) (s.clients x) (s.connections k).way)

-- only if a note reaches a client is its application told something
abbrev pub tells : Site → Section → Server → List Told
tells site (Receives x) s = told_at site x (s.connection_of x) s
tells site other s = []

abbrev pub told : Site → Server → List Section → List Told
told site s [] = []
told site s (x ∷ xs) = tells site x s ++ told site (server_after site x s) xs
