-- Runs of the server's sections that show what clients are told, when sections of several threads fall between one
-- another. (This project's own profile.)
use Rattle.std.specs.Prelude.{ℕ, List, [], ◌∷◌, ◌++◌, codes, None}
use Prim.Native.String.{String as Name}
use Rattle.cf_protocol.specs.LogEntry.Entry.{Open}
use Rattle.cf_protocol.specs.Position.{Position}
use Rattle.cf_machine.specs.Examples.{ann, news, plain}
use Rattle.cf_machine.specs.Trace.{Item}
use Rattle.cf_running.specs.Server.{Section, Gains, Sizes, Publishes, Offers, AsksShard, Begins, Calls, ReadDone}
use Rattle.cf_running.specs.Server.{Finishes, FinishesAmid, Says, Takes, Delivers, Attaches, Sends, Receives, Breaks}
use Rattle.cf_running.specs.Server.{Ask, AskFrom, Tell, Site, Told, start, told}

-- one node, one shard
abbrev pub site : Site
site = record { config = plain; shard_of = λ c. 0 }

unfoldable pub shown : List Section → List Told
shown sections = told site start sections

abbrev pub bob : List ℕ
bob = codes "bob"

-- bob, who has connection 0, publishes: what comes before the shard's lock; and the publication of this number, which
-- is offered on the node's link
abbrev pub bob_has_under : (key body : Name) → List Section
bob_has_under key body = Sends bob (Tell news (codes key) (codes body)) ∷ Calls 0 None ∷ []

abbrev pub bob_has : Name → List Section
bob_has body = bob_has_under "" body

abbrev pub bob_publishes : ℕ → List Section
bob_publishes i = Publishes 0 ∷ Offers i 0 ∷ Says 0 ∷ []

-- ann takes what waits
abbrev pub taken : List Section
taken = Takes 1 ∷ Receives ann ∷ []

abbrev pub opening : List Section
opening =
    Attaches bob 0 ∷ Attaches ann 0 ∷ Gains (Open news (codes "aaaa")) ∷ Sends ann (Ask news) ∷ Begins 1 ∷ []

-- a publication is accepted and delivered after ann's stream was read and before the answer reaches the hub; one more
-- after that
abbrev pub comes_between : List Section
comes_between =
    opening ++ AsksShard 1 ∷ (bob_has "1" ++ (bob_publishes 1 ++ Delivers 0 ∷ ReadDone 1 ∷ Finishes 1
    ∷ (bob_has "2" ++ (bob_publishes 2 ++ Delivers 0 ∷ (taken ++ (taken ++ taken))))))

-- ann breaks off between that and its finish; its old connection goes on at the node, and it comes back from where it
-- was
abbrev pub comes_back : List Section
comes_back =
    comes_between ++ Breaks ann ∷ Attaches ann 0 ∷ (bob_has "3" ++ (bob_publishes 3 ++ Delivers 0 ∷ Takes 1
    ∷ Sends ann (AskFrom news) ∷ Begins 2 ∷ AsksShard 2 ∷ ReadDone 2 ∷ Finishes 2 ∷ Takes 2 ∷ Receives ann
    ∷ []))

-- memory is refused amid ann's finish, after the reply
abbrev pub broken_off : List Section
broken_off = opening ++ AsksShard 1 ∷ ReadDone 1 ∷ FinishesAmid 1 1 3004 ∷ (taken ++ taken)

-- bob publishes two things under one key, and then one under none
abbrev pub sent_twice : List Section
sent_twice =
    opening ++ AsksShard 1 ∷ ReadDone 1 ∷ Finishes 1 ∷ (bob_has_under "k" "1" ++ (bob_publishes 1 ++ Delivers 0
    ∷
    (bob_has_under "k" "2"
    ++ (bob_publishes 2 ++ Delivers 0 ∷ (bob_has "3"
    ++ (bob_publishes 2 ++ Delivers 0 ∷ (taken ++ (taken ++ taken))))))))

-- ann breaks off and misses one publication, which the stream still held; then its size became one, and after one
-- more publication it doesn't hold that any longer
abbrev pub shrunk : List Section
shrunk =
    comes_between ++ Breaks ann ∷ Attaches ann 0
    ∷ (bob_has "3" ++ (bob_publishes 3 ++ Sizes 0 [] 1 ∷ (bob_has "4" ++ (bob_publishes 4
    ++ Sends ann (AskFrom news) ∷ Begins 2 ∷ AsksShard 2 ∷ ReadDone 2 ∷ Finishes 2 ∷ Takes 2 ∷ Receives ann
    ∷ []))))

abbrev pub ann_gets : Item → Told
ann_gets i = record { client = ann; item = i }

abbrev pub at : ℕ → Position
at o = record { epoch = codes "aaaa"; offset = o }
