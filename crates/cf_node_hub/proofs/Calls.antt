-- What calls of a node's hub keep.
use Rattle.std.proofs.Common.{◌≡◌, ◌≢◌, ℕ, ◌≤◌, ◌-◌, length, List, Bool, sym, subst, [], append-nil, ⊎_elim}
use mathlib.Core.List.{IsPrefix}
use Rattle.cf_protocol.specs.Datum.{Placed}
use Rattle.cf_protocol.specs.Note.{Lists, Reading, placed_from}
use Rattle.cf_protocol.specs.Settings.{NamespaceTable}
use Rattle.cf_protocol.specs.LogEntry.{Entry}
use Rattle.std.specs.Prelude.{Result, Ok, Err, OnOk, IfErr, IfOk, Option}
use Rattle.cf_protocol.specs.Position.{Position}
use Rattle.cf_protocol.specs.Regular.{ArePlaced, IsBody, IsCode, IsPosition}
use Rattle.cf_hub.specs.Hub.{Begins, Delivers, IsRefused, Meets, Node, One, Opens, attached_at}
use Rattle.cf_hub.specs.Turns.{Turns}
use Rattle.cf_hub.specs.WantOfMemory.{OrCloses}
use Rattle.cf_queue.specs.OutQueue.{Text}
use Rattle.cf_hub.specs.Wordings.{plain, reading}
use Rattle.cf_hub.specs.InNotes.{AreMissed}
use Rattle.cf_hub.specs.declared.refusal.HubRefusal.{HubRefusal}
use Rattle.cf_model.specs.Sessions.{begins, push, reads}
use Rattle.cf_hub.specs.AlikeMoves.{Texts}
use Rattle.cf_order.specs.Passes.{PassState}
use Rattle.cf_shard.specs.Shards.{IsSameBut, number_of, pass_at}
use Rattle.cf_shard.specs.LogAnswer.{IsReadAnswer}
use Rattle.cf_shard.specs.Standing.{StandsIn}
use Rattle.cf_shard.proofs.Standing.{stands_on}
use Rattle.cf_hub_moves.specs.HubAsides.{MovesAmong}
use Rattle.cf_node_hub.specs.Seen.{SeesOn, log_at, seen_lists}
use Rattle.cf_node_hub.specs.Told.{IsReply, SaysSome, SpeaksOf}
use Rattle.cf_node_hub.proofs.Seen.{stands-listed}
use Rattle.cf_node_hub.proofs.Speaking.{Keeps, begins-keep, delivers-says, asides-keep, is-same, meets-says, notes-keep}
use Rattle.cf_node_hub.proofs.Speaking.{one-says, opens-says, reads-keep, speaks_on}
use Rattle.cf_hub_moves.specs.Readings.{answered}
use Rattle.cf_node_hub.proofs.ReadAnswers.{missed_of}
use Rattle.cf_node_hub.specs.Histories.{RepliesHistory}
use Rattle.cf_node_hub.proofs.Listings.{says}

-- one shard's pass goes on, and the others stay
pub sees_on : (n : ℕ) (old new : List PassState) → IsSameBut n old new
    → IsPrefix (pass_at old n).log (pass_at new n).log → SeesOn old new
sees_on n old new others here c =
    ⊎_elim
    (λ (same : number_of c ≡ n). subst (λ (k : ℕ). IsPrefix (pass_at old k).log (pass_at new k).log) (sym same) here)
    (λ (other : number_of c ≢ n). subst (λ (p : PassState). IsPrefix (pass_at old (number_of c)).log p.log)
    (sym (others (number_of c) other)) ([], append-nil (pass_at old (number_of c)).log))
    (is-same (number_of c) n)

-- a delivery of what stands in the pass that is taken in
pub delivery_kept : (moves : (lists : Lists) → MovesAmong IsReply lists) (n : ℕ) (old new : List PassState)
    (pass : PassState) (c e : List ℕ) (p : Placed) (before after : Node)
    → n ≡ number_of c → IsSameBut n old new → IsPrefix (pass_at old n).log (pass_at new n).log
    → IsPrefix pass.log (pass_at new n).log → StandsIn pass.log c e p
    → Delivers c e p before after → SpeaksOf IsReply old before → SpeaksOf IsReply new after
delivery_kept moves n old new pass c e p before after number others here theirs stands delivers h sound =
    let stood : StandsIn (log_at new c) c e p =
    subst (λ (k : ℕ). StandsIn (pass_at new k).log c e p) number
    (stands_on pass.log (pass_at new n).log c e p theirs stands) in
    delivers-says IsReply (seen_lists new) c e p before after (moves (seen_lists new))
    (stands-listed new c e p sound stood) delivers
    (speaks_on IsReply old new before (sees_on n old new others here) h sound)

-- one session's move
pub one_kept : (seen : List PassState) (k : ℕ) (f : Texts → Texts) (before after : Node)
    → ((lists : Lists) → Keeps IsReply lists f) → One k f before after → SpeaksOf IsReply seen before
    → SpeaksOf IsReply seen after
one_kept seen k f before after keep one h sound =
    one-says IsReply (seen_lists seen) k f before after (keep (seen_lists seen)) one (h sound)

-- a session asks for a channel, or is refused
pub begin_kept : (moves : (lists : Lists) → MovesAmong IsReply lists) (seen : List PassState) (k : ℕ) (c : List ℕ)
    (id : ℕ) (since : Option Position) (before after : Node) (result : Result Unit HubRefusal) → IsCode id
    → OnOk result (Begins k c id since before after) → IfErr result (λ e. IsRefused e before after)
    → SpeaksOf IsReply seen before → SpeaksOf IsReply seen after
begin_kept moves seen k c id since before after (Ok u) code ok err h sound j =
    one_kept seen k (begins plain c id since) before after
    (λ lists. begins-keep IsReply lists (moves lists) c id since code) ok.one h sound j
begin_kept moves seen k c id since before after (Err e) code ok err h sound j =
    subst (SaysSome IsReply (seen_lists seen)) (sym (err.sessions j)) (h sound j)

-- what a read gave is taken
pub read_kept
    : (moves : (lists : Lists) → MovesAmong IsReply lists)
    (law : (lists : Lists) (c : List ℕ) (r : Reading) (missed : List Placed) → r.top ≤ length (lists c r.epoch)
    → missed ≡ placed_from (lists c r.epoch) r.low (r.top - r.low) → ArePlaced IsBody missed
    → IsPosition (record { epoch = r.epoch; offset = r.top }) → AreMissed lists c r missed)
    (t : NamespaceTable) (n : ℕ) (old new : List PassState) (pass : PassState) (k : ℕ) (c : List ℕ)
    (since : Option Position) (p : Position) (recovered : Bool) (items : List Placed)
    (seen : List Entry) (before after : Node)
    → n ≡ number_of c → IsSameBut n old new → IsPrefix (pass_at old n).log (pass_at new n).log
    → IsPrefix pass.log (pass_at new n).log
    → IsReadAnswer t seen pass.log c since p recovered items
    → One k (reads (reading items) c (answered p recovered items)) before after
    → SpeaksOf IsReply old before → SpeaksOf IsReply new after
read_kept moves law t n old new pass k c since p recovered items seen before after number others here theirs read one h
    sound =
    let begins : IsPrefix pass.log (log_at new c) =
    subst (λ (m : ℕ). IsPrefix pass.log (pass_at new m).log) number theirs in
    one-says IsReply (seen_lists new) k (reads (reading items) c (answered p recovered items)) before after
    (reads-keep IsReply (seen_lists new) (moves (seen_lists new)) c (answered p recovered items) items
    (missed_of law t new seen pass.log c since p recovered items sound begins read)) one
    (speaks_on IsReply old new before (sees_on n old new others here) h sound)

-- a session is attached, or refused
pub attach_kept : (moves : (lists : Lists) → MovesAmong IsReply lists) (seen : List PassState) (now : ℕ) (user : List ℕ)
    (before after : Node) (result : Result ℕ HubRefusal)
    → IfOk result (λ k. Opens k user now before after) → IfErr result (λ e. IsRefused e before after)
    → SpeaksOf IsReply seen before → SpeaksOf IsReply seen after
attach_kept moves seen now user before after (Ok k) ok err h sound j =
    opens-says IsReply (seen_lists seen) (moves (seen_lists seen)) k now user before after ok (h sound) j
attach_kept moves seen now user before after (Err e) ok err h sound j =
    subst (SaysSome IsReply (seen_lists seen)) (sym (err.sessions j)) (h sound j)

-- a reply is said that the session gives itself
pub say_kept : (moves : (lists : Lists) → MovesAmong IsReply lists) (seen : List PassState) (k : ℕ) (t : List ℕ)
    (before after : Node) → IsReply t
    → Meets k (λ hit. OrCloses hit plain (push plain (Text t))) before after → SpeaksOf IsReply seen before
    → SpeaksOf IsReply seen after
say_kept moves seen k t before after is m h sound =
    meets-says IsReply (seen_lists seen) k (push plain (Text t)) before after
    (asides-keep IsReply (seen_lists seen) (moves (seen_lists seen)) t is) m (h sound)

-- the reply to a history is said, which brings what stands in the pass that is taken in
pub history_kept
    : (moves : (lists : Lists) → MovesAmong IsReply lists) (t : NamespaceTable) (n : ℕ) (old new : List PassState)
    (pass : PassState) (k : ℕ) (c text : List ℕ) (before after : Node)
    → n ≡ number_of c → IsSameBut n old new → IsPrefix (pass_at old n).log (pass_at new n).log
    → IsPrefix pass.log (pass_at new n).log → RepliesHistory t pass.log c text
    → Meets k (λ hit. OrCloses hit plain (push plain (Text text))) before after → SpeaksOf IsReply old before
    → SpeaksOf IsReply new after
history_kept moves t n old new pass k c text before after number others here theirs replies m h sound =
    let begins : IsPrefix pass.log (log_at new c) =
    subst (λ (j : ℕ). IsPrefix pass.log (pass_at new j).log) number theirs in
    let said = says t new pass.log c text sound begins replies in
    meets-says IsReply (seen_lists new) k (push plain (Text text)) before after
    (notes-keep IsReply (seen_lists new) (moves (seen_lists new)) text said.0 said.1) m
    (speaks_on IsReply old new before (sees_on n old new others here) h sound)

-- a pass more is taken in, and no session changes
pub learned_kept : (n : ℕ) (old new : List PassState) (node : Node) → IsSameBut n old new
    → IsPrefix (pass_at old n).log (pass_at new n).log → SpeaksOf IsReply old node → SpeaksOf IsReply new node
learned_kept n old new node others here h = speaks_on IsReply old new node (sees_on n old new others here) h

-- the sessions are the same
pub same_kept : (seen : List PassState) (before after : Node) (turns : Turns) → after ≡ record before { turns = turns }
    → SpeaksOf IsReply seen before → SpeaksOf IsReply seen after
same_kept seen before after turns same h sound k =
    subst (λ (n : Node). SaysSome IsReply (seen_lists seen) (attached_at n k)) (sym same) (h sound k)
