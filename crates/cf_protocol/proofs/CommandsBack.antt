-- The tree of a regular command is read as the command.
use Rattle.std.proofs.Common.{◌≡◌, ℕ, zero, suc, ◌≤◌, cond, ℤ, Bool, true, false, ◌&&◌, IsTrue, List, [], ◌∷◌, Option}
use Rattle.std.proofs.Common.{Some, None, is_some, refl, sym, ap, ◌∙◌, arith, ne_eqb, le-leb, codes}
use Rattle.std.specs.Prelude.{◌==◌}
use Rattle.std.proofs.lemmas.Bool.{and_right, false≢true}
use Prim.Native.String.{String as Name}
use Rattle.cf_json.specs.Grammar.{Tree, depth}
use Rattle.cf_json.specs.Compact.{compact_text}
use Rattle.cf_json.specs.Members.{Fields}
use Rattle.cf_protocol.specs.Position.{Position}
use Rattle.cf_protocol.specs.Request as request
use Rattle.cf_protocol.specs.Request.{Data, Absent, TooDeep, Body, Request, Command}
use Rattle.cf_protocol.specs.Fields.{look_up, object_as, object_or_none, text, position, is_limit, ◌>>=◌, max_u32}
use Rattle.cf_protocol.specs.Fields.{the_only}
use Rattle.cf_protocol.specs.Command as reading
use Rattle.cf_protocol.specs.Command.{command_from, named_command, needs_id, requests, command_of, data_of}
use Rattle.cf_protocol.specs.Command.{max_data_depth}
use Rattle.cf_protocol.specs.Written as written
use Rattle.cf_protocol.specs.Written.{Member, ◌⇒◌, object_of, body_of, from, since, channel_alone, command}
use Rattle.cf_protocol.specs.Regular.{IsData, IsFrom, IsSince, IsCode, IsRegularRequest}
use Rattle.cf_protocol.proofs.JsonLaws.{JsonLaws}
use Rattle.cf_protocol.proofs.Bodies.{Bodies}
use Rattle.cf_protocol.proofs.Lookups.{slot, are_plain, read_object, each_found, each_is}
use Rattle.cf_protocol.proofs.Readings.{reads, read_text, read_flag, read_whole, read_signed, read_position}
use Rattle.cf_protocol.proofs.Readings.{read_or_none, read_none}
use Rattle.cf_protocol.proofs.Writings.{stands, inner_stands}

-- ---- the command's members

some_fields : (k : List ℕ) (t : Tree) (r : Fields) → look_up k r ≡ Some t → command_from r ≡ named_command r
some_fields k t [] e = absurd (false≢true (ap is_some e))
some_fields k t (g ∷ gs) e = refl

named : (r : Fields) (ms : List Member) (id : ℕ) (q : Request) → ((k : List ℕ) → look_up k r ≡ slot k ms)
    → slot (codes "id") ms ≡ written.whole id → id ≤ max_u32
    → the_only (each_found requests (λ k. slot k ms)) ≡ Some q → (needs_id q && (id == 0)) ≡ false
    → named_command r ≡ Some (record { id = id; request = q })
named r ms id q at e h is n =
    reads _ (read_whole r "id" max_u32 id (at (codes "id") ∙ e) h (omega arith))
    (reads _ (ap the_only (each_is requests r (λ k. slot k ms) at) ∙ is)
    (ap (λ b. cond b None (Some (record { id = id; request = q }))) n))

a_command : (ms : List Member) (id : ℕ) (q : Request) (k : Name) (t : Tree) → are_plain ms ≡ true
    → slot (codes k) ms ≡ Some t → slot (codes "id") ms ≡ written.whole id → id ≤ max_u32
    → the_only (each_found requests (λ k. slot k ms)) ≡ Some q → (needs_id q && (id == 0)) ≡ false
    → command_of (object_of ms) ≡ Some (record { id = id; request = q })
a_command ms id q k t plain there e h is n =
    read_object command_from ms (Some (record { id = id; request = q })) plain
    (λ r at. some_fields (codes k) t r (at (codes k) ∙ there) ∙ named r ms id q at e h is n)

has_id : (q : Request) (id : ℕ) → IsCode id → (needs_id q && (id == 0)) ≡ false
has_id q id h = and_right (needs_id q) (id == 0) (ne_eqb id 0 (omega (arith, h.0)))

-- ---- requests

read_connect : JsonLaws → (token : List ℕ) → object_as reading.connect (object_of (("token" ⇒ written.text token) ∷ []))
    ≡ Some (request.Connect token)
read_connect j token =
    read_object reading.connect (("token" ⇒ written.text token) ∷ []) (Some (request.Connect token)) refl
    (λ r at. reads _ (read_text j r "token" token (at (codes "token"))) refl)

read_channel : JsonLaws → (f : List ℕ → Request) (channel : List ℕ)
    → object_as (λ r. text r "channel" >>= λ c. Some (f c)) (channel_alone channel) ≡ Some (f channel)
read_channel j f channel =
    read_object (λ r. text r "channel" >>= λ c. Some (f c)) (("channel" ⇒ written.text channel) ∷ []) (Some (f channel))
    refl (λ r at. reads _ (read_text j r "channel" channel (at (codes "channel"))) refl)

nowhere : Position
nowhere = record { epoch = []; offset = 0 }

read_subscribe : JsonLaws → (channel : List ℕ) (p : Option Position) → IsFrom p
    → object_as reading.subscribe (object_of (("channel" ⇒ written.text channel) ∷ from p))
    ≡ Some (request.Subscribe channel p)
unfolding nowhere
read_subscribe j channel None h =
    read_object reading.subscribe (("channel" ⇒ written.text channel) ∷ []) (Some (request.Subscribe channel None)) refl
    (λ r at.
    reads _ (read_flag r "recover" false (at (codes "recover")))
    (reads _ (read_position j r nowhere (at (codes "epoch")) (at (codes "offset"))
    (record { epoch = refl; offset = omega arith }))
    (reads _ (read_text j r "channel" channel (at (codes "channel"))) refl)))
read_subscribe j channel (Some p) h =
    read_object reading.subscribe (("channel" ⇒ written.text channel) ∷ from (Some p))
    (Some (request.Subscribe channel (Some p))) refl (λ r at.
    reads _ (read_flag r "recover" true (at (codes "recover")))
    (reads _ (read_position j r p (at (codes "epoch")) (at (codes "offset")) h)
    (reads _ (read_text j r "channel" channel (at (codes "channel"))) refl)))

data_is : (tree : List ℕ → Tree) (d : Data) → IsData (Bodies tree) d → data_of (body_of tree d) ≡ d
data_is tree Absent h = refl
data_is tree TooDeep h = absurd h
data_is tree (Body b) h =
    ap (λ c. cond c (Body (compact_text (tree b))) TooDeep) (le-leb (depth (tree b)) max_data_depth h.shallow)
    ∙ ap Body h.compact

abbrev pub publish_members : (List ℕ → Tree) → List ℕ → List ℕ → Data → List Member
publish_members tree channel key d =
    ("channel" ⇒ written.text channel) ∷ ("data" ⇒ body_of tree d) ∷ ("key" ⇒ written.text key) ∷ []

read_publish : JsonLaws → (tree : List ℕ → Tree) (channel key : List ℕ) (d : Data) → IsData (Bodies tree) d
    → object_as reading.publish (object_of (publish_members tree channel key d)) ≡ Some (request.Publish channel key d)
read_publish j tree channel key d h =
    read_object reading.publish (publish_members tree channel key d) (Some (request.Publish channel key d)) refl
    (λ r at.
    reads _ (read_text j r "channel" channel (at (codes "channel")))
    (reads _ (read_text j r "key" key (at (codes "key")))
    (ap (λ e. Some (request.Publish channel key e)) (ap data_of (at (codes "data")) ∙ data_is tree d h))))

since_stands : (epoch : List ℕ) (offset : ℕ) → (epoch ≡ [] → 1 ≤ offset)
    → stands (("epoch" ⇒ written.text epoch) ∷ ("offset" ⇒ written.whole offset) ∷ []) ≡ true
since_stands [] zero h = absurd (omega (arith, h refl))
since_stands [] (suc n) h = rw (ne_eqb (suc n) 0 (omega arith)) refl
since_stands (x ∷ xs) n h = refl

read_since : JsonLaws → (p : Option Position) → IsSince p → (r : Fields) → look_up (codes "since") r ≡ since p
    → object_or_none position r "since" ≡ Some p
read_since j None h r e = read_none position r "since" e
read_since j (Some p) h r e =
    read_or_none position r "since" (object_of (written.position p)) p
    (e ∙ inner_stands (written.position p) (since_stands p.epoch p.offset h.1)) refl
    (read_object position (written.position p) (Some p) refl
    (λ q at. read_position j q p (at (codes "epoch")) (at (codes "offset")) h.0))

abbrev pub history_members : List ℕ → ℤ → Option Position → Bool → List Member
history_members channel limit p reverse =
    ("channel" ⇒ written.text channel) ∷ ("limit" ⇒ written.signed limit) ∷ ("reverse" ⇒ written.flag reverse)
    ∷ ("since" ⇒ since p) ∷ []

read_history : JsonLaws → (channel : List ℕ) (limit : ℤ) (p : Option Position) (reverse : Bool)
    → IsTrue (is_limit limit) → IsSince p
    → object_as reading.history (object_of (history_members channel limit p reverse))
    ≡ Some (request.History channel limit p reverse)
read_history j channel limit p reverse l h =
    read_object reading.history (history_members channel limit p reverse)
    (Some (request.History channel limit p reverse)) refl (λ r at.
    reads _ (read_signed r "limit" limit (at (codes "limit")) l) (reads _ (read_since j p h r (at (codes "since")))
    (reads _ (read_flag r "reverse" reverse (at (codes "reverse")))
    (reads _ (read_text j r "channel" channel (at (codes "channel"))) refl))))

pub read_command : JsonLaws → (tree : List ℕ → Tree) (id : ℕ) (q : Request) → IsRegularRequest (Bodies tree) id q
    → command_of (object_of (command tree id q)) ≡ Some (record { id = id; request = q })
read_command j tree id request.Pong h = ap (λ n. Some (record { id = n; request = request.Pong })) (sym h)
read_command j tree id (request.Connect token) h =
    let q = request.Connect token in
    a_command (command tree id q) id q "connect" _ refl refl refl h.1 (read_connect j token) (has_id q id h)
read_command j tree id (request.Subscribe channel p) h =
    let q = request.Subscribe channel p in
    a_command (command tree id q) id q "subscribe" _ refl refl refl h.0.1 (read_subscribe j channel p h.1)
    (has_id q id h.0)
read_command j tree id (request.Unsubscribe channel) h =
    let q = request.Unsubscribe channel in
    a_command (command tree id q) id q "unsubscribe" _ refl refl refl h.1 (read_channel j request.Unsubscribe channel)
    (has_id q id h)
read_command j tree id (request.Publish channel key d) h =
    let q = request.Publish channel key d in
    a_command (command tree id q) id q "publish" _ refl refl refl h.0.1 (read_publish j tree channel key d h.1)
    (has_id q id h.0)
read_command j tree id (request.Presence channel) h =
    let q = request.Presence channel in
    a_command (command tree id q) id q "presence" _ refl refl refl h.1 (read_channel j request.Presence channel)
    (has_id q id h)
read_command j tree id (request.PresenceStats channel) h =
    let q = request.PresenceStats channel in
    a_command (command tree id q) id q "presence_stats" _ refl refl refl h.1
    (read_channel j request.PresenceStats channel) (has_id q id h)
read_command j tree id (request.History channel limit p reverse) h =
    let q = request.History channel limit p reverse in
    a_command (command tree id q) id q "history" _ refl refl refl h.0.1 (read_history j channel limit p reverse h.1 h.2)
    (has_id q id h.0)
read_command j tree id request.Ping h =
    a_command (command tree id request.Ping) id request.Ping "ping" _ refl refl refl h.1 refl (has_id request.Ping id h)
read_command j tree id request.Send h =
    a_command (command tree id request.Send) id request.Send "send" _ refl refl refl h refl refl
read_command j tree id request.Other h =
    a_command (command tree id request.Other) id request.Other "rpc" _ refl refl refl h.1 refl
    (has_id request.Other id h)
