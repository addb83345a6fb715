-- The tree of a regular command has its text.
use Rattle.std.proofs.Common.{◌≡◌, ℕ, suc, ℤ, pos, negsuc, Bool, true, IsTrue, List, [], ◌∷◌, Option, Some, None, refl}
use Rattle.std.proofs.Common.{arith, codes}
use Prim.Native.String.{String as Name}
use Rattle.cf_json.specs.Grammar.{Tree}
use Rattle.cf_protocol.specs.Position.{Position}
use Rattle.cf_protocol.specs.Request as request
use Rattle.cf_protocol.specs.Request.{Data, Absent, TooDeep, Body, Request}
use Rattle.cf_protocol.specs.Fields.{is_limit}
use Rattle.cf_protocol.specs.Command.{max_data_depth}
use Rattle.cf_protocol.specs.Written as written
use Rattle.cf_protocol.specs.Written.{◌⇒◌, object_of, body_of, from, since, command, as_it_is}
use Rattle.cf_protocol.specs.Regular.{IsData, IsFrom, IsSince, IsRegularRequest}
use Rattle.cf_protocol.proofs.JsonLaws.{JsonLaws}
use Rattle.cf_protocol.proofs.Bodies.{Bodies}
use Rattle.cf_protocol.proofs.Spellings.{is_plain}
use Rattle.cf_protocol.proofs.CommandsBack.{publish_members, history_members}
use Rattle.cf_protocol.proofs.Alikes.{Alike, AlikeOptions, AlikeMembers, members_alike, inner_alike, whole_alike}
use Rattle.cf_protocol.proofs.Alikes.{negative_alike, flag_alike, text_alike, key, id_first, id_last, nothing_alike}
use Rattle.cf_protocol.proofs.Alikes.{position_alike, body_alike}
use Rattle.cf_protocol.proofs.Readings.{high_limit, low_limit}

one_text_alike : JsonLaws → (d : ℕ) (k : Name) (s : List ℕ) → is_plain (codes k) ≡ true
    → Alike (suc d) (object_of ((k ⇒ written.text s) ∷ [])) (object_of ((k ⇒ written.text s) ∷ []))
one_text_alike j d k s plain =
    members_alike d ((k ⇒ written.text s) ∷ []) ((k ⇒ written.text s) ∷ []) (refl, key k plain, text_alike j d s, tt)

from_alike : JsonLaws → (d : ℕ) (p : Option Position) → IsFrom p → AlikeMembers d (from p) (from p)
from_alike j d None h = tt
from_alike j d (Some p) h = (
  refl,
  key "epoch" refl,
  text_alike j d p.epoch,
  (
    refl,
    key "offset" refl,
    whole_alike d p.offset (let o = h.offset in omega arith),
    (refl, key "recover" refl, flag_alike d true, tt),
  ),
)

since_alike : JsonLaws → (d : ℕ) (p : Option Position) → IsSince p → AlikeOptions (suc d) (since p) (since p)
since_alike j d None h = tt
since_alike j d (Some p) h = inner_alike d (written.position p) (written.position p) (position_alike j d p h.0)

data_alike : JsonLaws → (tree : List ℕ → Tree) (d : Data) → IsData (Bodies tree) d
    → AlikeOptions max_data_depth (body_of tree d) (body_of as_it_is d)
data_alike j tree Absent h = tt
data_alike j tree TooDeep h = absurd h
data_alike j tree (Body b) h = body_alike j (tree b) b h

limit_alike : (d : ℕ) (z : ℤ) → IsTrue (is_limit z) → AlikeOptions d (written.signed z) (written.signed z)
limit_alike d (pos n) h = let low = high_limit n h in whole_alike d n (omega arith)
limit_alike d (negsuc n) h = let high = low_limit n h in negative_alike d n (omega arith)

subscribe_alike : JsonLaws → (d : ℕ) (channel : List ℕ) (p : Option Position) → IsFrom p
    → Alike (suc d) (object_of (("channel" ⇒ written.text channel) ∷ from p))
    (object_of (("channel" ⇒ written.text channel) ∷ from p))
subscribe_alike j d channel p h =
    members_alike d (("channel" ⇒ written.text channel) ∷ from p) (("channel" ⇒ written.text channel) ∷ from p)
    (refl, key "channel" refl, text_alike j d channel, from_alike j d p h)

publish_alike : JsonLaws → (tree : List ℕ → Tree) (channel under : List ℕ) (d : Data) → IsData (Bodies tree) d
    → Alike 61 (object_of (publish_members tree channel under d)) (object_of (publish_members as_it_is channel under d))
publish_alike j tree channel under d h =
    members_alike 60 (publish_members tree channel under d) (publish_members as_it_is channel under d) (
      refl,
      key "channel" refl,
      text_alike j 60 channel,
      (refl, key "data" refl, data_alike j tree d h, (refl, key "key" refl, text_alike j 60 under, tt)),
    )

history_alike : JsonLaws → (d : ℕ) (channel : List ℕ) (limit : ℤ) (p : Option Position) (reverse : Bool)
    → IsTrue (is_limit limit) → IsSince p
    → Alike (suc (suc d)) (object_of (history_members channel limit p reverse))
    (object_of (history_members channel limit p reverse))
history_alike j d channel limit p reverse l h =
    members_alike (suc d) (history_members channel limit p reverse) (history_members channel limit p reverse) (
      refl,
      key "channel" refl,
      text_alike j (suc d) channel,
      (
        refl,
        key "limit" refl,
        limit_alike (suc d) limit l,
        (refl, key "reverse" refl, flag_alike (suc d) reverse, (refl, key "since" refl, since_alike j d p h, tt)),
      ),
    )

pub command_alike : JsonLaws → (tree : List ℕ → Tree) (id : ℕ) (q : Request) → IsRegularRequest (Bodies tree) id q
    → Alike 62 (object_of (command tree id q)) (object_of (command as_it_is id q))
command_alike j tree id request.Pong h = nothing_alike 61
command_alike j tree id (request.Connect token) h =
    id_last 61 id "connect" _ _ refl h.1 (one_text_alike j 60 "token" token refl)
command_alike j tree id (request.Subscribe channel p) h =
    id_first 61 id "subscribe" _ _ refl h.0.1 (subscribe_alike j 60 channel p h.1)
command_alike j tree id (request.Unsubscribe channel) h =
    id_first 61 id "unsubscribe" _ _ refl h.1 (one_text_alike j 60 "channel" channel refl)
command_alike j tree id (request.Publish channel under d) h =
    id_first 61 id "publish" _ _ refl h.0.1 (publish_alike j tree channel under d h.1)
command_alike j tree id (request.Presence channel) h =
    id_first 61 id "presence" _ _ refl h.1 (one_text_alike j 60 "channel" channel refl)
command_alike j tree id (request.PresenceStats channel) h =
    id_first 61 id "presence_stats" _ _ refl h.1 (one_text_alike j 60 "channel" channel refl)
command_alike j tree id (request.History channel limit p reverse) h =
    id_last 61 id "history" _ _ refl h.0.1 (history_alike j 59 channel limit p reverse h.1 h.2)
command_alike j tree id request.Ping h = id_first 61 id "ping" _ _ refl h.1 (nothing_alike 60)
command_alike j tree id request.Send h = id_first 61 id "send" _ _ refl h (nothing_alike 60)
command_alike j tree id request.Other h = id_first 61 id "rpc" _ _ refl h.1 (nothing_alike 60)
