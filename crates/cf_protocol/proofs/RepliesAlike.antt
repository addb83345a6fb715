-- The tree of a regular reply or push has its text.
use Rattle.std.proofs.Common.{ℕ, suc, ◌≤◌, Bool, true, List, [], ◌∷◌, map, Option, Some, None, refl, arith, codes}
use Rattle.std.specs.FinMap.{entries}
use Rattle.std.specs.Prelude.{◌==◌}
use Rattle.cf_json.specs.Grammar.{Tree}
use Rattle.cf_protocol.specs.Position.{Position}
use Rattle.cf_protocol.specs.Datum.{Who, Placed}
use Rattle.cf_protocol.specs.Outgoing.{Users, Outcome, Connected, Subscribed, Unsubscribed, Published, Present, Counted}
use Rattle.cf_protocol.specs.Outgoing.{Past, Pinged, Failed, Pushed, Publication, Unsubscribe, Outgoing, Ping, Answer}
use Rattle.cf_protocol.specs.Outgoing.{Push}
use Rattle.cf_protocol.specs.Fields.{max_u64}
use Rattle.cf_protocol.specs.Written as written
use Rattle.cf_protocol.specs.Written.{◌⇒◌, object_of, info, info_or_none, message_of, reason_of, unsubscribed, reply}
use Rattle.cf_protocol.specs.Written.{as_it_is}
use Rattle.cf_protocol.specs.Regular.{IsPosition, IsPlaced, ArePlaced, IsCode, IsRegularOutcome, IsRegularPush}
use Rattle.cf_protocol.specs.Regular.{IsRegularOutgoing}
use Rattle.cf_protocol.proofs.JsonLaws.{JsonLaws}
use Rattle.cf_protocol.proofs.Bodies.{Bodies}
use Rattle.cf_protocol.proofs.Alikes.{Alike, AlikeOptions, AlikeMembers, AlikeItems, members_alike, inner_alike}
use Rattle.cf_protocol.proofs.Alikes.{list_alike, whole_alike, flag_alike, text_alike, key, id_first, id_last}
use Rattle.cf_protocol.proofs.Alikes.{nothing_alike, body_alike, id_alike}

count_alike : (d n : ℕ) → n ≤ max_u64 → AlikeOptions d (written.whole n) (written.whole n)
count_alike d n h = whole_alike d n (omega arith)

who_alike : JsonLaws → (d : ℕ) (w : Who) → AlikeMembers d (info w) (info w)
who_alike j d w = (refl, key "client" refl, text_alike j d w.client, (refl, key "user" refl, text_alike j d w.user, tt))

info_alike : JsonLaws → (d : ℕ) (o : Option Who) → AlikeOptions (suc d) (info_or_none o) (info_or_none o)
info_alike j d None = tt
info_alike j d (Some w) = inner_alike d (info w) (info w) (who_alike j d w)

publication_alike : JsonLaws → (tree : List ℕ → Tree) (p : Placed) → IsPlaced (Bodies tree) p
    → Alike 61 (written.publication tree p) (written.publication as_it_is p)
publication_alike j tree p h =
    let rest = ("info" ⇒ info_or_none p.datum.info) ∷ ("offset" ⇒ written.whole p.offset) ∷ [] in
    members_alike 60 (("data" ⇒ Some (tree p.datum.body)) ∷ rest) (("data" ⇒ Some (as_it_is p.datum.body)) ∷ rest) (
      refl,
      key "data" refl,
      body_alike j (tree p.datum.body) p.datum.body h.body,
      (
        refl,
        key "info" refl,
        info_alike j 59 p.datum.info,
        (refl, key "offset" refl, count_alike 60 p.offset h.offset, tt),
      ),
    )

placed_alike : JsonLaws → (tree : List ℕ → Tree) (ps : List Placed) → ArePlaced (Bodies tree) ps
    → AlikeItems 61 (map (written.publication tree) ps) (map (written.publication as_it_is) ps)
placed_alike j tree [] h = tt
placed_alike j tree (p ∷ ps) h = (publication_alike j tree p h.0, placed_alike j tree ps h.1)

publications_alike : JsonLaws → (tree : List ℕ → Tree) (ps : List Placed) → ArePlaced (Bodies tree) ps
    → AlikeMembers 62 (("publications" ⇒ written.publications tree ps) ∷ [])
    (("publications" ⇒ written.publications as_it_is ps) ∷ [])
publications_alike j tree ps h = (
  refl,
  key "publications" refl,
  list_alike 61 (map (written.publication tree) ps)
      (map (written.publication as_it_is) ps) (placed_alike j tree ps h),
  tt,
)

-- ---- results

connected_alike : JsonLaws → (d : ℕ) (client : List ℕ)
    → Alike (suc d) (object_of (written.connected client)) (object_of (written.connected client))
connected_alike j d client =
    members_alike d (written.connected client) (written.connected client) (
      refl,
      key "client" refl,
      text_alike j d client,
      (
        refl,
        key "ping" refl,
        whole_alike d 25 (omega arith),
        (refl, key "pong" refl, flag_alike d true, (refl, key "version" refl, text_alike j d (codes "1.0.0"), tt)),
      ),
    )

subscribed_alike : JsonLaws → (tree : List ℕ → Tree) (p : Position) (ps : List Placed) (recovered was : Bool)
    → IsPosition p → ArePlaced (Bodies tree) ps
    → Alike 63 (object_of (written.subscribed tree p ps recovered was))
    (object_of (written.subscribed as_it_is p ps recovered was))
subscribed_alike j tree p ps recovered was h hs =
    members_alike 62 (written.subscribed tree p ps recovered was) (written.subscribed as_it_is p ps recovered was) (
      refl,
      key "epoch" refl,
      text_alike j 62 p.epoch,
      (
        refl,
        key "offset" refl,
        count_alike 62 p.offset h.offset,
        (
          refl,
          key "positioned" refl,
          flag_alike 62 true,
          (
            refl,
            key "publications" refl,
            (publications_alike j tree ps hs).2,
            (
              refl,
              key "recoverable" refl,
              flag_alike 62 true,
              (
                refl,
                key "recovered" refl,
                flag_alike 62 recovered,
                (refl, key "was_recovering" refl, flag_alike 62 was, tt),
              ),
            ),
          ),
        ),
      ),
    )

clients_alike : JsonLaws → (d : ℕ) (us : List (List ℕ × List ℕ))
    → AlikeMembers (suc d) (map written.client us) (map written.client us)
clients_alike j d [] = tt
clients_alike j d (u ∷ us) =
    let w : Who = record { client = u.0; user = u.1 } in
    (refl, j.is_text u.0, members_alike d (info w) (info w) (who_alike j d w), clients_alike j d us)

presence_alike : JsonLaws → (d : ℕ) (users : Users)
    → Alike (suc (suc (suc d))) (object_of (written.presence users)) (object_of (written.presence users))
presence_alike j d users =
    let ms = map written.client (entries users) in
    members_alike (suc (suc d)) (written.presence users) (written.presence users)
    (refl, key "presence" refl, inner_alike (suc d) ms ms (clients_alike j d (entries users)), tt)

counted_alike : (d clients users : ℕ) → clients ≤ max_u64 → users ≤ max_u64
    → Alike (suc d) (object_of (written.counted clients users)) (object_of (written.counted clients users))
counted_alike d clients users h g =
    members_alike d (written.counted clients users) (written.counted clients users)
    (refl, key "num_clients" refl, count_alike d clients h, (refl, key "num_users" refl, count_alike d users g, tt))

past_alike : JsonLaws → (tree : List ℕ → Tree) (p : Position) (ps : List Placed) → IsPosition p
    → ArePlaced (Bodies tree) ps → Alike 63 (object_of (written.past tree p ps))
    (object_of (written.past as_it_is p ps))
past_alike j tree p ps h hs =
    members_alike 62 (written.past tree p ps) (written.past as_it_is p ps) (
      refl,
      key "epoch" refl,
      text_alike j 62 p.epoch,
      (refl, key "offset" refl, count_alike 62 p.offset h.offset, publications_alike j tree ps hs),
    )

code_alike : (d code : ℕ) → IsCode code → AlikeOptions d (written.whole code) (written.whole code)
code_alike d code h = whole_alike d code (let high = h.1 in omega arith)

failed_alike : JsonLaws → (d id code : ℕ) → IsCode id → IsCode code
    → Alike (suc (suc d)) (object_of (reply as_it_is id (Failed code))) (object_of (reply as_it_is id (Failed code)))
failed_alike j d id code h g =
    let error = written.error code in
    members_alike (suc d) (reply as_it_is id (Failed code)) (reply as_it_is id (Failed code)) (
      refl,
      key "error" refl,
      inner_alike d error error (
        refl,
        key "code" refl,
        code_alike d code g,
        (
          refl,
          key "message" refl,
          text_alike j d (message_of code),
          (refl, key "temporary" refl, flag_alike d (code == 100), tt),
        ),
      ),
      id_alike (suc d) id h.1,
    )

answer_alike : JsonLaws → (tree : List ℕ → Tree) (id : ℕ) (x : Outcome) → IsCode id → IsRegularOutcome (Bodies tree) x
    → Alike 64 (object_of (reply tree id x)) (object_of (reply as_it_is id x))
answer_alike j tree id (Connected client) h g = id_last 63 id "connect" _ _ refl h.1 (connected_alike j 62 client)
answer_alike j tree id (Subscribed p ps recovered was) h g =
    id_first 63 id "subscribe" _ _ refl h.1 (subscribed_alike j tree p ps recovered was g.0 g.1)
answer_alike j tree id Unsubscribed h g = id_first 63 id "unsubscribe" _ _ refl h.1 (nothing_alike 62)
answer_alike j tree id Published h g = id_first 63 id "publish" _ _ refl h.1 (nothing_alike 62)
answer_alike j tree id (Present users) h g = id_first 63 id "presence" _ _ refl h.1 (presence_alike j 60 users)
answer_alike j tree id (Counted clients users) h g =
    id_first 63 id "presence_stats" _ _ refl h.1 (counted_alike 62 clients users g.0 g.1)
answer_alike j tree id (Past p ps) h g = id_last 63 id "history" _ _ refl h.1 (past_alike j tree p ps g.0 g.1)
answer_alike j tree id Pinged h g = id_first 63 id "ping" _ _ refl h.1 (nothing_alike 62)
answer_alike j tree id (Failed code) h g = failed_alike j 62 id code h g

-- ---- pushes

raised : {t u : Tree} → Alike 61 t u → Alike 62 t u
raised a = record { regular = a.regular; text = a.text; shallow = omega (arith, a.shallow) }

pushed_alike : JsonLaws → (tree : List ℕ → Tree) (push : Pushed) → IsRegularPush (Bodies tree) push
    → AlikeMembers 62 (written.pushed tree push ∷ []) (written.pushed as_it_is push ∷ [])
pushed_alike j tree (Publication p) h = (refl, key "pub" refl, raised (publication_alike j tree p h), tt)
pushed_alike j tree (Unsubscribe code) h = (
  refl,
  key "unsubscribe" refl,
  inner_alike 61 (unsubscribed code) (unsubscribed code)
      (refl, key "code" refl, code_alike 61 code h, (refl, key "reason" refl, text_alike j 61 (reason_of code), tt)),
  tt,
)

pub outgoing_alike : JsonLaws → (tree : List ℕ → Tree) (o : Outgoing) → IsRegularOutgoing (Bodies tree) o
    → Alike 64 (object_of (written.outgoing tree o)) (object_of (written.outgoing as_it_is o))
outgoing_alike j tree Ping h = nothing_alike 63
outgoing_alike j tree (Answer id x) h = answer_alike j tree id x h.0 h.1
outgoing_alike j tree (Push channel push) h =
    members_alike 63 (written.outgoing tree (Push channel push)) (written.outgoing as_it_is (Push channel push)) (
      refl,
      key "push" refl,
      inner_alike 62 (("channel" ⇒ written.text channel) ∷ written.pushed tree push ∷ [])
          (("channel" ⇒ written.text channel) ∷ written.pushed as_it_is push ∷ [])
          (refl, key "channel" refl, text_alike j 62 channel, pushed_alike j tree push h),
      tt,
    )
