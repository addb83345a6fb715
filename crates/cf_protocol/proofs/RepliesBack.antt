-- The tree of a regular reply or push is that of its text, and is read as the reply or push.
use Rattle.std.proofs.Common.{◌≡◌, ℕ, zero, suc, ◌≤◌, Bool, true, false, ◌||◌, List, [], ◌∷◌, length, map, flat_map}
use Rattle.std.proofs.Common.{Option, Some, None, is_some, option_map, refl, ap, ◌∙◌, arith, ne_eqb, codes, le_refl}
use Rattle.std.proofs.lemmas.Bool.{or_right, false≢true}
use Prim.Native.String.{String as Name}
use Rattle.cf_json.specs.Grammar.{Tree}
use Rattle.cf_json.specs.Members.{Fields}
use Rattle.cf_protocol.specs.Position.{Position}
use Rattle.cf_protocol.specs.Datum.{Who, Placed}
use Rattle.cf_protocol.specs.Outgoing.{Outcome, Connected, Subscribed, Unsubscribed, Published, Present, Counted, Past}
use Rattle.cf_protocol.specs.Outgoing.{Pinged, Failed, Publication, Unsubscribe, Outgoing, Ping, Answer, Push}
use Rattle.cf_protocol.specs.Fields.{look_up, object_as, object_or_none, objects, as_whole, present, ◌>>=◌, both}
use Rattle.cf_protocol.specs.Fields.{max_u32, max_u64, the_only}
use Rattle.cf_protocol.specs.Reply as reading
use Rattle.cf_protocol.specs.Reply.{results, result_of, answer_from, push_or, push_from, outgoing_from, outgoing_in}
use Rattle.cf_protocol.specs.Reply.{code_in}
use Rattle.cf_protocol.specs.Frame.{replies_of}
use Rattle.cf_protocol.specs.Written as written
use Rattle.cf_protocol.specs.Written.{Member, ◌⇒◌, object_of, inner, info_or_none, reply, unsubscribed}
use Rattle.cf_protocol.specs.Regular.{IsPosition, IsInfo, IsPlaced, ArePlaced, IsCode, IsRegularOutcome}
use Rattle.cf_protocol.specs.Regular.{IsRegularOutgoing}
use Rattle.cf_protocol.proofs.JsonLaws.{JsonLaws}
use Rattle.cf_protocol.proofs.Bodies.{Bodies}
use Rattle.cf_protocol.proofs.Lookups.{slot, are_plain, read_object, each_found, each_is}
use Rattle.cf_protocol.proofs.Readings.{in_turn, reads, read_text, read_flag, read_whole, read_code, read_position}
use Rattle.cf_protocol.proofs.Readings.{read_or_none, read_none, read_list}
use Rattle.cf_protocol.proofs.Presences.{read_who, read_present}
use Rattle.cf_protocol.proofs.Writings.{stands, inner_stands}

-- ---- publications

who_stands : (w : Who) → 1 ≤ length w.client → stands (written.info w) ≡ true
who_stands w h = text_stands w.client h
  where
    text_stands : (s : List ℕ) → 1 ≤ length s → (is_some (written.text s) || (is_some (written.text w.user) || false))
        ≡ true
    text_stands [] h = absurd (omega (arith, h))
    text_stands (x ∷ xs) h = refl

read_info : JsonLaws → (o : Option Who) → IsInfo o → (r : Fields) → look_up (codes "info") r ≡ info_or_none o
    → object_or_none reading.info r "info" ≡ Some o
read_info j None h r e = read_none reading.info r "info" e
read_info j (Some w) h r e =
    read_or_none reading.info r "info" (object_of (written.info w)) w
    (e ∙ inner_stands (written.info w) (who_stands w h)) refl
    (read_object reading.info (written.info w) (Some w) refl (λ q at. read_who j q w at))

pub read_publication : JsonLaws → (tree : List ℕ → Tree) (p : Placed) → IsPlaced (Bodies tree) p
    → object_as reading.publication (written.publication tree p) ≡ Some p
read_publication j tree p h =
    let ms = ("data" ⇒ Some (tree p.datum.body)) ∷ ("info" ⇒ info_or_none p.datum.info)
    ∷ ("offset" ⇒ written.whole p.offset) ∷ [] in
    let b = h.body in
    read_object reading.publication ms (Some p) refl (λ r at.
    reads _ (at (codes "data")) (reads _ (read_whole r "offset" max_u64 p.offset (at (codes "offset")) h.offset
    (le_refl max_u64)) (reads _ (read_info j p.datum.info h.info r (at (codes "info")))
    (ap (λ s. Some (record { offset = p.offset; datum = record { body = s; info = p.datum.info } })) b.compact))))

read_placed : JsonLaws → (tree : List ℕ → Tree) (ps : List Placed) → ArePlaced (Bodies tree) ps → (r : Fields)
    → look_up (codes "publications") r ≡ written.publications tree ps
    → objects reading.publication r "publications" ≡ Some ps
read_placed j tree ps h r e =
    read_list reading.publication (written.publication tree) (IsPlaced (Bodies tree)) (read_publication j tree) r
    "publications" ps e h

-- ---- results

read_connected : JsonLaws → (client : List ℕ)
    → object_as reading.connected (object_of (written.connected client)) ≡ Some (Connected client)
read_connected j client =
    read_object reading.connected (written.connected client) (Some (Connected client)) refl
    (λ r at. reads _ (read_text j r "client" client (at (codes "client"))) refl)

read_subscribed : JsonLaws → (tree : List ℕ → Tree) (p : Position) (ps : List Placed) (recovered was : Bool)
    → IsPosition p → ArePlaced (Bodies tree) ps
    → object_as reading.subscribed (object_of (written.subscribed tree p ps recovered was))
    ≡ Some (Subscribed p ps recovered was)
read_subscribed j tree p ps recovered was h hs =
    read_object reading.subscribed (written.subscribed tree p ps recovered was) (Some (Subscribed p ps recovered was))
    refl (λ r at.
    reads _ (read_position j r p (at (codes "epoch")) (at (codes "offset")) h)
    (reads _ (read_flag r "recovered" recovered (at (codes "recovered")))
    (reads _ (read_flag r "was_recovering" was (at (codes "was_recovering")))
    (reads _ (read_placed j tree ps hs r (at (codes "publications"))) refl))))

read_counted : (clients users : ℕ) → clients ≤ max_u64 → users ≤ max_u64
    → object_as reading.counted (object_of (written.counted clients users)) ≡ Some (Counted clients users)
read_counted clients users h g =
    read_object reading.counted (written.counted clients users) (Some (Counted clients users)) refl (λ r at.
    reads _ (read_whole r "num_clients" max_u64 clients (at (codes "num_clients")) h (le_refl max_u64))
    (reads _ (read_whole r "num_users" max_u64 users (at (codes "num_users")) g (le_refl max_u64)) refl))

read_past : JsonLaws → (tree : List ℕ → Tree) (p : Position) (ps : List Placed) → IsPosition p
    → ArePlaced (Bodies tree) ps → object_as reading.past (object_of (written.past tree p ps)) ≡ Some (Past p ps)
read_past j tree p ps h hs =
    read_object reading.past (written.past tree p ps) (Some (Past p ps)) refl (λ r at.
    reads _ (read_position j r p (at (codes "epoch")) (at (codes "offset")) h)
    (reads _ (read_placed j tree ps hs r (at (codes "publications"))) refl))

read_failed : (code : ℕ) → IsCode code → object_as (λ r. option_map Failed (code_in r)) (object_of (written.error code))
    ≡ Some (Failed code)
read_failed code h =
    read_object (λ r. option_map Failed (code_in r)) (written.error code) (Some (Failed code)) refl
    (λ r at. ap (option_map Failed) (read_code r "code" code (at (codes "code")) h))

-- ---- replies

some_fields : (k : List ℕ) (t : Tree) (r : Fields) → look_up k r ≡ Some t
    → outgoing_from r ≡ push_or (answer_from r) (present r "push")
some_fields k t [] e = absurd (false≢true (ap is_some e))
some_fields k t (g ∷ gs) e = refl

answered : (r : Fields) (ms : List Member) (id : ℕ) (x : Outcome) → ((k : List ℕ) → look_up k r ≡ slot k ms)
    → slot (codes "id") ms ≡ written.whole id → IsCode id
    → the_only (each_found results (λ k. slot k ms)) ≡ Some x → answer_from r ≡ Some (Answer id x ∷ [])
answered r ms id x at e h is =
    in_turn (present r "id") (as_whole 1 max_u32) (λ id. result_of r >>= λ result. Some (Answer id result ∷ []))
    ∙ reads _ (read_code r "id" id (at (codes "id") ∙ e) h)
    (reads _ (ap the_only (each_is results r (λ k. slot k ms) at) ∙ is) refl)

an_answer : (ms : List Member) (id : ℕ) (x : Outcome) (k : Name) (t : Tree) → are_plain ms ≡ true
    → slot (codes k) ms ≡ Some t → slot (codes "id") ms ≡ written.whole id → slot (codes "push") ms ≡ None → IsCode id
    → the_only (each_found results (λ k. slot k ms)) ≡ Some x → outgoing_in (object_of ms) ≡ Some (Answer id x ∷ [])
an_answer ms id x k t plain there e no_push h is =
    read_object outgoing_from ms (Some (Answer id x ∷ [])) plain (λ r at.
    some_fields (codes k) t r (at (codes k) ∙ there) ∙ rw (at (codes "push") ∙ no_push) (answered r ms id x at e h is))

error_stands : (code : ℕ) → IsCode code → stands (written.error code) ≡ true
error_stands zero h = absurd (omega (arith, h.0))
error_stands (suc n) h = rw (ne_eqb (suc n) 0 (omega arith)) refl

read_failure : (id code : ℕ) → IsCode id → IsCode code
    → outgoing_in (object_of (("error" ⇒ inner (written.error code)) ∷ ("id" ⇒ written.whole id) ∷ []))
    ≡ Some (Answer id (Failed code) ∷ [])
read_failure id code h g =
    let error = object_of (written.error code) in
    ap (λ o. outgoing_in (object_of (("error" ⇒ o) ∷ ("id" ⇒ written.whole id) ∷ [])))
    (inner_stands (written.error code) (error_stands code g))
    ∙ an_answer (("error" ⇒ Some error) ∷ ("id" ⇒ written.whole id) ∷ []) id (Failed code) "error" error refl refl refl
    refl h (read_failed code g)

read_answer : JsonLaws → (tree : List ℕ → Tree) (id : ℕ) (x : Outcome) → IsCode id → IsRegularOutcome (Bodies tree) x
    → outgoing_in (object_of (reply tree id x)) ≡ Some (Answer id x ∷ [])
read_answer j tree id (Connected client) h g =
    an_answer (reply tree id (Connected client)) id (Connected client) "connect" _ refl refl refl refl h
    (read_connected j client)
read_answer j tree id (Subscribed p ps recovered was) h g =
    let x = Subscribed p ps recovered was in
    an_answer (reply tree id x) id x "subscribe" _ refl refl refl refl h
    (read_subscribed j tree p ps recovered was g.0 g.1)
read_answer j tree id Unsubscribed h g =
    an_answer (reply tree id Unsubscribed) id Unsubscribed "unsubscribe" _ refl refl refl refl h refl
read_answer j tree id Published h g =
    an_answer (reply tree id Published) id Published "publish" _ refl refl refl refl h refl
read_answer j tree id (Present users) h g =
    an_answer (reply tree id (Present users)) id (Present users) "presence" _ refl refl refl refl h
    (read_present j users)
read_answer j tree id (Counted clients users) h g =
    let x = Counted clients users in
    an_answer (reply tree id x) id x "presence_stats" _ refl refl refl refl h (read_counted clients users g.0 g.1)
read_answer j tree id (Past p ps) h g =
    let x = Past p ps in
    an_answer (reply tree id x) id x "history" _ refl refl refl refl h (read_past j tree p ps g.0 g.1)
read_answer j tree id Pinged h g = an_answer (reply tree id Pinged) id Pinged "ping" _ refl refl refl refl h refl
read_answer j tree id (Failed code) h g = read_failure id code h g

-- ---- pushes

push_stands : (channel : List ℕ) (k : Name) (t : Tree)
    → stands (("channel" ⇒ written.text channel) ∷ (k ⇒ Some t) ∷ []) ≡ true
push_stands channel k t = or_right (is_some (written.text channel)) true refl

some_push : (ms : List Member) (o : Outgoing) → stands ms ≡ true → object_as push_from (object_of ms) ≡ Some (o ∷ [])
    → outgoing_in (object_of (("push" ⇒ inner ms) ∷ [])) ≡ Some (o ∷ [])
some_push ms o s e =
    let t = object_of ms in
    ap (λ p. outgoing_in (object_of (("push" ⇒ p) ∷ []))) (inner_stands ms s)
    ∙ read_object outgoing_from (("push" ⇒ Some t) ∷ []) (Some (o ∷ [])) refl
    (λ r at. some_fields (codes "push") t r (at (codes "push")) ∙ rw (at (codes "push")) e)

read_pub : JsonLaws → (tree : List ℕ → Tree) (channel : List ℕ) (p : Placed) → IsPlaced (Bodies tree) p
    → outgoing_in (object_of (written.outgoing tree (Push channel (Publication p))))
    ≡ Some (Push channel (Publication p) ∷ [])
read_pub j tree channel p h =
    let t = written.publication tree p in
    let ms = ("channel" ⇒ written.text channel) ∷ ("pub" ⇒ Some t) ∷ [] in
    some_push ms (Push channel (Publication p)) (push_stands channel "pub" t)
    (read_object push_from ms (Some (Push channel (Publication p) ∷ [])) refl (λ r at.
    reads _ (read_text j r "channel" channel (at (codes "channel"))) (ap (option_map (map (Push channel)))
    (reads _ (read_none code_in r "unsubscribe" (at (codes "unsubscribe")))
    (reads _ (read_or_none reading.publication r "pub" t p (at (codes "pub")) refl (read_publication j tree p h))
    refl)))))

unsubscribed_stands : (code : ℕ) → IsCode code → stands (unsubscribed code) ≡ true
unsubscribed_stands zero h = absurd (omega (arith, h.0))
unsubscribed_stands (suc n) h = rw (ne_eqb (suc n) 0 (omega arith)) refl

read_unsubscribe : JsonLaws → (tree : List ℕ → Tree) (channel : List ℕ) (code : ℕ) → IsCode code
    → outgoing_in (object_of (written.outgoing tree (Push channel (Unsubscribe code))))
    ≡ Some (Push channel (Unsubscribe code) ∷ [])
read_unsubscribe j tree channel code h =
    let t = object_of (unsubscribed code) in
    let ms = ("channel" ⇒ written.text channel) ∷ ("unsubscribe" ⇒ Some t) ∷ [] in
    ap (λ o. outgoing_in (object_of (("push" ⇒ inner (("channel" ⇒ written.text channel) ∷ ("unsubscribe" ⇒ o) ∷ []))
    ∷ []))) (inner_stands (unsubscribed code) (unsubscribed_stands code h))
    ∙ some_push ms (Push channel (Unsubscribe code)) (push_stands channel "unsubscribe" t)
    (read_object push_from ms (Some (Push channel (Unsubscribe code) ∷ [])) refl (λ r at.
    reads _ (read_text j r "channel" channel (at (codes "channel"))) (ap (option_map (map (Push channel)))
    (reads _ (read_or_none code_in r "unsubscribe" t code (at (codes "unsubscribe")) refl
    (read_object code_in (unsubscribed code) (Some code) refl
    (λ q there. read_code q "code" code (there (codes "code")) h)))
    (reads _ (read_none reading.publication r "pub" (at (codes "pub"))) refl)))))

pub read_outgoing : JsonLaws → (tree : List ℕ → Tree) (o : Outgoing) → IsRegularOutgoing (Bodies tree) o
    → outgoing_in (object_of (written.outgoing tree o)) ≡ Some (o ∷ [])
read_outgoing j tree Ping h = refl
read_outgoing j tree (Answer id x) h = read_answer j tree id x h.0 h.1
read_outgoing j tree (Push channel (Publication p)) h = read_pub j tree channel p h
read_outgoing j tree (Push channel (Unsubscribe code)) h = read_unsubscribe j tree channel code h

pub read_reply : JsonLaws → (tree : List ℕ → Tree) (o : Outgoing) → IsRegularOutgoing (Bodies tree) o
    → replies_of (object_of (written.outgoing tree o) ∷ []) ≡ Some (o ∷ [])
read_reply j tree o h = ap (λ e. option_map (flat_map (λ os. os)) (both e (Some []))) (read_outgoing j tree o h)
