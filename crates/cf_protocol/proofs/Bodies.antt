-- Of bodies that are each the text of some value, a function that has the value of each.
use Rattle.std.proofs.Common.{ℕ, List, [], ◌∷◌, inl, inr, refl, sym, subst}
use Rattle.std.specs.Str.{bytes_eq}
use Rattle.std.proofs.lemmas.Bool.{cases_Bool, cond-true, cond-false}
use Rattle.std.proofs.lemmas.Slice.Eq.{bytes_eq-Decides}
use Rattle.cf_json.specs.Grammar.{Tree, null}
use Rattle.cf_protocol.specs.Names.{with}
use Rattle.cf_protocol.specs.Datum.{Placed}
use Rattle.cf_protocol.specs.Request as request
use Rattle.cf_protocol.specs.Request.{Data, Absent, TooDeep, Body, Request}
use Rattle.cf_protocol.specs.Outgoing.{Outcome, Connected, Subscribed, Unsubscribed, Published, Present, Counted, Past}
use Rattle.cf_protocol.specs.Outgoing.{Pinged, Failed, Publication, Unsubscribe, Outgoing, Ping, Answer, Push}
use Rattle.cf_protocol.specs.Regular.{IsBodyOf, IsBody, IsData, IsPlaced, ArePlaced, IsRegularRequest, IsRegularOutcome}
use Rattle.cf_protocol.specs.Regular.{IsRegularOutgoing}

-- the text is that of the tree that the function has for it
abbrev pub Bodies : (List ℕ → Tree) → List ℕ → Type 0
Bodies tree b = IsBodyOf (tree b) b

nowhere : List ℕ → Tree
nowhere b = null

here : (tree : List ℕ → Tree) (b : List ℕ) (t : Tree) → IsBodyOf t b → Bodies (with tree b t) b
here tree b t h =
    subst (λ u. IsBodyOf u b) (sym (cond-true (bytes_eq b b) t (tree b) ((bytes_eq-Decides b b).1 refl))) h

elsewhere : (tree : List ℕ → Tree) (b : List ℕ) (t : Tree) (c : List ℕ) → IsBodyOf t b → Bodies tree c
    → Bodies (with tree b t) c
elsewhere tree b t c h g =
    elim (cases_Bool (bytes_eq c b)) [
      | inl e ↦ subst (λ u. IsBodyOf u c) (sym (cond-true (bytes_eq c b) t (tree c) e))
          (subst (λ d. IsBodyOf t d) (sym ((bytes_eq-Decides c b).0 e)) h)
      | inr e ↦ subst (λ u. IsBodyOf u c) (sym (cond-false (bytes_eq c b) t (tree c) e)) g
    ]

all_elsewhere : (tree : List ℕ → Tree) (b : List ℕ) (t : Tree) (ps : List Placed) → IsBodyOf t b
    → ArePlaced (Bodies tree) ps → ArePlaced (Bodies (with tree b t)) ps
all_elsewhere tree b t [] h g = tt
all_elsewhere tree b t (p ∷ ps) h g =
    let q = g.0 in (
      record { body = elsewhere tree b t p.datum.body h q.body; info = q.info; offset = q.offset },
      all_elsewhere tree b t ps h g.1,
    )

one : (p : Placed) → IsPlaced IsBody p → (tree : List ℕ → Tree) × IsPlaced (Bodies tree) p
one p h = let b = h.body in (
  with nowhere p.datum.body b.0,
  record {
    body = here nowhere p.datum.body b.0 b.1;
    info = h.info;
    offset = h.offset;
  },
)

all : (ps : List Placed) → ArePlaced IsBody ps → (tree : List ℕ → Tree) × ArePlaced (Bodies tree) ps
all [] h = (nowhere, tt)
all (p ∷ ps) h =
    let more = all ps h.1 in
    let q = h.0 in
    let b = q.body in (
      with more.0 p.datum.body b.0,
      (
        record {
          body = here more.0 p.datum.body b.0 b.1;
          info = q.info;
          offset = q.offset;
        },
        all_elsewhere more.0 p.datum.body b.0 ps b.1 more.1,
      ),
    )

data_bodies : (d : Data) → IsData IsBody d → (tree : List ℕ → Tree) × IsData (Bodies tree) d
data_bodies Absent h = (nowhere, tt)
data_bodies TooDeep h = absurd h
data_bodies (Body b) h = (with nowhere b h.0, here nowhere b h.0 h.1)

pub request_bodies : (id : ℕ) (q : Request) → IsRegularRequest IsBody id q → (tree : List ℕ → Tree)
    × IsRegularRequest (Bodies tree) id q
request_bodies id request.Pong h = (nowhere, h)
request_bodies id (request.Connect token) h = (nowhere, h)
request_bodies id (request.Subscribe channel p) h = (nowhere, h)
request_bodies id (request.Unsubscribe channel) h = (nowhere, h)
request_bodies id (request.Publish channel key d) h = let has = data_bodies d h.1 in (has.0, (h.0, has.1))
request_bodies id (request.Presence channel) h = (nowhere, h)
request_bodies id (request.PresenceStats channel) h = (nowhere, h)
request_bodies id (request.History channel limit p reverse) h = (nowhere, h)
request_bodies id request.Ping h = (nowhere, h)
request_bodies id request.Send h = (nowhere, h)
request_bodies id request.Other h = (nowhere, h)

outcome_bodies : (x : Outcome) → IsRegularOutcome IsBody x → (tree : List ℕ → Tree) × IsRegularOutcome (Bodies tree) x
outcome_bodies (Connected client) h = (nowhere, h)
outcome_bodies (Subscribed p ps recovered was) h = let has = all ps h.1 in (has.0, (h.0, has.1))
outcome_bodies Unsubscribed h = (nowhere, h)
outcome_bodies Published h = (nowhere, h)
outcome_bodies (Present users) h = (nowhere, h)
outcome_bodies (Counted clients users) h = (nowhere, h)
outcome_bodies (Past p ps) h = let has = all ps h.1 in (has.0, (h.0, has.1))
outcome_bodies Pinged h = (nowhere, h)
outcome_bodies (Failed code) h = (nowhere, h)

pub outgoing_bodies : (o : Outgoing) → IsRegularOutgoing IsBody o → (tree : List ℕ → Tree)
    × IsRegularOutgoing (Bodies tree) o
outgoing_bodies Ping h = (nowhere, h)
outgoing_bodies (Answer id x) h = let has = outcome_bodies x h.1 in (has.0, (h.0, has.1))
outgoing_bodies (Push channel (Publication p)) h = one p h
outgoing_bodies (Push channel (Unsubscribe code)) h = (nowhere, h)
