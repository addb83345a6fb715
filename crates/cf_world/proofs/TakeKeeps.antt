-- What a client takes leaves the answers to its calls its own: calls are answered, and none comes.
use Rattle.std.proofs.Common.{◌≡◌, inl, inr, ℕ, ◌<◌, ◌==◌, not, Some, List, [], ◌∷◌, filter, refl, sym, ◌∙◌, subst}
use Rattle.std.proofs.lemmas.Bool.Decides.{eqb_tells}
use Rattle.std.specs.List.{All}
use Rattle.cf_protocol.specs.Datum.{Placed}
use Rattle.cf_protocol.specs.Note.{Note, Reply, Pub, End, Fails, Put as PutDone, Left, Listed, PingDue, Close}
use Rattle.cf_protocol.specs.Outgoing.{Outcome, Connected, Subscribed, Unsubscribed, Published, Present, Counted, Past}
use Rattle.cf_protocol.specs.Outgoing.{Pinged, Failed, Publication, Unsubscribe, Outgoing, Ping, Answer, Push}
use Rattle.cf_client.specs.AppItem.{AppItem}
use Rattle.cf_client.specs.ClientCalls.{Call, State, Takes, TakesAnswer, TakesEnd, TakesPublication, answered}
use Rattle.cf_client.specs.ClientCalls.{channel_under, moves}
use Rattle.cf_model.specs.Clients.{Mode, Idle, Asking, Live}
use Rattle.cf_client.specs.OneMeaning.{CallsAt}
use Rattle.cf_world.specs.ClientTie.{IsOwn}

pub record Kept (old new : State) : Type 0 where
  pub connected : new.connected ≡ old.connected
  pub fresh : new.client.fresh ≡ old.client.fresh
  pub out : (i : ℕ) (c : List ℕ) → channel_under i new.out ≡ Some c → channel_under i old.out ≡ Some c

same : (old new : State) → new ≡ old → Kept old new
same old new e = subst (λ (s : State). Kept old s) (sym e) (record { connected = refl; fresh = refl; out = λ i c h. h })

moved : (c : List ℕ) (m : Mode) (old new : State) → new ≡ moves c m old → Kept old new
moved c m old new e =
    subst (λ (s : State). Kept old s) (sym e) (record { connected = refl; fresh = refl; out = λ i d h. h })

fewer : (id : ℕ) (ks : List Call) (i : ℕ) (c : List ℕ) → channel_under i (filter (λ k. not (k.id == id)) ks) ≡ Some c
    → channel_under i ks ≡ Some c
fewer id [] i c h = h
fewer id (k ∷ ks) i c h = elim (eqb_tells k.id id) [
  | inl e ↦ elim (eqb_tells k.id i) [
    | inl f ↦ absurd (gone ks (sym f.1 ∙ e.1) (rw e.0 at h))
    | inr f ↦ rw f.0 (fewer id ks i c (rw e.0 at h))
  ]
  | inr e ↦ elim (eqb_tells k.id i) [
    | inl f ↦ rw f.0 (rw f.0 at (rw e.0 at h))
    | inr f ↦ rw f.0 (fewer id ks i c (rw f.0 at (rw e.0 at h)))
  ]
]
  where
    gone : (js : List Call) → i ≡ id → channel_under i (filter (λ k. not (k.id == id)) js) ≡ Some c → ⊥
    gone [] e g = absurd (cc)
    gone (j ∷ js) e g = elim (eqb_tells j.id id) [
      | inl f ↦ gone js e (rw f.0 at g)
      | inr f ↦ elim (eqb_tells j.id i) [
        | inl l ↦ f.1 (l.1 ∙ e)
        | inr l ↦ gone js e (rw l.0 at (rw f.0 at g))
      ]
    ]

answers-call : (id : ℕ) (old new : State) → new ≡ answered id old → Kept old new
answers-call id old new e =
    subst (λ (s : State). Kept old s) (sym e) (record
    { connected = refl; fresh = refl; out = λ i c h. fewer id old.out i c h })

publication-kept : (c : List ℕ) (q : Placed) (m : Mode) (old new : State) (told : List AppItem)
    → TakesPublication c q m old new told → Kept old new
publication-kept c q (Idle last) old new told h = same old new h.0
publication-kept c q (Asking id from last) old new told h = same old new h.0
publication-kept c q (Live p) old new told h = moved c _ old new h.0

end-kept : (c : List ℕ) (code : ℕ) (m : Mode) (old new : State) (told : List AppItem) → TakesEnd c code m old new told
    → Kept old new
end-kept c code (Idle last) old new told h = same old new h.0
end-kept c code (Asking id from last) old new told h = same old new h.0
end-kept c code (Live p) old new told h = moved c _ old new h.0

answer-kept : (id : ℕ) (r : Outcome) (old new : State) (told : List AppItem) → TakesAnswer id r old new told
    → Kept old new
answer-kept id (Subscribed at ps recovered was) old new told h = elim h [
  | inl a ↦ moved a.channel _ old new a.moves
  | inr n ↦ same old new n.1.0
]
answer-kept id (Failed code) old new told h = elim h [
  | inl a ↦ moved a.channel _ old new a.moves
  | inr n ↦ answers-call id old new n.1.0
]
answer-kept id Published old new told h = answers-call id old new h.0
answer-kept id (Past at ps) old new told h = answers-call id old new h.0
answer-kept id (Connected client) old new told h = same old new h.0
answer-kept id Unsubscribed old new told h = same old new h.0
answer-kept id (Present users) old new told h = same old new h.0
answer-kept id (Counted clients users) old new told h = same old new h.0
answer-kept id Pinged old new told h = same old new h.0

pub takes_kept : (o : Outgoing) (old new : State) (told : List AppItem) → Takes o old new told → Kept old new
takes_kept Ping old new told h = same old new h.0
takes_kept (Answer id result) old new told h = answer-kept id result old new told h
takes_kept (Push c (Publication q)) old new told h = publication-kept c q (old.client.modes c) old new told h
takes_kept (Push c (Unsubscribe code)) old new told h = end-kept c code (old.client.modes c) old new told h

module _ (old new : State) (k : Kept old new) where
  calls-kept : (id : ℕ) (d : List ℕ) → CallsAt id d old → CallsAt id d new
  calls-kept id d h c e = h c (k.out id c e)

  less-kept : (id : ℕ) → id < old.client.fresh → id < new.client.fresh
  less-kept id h = subst (λ n. id < n) (sym k.fresh) h

  note-kept : (n : Note) → IsOwn old n → IsOwn new n
  note-kept (Reply c id was r) h = h
  note-kept (Pub c q) h = h
  note-kept (End c) h = h
  note-kept (Fails c id code) h = (less-kept id h.0, calls-kept id c h.1)
  note-kept (PutDone id) h = h
  note-kept (Left id) h = h
  note-kept (Listed c id at low count) h = (less-kept id h.0, calls-kept id c h.1)
  note-kept PingDue h = h
  note-kept (Close code) h = h

  pub own_kept : (ns : List Note) → All (IsOwn old) ns → All (IsOwn new) ns
  own_kept ns h = λ i d e. note-kept _ (h i d e)
