-- A client sends a command: the answers that wait stay its own, and so is the answer to this one.
use Rattle.std.proofs.Common.{◌≡◌, ◌⊎◌, inl, inr, ℕ, suc, ◌<◌, ◌==◌, ◌||◌, Bool, true, false, if◌then◌else◌, Some, List}
use Rattle.std.proofs.Common.{[], ◌∷◌, ◌++◌, map, refl, sym, subst, arith}
use mathlib.Core.List.{reverse_aux}
use Rattle.std.proofs.lemmas.Bool.{or_left}
use Rattle.std.proofs.lemmas.Bool.Decides.{eqb_tells}
use Rattle.std.proofs.lemmas.Option.{same_Some}
use Rattle.std.specs.List.{All}
use Rattle.cf_protocol.specs.Note.{Note, Reply, Pub, End, Fails, Put as PutDone, Left, Listed, PingDue, Close}
use Rattle.cf_protocol.specs.Position.{Position}
use Rattle.cf_client.specs.ClientCalls.{Call, State, channel_under}
use Rattle.cf_model.specs.Clients.{is_out}
use Rattle.cf_client.specs.ClientView.{ClientView, state_of}
use Rattle.cf_client.specs.OneAnswer.{AreApart}
use Rattle.cf_client.specs.OneMeaning.{CallsAt}
use Rattle.cf_machine.specs.ClientRequest.{ClientRequest, Subscribe, Unsubscribe, Publish, History, channel_of}
use Rattle.cf_world.specs.ClientTie.{IsOwn, sent_state}

-- the ids of calls that are out are older than the next one
abbrev pub AreOld : State → Type 0
AreOld s = (i : ℕ) (c : List ℕ) → channel_under i s.out ≡ Some c → i < s.client.fresh

-- a call that is out has its id out
call_out : (i : ℕ) (c : List ℕ) (ks : List Call) → channel_under i ks ≡ Some c
    → is_out i (map (λ (k : Call). k.id) ks) ≡ true
call_out i c [] e = absurd (cc)
call_out i c (k ∷ ks) e = by_value (k.id == i) e (call_out i c ks)
  where
    by_value : (t : Bool) → (if t then Some k.channel else channel_under i ks) ≡ Some c
        → (channel_under i ks ≡ Some c → is_out i (map (λ (k : Call). k.id) ks) ≡ true)
        → (t || is_out i (map (λ (k : Call). k.id) ks)) ≡ true
    by_value true e more = refl
    by_value false e more = more e

over : (i : ℕ) (xs ys : List ℕ) → (is_out i xs || is_out i ys) ≡ true → is_out i (reverse_aux xs ys) ≡ true
over i [] ys h = h
over i (x ∷ xs) ys h = over i xs (x ∷ ys) (turned (x == i) (is_out i xs) (is_out i ys) h)
  where
    turned : (a b d : Bool) → ((a || b) || d) ≡ true → (b || (a || d)) ≡ true
    turned true true d h = refl
    turned true false d h = refl
    turned false true d h = refl
    turned false false d h = h

pub old_of : (k : ClientView) → AreApart (state_of k).client → AreOld (state_of k)
old_of k apart i c e =
    apart.calls_older i (over i (map (λ (k : Call). k.id) k.calls) []
    (or_left (is_out i (map (λ (k : Call). k.id) k.calls)) false (call_out i c k.calls e)))

calls-more : (i : ℕ) (c : List ℕ) (ks : List Call) (x : Call) → channel_under i (ks ++ x ∷ []) ≡ Some c
    → (channel_under i ks ≡ Some c) ⊎ ((x.id ≡ i) × (x.channel ≡ c))
calls-more i c [] x h = elim (eqb_tells x.id i) [
  | inl e ↦ inr (e.1, same_Some x.channel c (rw e.0 at h))
  | inr e ↦ inl (rw e.0 at h)
]
calls-more i c (k ∷ ks) x h = elim (eqb_tells k.id i) [
  | inl e ↦ inl (rw e.0 (rw e.0 at h))
  | inr e ↦ elim (calls-more i c ks x (rw e.0 at h)) [ inl j ↦ inl (rw e.0 j) | inr j ↦ inr j ]
]

not-less : (n : ℕ) → n < n → ⊥
not-less n h = absurd (omega arith)

module _ (s : State) where
  new-call : List ℕ → Call
  new-call c = record { id = s.client.fresh; channel = c }

  calls-kept : (c : List ℕ) (id : ℕ) (d : List ℕ) → id < s.client.fresh → CallsAt id d s → (e : List ℕ)
      → channel_under id (s.out ++ record { id = s.client.fresh; channel = c } ∷ []) ≡ Some e → e ≡ d
  calls-kept c id d less h e is = elim (calls-more id e s.out (record { id = s.client.fresh; channel = c }) is) [
    | inl j ↦ h e j
    | inr j ↦ absurd (not-less id (subst (λ n. id < n) j.0 less))
  ]

  calls-sent : (e : ClientRequest) (id : ℕ) (d : List ℕ) → id < s.client.fresh → CallsAt id d s
      → CallsAt id d (sent_state e s)
  calls-sent (Subscribe c from) id d less h = h
  calls-sent (Unsubscribe c) id d less h = h
  calls-sent (Publish c key body) id d less h = calls-kept c id d less h
  calls-sent (History c limit) id d less h = calls-kept c id d less h

  call-own : (c : List ℕ) → AreOld s → (e : List ℕ)
      → channel_under s.client.fresh (s.out ++ record { id = s.client.fresh; channel = c } ∷ []) ≡ Some e → e ≡ c
  call-own c old e is = elim (calls-more s.client.fresh e s.out (record { id = s.client.fresh; channel = c }) is) [
    | inl j ↦ absurd (not-less s.client.fresh (old s.client.fresh e j))
    | inr j ↦ sym j.1
  ]

  -- the answer to what was sent is for its channel
  pub calls-new : (e : ClientRequest) → AreOld s → CallsAt s.client.fresh (channel_of e) (sent_state e s)
  calls-new (Subscribe c from) old d is = absurd (not-less s.client.fresh (old s.client.fresh d is))
  calls-new (Unsubscribe c) old d is = absurd (not-less s.client.fresh (old s.client.fresh d is))
  calls-new (Publish c key body) old d is = call-own c old d is
  calls-new (History c limit) old d is = call-own c old d is

  fresh-sent : (e : ClientRequest) → (sent_state e s).client.fresh ≡ suc s.client.fresh
  fresh-sent (Subscribe c from) = refl
  fresh-sent (Unsubscribe c) = refl
  fresh-sent (Publish c key body) = refl
  fresh-sent (History c limit) = refl

  less-sent : (e : ClientRequest) (i : ℕ) → i < s.client.fresh → i < (sent_state e s).client.fresh
  less-sent e i h = let f : (sent_state e s).client.fresh ≡ suc s.client.fresh = fresh-sent e in omega arith

  pub new-less : (e : ClientRequest) → s.client.fresh < (sent_state e s).client.fresh
  new-less e = let f : (sent_state e s).client.fresh ≡ suc s.client.fresh = fresh-sent e in omega arith

  old-more : (e : ClientRequest) (c : List ℕ) → AreOld s → (i : ℕ) (d : List ℕ)
      → channel_under i (s.out ++ record { id = s.client.fresh; channel = c } ∷ []) ≡ Some d
      → i < (sent_state e s).client.fresh
  old-more e c old i d is = elim (calls-more i d s.out (record { id = s.client.fresh; channel = c }) is) [
    | inl j ↦ less-sent e i (old i d j)
    | inr j ↦ subst (λ n. n < (sent_state e s).client.fresh) j.0 (new-less e)
  ]

  pub old-sent : (e : ClientRequest) → AreOld s → AreOld (sent_state e s)
  old-sent (Subscribe c from) old i d is = less-sent (Subscribe c from) i (old i d is)
  old-sent (Unsubscribe c) old i d is = less-sent (Unsubscribe c) i (old i d is)
  old-sent (Publish c key body) old i d is = old-more (Publish c key body) c old i d is
  old-sent (History c limit) old i d is = old-more (History c limit) c old i d is

  own-note : (e : ClientRequest) (n : Note) → IsOwn s n → IsOwn (sent_state e s) n
  own-note e (Reply c id was r) h = h
  own-note e (Pub c q) h = h
  own-note e (End c) h = h
  own-note e (Fails c id code) h = (less-sent e id h.0, calls-sent e id c h.0 h.1)
  own-note e (PutDone id) h = h
  own-note e (Left id) h = h
  own-note e (Listed c id at low count) h = (less-sent e id h.0, calls-sent e id c h.0 h.1)
  own-note e PingDue h = h
  own-note e (Close code) h = h

  -- what waits stays its own
  pub own_sent : (e : ClientRequest) (ns : List Note) → All (IsOwn s) ns → All (IsOwn (sent_state e s)) ns
  own_sent e ns h = λ k d i. own-note e _ (h k d i)

-- the error that answers it, and the history
pub own_fails : (s : State) (e : ClientRequest) (code : ℕ) → AreOld s
    → IsOwn (sent_state e s) (Fails (channel_of e) s.client.fresh code)
own_fails s e code old = (new-less s e, calls-new s e old)

pub own_listed : (s : State) (e : ClientRequest) (at : Position) (low count : ℕ) → AreOld s
    → IsOwn (sent_state e s) (Listed (channel_of e) s.client.fresh at low count)
own_listed s e at low count old = (new-less s e, calls-new s e old)
