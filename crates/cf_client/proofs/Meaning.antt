-- What a note makes of a client, and what the text written for it makes of it.
use Rattle.std.proofs.Common.{◌≡◌, ◌∙◌, ℕ, zero, suc, ◌-◌, ◌==◌, ◌&&◌, ◌||◌, Bool, true, false, if◌then◌else◌, Option}
use Rattle.std.proofs.Common.{Some, None, is_some, List, [], ◌∷◌, ◌++◌, refl, sym, ap, subst, inl, inr, map, length}
use Rattle.std.specs.Prelude.{option_to_list, option_map, unwrap_or, slice_get}
use Rattle.std.specs.Str.{bytes_eq}
use Rattle.std.proofs.lemmas.Slice.Eq.{bytes_eq-Decides}
use Rattle.cf_protocol.specs.Names.{with}
use Rattle.cf_protocol.specs.Position.{Position}
use Rattle.cf_protocol.specs.Datum.{Datum, Placed}
use Rattle.cf_protocol.specs.Note.{Lists, Reading, Note, Reply, Pub, End, Fails, Put, Left, Listed as Listing, PingDue}
use Rattle.cf_protocol.specs.Note.{Close, placed_from, placed_at, insufficient}
use Rattle.cf_protocol.specs.Outgoing as sent
use Rattle.cf_protocol.specs.Outgoing.{Outgoing, Push, Publication}
use Rattle.cf_model.specs.Clients.{Client, Mode, Idle, Asking, Live, idle, is_out, without, takes, hears}
use Rattle.cf_client.specs.ClientCalls.{Call, State, asks_under, channel_under, moves, answered, TakesAnswer}
use Rattle.cf_client.specs.ClientCalls.{TakesPublication, TakesEnd, Takes}
use Rattle.cf_client.specs.ClientView.{ids_of}
use Rattle.cf_client.specs.AppItem.{AppItem, Subscribed, Refused, Listed, published}
use Rattle.cf_client.specs.OneAnswer.{AreApart}
use Rattle.cf_client.specs.OneMeaning.{reply_items, pub_items, end_items, items_of, AsksAt, CallsAt, OneMeaning}
use Rattle.cf_client.proofs.Moves.{either_way, text_tells, ids_of-cons}

some_is : {A : Type 0} (d x y : A) → Some x ≡ Some y → x ≡ y
some_is d x y h = ap (λ o. unwrap_or o d) h

-- ---- modes

-- the state after, where one channel moves
moved_client : (s t : State) (d : List ℕ) (m : Mode) (n : Note) (is : List ℕ) → t ≡ moves d m s → s.client.calls ≡ is
    → ((c : List ℕ) → with s.client.modes d m c ≡ takes c (s.client.modes c) n)
    → t.client ≡ record { fresh = s.client.fresh; modes = λ c. takes c (s.client.modes c) n; calls = is }
moved_client s t d m n is e same each =
    ap (λ (x : State). x.client) e ∙ (λ i. record { fresh = s.client.fresh; modes = λ c. each c i; calls = same i })

-- the state after, where no channel moves
still_client : (s : State) (x : Client) (n : Note) (is : List ℕ) → x.fresh ≡ s.client.fresh
    → ((c : List ℕ) → x.modes c ≡ s.client.modes c) → x.calls ≡ is
    → ((c : List ℕ) → s.client.modes c ≡ takes c (s.client.modes c) n)
    → x ≡ record { fresh = s.client.fresh; modes = λ c. takes c (s.client.modes c) n; calls = is }
still_client s x n is fresh modes calls each =
    λ i. record { fresh = fresh i; modes = λ c. (modes c ∙ each c) i; calls = calls i }

passed_client : (s t : State) (n : Note) → t ≡ s → ((c : List ℕ) → s.client.modes c ≡ takes c (s.client.modes c) n)
    → t.client ≡ record { fresh = s.client.fresh; modes = λ c. takes c (s.client.modes c) n; calls = s.client.calls }
passed_client s t n e each =
    ap (λ (x : State). x.client) e ∙ still_client s s.client n s.client.calls refl (λ c. refl) refl each

answered_client : (id : ℕ) (s t : State) (n : Note) → t ≡ answered id s
    → ((c : List ℕ) → s.client.modes c ≡ takes c (s.client.modes c) n)
    → t.client ≡ record {
      fresh = s.client.fresh;
      modes = λ c. takes c (s.client.modes c) n;
      calls = without id s.client.calls;
    }
answered_client id s t n e each =
    ap (λ (x : State). x.client) e ∙ still_client s (answered id s).client n (without id s.client.calls) refl
    (λ c. refl) refl each

-- ---- a reply

-- the channel that asks goes live
reply_mode : (a b : Bool) (id : ℕ) (p : Position) (m : Mode) → a ≡ b → (a ≡ true → asks_under id m ≡ true)
    → (c d : List ℕ) (was : Bool) (r : Reading) → bytes_eq d c ≡ b → p ≡ record { epoch = r.epoch; offset = r.top }
    → (if a then Live p else m) ≡ takes c m (Reply d id was r)
reply_mode true b id p (Idle last) same asks c d was r e at = absurd (let h = asks refl in cc)
reply_mode true b id p (Asking k from last) same asks c d was r e at =
    let here : (id == k) ≡ true = asks refl in
    ap Live at ∙ sym (ap (λ (x : Bool). if x && (id == k) then Live (record { epoch = r.epoch; offset = r.top })
    else Asking k from last) (e ∙ sym same)
    ∙ ap (λ (x : Bool). if x then Live (record { epoch = r.epoch; offset = r.top }) else Asking k from last) here)
reply_mode true b id p (Live q) same asks c d was r e at = absurd (let h = asks refl in cc)
reply_mode false b id p (Idle last) same asks c d was r e at = refl
reply_mode false b id p (Asking k from last) same asks c d was r e at =
    sym (ap (λ (x : Bool). if x && (id == k) then Live (record { epoch = r.epoch; offset = r.top })
    else Asking k from last) (e ∙ sym same))
reply_mode false b id p (Live q) same asks c d was r e at = refl

-- a reply that nothing waits for
reply_unasked : (c d : List ℕ) (id : ℕ) (was : Bool) (r : Reading) (m : Mode) → asks_under id m ≡ false
    → m ≡ takes c m (Reply d id was r)
reply_unasked c d id was r (Idle last) none = refl
reply_unasked c d id was r (Asking k from last) none = by_test (bytes_eq d c)
  where
    by_test : (b : Bool) → Asking k from last ≡ (if b
        && (id == k) then Live (record { epoch = r.epoch; offset = r.top }) else Asking k from last)
    by_test true =
        sym (ap (λ (x : Bool). if x then Live (record { epoch = r.epoch; offset = r.top }) else Asking k from last)
        none)
    by_test false = refl
reply_unasked c d id was r (Live p) none = refl

reply_told : (lists : Lists) (d : List ℕ) (id : ℕ) (was : Bool) (r : Reading) (m : Mode) → asks_under id m ≡ true
    → Subscribed d was r.recovered (record { epoch = r.epoch; offset = r.top })
    ∷ map (published d r.epoch) (placed_from (lists d r.epoch) r.low (r.top - r.low)) ≡ reply_items lists d id was r m
reply_told lists d id was r (Idle last) asks = absurd (cc)
reply_told lists d id was r (Asking k from last) asks =
    sym (ap (λ (x : Bool). if x then Subscribed d was r.recovered (record { epoch = r.epoch; offset = r.top })
    ∷ map (published d r.epoch) (placed_from (lists d r.epoch) r.low (r.top - r.low)) else []) asks)
reply_told lists d id was r (Live p) asks = absurd (cc)

reply_untold : (lists : Lists) (d : List ℕ) (id : ℕ) (was : Bool) (r : Reading) (m : Mode) → asks_under id m ≡ false
    → reply_items lists d id was r m ≡ []
reply_untold lists d id was r (Idle last) none = refl
reply_untold lists d id was r (Asking k from last) none = rw none refl
reply_untold lists d id was r (Live p) none = refl

-- ---- a refusal

fails_mode : (a b : Bool) (id code : ℕ) (m own : Mode) → a ≡ b → (a ≡ true → asks_under id m ≡ true)
    → (a ≡ true → own ≡ m)
    → (c d : List ℕ) → bytes_eq d c ≡ b → (if a then idle own else m) ≡ takes c m (Fails d id code)
fails_mode true b id code (Idle last) own same asks is c d e = absurd (let h = asks refl in cc)
fails_mode true b id code (Asking k from last) own same asks is c d e =
    let here : (id == k) ≡ true = asks refl in
    ap idle (is refl) ∙ sym (ap (λ (x : Bool). if x && (id == k) then Idle last else Asking k from last) (e ∙ sym same)
    ∙ ap (λ (x : Bool). if x then Idle last else Asking k from last) here)
fails_mode true b id code (Live q) own same asks is c d e = absurd (let h = asks refl in cc)
fails_mode false b id code (Idle last) own same asks is c d e = refl
fails_mode false b id code (Asking k from last) own same asks is c d e =
    sym (ap (λ (x : Bool). if x && (id == k) then Idle last else Asking k from last) (e ∙ sym same))
fails_mode false b id code (Live q) own same asks is c d e = refl

fails_unasked : (c d : List ℕ) (id code : ℕ) (m : Mode) → asks_under id m ≡ false → m ≡ takes c m (Fails d id code)
fails_unasked c d id code (Idle last) none = refl
fails_unasked c d id code (Asking k from last) none = by_test (bytes_eq d c)
  where
    by_test : (b : Bool) → Asking k from last ≡ (if b && (id == k) then Idle last else Asking k from last)
    by_test true = sym (ap (λ (x : Bool). if x then Idle last else Asking k from last) none)
    by_test false = refl
fails_unasked c d id code (Live p) none = refl

-- ---- calls

without_none : (id : ℕ) (is : List ℕ) → is_out id is ≡ false → without id is ≡ is
without_none id [] none = refl
without_none id (i ∷ is) none = by_test (i == id) (without_none id is) none
  where
    by_test : (b : Bool) → (is_out id is ≡ false → without id is ≡ is) → (b || is_out id is) ≡ false
        → (if b then without id is else i ∷ without id is) ≡ i ∷ is
    by_test true rest none = absurd (cc)
    by_test false rest none = ap (λ xs. i ∷ xs) (rest none)

is_out-append : (id : ℕ) (is : List ℕ) (k : ℕ) → is_out id (is ++ k ∷ []) ≡ ((k == id) || is_out id is)
is_out-append id [] k = refl
is_out-append id (i ∷ is) k =
    ap (λ b. (i == id) || b) (is_out-append id is k) ∙ turned (i == id) (k == id) (is_out id is)
  where
    turned : (a b c : Bool) → (a || (b || c)) ≡ (b || (a || c))
    turned true true c = refl
    turned true false c = refl
    turned false b c = refl

-- the id of a call is out where the call is
out_is : (id : ℕ) (ks : List Call) → is_out id (ids_of ks) ≡ is_some (channel_under id ks)
out_is id [] = refl
out_is id (k ∷ ks) =
    ap (is_out id) (ids_of-cons k ks) ∙ is_out-append id (ids_of ks) k.id ∙ ap (λ b. (k.id == id) || b) (out_is id ks)
    ∙ by_test (k.id == id)
  where
    by_test : (b : Bool) → (b || is_some (channel_under id ks))
        ≡ is_some (if b then Some k.channel else channel_under id ks)
    by_test true = refl
    by_test false = refl

-- what is told of a call is told of its channel
call_told : (tells : List ℕ → AppItem) (d : List ℕ) (o : Option (List ℕ)) (b : Bool) → b ≡ is_some o
    → ((c : List ℕ) → o ≡ Some c → c ≡ d)
    → map tells (option_to_list o) ≡ (if b then tells d ∷ [] else [])
call_told tells d None b is own = sym (ap (λ (x : Bool). if x then tells d ∷ [] else []) is)
call_told tells d (Some c) b is own =
    ap (λ x. tells x ∷ []) (own c refl) ∙ sym (ap (λ (x : Bool). if x then tells d ∷ [] else []) is)

-- ---- a push

placed_offset : (ds : List Datum) (o : ℕ) (x : Placed) → placed_at ds o ≡ Some x → x.offset ≡ o
placed_offset ds zero x h = absurd (cc)
placed_offset ds (suc o) x h = by_datum (slice_get ds o) h
  where
    by_datum : (d : Option Datum) → option_map (λ (v : Datum).
        let p : Placed = record { offset = suc o; datum = v } in p) d ≡ Some x → x.offset ≡ suc o
    by_datum None h = absurd (cc)
    by_datum (Some v) h = sym (ap (λ (p : Placed). p.offset) (some_is x _ x h))

pub_mode : (a b : Bool) (q : Position) (m : Mode) (p : Position) (x : Placed) → a ≡ b → (a ≡ true → m ≡ Live p)
    → x.offset ≡ q.offset
    → (c d : List ℕ) → bytes_eq d c ≡ b → (if a then Live (record { epoch = p.epoch; offset = x.offset }) else m)
    ≡ takes c m (Pub d q)
pub_mode true b q m p x same live at c d e =
    subst (λ (y : Mode). Live (record { epoch = p.epoch; offset = x.offset }) ≡ takes c y (Pub d q)) (sym (live refl))
    (ap (λ o. Live (record { epoch = p.epoch; offset = o })) at
    ∙ sym (ap (λ (y : Bool). if y then Live (record { epoch = p.epoch; offset = q.offset }) else Live p)
    (e ∙ sym same)))
pub_mode false b q (Idle last) p x same live at c d e = refl
pub_mode false b q (Asking k from last) p x same live at c d e = refl
pub_mode false b q (Live r) p x same live at c d e =
    sym (ap (λ (y : Bool). if y then Live (record { epoch = r.epoch; offset = q.offset }) else Live r) (e ∙ sym same))

-- a push for a channel that isn't live
pub_passed : (c d : List ℕ) (q : Position) (m : Mode) → ((p : Position) → m ≡ Live p → bytes_eq d c ≡ false)
    → m ≡ takes c m (Pub d q)
pub_passed c d q (Idle last) other = refl
pub_passed c d q (Asking k from last) other = refl
pub_passed c d q (Live p) other =
    sym (ap (λ (y : Bool). if y then Live (record { epoch = p.epoch; offset = q.offset }) else Live p) (other p refl))

end_passed : (c d : List ℕ) (m : Mode) → ((p : Position) → m ≡ Live p → bytes_eq d c ≡ false) → m ≡ takes c m (End d)
end_passed c d (Idle last) other = refl
end_passed c d (Asking k from last) other = refl
end_passed c d (Live p) other = sym (ap (λ (y : Bool). if y then Idle (Some p) else Live p) (other p refl))

end_mode : (a b : Bool) (m : Mode) (p : Position) → a ≡ b → (a ≡ true → m ≡ Live p) → (c d : List ℕ) → bytes_eq d c ≡ b
    → (if a then Idle (Some p) else m) ≡ takes c m (End d)
end_mode true b m p same live c d e =
    subst (λ (y : Mode). Idle (Some p) ≡ takes c y (End d)) (sym (live refl))
    (sym (ap (λ (y : Bool). if y then Idle (Some p) else Live p) (e ∙ sym same)))
end_mode false b (Idle last) p same live c d e = refl
end_mode false b (Asking k from last) p same live c d e = refl
end_mode false b (Live r) p same live c d e =
    sym (ap (λ (y : Bool). if y then Idle (Some r) else Live r) (e ∙ sym same))

-- of the channel itself nothing is live where its mode isn't
other_live : (s : State) (d c : List ℕ) (m : Mode) → s.client.modes d ≡ m
    → ((p : Position) → m ≡ Live p → bytes_eq d c ≡ false) → (p : Position) → s.client.modes c ≡ Live p
    → bytes_eq d c ≡ false
other_live s d c m is not_live p live =
    elim (text_tells d c) [
      | inl e ↦ not_live p (sym is ∙ ap s.client.modes e.1 ∙ live)
      | inr e ↦ e.0
    ]

-- ---- each note

abbrev Same : Lists → Note → State → State → List AppItem → Type 0
Same lists n s t told = (t.client ≡ hears n s.client) × (told ≡ items_of lists s.client n)

same_name : (c d : List ℕ) → bytes_eq c d ≡ true → c ≡ d
same_name c d h = (bytes_eq-Decides c d).0 h

reply_same : (lists : Lists) (d : List ℕ) (id : ℕ) (was : Bool) (r : Reading) (s t : State) (told : List AppItem)
    → AsksAt id d s
    → TakesAnswer id (sent.Subscribed (record { epoch = r.epoch; offset = r.top })
    (placed_from (lists d r.epoch) r.low (r.top - r.low)) r.recovered was) s t told
    → Same lists (Reply d id was r) s t told
reply_same lists d id was r s t told own (inl a) =
    let here = own a.channel a.asks in
    let asks : asks_under id (s.client.modes d) ≡ true =
    subst (λ x. asks_under id (s.client.modes x) ≡ true) here a.asks in
    let at : Position = record { epoch = r.epoch; offset = r.top } in
    let goes : t ≡ moves d (Live at) s = subst (λ x. t ≡ moves x (Live at) s) here a.moves in (
      moved_client s t d (Live at) (Reply d id was r) s.client.calls goes refl
          (λ c. reply_mode (bytes_eq c d) (bytes_eq d c) id at (s.client.modes c) (either_way c d)
          (λ h. subst (λ x. asks_under id (s.client.modes x) ≡ true) (sym (same_name c d h)) asks) c d was r refl
          refl),
      a.tells ∙ ap (λ x. Subscribed x was r.recovered at
          ∷ map (published x r.epoch) (placed_from (lists d r.epoch) r.low (r.top - r.low))) here
          ∙ reply_told lists d id was r (s.client.modes d) asks,
    )
reply_same lists d id was r s t told own (inr a) = (
  passed_client s t (Reply d id was r) a.1.0 (λ c. reply_unasked c d id was r (s.client.modes c) (a.0 c)),
  a.1.1 ∙ sym (reply_untold lists d id was r (s.client.modes d) (a.0 d)),
)

fails_same : (lists : Lists) (d : List ℕ) (id code : ℕ) (s t : State) (told : List AppItem) → AreApart s.client
    → s.client.calls ≡ ids_of s.out → AsksAt id d s × CallsAt id d s
    → TakesAnswer id (sent.Failed code) s t told → Same lists (Fails d id code) s t told
fails_same lists d id code s t told apart calls own (inl a) =
    let here = own.0 a.channel a.asks in
    let asks : asks_under id (s.client.modes d) ≡ true =
    subst (λ x. asks_under id (s.client.modes x) ≡ true) here a.asks in
    let goes : t ≡ moves d (idle (s.client.modes d)) s =
    subst (λ x. t ≡ moves x (idle (s.client.modes x)) s) here a.moves in (
      moved_client s t d (idle (s.client.modes d)) (Fails d id code) (without id s.client.calls) goes
          (sym (without_none id s.client.calls (apart.calls_apart a.channel id a.asks)))
          (λ c. fails_mode (bytes_eq c d) (bytes_eq d c) id code (s.client.modes c) (s.client.modes d) (either_way c d)
          (λ h. subst (λ x. asks_under id (s.client.modes x) ≡ true) (sym (same_name c d h)) asks)
          (λ h. ap s.client.modes (sym (same_name c d h))) c d refl),
      a.tells ∙ ap (λ x. Refused x code ∷ []) here ∙ sym
          (ap (λ (x : Bool). if x || is_out id s.client.calls then Refused d code ∷ [] else []) asks),
    )
fails_same lists d id code s t told apart calls own (inr a) = (
  answered_client id s t (Fails d id code) a.1.0 (λ c. fails_unasked c d id code (s.client.modes c) (a.0 c)),
  a.1.1 ∙ call_told (λ x. Refused x code) d (channel_under id s.out) (is_out id s.client.calls)
      (ap (is_out id) calls ∙ out_is id s.out) own.1
      ∙ sym (ap (λ (x : Bool). if x || is_out id s.client.calls then Refused d code ∷ [] else []) (a.0 d)),
)

pub_same : (lists : Lists) (d : List ℕ) (q : Position) (x : Placed) (s t : State) (told : List AppItem) (m : Mode)
    → placed_at (lists d q.epoch) q.offset ≡ Some x → s.client.modes d ≡ m
    → TakesPublication d x m s t told → (t.client ≡ hears (Pub d q) s.client) × (told ≡ pub_items lists d q m)
pub_same lists d q x s t told (Idle last) placed is a = (
  passed_client s t (Pub d q) a.0 (λ c. pub_passed c d q (s.client.modes c)
      (other_live s d c (Idle last) is (λ p e. absurd (cc)))),
  a.1,
)
pub_same lists d q x s t told (Asking k from last) placed is a = (
  passed_client s t (Pub d q) a.0 (λ c. pub_passed c d q (s.client.modes c)
      (other_live s d c (Asking k from last) is (λ p e. absurd (cc)))),
  a.1,
)
pub_same lists d q x s t told (Live p) placed is a = (
  moved_client s t d (Live (record { epoch = p.epoch; offset = x.offset })) (Pub d q) s.client.calls a.0 refl
      (λ c. pub_mode (bytes_eq c d) (bytes_eq d c) q (s.client.modes c) p x (either_way c d)
      (λ h. ap s.client.modes (same_name c d h) ∙ is) (placed_offset (lists d q.epoch) q.offset x placed) c d refl),
  a.1 ∙ sym (ap (λ o. map (published d p.epoch) (option_to_list o)) placed),
)

end_same : (lists : Lists) (d : List ℕ) (s t : State) (told : List AppItem) (m : Mode) → s.client.modes d ≡ m
    → TakesEnd d insufficient m s t told
    → (t.client ≡ hears (End d) s.client) × (told ≡ end_items d m)
end_same lists d s t told (Idle last) is a = (
  passed_client s t (End d) a.0 (λ c. end_passed c d (s.client.modes c)
      (other_live s d c (Idle last) is (λ p e. absurd (cc)))),
  a.1,
)
end_same lists d s t told (Asking k from last) is a = (
  passed_client s t (End d) a.0 (λ c. end_passed c d (s.client.modes c)
      (other_live s d c (Asking k from last) is (λ p e. absurd (cc)))),
  a.1,
)
end_same lists d s t told (Live p) is a = (
  moved_client s t d (Idle (Some p)) (End d) s.client.calls a.0 refl
      (λ c. end_mode (bytes_eq c d) (bytes_eq d c) (s.client.modes c) p (either_way c d)
      (λ h. ap s.client.modes (same_name c d h) ∙ is) c d refl),
  a.1,
)

put_still : (c : List ℕ) (id : ℕ) (m : Mode) → m ≡ takes c m (Put id)
put_still c id (Idle last) = refl
put_still c id (Asking k from last) = refl
put_still c id (Live p) = refl

left_still : (c : List ℕ) (id : ℕ) (m : Mode) → m ≡ takes c m (Left id)
left_still c id (Idle last) = refl
left_still c id (Asking k from last) = refl
left_still c id (Live p) = refl

listed_still : (c d : List ℕ) (id : ℕ) (at : Position) (low count : ℕ) (m : Mode)
    → m ≡ takes c m (Listing d id at low count)
listed_still c d id at low count (Idle last) = refl
listed_still c d id at low count (Asking k from last) = refl
listed_still c d id at low count (Live p) = refl

ping_still : (c : List ℕ) (m : Mode) → m ≡ takes c m PingDue
ping_still c (Idle last) = refl
ping_still c (Asking k from last) = refl
ping_still c (Live p) = refl

-- the text that was written is taken
taken : (o p : Outgoing) (s t : State) (told : List AppItem) → Some o ≡ Some p → Takes p s t told → Takes o s t told
taken o p s t told is h = subst (λ x. Takes x s t told) (sym (some_is o o p is)) h

pub_written : (lists : Lists) (d : List ℕ) (q : Position) (o : Outgoing) (s t : State) (told : List AppItem)
    (found : Option Placed) → placed_at (lists d q.epoch) q.offset ≡ found
    → option_map (λ x. Push d (Publication x)) found ≡ Some o → Takes o s t told → (t.client ≡ hears (Pub d q) s.client)
    × (told ≡ items_of lists s.client (Pub d q))
pub_written lists d q o s t told None placed is h = absurd (cc)
pub_written lists d q o s t told (Some x) placed is h =
    pub_same lists d q x s t told (s.client.modes d) placed refl (taken (Push d (Publication x)) o s t told is h)

pub one_meaning : OneMeaning
one_meaning lists (Reply d id was r) o s t told is apart calls own h =
    reply_same lists d id was r s t told own (taken _ o s t told is h)
one_meaning lists (Pub d q) o s t told is apart calls own h =
    pub_written lists d q o s t told (placed_at (lists d q.epoch) q.offset) refl is h
one_meaning lists (End d) o s t told is apart calls own h =
    end_same lists d s t told (s.client.modes d) refl (taken _ o s t told is h)
one_meaning lists (Fails d id code) o s t told is apart calls own h =
    fails_same lists d id code s t told apart calls own (taken _ o s t told is h)
one_meaning lists (Put id) o s t told is apart calls own h =
    let a = taken _ o s t told is h in
    (answered_client id s t (Put id) a.0 (λ c. put_still c id (s.client.modes c)), a.1)
one_meaning lists (Left id) o s t told is apart calls own h =
    let a = taken _ o s t told is h in
    (passed_client s t (Left id) a.0 (λ c. left_still c id (s.client.modes c)), a.1)
one_meaning lists (Listing d id at low count) o s t told is apart calls own h =
    let a = taken _ o s t told is h in (
      answered_client id s t (Listing d id at low count) a.0 (λ c. listed_still c d id at low count (s.client.modes c)),
      a.1 ∙ call_told (λ x. Listed x at (length (placed_from (lists d at.epoch) low count))) d (channel_under id s.out)
          (is_out id s.client.calls) (ap (is_out id) calls ∙ out_is id s.out) own,
    )
one_meaning lists PingDue o s t told is apart calls own h =
    let a = taken _ o s t told is h in
    (passed_client s t PingDue a.0 (λ c. ping_still c (s.client.modes c)), a.1)
one_meaning lists (Close code) o s t told is apart calls own h = absurd (cc)
