-- What an application is told by its client is what the machine says that it is told.
use Rattle.std.proofs.Common.{◌≡◌, ℕ, zero, suc, ◌+◌, ◌-◌, ◌<◌, ◌≤◌, ◌==◌, ◌||◌, Bool, true, false, if◌then◌else◌}
use Rattle.std.proofs.Common.{Option, Some, None, List, [], ◌∷◌, length, map, take, drop, flat_map, slice_get}
use Rattle.std.proofs.Common.{option_map, refl, sym, ap, ◌∙◌, subst, arith}
use Rattle.std.specs.Prelude.{option_to_list}
use Rattle.cf_protocol.specs.Datum.{Datum, numbered}
use Rattle.cf_protocol.specs.Note.{Lists, Reading, Note, Reply, Pub, End, Fails, Put as PutDone, Left}
use Rattle.cf_protocol.specs.Note.{Listed as Listing, PingDue, Close, outgoing_of, placed_at, placed_from}
use Rattle.cf_protocol.specs.Outgoing.{Outgoing, Push, Publication}
use Rattle.cf_protocol.specs.Position.{Position}
use Rattle.cf_client.specs.AppItem as item
use Rattle.cf_client.specs.AppItem.{published}
use Rattle.cf_model.specs.Clients.{Client, Mode, Idle, Asking, Live, is_out, read_to}
use Rattle.cf_client.specs.ClientCalls as client
use Rattle.cf_client.specs.OneMeaning as told
use Rattle.cf_machine.specs.PublicationList.{body_at, body_of}
use Rattle.cf_machine.specs.Tellable.{IsTellable}
use Rattle.cf_machine.specs.Told.{asks_under, end_items, items, pub_items, reply_items, run_items}
use Rattle.cf_world.specs.Items.{told_of}
use Rattle.cf_machine.specs.Trace.{Item, Subscribed, Published, Refused, Listed}

record Next (ds : List Datum) (o : ℕ) : Type 0 where
  datum : Datum
  here : slice_get ds o ≡ Some datum
  behind : drop o ds ≡ datum ∷ drop (suc o) ds

next_in : (ds : List Datum) (o : ℕ) → o < length ds → Next ds o
next_in [] o h = absurd (omega arith)
next_in (d ∷ ds) zero h = record { datum = d; here = refl; behind = refl }
next_in (d ∷ ds) (suc o) h = let n = next_in ds o (omega arith) in
    record { datum = n.datum; here = n.here; behind = n.behind }

one-on : (o : ℕ) → o + 1 ≡ suc o
one-on o = omega arith

one-back : (o : ℕ) → suc o - 1 ≡ o
one-back o = omega arith

module _ (lists : Lists) (c e : List ℕ) where
  abbrev at : ℕ → Position
  at o = record { epoch = e; offset = o }

  -- so many publications, one after another
  run-told : (n o : ℕ) → o + n ≤ length (lists c e)
      → flat_map told_of (map (published c e) (numbered o (take n (drop o (lists c e))))) ≡ run_items lists c (at o) n
  run-told zero o h = refl
  run-told (suc n) o h =
      let x = next_in (lists c e) o (omega arith) in
      let body : body_at lists c (at (suc o)) ≡ x.datum.body =
      ap (λ (k : ℕ). body_of (slice_get (lists c e) k)) (one-back o) ∙ ap body_of x.here in
      let rest : flat_map told_of (map (published c e) (numbered (suc o) (take n (drop (suc o) (lists c e)))))
      ≡ run_items lists c (at (suc o)) n = run-told n (suc o) (omega arith) in
      ap (λ (ds : List Datum). flat_map told_of (map (published c e) (numbered o (take (suc n) ds)))) x.behind
      ∙ ap (λ (k : ℕ). Published c (at k) x.datum.body
      ∷ flat_map told_of (map (published c e) (numbered k (take n (drop (suc o) (lists c e)))))) (one-on o)
      ∙ ap (λ (is : List Item). Published c (at (suc o)) x.datum.body ∷ is) rest
      ∙ ap (λ (b : List ℕ). Published c (at (suc o)) b ∷ run_items lists c (at (suc o)) n) (sym body)
      ∙ ap (λ (k : ℕ). Published c (at k) (body_at lists c (at k)) ∷ run_items lists c (at k) n) (sym (one-on o))

length-placed : (n o : ℕ) (ds : List Datum) → o + n ≤ length ds → length (numbered o (take n (drop o ds))) ≡ n
length-placed zero o ds h = refl
length-placed (suc n) o ds h =
    let x = next_in ds o (omega arith) in
    ap (λ (es : List Datum). length (numbered o (take (suc n) es))) x.behind
    ∙ ap suc (ap (λ (k : ℕ). length (numbered k (take n (drop (suc o) ds)))) (one-on o)
    ∙ length-placed n (suc o) ds (omega arith))

module _ (lists : Lists) where
  reading-told : (c : List ℕ) (was : Bool) (r : Reading) → r.low ≤ r.top → r.top ≤ length (lists c r.epoch)
      → (r.recovered ≡ false → r.low ≡ r.top)
      → flat_map told_of (map (published c r.epoch) (placed_from (lists c r.epoch) r.low (r.top - r.low)))
      ≡ (if r.recovered then run_items lists c (record { epoch = r.epoch; offset = r.low }) (r.top - r.low) else [])
  reading-told c was r low top none = by_value r.recovered none
    where
      all : r.low + (r.top - r.low) ≤ length (lists c r.epoch)
      all = omega arith

      nothing : r.low ≡ r.top → r.top - r.low ≡ 0
      nothing h = omega arith

      by_value : (t : Bool) → (t ≡ false → r.low ≡ r.top)
          → flat_map told_of (map (published c r.epoch) (placed_from (lists c r.epoch) r.low (r.top - r.low)))
          ≡ (if t then run_items lists c (record { epoch = r.epoch; offset = r.low }) (r.top - r.low) else [])
      by_value true h = run-told lists c r.epoch (r.top - r.low) r.low all
      by_value false h =
          ap (λ (n : ℕ). flat_map told_of (map (published c r.epoch) (placed_from (lists c r.epoch) r.low n)))
          (nothing (h refl))

  reply-told : (c : List ℕ) (id : ℕ) (was : Bool) (r : Reading) (m : Mode) → r.low ≤ r.top
      → r.top ≤ length (lists c r.epoch) → (r.recovered ≡ false → r.low ≡ r.top)
      → flat_map told_of (told.reply_items lists c id was r m) ≡ reply_items lists c id was r m
  reply-told c id was r (Idle last) low top none = refl
  reply-told c id was r (Asking k from last) low top none = by_value (id == k)
    where
      by_value : (t : Bool) → flat_map told_of (if t then item.Subscribed c was r.recovered (read_to r)
          ∷ map (published c r.epoch) (placed_from (lists c r.epoch) r.low (r.top - r.low)) else [])
          ≡ (if t then Subscribed c was r.recovered (read_to r)
          ∷ (if r.recovered then run_items lists c (record { epoch = r.epoch; offset = r.low }) (r.top - r.low)
          else []) else [])
      by_value true =
          ap (λ (is : List Item). Subscribed c was r.recovered (read_to r) ∷ is) (reading-told c was r low top none)
      by_value false = refl
  reply-told c id was r (Live p) low top none = refl

  pub-told : (c e : List ℕ) (k : ℕ) (m : Mode) (o : Outgoing)
      → option_map (λ d. Push c (Publication d)) (placed_at (lists c e) k) ≡ Some o
      → flat_map told_of (told.pub_items lists c (record { epoch = e; offset = k }) m)
      ≡ pub_items lists c (record { epoch = e; offset = k }) m
  pub-told c e k (Idle last) o h = refl
  pub-told c e k (Asking i from last) o h = refl
  pub-told c e zero (Live p) o h = absurd (cc)
  pub-told c e (suc k) (Live p) o h =
      by_datum (slice_get (lists c e) k) h ∙ ap (λ (j : ℕ). Published c (record { epoch = p.epoch; offset = suc k })
      (body_of (slice_get (lists c e) j)) ∷ []) (sym (one-back k))
    where
      by_datum : (d : Option Datum) → option_map (λ x. Push c (Publication x))
          (option_map (λ x. record { offset = suc k; datum = x }) d) ≡ Some o
          → flat_map told_of (map (published c p.epoch)
          (option_to_list (option_map (λ x. record { offset = suc k; datum = x }) d)))
          ≡ Published c (record { epoch = p.epoch; offset = suc k }) (body_of d) ∷ []
      by_datum None g = absurd (cc)
      by_datum (Some d) g = refl

  end-told : (c : List ℕ) (m : Mode) → flat_map told_of (told.end_items c m) ≡ end_items c m
  end-told c (Idle last) = refl
  end-told c (Asking k from last) = refl
  end-told c (Live p) = refl

  same-asks : (id : ℕ) (m : Mode) → client.asks_under id m ≡ asks_under id m
  same-asks id (Idle last) = refl
  same-asks id (Asking k from last) = refl
  same-asks id (Live p) = refl

  error-told : (c : List ℕ) (code : ℕ) (s t : Bool) → s ≡ t
      → flat_map told_of (if s then item.Refused c code ∷ [] else []) ≡ (if t then Refused c code ∷ [] else [])
  error-told c code true t e =
      subst (λ (x : Bool). Refused c code ∷ [] ≡ (if x then Refused c code ∷ [] else [])) e refl
  error-told c code false t e = subst (λ (x : Bool). [] ≡ (if x then Refused c code ∷ [] else [])) e refl

  list-told : (c : List ℕ) (p : Position) (m n : ℕ) (t : Bool) → m ≡ n
      → flat_map told_of (if t then item.Listed c p m ∷ [] else []) ≡ (if t then Listed c p n ∷ [] else [])
  list-told c p m n true e = ap (λ (k : ℕ). Listed c p k ∷ []) e
  list-told c p m n false e = refl

  no_close : (o : Outgoing) → None ≡ Some o → ⊥
  no_close o h = cc

  -- THE ITEMS OF A NOTE
  pub items_agree : (x : Client) (n : Note) (o : Outgoing) → IsTellable lists n → outgoing_of lists n ≡ Some o
      → flat_map told_of (told.items_of lists x n) ≡ items lists x n
  items_agree x (Reply c id was r) o h g = reply-told c id was r (x.modes c) h.0 h.1 h.2
  items_agree x (Pub c q) o h g = pub-told c q.epoch q.offset (x.modes c) o g
  items_agree x (End c) o h g = end-told c (x.modes c)
  items_agree x (Fails c id code) o h g =
      error-told c code (client.asks_under id (x.modes c) || is_out id x.calls)
      (asks_under id (x.modes c) || is_out id x.calls)
      (ap (λ (t : Bool). t || is_out id x.calls) (same-asks id (x.modes c)))
  items_agree x (PutDone id) o h g = refl
  items_agree x (Left id) o h g = refl
  items_agree x (Listing c id p low count) o h g =
      list-told c p (length (placed_from (lists c p.epoch) low count)) count (is_out id x.calls)
      (length-placed count low (lists c p.epoch) h)
  items_agree x PingDue o h g = absurd h
  items_agree x (Close code) o h g = absurd (no_close o g)
