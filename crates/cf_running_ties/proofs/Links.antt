-- What waits on the links of the running server is what was sent on the program's and not received, and all of it is
-- listed.
use Rattle.std.proofs.Common.{◌≡◌, ◌≢◌, ◌⊎◌, inl, inr, ◌≤◌, ℕ, zero, suc, ◌+◌, ◌==◌, nat_lt, Bool, true, false}
use Rattle.std.proofs.Common.{if◌then◌else◌, cond, is_some, not, Option, Some, None, List, [], ◌∷◌, ◌++◌, length}
use Rattle.std.proofs.Common.{slice_get, append-nil, append_assoc, refl, sym, ap, ◌∙◌, subst, arith}
use Rattle.std.specs.List.{AllZip}
use Rattle.std.specs.Option.{option_map}
use Rattle.std.proofs.lemmas.Bool.{and_parts}
use Rattle.std.proofs.lemmas.Bool.Decides.{nat_tests}
use Rattle.std.proofs.lemmas.List.{append_cancel_left, length-append}
use Rattle.std.proofs.lemmas.List.Elements.{All-pop}
use Rattle.cf_protocol.specs.Datum.{Datum, Placed}
use Rattle.cf_protocol.specs.Fields.{max_u64}
use Rattle.cf_protocol.specs.LogEntry.{Entry}
use Rattle.cf_protocol.specs.LogEntry.Entry.{Publish}
use Rattle.cf_protocol.specs.Note.{Lists, placed_at}
use Rattle.cf_protocol.specs.Position.{Position}
use Rattle.cf_protocol.specs.Regular.{IsBody, IsPlaced}
use Rattle.cf_protocol.specs.Settings.{settings_of}
use Rattle.cf_stream.specs.ChannelLists.{life_or, stands_at}
use Rattle.cf_model.specs.Keys.{is_no_key, offset_of, repeat_of}
use Rattle.cf_stream.specs.LogState.{life_in, publishing, sizes_in}
use Rattle.cf_stream.specs.PublicationList.{IsPublished as IsPublishedIn, opened, published}
use Rattle.cf_model.specs.Streams.{Life}
use Rattle.cf_stream.specs.Stream.{answer_by}
use Rattle.cf_stream.specs.Streams.{size_at}
use Rattle.cf_stream.specs.declared.answer.Published.{Published}
use Rattle.cf_model.specs.Streams.{StreamState, last_offset}
use Rattle.cf_hub.specs.InNotes.{IsListed}
use Rattle.cf_link.specs.Link.{AreLeft}
use Rattle.cf_machine.specs.Lives.{life_by}
use Rattle.cf_machine.specs.PublicationList.{Place}
use Rattle.cf_machine.specs.World.{World}
use Rattle.cf_machine.proofs.Names.{by_test, itself}
use Rattle.cf_shard.specs.Delivery.{AreCopies, AreLeft as AreHandedOut, Carried, IsCopy, Left, carried}
use Rattle.cf_shard.specs.LogAnswer.{IsPublished}
use Rattle.cf_running.specs.Server as server
use Rattle.cf_running.specs.Server.{Connection, Delivers, Offers, Publishes, Section, Server, Site, Work, accepts}
use Rattle.cf_running.specs.Server.{server_after, answers, at_number, can_gain, change, comes_by, life_of, lists_of}
use Rattle.cf_running.specs.Server.{log_of, place_in, place_of, ran, start, words_of}
use Rattle.cf_running.proofs.Beside.{Beside, at-same, number_tells}
use Rattle.cf_running.proofs.Gaining.{life-more}
use Rattle.cf_running.proofs.Steps.{stands_beside}
use Rattle.cf_running_ties.specs.Links.{AddsNothing, IsAnswered, IsFirst, IsNumbered, IsSentOrLost, Lines, OffersCopies}
use Rattle.cf_running_ties.specs.Links.{OffersNext, Waits, is_at_link, place}
use Rattle.cf_hub_moves.proofs.Later.{listed-later}
use Rattle.cf_running_ties.proofs.Growing.{Any, any-section, grown-lists, grows, links-stay, place-more}

-- ---- each link is offered it once

module _ (x : Carried) where
  abbrev OnceAt : Lines → Lines → ℕ → Type 0
  OnceAt old new n = (new n ≡ old n) ⊎ (new n ≡ old n ++ x ∷ [])

  -- so many links were offered it, and the others are as they were
  record IsOffered (count : ℕ) (old new : Lines) : Type 0 where
    once : (n : ℕ) → OnceAt old new n
    above : (n : ℕ) → count ≤ n → new n ≡ old n

  one_more : (count : ℕ) (old mid new : Lines) → IsOffered count old mid → IsSentOrLost mid count x new
      → IsOffered (suc count) old new
  one_more count old mid new h (inr e) = record {
    once = λ n. subst (λ (f : Lines). OnceAt old f n) (sym e) (h.once n);
    above = λ n k. (λ i. e i n) ∙ h.above n (omega arith);
  }
  one_more count old mid new h (inl e) = record {
    once = λ n. elim (number_tells n count) [
      | inl k ↦ inr ((λ i. e i n) ∙ ap (λ (b : Bool). if b then mid count ++ x ∷ [] else mid n) k.0
          ∙ ap (λ (xs : List Carried). xs ++ x ∷ []) (h.above count (omega arith) ∙ ap old (sym k.1)))
      | inr k ↦ subst (λ (xs : List Carried). (xs ≡ old n) ⊎ (xs ≡ old n ++ x ∷ []))
          (sym ((λ i. e i n) ∙ ap (λ (b : Bool). if b then mid count ++ x ∷ [] else mid n) k.0)) (h.once n)
    ];
    above = λ n k. elim (number_tells n count) [
      | inl j ↦ absurd (let same : n ≡ count = j.1 in omega arith)
      | inr j ↦ (λ i. e i n) ∙ ap (λ (b : Bool). if b then mid count ++ x ∷ [] else mid n) j.0 ∙ h.above n (omega arith)
    ];
  }

module _ (c : List ℕ) (p : Position) (d : Datum) where
  -- so many copies of the datum at the position were offered, and those that are left are copies of it for that place
  record Goes (count : ℕ) (old : Lines) (left : Left) (new : Lines) : Type 0 where
    copies : AreCopies c d left.copies
    position : left.position ≡ p
    offered : IsOffered (carried c p d) count old new

  goes-on : (n : ℕ) (old : Lines) (left : Left) (mid : Lines) (after : Left) (new : Lines) → Goes n old left mid
      → OffersNext n left mid after new → Goes (suc n) old after new
  goes-on n old left mid after new h o =
      let cut = All-pop (IsCopy c d) left.copies after.copies (Some o.next.copy) o.next.left h.copies in
      let is : o.delivery ≡ carried c p d =
      o.next.is ∙ ap (λ (q : Position). carried o.next.copy.channel q o.next.copy.publication.datum) h.position
      ∙ (λ i. carried (cut.1.0 i) p (cut.1.1 i)) in record {
        copies = cut.0;
        position = o.next.position ∙ h.position;
        offered = one_more (carried c p d) n old mid new h.offered
            (subst (λ (x : Carried). IsSentOrLost mid n x new) is o.offered);
      }

  goes : (count : ℕ) (first : Left) (old : Lines) (last : Left) (new : Lines) → AreCopies c d first.copies
      → first.position ≡ p → OffersCopies count first old last new → Goes count old last new
  goes zero first old last new copies at h = record {
    copies = subst (λ (l : Left). AreCopies c d l.copies) (sym h.0) copies;
    position = ap (λ (l : Left). l.position) h.0 ∙ at;
    offered = record { once = λ n. inl (λ i. h.1 i n); above = λ n k. (λ i. h.1 i n) };
  }
  goes (suc n) first old last new copies at h =
      goes-on n old h.0 h.1 last new (goes n first old h.0 h.1 copies at h.2) h.3

  pub offered : (nodes count : ℕ) (first last : Left) (old new : Lines) → AreHandedOut nodes c p d first
      → OffersCopies count first old last new → (n : ℕ) → OnceAt (carried c p d) old new n
  offered nodes count first last old new left h n =
      (goes count first old last new left.copies left.position h).offered.once n

-- ---- a number stays, and what waits too

pub starts : (site : Site) → Waits site start (λ n. []) (λ n. [])
starts site = record { at = λ n. ([], refl, tt) }

pub stays : (site : Site) (s : Server) (section : Section) (i : ℕ) (x : Carried) → IsNumbered site s i x
    → IsNumbered site (server_after site section s) i x
stays site s section i x h =
    let g = grows Any site s section (any-section s section) in record {
      accepted = ap (place_of i) g.accepted.1 ∙ place-more s.accepted g.accepted.0 i (place x) h.accepted;
      listed = listed-later (lists_of site s) (lists_of site (server_after site section s)) x.channel x.epoch
          x.publication (grown-lists Any site s (server_after site section s) g) h.listed;
    }

zip-weaker : (P Q : ℕ → Carried → Type 0) → ((i : ℕ) (x : Carried) → P i x → Q i x) → (is : List ℕ) (xs : List Carried)
    → AllZip P is xs → AllZip Q is xs
zip-weaker P Q f [] [] h = tt
zip-weaker P Q f [] (x ∷ xs) h = h
zip-weaker P Q f (i ∷ is) [] h = h
zip-weaker P Q f (i ∷ is) (x ∷ xs) h = (f i x h.0, zip-weaker P Q f is xs h.1)

zip-more : (P : ℕ → Carried → Type 0) (is : List ℕ) (xs : List Carried) (i : ℕ) (x : Carried) → AllZip P is xs → P i x
    → AllZip P (is ++ i ∷ []) (xs ++ x ∷ [])
zip-more P [] [] i x h k = (k, tt)
zip-more P [] (y ∷ xs) i x h k = absurd h
zip-more P (j ∷ is) [] i x h k = absurd h
zip-more P (j ∷ is) (y ∷ xs) i x h k = (h.0, zip-more P is xs i x h.1 k)

pub others : (site : Site) (s : Server) (section : Section) (sent received : Lines) → is_at_link section ≡ false
    → Waits site s sent received → Waits site (server_after site section s) sent received
others site s section sent received e h = record {
  at = λ n.
      let k = h.at n in (
        k.0,
        k.1,
        subst (λ (links : ℕ → List ℕ). AllZip (IsNumbered site (server_after site section s)) (links n) k.0)
            (sym (links-stay Any site s section (any-section s section) e))
            (zip-weaker (IsNumbered site s) (IsNumbered site (server_after site section s)) (stays site s section)
            (s.links n) k.0 k.2),
      );
}

-- ---- one is sent

is-there : (o : Option Place) (p : Place) → o ≡ Some p → is_some o ≡ true
is-there o p h = ap (λ (x : Option Place). is_some x) h

pub sends : (site : Site) (s : Server) (i n : ℕ) (x : Carried) (sent received : Lines) → IsNumbered site s i x
    → Waits site s sent received
    → Waits site (server_after site (Offers i n) s) (at_number sent n (sent n ++ x ∷ [])) received
sends site s i n x sent received new h =
    subst (λ (t : Server). Waits site t (at_number sent n (sent n ++ x ∷ [])) received)
    (sym (ap (λ (b : Bool). if b then record s { links = at_number s.links n (s.links n ++ i ∷ []) } else s)
    (is-there (place_of i s.accepted) (place x) new.accepted)))
    (record { at = λ m. by_node m (number_tells m n) })
  where
    t : Server
    t = record s { links = at_number s.links n (s.links n ++ i ∷ []) }

    same : (j : ℕ) (y : Carried) → IsNumbered site s j y → IsNumbered site t j y
    same j y k = record { accepted = k.accepted; listed = k.listed }

    by_node : (m : ℕ) → (((m == n) ≡ true) × (m ≡ n)) ⊎ (((m == n) ≡ false) × (m ≢ n))
        → (left : List Carried) × (at_number sent n (sent n ++ x ∷ []) m ≡ received m ++ left)
        × AllZip (IsNumbered site t) (at_number s.links n (s.links n ++ i ∷ []) m) left
    by_node m (inl e) =
        let k = h.at n in (
          k.0 ++ x ∷ [],
          ap (λ (b : Bool). if b then sent n ++ x ∷ [] else sent m) e.0 ∙ ap (λ (xs : List Carried). xs ++ x ∷ []) k.1
              ∙ append_assoc (received n) k.0 (x ∷ []) ∙ ap (λ z. received z ++ (k.0 ++ x ∷ [])) (sym e.1),
          subst (λ (is : List ℕ). AllZip (IsNumbered site t) is (k.0 ++ x ∷ []))
              (sym (ap (λ (b : Bool). if b then s.links n ++ i ∷ [] else s.links m) e.0))
              (zip-more (IsNumbered site t) (s.links n) k.0 i x
              (zip-weaker (IsNumbered site s) (IsNumbered site t) same (s.links n) k.0 k.2) (same i x new)),
        )
    by_node m (inr e) =
        let k = h.at m in (
          k.0,
          ap (λ (b : Bool). if b then sent n ++ x ∷ [] else sent m) e.0 ∙ k.1,
          subst (λ (is : List ℕ). AllZip (IsNumbered site t) is k.0)
              (sym (ap (λ (b : Bool). if b then s.links n ++ i ∷ [] else s.links m) e.0))
              (zip-weaker (IsNumbered site s) (IsNumbered site t) same (s.links m) k.0 k.2),
        )

-- ---- one is received

module _ (site : Site) (s : Server) (n : ℕ) (x : Carried) (sent received : Lines) (h : Waits site s sent received) where
  abbrev Result : Type 0
  Result = IsFirst site s n x × Waits site (server_after site (Delivers n) s) sent
      (at_number received n (received n ++ x ∷ []))

  -- these wait, and the first is this one
  by_links : (is : List ℕ) (rest : List Carried) → s.links n ≡ is → sent n ≡ received n ++ x ∷ rest
      → AllZip (IsNumbered site s) is (x ∷ rest) → Result
  by_links [] rest e f z = absurd z
  by_links (i ∷ is) rest e f z = (
    record { number = i; rest = is; waits = e; is = z.0 },
    subst (λ (t : Server). Waits site t sent new) (sym after-is) (record { at = λ m. by_node m (number_tells m n) }),
  )
    where
      new : Lines
      new = at_number received n (received n ++ x ∷ [])

      t : Server
      t = record s {
        links = at_number s.links n is;
        connections = comes_by (words_of site s) n (Some (place x)) s.connections;
      }

      after-is : server_after site (Delivers n) s ≡ t
      after-is =
          ap (λ (js : List ℕ). server.delivers_first site n js s) e
          ∙ ap (λ (o : Option Place). record s {
            links = at_number s.links n is;
            connections = comes_by (words_of site s) n o s.connections;
          }) z.0.accepted

      same : (j : ℕ) (y : Carried) → IsNumbered site s j y → IsNumbered site t j y
      same j y k = record { accepted = k.accepted; listed = k.listed }

      by_node : (m : ℕ) → (((m == n) ≡ true) × (m ≡ n)) ⊎ (((m == n) ≡ false) × (m ≢ n))
          → (left : List Carried) × (sent m ≡ new m ++ left)
          × AllZip (IsNumbered site t) (at_number s.links n is m) left
      by_node m (inl k) = (
        rest,
        ap sent k.1 ∙ f ∙ sym (append_assoc (received n) (x ∷ []) rest)
            ∙ ap (λ (xs : List Carried). xs ++ rest) (sym
            (ap (λ (b : Bool). if b then received n ++ x ∷ [] else received m) k.0)),
        subst (λ (js : List ℕ). AllZip (IsNumbered site t) js rest)
            (sym (ap (λ (b : Bool). if b then is else s.links m) k.0))
            (zip-weaker (IsNumbered site s) (IsNumbered site t) same is rest z.1),
      )
      by_node m (inr k) =
          let a = h.at m in (
            a.0,
            a.1 ∙ ap (λ (xs : List Carried). xs ++ a.0) (sym
                (ap (λ (b : Bool). if b then received n ++ x ∷ [] else received m) k.0)),
            subst (λ (js : List ℕ). AllZip (IsNumbered site t) js a.0)
                (sym (ap (λ (b : Bool). if b then is else s.links m) k.0))
                (zip-weaker (IsNumbered site s) (IsNumbered site t) same (s.links m) a.0 a.2),
          )

  pub receives : (count : ℕ) → AreLeft (sent n) (received n ++ x ∷ []) count → Result
  receives count l =
      let a = h.at n in
      let all : sent n ≡ received n ++ x ∷ l.0 = l.1 ∙ append_assoc (received n) (x ∷ []) l.0 in
      let same : a.0 ≡ x ∷ l.0 = append_cancel_left (received n) a.0 (x ∷ l.0) (sym a.1 ∙ all) in
      by_links (s.links n) l.0 refl all (subst (λ (left : List Carried). AllZip (IsNumbered site s) (s.links n) left)
      same a.2)

-- ---- a publication is accepted

-- the channel's stream stands over its list
pub life-listed : (site : Site) (s : Server) (w : World) → Beside site s w → (c : List ℕ) (l : Life)
    → life_of site s c ≡ Some l → lists_of site s c l.epoch ≡ l.list
life-listed site s w b c l e =
    sym (b.listed c l.epoch) ∙ by_stream (w.broker.streams c)
    ((b.logs (site.shard_of c)).life c (own (site.shard_of c)) ∙ e)
  where
    own : (n : ℕ) → (n == n) ≡ true
    own n = grind (arith, nat_tests)

    by_stream : (o : Option StreamState) → life_by (w.broker.lists c) (w.broker.keys c) o ≡ Some l
        → w.broker.lists c l.epoch ≡ l.list
    by_stream None h = absurd (cc)
    by_stream (Some t) h =
        let same : ◌≡◌ {A = Life} (record {
          epoch = t.epoch;
          list = w.broker.lists c t.epoch;
          keys = w.broker.keys c t.epoch;
          held = t.held;
        }) l = cc in
        ap (w.broker.lists c) (sym (ap (λ (k : Life). k.epoch) same)) ∙ ap (λ (k : Life). k.list) same

ran-append : (site : Site) (s : Server) (xs ys : List Section) → ran site s (xs ++ ys) ≡ ran site (ran site s xs) ys
ran-append site s [] ys = refl
ran-append site s (x ∷ xs) ys = ran-append site (server_after site x s) xs ys

get-last : {A : Type 0} (xs : List A) (x : A) → slice_get (xs ++ x ∷ []) (length xs) ≡ Some x
get-last [] x = refl
get-last (y ∷ xs) x = get-last xs x

one-more : (n : ℕ) → suc n ≡ n + 1
one-more n = omega arith

place-last : (ps : List Place) (p : Place) → place_of (length ps + 1) (ps ++ p ∷ []) ≡ Some p
place-last ps p = subst (λ n. place_of n (ps ++ p ∷ []) ≡ Some p) (one-more (length ps)) (get-last ps p)

placed-last : (ds : List Datum) (d : Datum) → placed_at (ds ++ d ∷ []) (length ds + 1)
    ≡ Some (record { offset = length ds + 1; datum = d })
placed-last ds d =
    subst (λ n. placed_at (ds ++ d ∷ []) n ≡ Some (record { offset = n; datum = d })) (one-more (length ds))
    (ap (λ (o : Option Datum). option_map (λ z. record { offset = suc (length ds); datum = z }) o) (get-last ds d))

module _
    (listed : (lists : Lists) (c e : List ℕ) (p : Placed) → placed_at (lists c e) p.offset ≡ Some p → IsPlaced IsBody p
    → IsListed lists c e p)
    (site : Site) (sections : List Section) where
  abbrev s : Server
  s = ran site start sections

  module _ (k : ℕ) (c key : List ℕ) (d : Datum) (p : Published) (a : IsAnswered site s k c key d p)
      (new : p.repeated ≡ false) where
    abbrev x : Entry
    x = Publish c key d

    abbrev t : Server
    t = change k (answers c a.id) (accepts site c key d s)

    may : can_gain site (site.shard_of c) x s ≡ true
    may = a.may new

    -- its stream isn't at the last offset, and has no publication under the key
    parts : (server.is_below (life_of site s c) ≡ true) × (not (server.repeats key (life_of site s c)) ≡ true)
    parts = and_parts (server.is_below (life_of site s c)) (not (server.repeats key (life_of site s c)))
        (and_parts (is_some (settings_of site.config.namespaces c)) _ may).1

    is_not : (b : Bool) → not b ≡ true → b ≡ false
    is_not true h = absurd (cc)
    is_not false h = refl

    run-is : ran site start (sections ++ Publishes k ∷ []) ≡ t
    run-is =
        ran-append site start sections (Publishes k ∷ [])
        ∙ ap (λ (h : Work). server.publishes site k h s) a.work
        ∙ (λ i. if is_not (server.repeats key (life_of site s c)) parts.1 i then change k (answers c a.id) s
        else if may i then t else s)

    its-log : log_of site t c ≡ log_of site s c ++ x ∷ []
    its-log = at-same s.logs (site.shard_of c) (log_of site s c ++ x ∷ [])

    answer : IsPublished site.config.namespaces a.seen (log_of site s c ++ x ∷ []) c key d p
    answer = subst (λ (b : Bool). IsPublished site.config.namespaces a.seen
        (if b then log_of site s c else log_of site s c ++ x ∷ []) c key d p) new a.answer

    -- its stream before and after
    by_life : (o : Option Life) → life_of site s c ≡ o → server.is_below o ≡ true
        → IsNumbered site t (length s.accepted + 1) (carried c p.position d)
    by_life None e h = absurd (cc)
    by_life (Some l) e h =
        subst (λ q. IsNumbered site t (length s.accepted + 1) (carried c q d)) (sym at-is) (record {
          accepted = ap (λ (o : Option Life). place_of (length s.accepted + 1) (s.accepted ++ place_in c o)) e
              ∙ place-last s.accepted (record { channel = c; at = q });
          listed = listed (lists_of site t) c l.epoch (record { offset = length l.list + 1; datum = d })
              (ap (λ (ds : List Datum). placed_at ds (length l.list + 1)) list-is ∙ placed-last l.list d)
              (record { body = a.regular.0; info = a.regular.1; offset = fits });
        })
      where
        q : Position
        q = record { epoch = l.epoch; offset = length l.list + 1 }

        size : ℕ
        size = size_at (sizes_in site.config.namespaces (log_of site s c)) c

        grown : Life
        grown = published size key d l

        life-is : life_in site.config.namespaces (log_of site s c ++ x ∷ []) c ≡ Some grown
        life-is =
            life-more site.config.namespaces (log_of site s c) x c
            ∙ ap (λ (b : Bool). cond b (option_map (published size key d) (life_of site s c)) (life_of site s c))
            (itself c)
            ∙ ap (λ (o : Option Life). option_map (published size key d) o) e

        at-is : p.position ≡ q
        at-is =
            let same : Some p.position ≡ option_map stands_at
            (life_in site.config.namespaces (log_of site s c ++ x ∷ []) c) = answer.answered.stands new in
            let one : ◌≡◌ {A = Option Position} (Some p.position) (Some (stands_at grown)) =
            same ∙ ap (λ (o : Option Life). option_map stands_at o) life-is in
            let stood : p.position ≡ stands_at grown = cc in
            stood ∙ (λ i. record { epoch = l.epoch; offset = length-append l.list (d ∷ []) i })

        list-is : lists_of site t c l.epoch ≡ l.list ++ d ∷ []
        list-is =
            let beside = stands_beside site (sections ++ Publishes k ∷ []) in
            life-listed site t beside.0 (subst (λ (v : Server). Beside site v beside.0) run-is beside.1) c grown
            (ap (λ (log : List Entry). life_in site.config.namespaces log c) its-log ∙ life-is)

        fits : length l.list + 1 ≤ max_u64
        fits = let below : nat_lt (length l.list) last_offset ≡ true = h in grind (arith, nat_tests, below)

    pub accepted : IsNumbered site (ran site start (sections ++ Publishes k ∷ [])) (length s.accepted + 1)
        (carried c p.position d)
    accepted =
        subst (λ (v : Server). IsNumbered site v (length s.accepted + 1) (carried c p.position d)) (sym run-is)
        (by_life (life_of site s c) refl parts.0)

-- ---- a repeat adds nothing

module _ (site : Site) (s : Server) (k : ℕ) (c key : List ℕ) (d : Datum) (p : Published)
    (a : IsAnswered site s k c key d p) (again : p.repeated ≡ true) where
  -- what is answered as a repeat of a list repeats one
  found : (l : Life) → IsPublishedIn l key p.position p.repeated → is_some (repeat_of key l.keys) ≡ true
  found l h = by_found (repeat_of key l.keys) h.is
    where
      by_found : (o : Option ℕ) → ◌≡◌ {A = Published} (record { position = p.position; repeated = p.repeated })
          (answer_by o l.epoch (length l.list)) → is_some o ≡ true
      by_found (Some n) i = refl
      by_found None i = absurd (let f : true ≡ false = sym again ∙ ap (λ (x : Published). x.repeated) i in cc)

  -- a stream that opens has no keys
  no-repeat : repeat_of key [] ≡ None
  no-repeat = by_test (λ o. o ≡ None) (is_no_key key) None (offset_of key []) (λ h. refl) (λ h. refl)

  repeats-one : (o : Option Life) → IsPublishedIn (life_or o p.position.epoch) key p.position p.repeated
      → server.repeats key o ≡ true
  repeats-one (Some l) h = found l h
  repeats-one None h =
      absurd (let f : true ≡ false = sym (found (opened p.position.epoch) h)
      ∙ ap (λ (o : Option ℕ). is_some o) no-repeat in cc)

  same-log : log_of site s c ≡ a.answer.before
  same-log =
      sym (ap (λ (b : Bool). if b then log_of site s c else log_of site s c ++ Publish c key d ∷ []) again)
      ∙ a.answer.gained
      ∙ ap (λ (b : Bool). a.answer.before ++ publishing b (life_in site.config.namespaces a.answer.before c) c
      p.position.epoch key d) again
      ∙ append-nil a.answer.before

  pub repeated : AddsNothing s (server_after site (Publishes k) s)
  repeated =
      let one : server.repeats key (life_of site s c) ≡ true =
      repeats-one (life_of site s c)
      (subst (λ (log : List Entry). IsPublishedIn (life_or (life_in site.config.namespaces log c) p.position.epoch) key
      p.position p.repeated) (sym same-log) a.answer.answered.is) in
      subst (λ (t : Server). AddsNothing s t)
      (sym (ap (λ (h : Work). server.publishes site k h s) a.work
      ∙ ap (λ (b : Bool). if b then change k (answers c a.id) s
      else if can_gain site (site.shard_of c) (Publish c key d) s then change k (answers c a.id)
      (accepts site c key d s) else s) one))
      (record { logs = refl; accepted = refl; links = refl })
