-- What a read and a history answer by their contracts stands in the server's lists.
use Rattle.std.proofs.Common.{◌≡◌, ◌≤◌, ℕ, ◌+◌, ◌-◌, min, max, Bool, false, Option, Some, None, List, [], ◌++◌, length}
use Rattle.std.proofs.Common.{sym, ap, ◌∙◌, subst, arith}
use Rattle.std.specs.Prelude.{ℤ}
use Rattle.std.specs.List.{AllByRecursion}
use Rattle.std.proofs.lemmas.List.Elements.{All-from_recursion}
use Rattle.cf_protocol.specs.Datum.{Placed}
use Rattle.cf_protocol.specs.LogEntry.{Entry}
use Rattle.cf_protocol.specs.Note.{Lists, Reading, placed_from}
use Rattle.cf_protocol.specs.Outgoing.{Answer, Past}
use Rattle.cf_protocol.specs.Position.{Position}
use Rattle.cf_protocol.specs.Regular.{ArePlaced, IsBody, IsPosition}
use Rattle.cf_stream.specs.ChannelLists.{life_or}
use Rattle.cf_stream.specs.LogState.{life_in, opening}
use Rattle.cf_stream.specs.PublicationList.{IsListed, IsRead, state_of}
use Rattle.cf_model.specs.Streams.{Life}
use Rattle.cf_model.specs.Streams.{Listing, allowed_by, listed_above, read_of}
use Rattle.cf_hub.specs.InNotes.{AreMissed, Grown}
use Rattle.cf_hub.proofs.InNotes.{read_stays}
use Rattle.cf_machine.specs.ReadBack.{IsDatum}
use Rattle.cf_machine.proofs.Readings.{epoch-is, low-below, regular-placed, top-is}
use Rattle.cf_shard.specs.LogAnswer.{IsHistoryAnswer, IsReadAnswer}
use Rattle.cf_running.specs.Server.{Server, Section, Site, server_after, life_of, lists_of, log_of, ran, start}
use Rattle.cf_running.proofs.Steps.{stands_beside}
use Rattle.cf_hub_moves.specs.Readings.{answered}
use Rattle.cf_hub_moves.proofs.Readings.{life-opened, reading-is}
use Rattle.cf_running_ties.specs.Reads.{AllReadBack, IsListing, IsReading, SectionHas}
use Rattle.cf_running_ties.proofs.Growing.{all-listed, grows}
use Rattle.cf_running_ties.proofs.Links.{life-listed}

pub starts : (site : Site) → AllReadBack site start
starts site = record { each = λ c e. tt }

pub stays : (site : Site) (s : Server) (x : Section) → SectionHas IsDatum s x → AllReadBack site s
    → AllReadBack site (server_after site x s)
stays site s x has h =
    record { each = all-listed IsDatum site s (server_after site x s) (grows IsDatum site s x has) h.each }

module _
    (read : (lists : Lists) (c : List ℕ) (r : Reading) (missed : List Placed) → r.top ≤ length (lists c r.epoch)
    → missed ≡ placed_from (lists c r.epoch) r.low (r.top - r.low) → ArePlaced IsBody missed
    → IsPosition (record { epoch = r.epoch; offset = r.top }) → AreMissed lists c r missed)
    (site : Site) (sections : List Section) where
  abbrev s : Server
  s = ran site start sections

  abbrev lists : Lists
  lists = lists_of site s

  its-list : (c : List ℕ) (l : Life) → life_of site s c ≡ Some l → lists c l.epoch ≡ l.list
  its-list c l e = let b = stands_beside site sections in life-listed site s b.0 b.1 c l e

  -- the stream that the log has, which is the one of the answer
  its-life : (c e : List ℕ) (before : List Entry)
      → log_of site s c ≡ before ++ opening (life_in site.config.namespaces before c) c e []
      → life_of site s c ≡ Some (life_or (life_in site.config.namespaces before c) e)
  its-life c e before g =
      ap (λ (log : List Entry). life_in site.config.namespaces log c) g ∙ life-opened site.config.namespaces before c e

  read-off : (c : List ℕ) (since : Option Position) (p : Position) (recovered : Bool) (items : List Placed) (l : Life)
      → AllReadBack site s → IsPosition p
      → life_of site s c ≡ Some l → IsRead l since p recovered items
      → AreMissed lists c (answered p recovered items) items
  read-off c since p recovered items l all position stands r =
      let x : Reading = read_of since (state_of l) in
      let listed : lists c x.epoch ≡ l.list = ap (lists c) (epoch-is since (state_of l)) ∙ its-list c l stands in
      let top : x.top ≡ length l.list = top-is since (state_of l) in
      let at : IsPosition (record { epoch = l.epoch; offset = length l.list }) = subst IsPosition r.at position in
      let below : x.low ≤ length l.list = low-below since (state_of l) in
      let regular : AllByRecursion IsDatum l.list =
      subst (AllByRecursion IsDatum) (its-list c l stands) (all.each c l.epoch) in
      subst (λ z. AreMissed lists c z items) (sym (reading-is l since p recovered items r))
      (read lists c x items
      (let e = ap length listed in omega (arith, e, top))
      (r.run ∙ (λ i. placed_from (sym listed i) x.low (sym top i - x.low)))
      (subst (ArePlaced IsBody) (sym r.run) (regular-placed l.list x.low (length l.list - x.low) below at.offset
      (All-from_recursion IsDatum l.list regular)))
      (subst IsPosition (λ i. record { epoch = sym (epoch-is since (state_of l)) i; offset = sym top i }) at))

  pub reads : (c : List ℕ) (since : Option Position) (p : Position) (recovered : Bool) (items : List Placed)
      (seen : List Entry) → AllReadBack site s → IsPosition p
      → IsReadAnswer site.config.namespaces seen (log_of site s c) c since p recovered items
      → IsReading site s c since p recovered items
  reads c since p recovered items seen all position h =
      let l : Life = life_or (life_in site.config.namespaces h.before c) p.epoch in
      let stands : life_of site s c ≡ Some l = its-life c p.epoch h.before h.gained in
      record {
        life = l;
        stands = stands;
        same = reading-is l since p recovered items h.answered;
        missed = read-off c since p recovered items l all position stands h.answered;
      }

  -- what a listing has stays so
  listing-stays : (c e : List ℕ) (low count : ℕ) → low + count ≤ length (lists c e) → (later : Lists)
      → Grown lists later → placed_from (later c e) low count ≡ placed_from (lists c e) low count
  listing-stays c e low count h later g =
      let r : Reading = record { epoch = e; low = low; top = low + count; recovered = false } in
      let same : (low + count) - low ≡ count = omega arith in
      ap (λ n. placed_from (later c e) low n) (sym same) ∙ read_stays lists c r h later g
      ∙ ap (λ n. placed_from (lists c e) low n) same

  within : (o top held : ℕ) (n : ℕ) → o ≤ top → max o (top - held) + min n (top - max o (top - held)) ≤ top
  within o top held n h = omega arith

  pub histories : (c : List ℕ) (limit : ℤ) (p : Position) (items : List Placed) (seen : List Entry) → AllReadBack site s
      → IsPosition p
      → IsHistoryAnswer site.config.namespaces seen (log_of site s c) c None limit p items
      → IsListing site s c limit p items
  histories c limit p items seen all position h =
      let l : Life = life_or (life_in site.config.namespaces h.before c) p.epoch in
      let stands : life_of site s c ≡ Some l = its-life c p.epoch h.before h.gained in
      let f : Listing = listed_above 0 limit (state_of l) in
      let a : IsListed l None limit p items = h.answered in
      let is : ◌≡◌ {A = Listing} f a.listing = listing_is f a.listing a.is in
      let at : p ≡ f.at = a.at ∙ ap (λ (z : Listing). z.at) (sym is) in
      let run : items ≡ placed_from l.list f.low f.count =
      a.run ∙ (λ i. placed_from l.list (sym is i).low (sym is i).count) in
      let list : lists c l.epoch ≡ l.list = its-list c l stands in
      let long : f.low + f.count ≤ length l.list = within 0 (length l.list) l.held (allowed_by limit) (omega arith) in
      record {
        life = l;
        stands = stands;
        says = λ id later g.
            (λ i. Some (Answer id (Past (sym at i) (placed_from (later c l.epoch) f.low f.count))))
            ∙ ap (λ ps. Some (Answer id (Past p ps)))
            (listing-stays c l.epoch f.low f.count (let e = ap length list in omega (arith, e, long)) later g
            ∙ ap (λ ds. placed_from ds f.low f.count) list ∙ sym run);
        regular = λ id code. (
          code,
          (
            position,
            subst (ArePlaced IsBody) (sym run)
                (regular-placed l.list f.low f.count (omega (arith, long))
                (let fits = (subst IsPosition at position).offset in fits)
                (All-from_recursion IsDatum l.list (subst (AllByRecursion IsDatum) list (all.each c l.epoch)))),
          ),
        );
      }
    where
      listing_is : (a b : Listing) → Some a ≡ Some b → a ≡ b
      listing_is a b e = cc
