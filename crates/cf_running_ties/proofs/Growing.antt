-- What is in the logs, and what was accepted, stays, whatever section comes; and what waits on links stays but for two
-- sections.
use Rattle.std.proofs.Common.{◌≡◌, ◌≤◌, ℕ, zero, suc, ◌+◌, ◌&&◌, nat_le, nat_lt, Bool, true, false, if◌then◌else◌}
use Rattle.std.proofs.Common.{is_some, Option, Some, None, List, [], ◌∷◌, ◌++◌, slice_get, append-nil, append_assoc}
use Rattle.std.proofs.Common.{inl, inr, refl, sym, ap, subst, ◌∙◌, arith}
use Rattle.std.specs.List.{AllByRecursion, fold}
use Rattle.std.specs.Str.{bytes_eq}
use Rattle.std.proofs.lemmas.List.Sums.{fold-append}
use Rattle.cf_protocol.specs.Datum.{Datum}
use Rattle.cf_protocol.specs.LogEntry.{Entry}
use Rattle.cf_protocol.specs.LogEntry.Entry.{Open, Publish, Trim, Forget, Size}
use Rattle.cf_protocol.specs.Note.{Note, Close}
use Rattle.cf_model.specs.Streams.{last_id}
use Rattle.cf_hub.specs.InNotes.{Grown}
use Rattle.cf_machine.specs.PublicationList.{Place}
use Rattle.cf_machine.proofs.Names.{by_test}
use Rattle.cf_running.specs.Server as server
use Rattle.cf_running.specs.Server.{ClientCommand, Lookup, Server, Site, Work, ToPublish, server_after, can_gain}
use Rattle.cf_running.specs.Server.{gathered, gathered_in, is_in, lists_of, may_send, place_of, words_of, Section}
use Rattle.cf_running.specs.Server.{Gains, Sizes, Publishes, Offers, Checks, Delivers, Attaches, Wanders, Strays, Sends}
use Rattle.cf_running.specs.Server.{Receives, Breaks}
use Rattle.cf_running.proofs.Beside.{number_tells}
use Rattle.cf_running_ties.specs.Links.{is_at_link}
use Rattle.cf_running_ties.specs.Reads.{SectionHas, WorkHas}

-- ---- lists go on

-- what the entries of a log publish
abbrev pub Has : (Datum → Type 0) → Entry → Type 0
Has P (Open c e) = Unit {0}
Has P (Publish c key d) = P d
Has P (Trim c n) = Unit {0}
Has P (Forget c) = Unit {0}
Has P (Size name n) = Unit {0}

-- more data, of which all have this
pub record More (P : Datum → Type 0) (old new : List Datum) : Type 0 where
  pub more : List Datum
  pub all : AllByRecursion P more
  pub is : new ≡ old ++ more

none-more : (P : Datum → Type 0) (old new : List Datum) → new ≡ old → More P old new
none-more P old new e = record { more = []; all = tt; is = e ∙ sym (append-nil old) }

gathered-grows : (P : Datum → Type 0) (c e : List ℕ) (p : Option (List ℕ) × List Datum) (x : Entry) → Has P x
    → More P p.1 (gathered c e p x).1
gathered-grows P c e p (Open d i) h = none-more P p.1 _ (stays (bytes_eq d c))
  where
    stays : (b : Bool) → (if b then (Some i, p.1) else p).1 ≡ p.1
    stays true = refl
    stays false = refl
gathered-grows P c e p (Publish d key x) h = by_bool (bytes_eq d c && is_in e p.0)
  where
    by_bool : (b : Bool) → More P p.1 (if b then (p.0, p.1 ++ x ∷ []) else p).1
    by_bool true = record { more = x ∷ []; all = (h, tt); is = refl }
    by_bool false = none-more P p.1 p.1 refl
gathered-grows P c e p (Trim d n) h = none-more P p.1 p.1 refl
gathered-grows P c e p (Size name n) h = none-more P p.1 p.1 refl
gathered-grows P c e p (Forget d) h = none-more P p.1 _ (stays (bytes_eq d c))
  where
    stays : (b : Bool) → (if b then (None, p.1) else p).1 ≡ p.1
    stays true = refl
    stays false = refl

pub all-append : {A : Type 0} (P : A → Type 0) (xs ys : List A) → AllByRecursion P xs → AllByRecursion P ys
    → AllByRecursion P (xs ++ ys)
all-append P [] ys h k = k
all-append P (x ∷ xs) ys h k = (h.0, all-append P xs ys h.1 k)

all-gathered : (P : Datum → Type 0) (c e : List ℕ) (es : List Entry) (p : Option (List ℕ) × List Datum)
    → AllByRecursion (Has P) es → More P p.1 (fold (gathered c e) p es).1
all-gathered P c e [] p h = none-more P p.1 p.1 refl
all-gathered P c e (x ∷ es) p h =
    let a = gathered-grows P c e p x h.0 in
    let b = all-gathered P c e es (gathered c e p x) h.1 in
    record {
      more = a.more ++ b.more;
      all = all-append P a.more b.more a.all b.all;
      is = b.is ∙ ap (λ (ds : List Datum). ds ++ b.more) a.is ∙ append_assoc p.1 a.more b.more;
    }

-- of what the logs gained, all has this
pub record LogGrows (P : Datum → Type 0) (old new : List Entry) : Type 0 where
  pub more : List Entry
  pub all : AllByRecursion (Has P) more
  pub is : new ≡ old ++ more

pub record Grows (P : Datum → Type 0) (s t : Server) : Type 0 where
  pub logs : (n : ℕ) → LogGrows P (s.logs n) (t.logs n)
  pub accepted : (ps : List Place) × (t.accepted ≡ s.accepted ++ ps)
  pub count : s.count ≤ t.count

lists-grow : (P : Datum → Type 0) (site : Site) (s t : Server) → Grows P s t → (c e : List ℕ)
    → More P (lists_of site s c e) (lists_of site t c e)
lists-grow P site s t h c e =
    let n : ℕ = site.shard_of c in
    let more = h.logs n in
    let from = all-gathered P c e more.more (gathered_in (s.logs n) c e) more.all in
    record {
      more = from.more;
      all = from.all;
      is = ap (λ (log : List Entry). (gathered_in log c e).1) more.is
          ∙ ap (λ (p : Option (List ℕ) × List Datum). p.1) (fold-append (gathered c e) (None, []) (s.logs n) more.more)
          ∙ from.is;
    }

pub grown-lists : (P : Datum → Type 0) (site : Site) (s t : Server) → Grows P s t
    → Grown (lists_of site s) (lists_of site t)
grown-lists P site s t h = record { later = λ c e. let m = lists-grow P site s t h c e in (m.more, m.is) }

-- what all that is listed has, all has that is listed then
pub all-listed : (P : Datum → Type 0) (site : Site) (s t : Server) → Grows P s t
    → ((c e : List ℕ) → AllByRecursion P (lists_of site s c e)) → (c e : List ℕ)
    → AllByRecursion P (lists_of site t c e)
all-listed P site s t h k c e = let m = lists-grow P site s t h c e in
    subst (AllByRecursion P) (sym m.is) (all-append P (lists_of site s c e) m.more (k c e) m.all)

at_least : (n : ℕ) → n ≤ n
at_least n = omega arith

one_above : (n : ℕ) → n ≤ n + 1
one_above n = omega arith

-- ---- a number stays that of its place

get-more : (xs ys : List Place) (i : ℕ) (p : Place) → slice_get xs i ≡ Some p → slice_get (xs ++ ys) i ≡ Some p
get-more [] ys i p h = absurd (cc)
get-more (x ∷ xs) ys zero p h = h
get-more (x ∷ xs) ys (suc i) p h = get-more xs ys i p h

pub place-more : (xs ys : List Place) (i : ℕ) (p : Place) → place_of i xs ≡ Some p → place_of i (xs ++ ys) ≡ Some p
place-more xs ys zero p h = absurd (cc)
place-more xs ys (suc i) p h = get-more xs ys i p h

-- ---- EACH SECTION

abbrev pub Any : Datum → Type 0
Any d = Unit {0}

any-work : (h : Work) → WorkHas Any h
any-work (ToPublish c id key d) = tt
any-work other = tt

pub any-section : (s : Server) (x : Section) → SectionHas Any s x
any-section s (Publishes k) = any-work (s.connections k).work
any-section s other = tt

module _ (P : Datum → Type 0) (site : Site) (s : Server) where
  record Kept (t : Server) : Type 0 where
    grows : Grows P s t
    links : t.links ≡ s.links

  same_log : (old new : List Entry) → new ≡ old → LogGrows P old new
  same_log old new e = record { more = []; all = tt; is = e ∙ sym (append-nil old) }

  grows_not : (t : Server) → t.logs ≡ s.logs → t.accepted ≡ s.accepted → s.count ≤ t.count → Grows P s t
  grows_not t l a n =
      record {
        count = n;
        logs = λ n. same_log (s.logs n) (t.logs n) (λ i. l i n);
        accepted = ([], a ∙ sym (append-nil s.accepted));
      }

  still : (t : Server) → t.logs ≡ s.logs → t.accepted ≡ s.accepted → t.links ≡ s.links → s.count ≤ t.count → Kept t
  still t l a k n = record { grows = grows_not t l a n; links = k }

  here : Kept s
  here = still s refl refl refl (at_least s.count)

  gained-log : (n : ℕ) (x : Entry) → Has P x → (m : ℕ) → LogGrows P (s.logs m) ((server.gain n x s).logs m)
  gained-log n x has m = elim (number_tells m n) [
    | inl h ↦ record {
      more = x ∷ [];
      all = (has, tt);
      is = ap (λ (b : Bool). if b then s.logs n ++ x ∷ [] else s.logs m) h.0 ∙ ap (λ j. s.logs j ++ x ∷ []) (sym h.1);
    }
    | inr h ↦ same_log (s.logs m) _ (ap (λ (b : Bool). if b then s.logs n ++ x ∷ [] else s.logs m) h.0)
  ]

  gains-kept : (n : ℕ) (x : Entry) → Has P x → Kept (server.gains site n x s)
  gains-kept n x has = by_test Kept (can_gain site n x s) _ _
      (λ h. record {
        grows = record {
          logs = gained-log n x has;
          accepted = ([], sym (append-nil s.accepted));
          count = at_least s.count;
        };
        links = refl;
      }) (λ h. here)

  publishes-kept : (k : ℕ) (h : Work) → WorkHas P h → Kept (server.publishes site k h s)
  publishes-kept k (ToPublish c id key d) has =
      by_test Kept (server.repeats key (server.life_of site s c)) _ _ (λ r. still _ refl refl refl (at_least s.count))
      (λ r. by_test Kept (can_gain site (site.shard_of c) (Publish c key d) s) _ _
      (λ h. record {
        grows = record {
          logs = gained-log (site.shard_of c) (Publish c key d) has;
          accepted = (server.place_in c (server.life_of site s c), refl);
          count = at_least s.count;
        };
        links = refl;
      })
      (λ h. here))
  publishes-kept k other has = here

  checks-kept : (o : Option Lookup) → Kept (server.checks_by (words_of site s) o s)
  checks-kept None = here
  checks-kept (Some a) = still _ refl refl refl (at_least s.count)

  comes-kept : (x : List ℕ) (n : ℕ) (o : Option ℕ) → Kept (server.comes_to site x n o s)
  comes-kept x n (Some k) = here
  comes-kept x n None =
      by_test Kept (nat_lt n site.config.nodes) _ _ (λ h. still _ refl refl refl (one_above s.count)) (λ h. here)

  sends-kept : (x : List ℕ) (e : ClientCommand) (o : Option ℕ) → Kept (server.sends_by x e o s)
  sends-kept x e None = here
  sends-kept x e (Some k) =
      by_test Kept (nat_le (s.clients x).fresh last_id && may_send (s.clients x) e)
      _ _ (λ h. still _ refl refl refl (at_least s.count)) (λ h. here)

  parts-kept : (x : List ℕ) (o : Option ℕ) → Kept (server.parts_from x o s)
  parts-kept x None = here
  parts-kept x (Some k) = still _ refl refl refl (at_least s.count)

  gets-kept : (x : List ℕ) (k : ℕ) (ns : List Note) → Kept (server.receives_first x k ns s)
  gets-kept x k [] = here
  gets-kept x k (Close code ∷ ns) = still _ refl refl refl (at_least s.count)
  gets-kept x k (n ∷ ns) = still _ refl refl refl (at_least s.count)

  receives-kept : (x : List ℕ) (o : Option ℕ) → Kept (server.receives_by x o s)
  receives-kept x None = here
  receives-kept x (Some k) = gets-kept x k (s.connections k).way

  kept : (x : Section) → SectionHas P s x → is_at_link x ≡ false → Kept (server_after site x s)
  kept (Offers i n) has e = absurd (cc)
  kept (Delivers n) has e = absurd (cc)
  kept (Gains (Publish c key d)) has e = here
  kept (Gains (Size name n)) has e = here
  kept (Gains (Open c i)) has e = gains-kept (site.shard_of c) (Open c i) tt
  kept (Gains (Trim c n)) has e = gains-kept (site.shard_of c) (Trim c n) tt
  kept (Gains (Forget c)) has e = gains-kept (site.shard_of c) (Forget c) tt
  kept (Sizes shard name n) has e = gains-kept shard (Size name n) tt
  kept (Publishes k) has e = publishes-kept k (s.connections k).work has
  kept (Checks i) has e = checks-kept (slice_get s.lookups i)
  kept (Attaches x n) has e = comes-kept x n (s.connection_of x)
  kept (Wanders n) has e =
      by_test Kept (nat_lt n site.config.nodes) _ _ (λ h. still _ refl refl refl (one_above s.count)) (λ h. here)
  kept (Strays k c) has e =
      by_test Kept (server.is_connection k (s.connection_of (s.connections k).client)) _ _ (λ h. here)
      (λ h. still _ refl refl refl (at_least s.count))
  kept (Sends x c) has e = sends-kept x c (s.connection_of x)
  kept (Receives x) has e = receives-kept x (s.connection_of x)
  kept (Breaks x) has e = parts-kept x (s.connection_of x)
  kept other has e = still (server_after site other s) refl refl refl (at_least s.count)

  delivers-grows : (n : ℕ) (is : List ℕ) → Grows P s (server.delivers_first site n is s)
  delivers-grows n [] = grows_not s refl refl (at_least s.count)
  delivers-grows n (i ∷ rest) = grows_not _ refl refl (at_least s.count)

  pub grows : (x : Section) → SectionHas P s x → Grows P s (server_after site x s)
  grows (Offers i n) has =
      by_test (Grows P s) (is_some (place_of i s.accepted)) _ _ (λ h. grows_not _ refl refl (at_least s.count))
      (λ h. grows_not s refl refl (at_least s.count))
  grows (Delivers n) has = delivers-grows n (s.links n)
  grows other has = (kept other has refl).grows

  pub links-stay : (x : Section) → SectionHas P s x → is_at_link x ≡ false → (server_after site x s).links ≡ s.links
  links-stay x has e = (kept x has e).links
