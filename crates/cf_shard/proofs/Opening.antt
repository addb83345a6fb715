-- What a shard's calls add to its log opens no epoch again, and leaves none opened that the source will give.
use Rattle.std.proofs.Common.{◌≡◌, ◌∙◌, ℕ, Bool, true, false, Ok, Err, Result, Option, Some, None, List, [], ◌∷◌, ◌++◌}
use Rattle.std.proofs.Common.{append_assoc, append-nil, refl, sym, subst}
use Rattle.std.specs.List.{AllByRecursion}
use Rattle.cf_protocol.specs.Datum.{Datum}
use Rattle.cf_protocol.specs.LogEntry.{Entry}
use Rattle.cf_protocol.specs.LogEntry.Entry.{Open, Publish}
use Rattle.cf_stream.specs.Calls.{DrawsToOpen}
use Rattle.cf_stream.specs.FreshEpochs.{Draws, DrawsNone}
use Rattle.cf_stream.specs.LogState.{due_entries, if_stands, opened_in, opening, publishing}
use Rattle.cf_stream.specs.Stream.{Shown}
use Rattle.cf_stream.specs.declared.due.Due.{Due}
use Rattle.cf_stream.specs.declared.due.Due.TheVariants.{Forget as ToForget, Empty as ToEmpty}
use Rattle.cf_stream.specs.declared.refusal.StreamRefusal.{StreamRefusal}
use Rattle.cf_stream.specs.declared.refusal.StreamRefusal.TheVariants.{AtLastOffset, WrongEpoch, NoEpoch, Memory}
use Rattle.cf_shard.specs.Opening.{IsFresh, NeverOpens, OpenNew, StaysFresh, WillGive, later, now}
use Rattle.cf_shard.specs.Shard.{Draw}

-- ---- lists of entries

never-then : (e : List ℕ) (xs ys : List Entry) → NeverOpens e xs → NeverOpens e ys → NeverOpens e (xs ++ ys)
never-then e [] ys h g = g
never-then e (x ∷ xs) ys h g = (h.0, never-then e xs ys h.1 g)

new-then : (before xs ys : List Entry) → OpenNew before xs → OpenNew (before ++ xs) ys → OpenNew before (xs ++ ys)
new-then before [] ys h g = subst (λ (l : List Entry). OpenNew l ys) (append-nil before) g
new-then before (x ∷ xs) ys h g = (
  h.0,
  new-then (before ++ x ∷ []) xs ys h.1 (subst (λ (l : List Entry). OpenNew l ys)
      (sym (append_assoc before (x ∷ []) xs)) g),
)

-- entries that open nothing
abbrev pub OpenNone : List Entry → Type 0
OpenNone es = AllByRecursion (λ x. opened_in x ≡ None) es

none-new : (before es : List Entry) → OpenNone es → OpenNew before es
none-new before [] h = tt
none-new before (x ∷ es) h = (λ e is. absurd (cc (sym h.0 ∙ is)), none-new (before ++ x ∷ []) es h.1)

none-never : (e : List ℕ) (es : List Entry) → OpenNone es → NeverOpens e es
none-never e [] h = tt
none-never e (x ∷ es) h = (λ is. absurd (cc (sym h.0 ∙ is)), none-never e es h.1)

pub none-if_stands : {X : Type 0} (o : Option X) (x : Entry) → opened_in x ≡ None → OpenNone (if_stands o x)
none-if_stands None x h = tt
none-if_stands (Some s) x h = (h, tt)

pub none-due : (ds : List (List ℕ × Due)) → OpenNone (due_entries ds)
none-due [] = tt
none-due ((c, ToForget) ∷ ds) = (refl, none-due ds)
none-due ((c, ToEmpty) ∷ ds) = (refl, none-due ds)

module _ {E : Type 0} (draws : Draw E) where
  -- what a source will give after some calls, it would give before them
  abbrev pub Leads : E → E → Type 0
  Leads old new = (e : List ℕ) → WillGive draws e new → WillGive draws e old

  same-leads : (old new : E) → new ≡ old → Leads old new
  same-leads old new same e w = subst (WillGive draws e) same w

  pub draws-lead : (o : Option Shown) (e : List ℕ) (old new : E) → Draws draws o e old new → Leads old new
  draws-lead None e old new d f w = later old new (Some e) d.0 w
  draws-lead (Some s) e old new d f w = same-leads old new d.1 f w

  none-leads : (old new : E) → DrawsNone draws old new → Leads old new
  none-leads old new d f w = later old new d.0 d.1 w

  -- so it is of each call of streams, whatever it answers
  pub call-leads : {X : Type 0} (o : Option Shown) (old new : E) (result : Result X StreamRefusal) (epoch : X → List ℕ)
      → DrawsToOpen draws o old new result epoch → Leads old new
  call-leads o old new (Ok x) epoch h = draws-lead o (epoch x) old new h.drawn
  call-leads o old new (Err NoEpoch) epoch h = none-leads old new (h.no_epoch refl).1
  call-leads o old new (Err AtLastOffset) epoch h = same-leads old new (h.undrawn (λ e. absurd (cc (e))))
  call-leads o old new (Err WrongEpoch) epoch h = same-leads old new (h.undrawn (λ e. absurd (cc (e))))
  call-leads o old new (Err Memory) epoch h = same-leads old new (h.undrawn (λ e. absurd (cc (e))))

  -- ---- a shard's source and log

  -- at first
  pub fresh-first : (s : E) (log : List Entry) → log ≡ [] → StaysFresh draws s log
  fresh-first s log empty twice = subst (IsFresh draws s) (sym empty) (record { once = tt; ahead = λ e w. tt })

  -- the log stays
  pub fresh-still : (old new : E) (log after : List Entry) → Leads old new → after ≡ log → StaysFresh draws old log
      → StaysFresh draws new after
  fresh-still old new log after leads same h twice =
      subst (IsFresh draws new) (sym same) (record {
        once = (h twice).once;
        ahead = λ e w. (h twice).ahead e (leads e w);
      })

  -- entries that open nothing
  pub fresh-more : (old new : E) (log after es : List Entry) → Leads old new → after ≡ log ++ es → OpenNone es
      → StaysFresh draws old log → StaysFresh draws new after
  fresh-more old new log after es leads is none h twice =
      subst (IsFresh draws new) (sym is) (record {
        once = new-then [] log es (h twice).once (none-new log es none);
        ahead = λ e w. never-then e log es ((h twice).ahead e (leads e w)) (none-never e es none);
      })

  -- a stream that opens, if none stood, and entries behind that open nothing
  pub fresh-opened : (o : Option Shown) (c e : List ℕ) (es : List Entry) (old new : E) (log after : List Entry)
      → Draws draws o e old new → after ≡ log ++ opening o c e es → OpenNone es → StaysFresh draws old log
      → StaysFresh draws new after
  fresh-opened (Some s) c e es old new log after d is none h twice =
      fresh-more old new log after es (draws-lead (Some s) e old new d) is none h twice
  fresh-opened None c e es old new log after d is none h twice =
      let f = h twice in
      subst (IsFresh draws new) (sym is) (record {
        once = new-then [] log (Open c e ∷ es) f.once (
          (λ x is_x. subst (λ (y : List ℕ). NeverOpens y log) (same e x is_x) (f.ahead e (now old new d.0))),
          none-new (log ++ Open c e ∷ []) es none,
        );
        ahead = λ x w. never-then x log (Open c e ∷ es) (f.ahead x (later old new (Some e) d.0 w)) (
          (λ is_x. twice e old new d.0 (subst (λ (y : List ℕ). WillGive draws y new) (sym (same e x is_x)) w)),
          none-never x es none,
        );
      })
    where
      same : (a b : List ℕ) → ◌≡◌ {A = Option (List ℕ)} (Some a) (Some b) → a ≡ b
      same a b i = cc

  -- a publish
  pub fresh-published : (repeated : Bool) (o : Option Shown) (c e k : List ℕ) (d : Datum) (old new : E)
      (log after : List Entry) → Draws draws o e old new → after ≡ log ++ publishing repeated o c e k d
      → StaysFresh draws old log → StaysFresh draws new after
  fresh-published true o c e k d old new log after drawn is h =
      fresh-still old new log after (draws-lead o e old new drawn) (is ∙ append-nil log) h
  fresh-published false o c e k d old new log after drawn is h =
      fresh-opened o c e (Publish c k d ∷ []) old new log after drawn is (refl, tt) h
