-- The epochs of a shard's log are older than the next that its source gives; so each entry of each call may be gained.
use Rattle.std.proofs.Common.{◌≡◌, ◌≤◌, ℕ, ◌+◌, ◌||◌, Bool, true, false, if◌then◌else◌, Option, Some, None, List, []}
use Rattle.std.proofs.Common.{◌∷◌, ◌++◌, inl, inr, refl, sym, ap, ◌∙◌, subst, arith}
use Rattle.std.specs.List.{cons_option}
use Rattle.std.specs.Str.{bytes_eq}
use Rattle.std.proofs.lemmas.List.Elements.{filter_map-append}
use Rattle.cf_protocol.specs.Names.{is_among}
use Rattle.cf_protocol.specs.Settings.{NamespaceTable}
use Rattle.cf_protocol.specs.Datum.{Datum}
use Rattle.cf_protocol.specs.LogEntry.{Entry}
use Rattle.cf_protocol.specs.LogEntry.Entry.{Open, Publish}
use Rattle.cf_stream.specs.FreshEpochs.{Draws, DrawsEpoch, DrawsNone}
use Rattle.cf_stream.specs.LogState.{due_entries, due_entry, if_stands, opening, publishing}
use Rattle.cf_stream.specs.Stream.{Shown}
use Rattle.cf_stream.specs.Streams.{due_channels, stream_of}
use Rattle.cf_stream.specs.declared.due.Due.{Due}
use Rattle.cf_stream.specs.declared.due.Due.TheVariants.{Forget as ToForget, Empty as ToEmpty}
use Rattle.cf_epochs.specs.Source.{IsBoot, IsSource, Source, draws_next, epoch_at, next}
use Rattle.cf_machine.specs.Config.{Config}
use Rattle.cf_machine.proofs.Names.{text_tells}
use Rattle.cf_shard.specs.Shard.{DrawsFor, Lent}
use Rattle.cf_running.specs.ShardLogs.{epochs_in, opening_of}
use Rattle.cf_running_ties.specs.ShardCalls.{IsDrawn, MayAll}
use Rattle.cf_running_ties.specs.ShardLife.{AreMade, Call, DrawsBy, FoundNoEpoch, Forgotten, IsMade, Unchanged}
use Rattle.cf_running_ties.specs.ShardLife.{Published, Sized, Ticked, Trimmed, Used, entries_of}
use Rattle.cf_running_ties.proofs.Gained.{goes_on}
use Rattle.cf_running_ties.proofs.ShardCalls.{forgets, publishes, sizes, trims, uses}
use Rattle.cf_running_ties.proofs.ShardTicks.{ticks}
use Rattle.std.specs.FinMap as fin

-- ---- what a source gave until it stood here

record WasGiven (now : Source) (e : List ℕ) : Type 0 where
  at : Source
  is : e ≡ epoch_at at
  boot : at.boot ≡ now.boot
  shard : at.shard ≡ now.shard
  before : at.count ≤ now.count

record GoesOn (old new : Source) : Type 0 where
  boot : old.boot ≡ new.boot
  shard : old.shard ≡ new.shard
  count : old.count ≤ new.count

abbrev WereGiven : Source → List (List ℕ) → Type 0
WereGiven s [] = Unit {0}
WereGiven s (e ∷ es) = WasGiven s e × WereGiven s es

later : (s t : Source) (es : List (List ℕ)) → GoesOn s t → WereGiven s es → WereGiven t es
later s t [] g h = tt
later s t (e ∷ es) g h =
    let a = h.0.before in
    let b = g.count in (
      record {
        at = h.0.at;
        is = h.0.is;
        boot = h.0.boot ∙ g.boot;
        shard = h.0.shard ∙ g.shard;
        before = omega (arith, a, b);
      },
      later s t es g h.1,
    )

both : (s : Source) (es fs : List (List ℕ)) → WereGiven s es → WereGiven s fs → WereGiven s (es ++ fs)
both s [] fs h k = k
both s (e ∷ es) fs h k = (h.0, both s es fs h.1 k)

same_on : (s t : Source) → t ≡ s → GoesOn s t
same_on s t e = subst (GoesOn s) (sym e) (record { boot = refl; shard = refl; count = omega arith })

next_on : (s t : Source) → t ≡ next s → GoesOn s t
next_on s t e = subst (GoesOn s) (sym e) (record { boot = refl; shard = refl; count = omega arith })

none_on : (s t : Source) → DrawsNone draws_next s t → GoesOn s t
none_on s t d = by_drawn d.0 d.1
  where
    by_drawn : (r : Option (List ℕ)) → draws_next s r t → GoesOn s t
    by_drawn None h = same_on s t h.1
    by_drawn (Some e) h = next_on s t h.1

stream_on : (o : Option Shown) (e : List ℕ) (s t : Source) → Draws draws_next o e s t → GoesOn s t
stream_on None e s t h = next_on s t h.0.1
stream_on (Some x) e s t h = same_on s t h.1

last_given : (s t : Source) (e : List ℕ) → draws_next s (Some e) t → WasGiven t e
last_given s t e h = record { at = t; is = h.0.0; boot = refl; shard = refl; before = omega arith }

-- ---- the epochs of a log were given

abbrev Older : Source → List Entry → Type 0
Older s log = (c : List ℕ) → WereGiven s (epochs_in log c)

older_with : (s : Source) (log es : List Entry) → Older s log → Older s es → Older s (log ++ es)
older_with s log es h k c =
    subst (WereGiven s) (sym (filter_map-append (opening_of c) log es))
    (both s (epochs_in log c) (epochs_in es c) (h c) (k c))

older_if : (s : Source) (o : Option Shown) (x : Entry) → Older s (x ∷ []) → Older s (if_stands o x)
older_if s None x h c = tt
older_if s (Some k) x h c = h c

older_due : (s : Source) (ds : List (List ℕ × Due)) → Older s (due_entries ds)
older_due s [] c = tt
older_due s (d ∷ ds) c = by_due d.1 (older_due s ds c)
  where
    by_due : (x : Due) → WereGiven s (epochs_in (due_entries ds) c)
        → WereGiven s (epochs_in (due_entry d.0 x ∷ due_entries ds) c)
    by_due ToForget h = h
    by_due ToEmpty h = h

older_open : (s : Source) (c e : List ℕ) (es : List Entry) → WasGiven s e → Older s es → Older s (Open c e ∷ es)
older_open s c e es h k q = by_channel (bytes_eq c q)
  where
    by_channel : (b : Bool) → WereGiven s (cons_option (if b then Some e else None) (epochs_in es q))
    by_channel true = (h, k q)
    by_channel false = k q

older_opening : (o : Option Shown) (c e : List ℕ) (es : List Entry) (s t : Source) → Draws draws_next o e s t
    → Older t es → Older t (opening o c e es)
older_opening None c e es s t d h = older_open t c e es (last_given s t e d.0) h
older_opening (Some x) c e es s t d h = h

older_publishing : (repeated : Bool) (o : Option Shown) (c key e : List ℕ) (d : Datum) (s t : Source)
    → Draws draws_next o e s t → Older t (publishing repeated o c e key d)
older_publishing true o c key e d s t h = λ q. tt
older_publishing false o c key e d s t h = older_opening o c e (Publish c key d ∷ []) s t h (λ q. tt)

-- each call goes on with the source, and its entries have epochs that the source gave
call_on : (call : Call) (old new : Lent Source) → DrawsBy call old new → GoesOn old.epochs new.epochs
call_on (Published c key d p) old new h = stream_on (stream_of old.streams c) p.position.epoch old.epochs new.epochs h
call_on (Used c e) old new h = stream_on (stream_of old.streams c) e old.epochs new.epochs h
call_on (Trimmed c n) old new h = same_on old.epochs new.epochs h
call_on (Forgotten c) old new h = same_on old.epochs new.epochs h
call_on (Sized name n) old new h = same_on old.epochs new.epochs h
call_on (Ticked now) old new h = same_on old.epochs new.epochs h
call_on FoundNoEpoch old new h = none_on old.epochs new.epochs h
call_on Unchanged old new h = same_on old.epochs new.epochs h

call_older : (call : Call) (old new : Lent Source) → DrawsBy call old new
    → Older new.epochs (entries_of call old.streams)
call_older (Published c key d p) old new h =
    older_publishing p.repeated (stream_of old.streams c) c key p.position.epoch d old.epochs new.epochs h
call_older (Used c e) old new h = older_opening (stream_of old.streams c) c e [] old.epochs new.epochs h (λ q. tt)
call_older (Trimmed c n) old new h = older_if new.epochs (stream_of old.streams c) _ (λ q. tt)
call_older (Forgotten c) old new h = older_if new.epochs (stream_of old.streams c) _ (λ q. tt)
call_older (Sized name n) old new h = λ q. tt
call_older (Ticked now) old new h =
    older_due new.epochs (due_channels now old.streams.namespaces (fin.entries old.streams.streams))
call_older FoundNoEpoch old new h = λ q. tt
call_older Unchanged old new h = λ q. tt

step : (t : NamespaceTable) (call : Call) (old new : Lent Source) → IsMade t call old new → Older old.epochs old.log
    → Older new.epochs new.log
step t call old new m h =
    subst (Older new.epochs) (sym m.log)
    (older_with new.epochs old.log (entries_of call old.streams)
    (λ c. later old.epochs new.epochs (epochs_in old.log c) (call_on call old new m.draws) (h c))
    (call_older call old new m.draws))

all_steps : (t : NamespaceTable) (calls : List Call) (old new : Lent Source) → AreMade t calls old new
    → Older old.epochs old.log → Older new.epochs new.log
all_steps t [] old new m h = subst (λ (s : Lent Source). Older s.epochs s.log) (sym m) h
all_steps t (k ∷ ks) old new m h = all_steps t ks m.0 new m.2 (step t k old m.0 m.1 h)

starts : (s : Lent Source) → s.log ≡ [] → Older s.epochs s.log
starts s e c = subst (λ (log : List Entry). WereGiven s.epochs (epochs_in log c)) (sym e) tt

-- ---- the next epoch is none of them

module _ (told : (s t : Source) → IsSource s → IsSource t → epoch_at s ≡ epoch_at t → s ≡ t) where
  was_source : (s t : Source) (e : List ℕ) → IsSource t → t ≡ next s → (g : WasGiven s e) → IsSource g.at
  was_source s t e h n g =
      let b : g.at.boot ≡ t.boot = g.boot ∙ sym (ap (λ (u : Source). u.boot) n) in
      let i : g.at.shard ≡ t.shard = g.shard ∙ sym (ap (λ (u : Source). u.shard) n) in
      let k : t.count ≡ s.count + 1 = ap (λ (u : Source). u.count) n in
      let before = g.before in
      let within = h.2 in
      (subst IsBoot (sym b) h.0, rw i h.1, omega (arith, before, within, k))

  not_given : (s t : Source) (e : List ℕ) (es : List (List ℕ)) → IsSource t → draws_next s (Some e) t → WereGiven s es
      → is_among e es ≡ false
  not_given s t e [] h d g = refl
  not_given s t e (x ∷ es) h d g =
      elim (text_tells x e) [
        | inl same ↦ absurd (
            let one : g.0.at ≡ t = told g.0.at t (was_source s t x h d.1 g.0) h (sym g.0.is ∙ same.1 ∙ d.0.0) in
            let counted : g.0.at.count ≡ t.count = ap (λ (u : Source). u.count) one in
            let more : t.count ≡ s.count + 1 = ap (λ (u : Source). u.count) d.1 in
            let before = g.0.before in
            omega (arith, counted, more, before))
        | inr other ↦ ap (λ b. b || is_among e es) other.0 ∙ not_given s t e es h d g.1
      ]

  is_new : (old new : Lent Source) (c e : List ℕ) → IsSource new.epochs → DrawsFor draws_next c e old new
      → Older old.epochs old.log
      → IsDrawn (stream_of old.streams c) old.log c e
  is_new old new c e source d h none =
      let k : DrawsEpoch draws_next e old.epochs new.epochs =
      subst (λ o. Draws draws_next o e old.epochs new.epochs) none d in
      (k.1, not_given old.epochs new.epochs e (epochs_in old.log c) source k.0 (h c))

  pub drawn : (t : NamespaceTable) (calls : List Call) (first old new : Lent Source) (c e : List ℕ) → first.log ≡ []
      → AreMade t calls first old → IsSource new.epochs
      → DrawsFor draws_next c e old new → IsDrawn (stream_of old.streams c) old.log c e
  drawn t calls first old new c e none made source d =
      is_new old new c e source d (all_steps t calls first old made (starts first none))

  -- ---- so each entry of each call may be gained

  may : (cfg : Config) (call : Call) (old new : Lent Source) → IsMade cfg.namespaces call old new
      → Older old.epochs old.log → MayAll cfg [] old.log
      → MayAll cfg old.log (entries_of call old.streams)
  may cfg (Published c key d p) old new m h g =
      publishes cfg old.streams old.log m.state c key d p.position p.repeated g
      (is_new old new c p.position.epoch m.source m.draws h) m.allowed.1 m.allowed.2 m.allowed.0
  may cfg (Used c e) old new m h g = uses cfg old.streams old.log m.state c e (is_new old new c e m.source m.draws h)
  may cfg (Trimmed c n) old new m h g = trims cfg old.streams old.log m.state c n
  may cfg (Forgotten c) old new m h g = forgets cfg old.streams old.log m.state c
  may cfg (Sized name n) old new m h g = sizes cfg old.log name n
  may cfg (Ticked now) old new m h g = ticks cfg old.streams old.log m.state now
  may cfg FoundNoEpoch old new m h g = tt
  may cfg Unchanged old new m h g = tt

  from : (cfg : Config) (calls : List Call) (old new : Lent Source) → AreMade cfg.namespaces calls old new
      → Older old.epochs old.log → MayAll cfg [] old.log → MayAll cfg [] new.log
  from cfg [] old new m h g = subst (λ (s : Lent Source). MayAll cfg [] s.log) (sym m) g
  from cfg (k ∷ ks) old new m h g =
      from cfg ks m.0 new m.2 (step cfg.namespaces k old m.0 m.1 h)
      (subst (λ (log : List Entry). MayAll cfg [] log) (sym m.1.log)
      (goes_on cfg old.log (entries_of k old.streams) g (may cfg k old m.0 m.1 h g)))

  pub gained : (cfg : Config) (calls : List Call) (first s : Lent Source) → first.log ≡ []
      → AreMade cfg.namespaces calls first s → MayAll cfg [] s.log
  gained cfg calls first s none made =
      from cfg calls first s made (starts first none) (subst (λ (log : List Entry). MayAll cfg [] log) (sym none) tt)
