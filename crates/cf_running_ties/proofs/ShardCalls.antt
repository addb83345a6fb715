-- The entries of a call may be gained one after another.
use Rattle.std.proofs.Common.{◌≡◌, ◌≢◌, ◌≤◌, ℕ, ◌==◌, nat_lt, ◌&&◌, not, Bool, true, false, cond, is_some, IsSome}
use Rattle.std.proofs.Common.{Option, Some, None, List, [], ◌∷◌, ◌++◌, length, refl, sym, ap, subst, ◌∙◌, arith}
use Rattle.std.specs.Prelude.{is_none}
use Rattle.std.proofs.lemmas.Bool.Decides.{nat_tests}
use Rattle.cf_protocol.specs.Settings.{settings_of}
use Rattle.cf_protocol.specs.Names.{is_among}
use Rattle.cf_protocol.specs.Datum.{Datum}
use Rattle.cf_protocol.specs.LogEntry.{Entry}
use Rattle.cf_protocol.specs.LogEntry.Entry.{Open, Publish, Trim, Forget}
use Rattle.cf_protocol.specs.Position.{Position}
use Rattle.cf_stream.specs.ChannelLists.{PublishesAt, ShowsAt, life_or}
use Rattle.cf_model.specs.Keys.{repeat_of}
use Rattle.cf_stream.specs.declared.answer.Published.{Published}
use Rattle.cf_stream.specs.LogState.{IsState, life_in, opening, if_stands}
use Rattle.cf_stream.specs.PublicationList.{IsPublished, Shows, opened}
use Rattle.cf_model.specs.Streams.{Life}
use Rattle.cf_stream.specs.Stream.{Shown, answer_by}
use Rattle.cf_model.specs.Streams.{last_offset}
use Rattle.cf_stream.specs.Streams.{StreamMap, size_at, stream_of}
use Rattle.cf_stream.proofs.PublicationLists.{repeats_alike}
use Rattle.cf_machine.specs.Config.{Config}
use Rattle.cf_machine.proofs.Names.{itself}
use Rattle.cf_shard.specs.ShardLog.{entries_of_forget, entries_of_publish, entries_of_size, entries_of_trim}
use Rattle.cf_shard.specs.ShardLog.{entries_of_use}
use Rattle.cf_running.specs.Server.{is_below, may_gain, repeats}
use Rattle.cf_running_ties.specs.ShardCalls.{IsDrawn, IsNotLast, MayAll}
use Rattle.cf_running.specs.ShardLogs.{epochs_in}
use Rattle.cf_running.proofs.Gaining.{life-more}
use Rattle.cf_running_ties.proofs.Gained.{IsWithin, fits}

no_length : (e : List ℕ) → e ≢ [] → (length e == 0) ≡ false
no_length [] h = absurd (h refl)
no_length (x ∷ e) h = grind (arith, nat_tests)

three_hold : (a b c : Bool) → a ≡ true → b ≡ false → c ≡ false → (a && (not b && not c)) ≡ true
three_hold a b c h i j = rw (h, i, j) refl

under : (n m : ℕ) → n ≡ m → n ≢ last_offset → m ≤ last_offset → nat_lt m last_offset ≡ true
under n m e h f = by_value (nat_lt m last_offset) refl
  where
    by_value : (b : Bool) → nat_lt m last_offset ≡ b → b ≡ true
    by_value true i = refl
    by_value false i = let above : last_offset ≤ m = grind (arith, nat_tests) in absurd (h (e ∙ omega arith))

opened_below : nat_lt 0 last_offset ≡ true
opened_below = grind (arith, nat_tests)

module _ (cfg : Config) (k : StreamMap) (log : List Entry) (is : IsState cfg.namespaces k log) (c : List ℕ) where
  abbrev life : Option Life
  life = life_in cfg.namespaces log c

  abbrev AreAlike : Option Shown → Option Life → Type 0
  AreAlike = ShowsAt (size_at k.namespaces c)

  pub shows : AreAlike (stream_of k c) life
  shows = is.lists.at c

  pub none-life : (o : Option Shown) (l : Option Life) → AreAlike o l → o ≡ None → l ≡ None
  none-life None None h e = refl
  none-life (Some s) l h e = absurd (cc)
  none-life None (Some l) h e = absurd h

  pub some-life : (s : Shown) (l : Option Life) → AreAlike (Some s) l → is_some l ≡ true
  some-life s None h = absurd h
  some-life s (Some l) h = refl

  below-life : (s : Shown) (l : Option Life) → AreAlike (Some s) l → s.top ≢ last_offset → IsWithin l
      → is_below l ≡ true
  below-life s None h i f = absurd h
  below-life s (Some l) h i f = under s.top (length l.list) h.0.top i f

  opens : (e : List ℕ) → IsDrawn (stream_of k c) log c e → stream_of k c ≡ None → may_gain cfg log (Open c e) ≡ true
  opens e d none =
      let n = d none in
      three_hold (is_none life) (length e == 0) (is_among e (epochs_in log c))
      (ap (λ (o : Option Life). is_none o) (none-life (stream_of k c) life shows none)) (no_length e n.0) n.1

  pub opened-life : (e : List ℕ) → life_in cfg.namespaces (log ++ Open c e ∷ []) c ≡ Some (opened e)
  opened-life e =
      life-more cfg.namespaces log (Open c e) c ∙ ap (λ (b : Bool). cond b (Some (opened e)) life) (itself c)

  pub uses : (e : List ℕ) → IsDrawn (stream_of k c) log c e → MayAll cfg log (entries_of_use k c e)
  uses e d = by_stream (stream_of k c) refl
    where
      by_stream : (o : Option Shown) → stream_of k c ≡ o → MayAll cfg log (opening o c e [])
      by_stream None i = (opens e d i, tt)
      by_stream (Some s) i = tt

  -- what is answered as no repeat repeats nothing
  no_repeat : (key : List ℕ) (l : Life) (p : Position) → IsPublished l key p false → repeat_of key l.keys ≡ None
  no_repeat key l p h = by_found (repeat_of key l.keys) h.is
    where
      by_found : (o : Option ℕ) → ◌≡◌ {A = Published} (record { position = p; repeated = false })
          (answer_by o l.epoch (length l.list)) → o ≡ None
      by_found None i = refl
      by_found (Some n) i = absurd (let f : false ≡ true = ap (λ (x : Published). x.repeated) i in cc)

  pub publishes : (key : List ℕ) (d : Datum) (p : Position) (repeated : Bool) → MayAll cfg [] log
      → IsDrawn (stream_of k c) log c p.epoch → IsNotLast (stream_of k c) key
      → PublishesAt k c key p repeated → IsSome (settings_of cfg.namespaces c)
      → MayAll cfg log (entries_of_publish repeated k c p.epoch key d)
  publishes key d p true gained drawn last answer set_up = tt
  publishes key d p false gained drawn last answer set_up = by_stream (stream_of k c) refl life refl
    where
      fresh : repeat_of key (life_or life p.epoch).keys ≡ None
      fresh = no_repeat key (life_or life p.epoch) p (answer.off (life_in cfg.namespaces log) is.lists)

      may_add : (o : Option Life) → is_below o ≡ true → repeats key o ≡ false
          → (is_some (settings_of cfg.namespaces c) && (is_below o && not (repeats key o))) ≡ true
      may_add o h r = rw (set_up, h, r) refl

      -- a stream that doesn't refuse it isn't at the last offset
      not_stuck : (s : Shown) (l : Life) → stream_of k c ≡ Some s → Shows s l → repeat_of key l.keys ≡ None
          → s.top ≢ last_offset
      not_stuck s l i h r = λ top. subst (λ o. IsNotLast o key) i last (repeats_alike s l key h ∙ r, top)

      by_stream : (o : Option Shown) → stream_of k c ≡ o → (l : Option Life) → life ≡ l
          → MayAll cfg log (opening o c p.epoch (Publish c key d ∷ []))
      by_stream None i l j = (
        opens p.epoch drawn i,
        (
          subst (λ o. (is_some (settings_of cfg.namespaces c) && (is_below o && not (repeats key o))) ≡ true)
              (sym (opened-life p.epoch))
              (may_add (Some (opened p.epoch)) opened_below
              (ap (λ (o : Option ℕ). is_some o) (ap (λ (o : Option Life). repeat_of key (life_or o p.epoch).keys)
              (sym (none-life (stream_of k c) life shows i)) ∙ fresh))),
          tt,
        ),
      )
      by_stream (Some s) i None j =
          absurd (subst (λ z. AreAlike (Some s) z) j (subst (λ o. AreAlike o life) i shows))
      by_stream (Some s) i (Some l) j =
          let alike : Shows s l × (s.size ≡ size_at k.namespaces c) =
          subst (λ z. AreAlike (Some s) z) j (subst (λ o. AreAlike o life) i shows) in
          let new : repeat_of key l.keys ≡ None =
          ap (λ (o : Option Life). repeat_of key (life_or o p.epoch).keys) (sym j) ∙ fresh in (
            subst (λ o. (is_some (settings_of cfg.namespaces c) && (is_below o && not (repeats key o))) ≡ true) (sym j)
                (may_add (Some l) (below-life s (Some l) alike (not_stuck s l i alike.0 new)
                (subst IsWithin j (fits cfg log gained c))) (ap (λ (o : Option ℕ). is_some o) new)),
            tt,
          )

  stands : (x : Entry) → ((s : Shown) → stream_of k c ≡ Some s → may_gain cfg log x ≡ true)
      → MayAll cfg log (if_stands (stream_of k c) x)
  stands x h = by_stream (stream_of k c) refl
    where
      by_stream : (o : Option Shown) → stream_of k c ≡ o → MayAll cfg log (if_stands o x)
      by_stream None i = tt
      by_stream (Some s) i = (h s i, tt)

  there : (s : Shown) → stream_of k c ≡ Some s → is_some life ≡ true
  there s i = some-life s life (subst (λ o. AreAlike o life) i shows)

  pub trims : (n : ℕ) → MayAll cfg log (entries_of_trim k c n)
  trims n = stands (Trim c n) there

  pub forgets : MayAll cfg log (entries_of_forget k c)
  forgets = stands (Forget c) there

-- another size may be set at any time
pub sizes : (cfg : Config) (log : List Entry) (name : List ℕ) (n : ℕ) → MayAll cfg log (entries_of_size name n)
sizes cfg log name n = (refl, tt)
