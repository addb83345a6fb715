-- Each move of a session in notes, among asides, whatever memory was refused.
use Rattle.std.proofs.Common.{◌≡◌, ◌⊎◌, inl, inr, ℕ, zero, suc, ◌+◌, ◌||◌, Bool, true, false, if◌then◌else◌, is_some}
use Rattle.std.proofs.Common.{Option, Some, None, List, [], ◌∷◌, ◌++◌, length, map, take, refl, sym, ap, ◌∙◌, subst}
use Rattle.std.specs.List.{AllZip}
use Rattle.cf_protocol.specs.Datum.{Placed}
use Rattle.cf_protocol.specs.Names.{with}
use Rattle.cf_protocol.specs.Note.{Lists, Note, Reading, Reply, Pub, End}
use Rattle.cf_protocol.specs.Note as note
use Rattle.cf_protocol.specs.Position.{Position}
use Rattle.cf_queue.specs.OutQueue.{Item, Text, Close}
use Rattle.cf_model.specs.Recovery.{arrives}
use Rattle.cf_recovery.specs.ArrivalBuffer.{Arrival, IsWithin, ArrivalBuffer, StandsFor, arrival, ended_at, given_up}
use Rattle.cf_recovery.specs.ArrivalBuffer.{nothing_kept, places, with_arrival}
use Rattle.cf_model.specs.Recovery.{falls_short, run_length}
use Rattle.cf_model.specs.Recovery.{Verdict, Drop, Pass, Insufficient, verdict}
use Rattle.cf_hub.specs.Alike.{AlikeSub}
use Rattle.cf_hub.specs.AlikeMoves.{Notes, Texts}
use Rattle.cf_hub.specs.Finish.{Finishes, FinishesAt}
use Rattle.cf_hub.specs.InNotes.{AreMissed, IsKept, IsListed, SaysNote}
use Rattle.cf_model.specs.Recovery.{Checked, Fine, Behind, Ended, position_check}
use Rattle.cf_model.specs.Sessions.{Subscription, Off, Asked, Ready, On, by_check, by_verdict, check_at, checks, closes}
use Rattle.cf_model.specs.Sessions.{closes_now, come_at, comes, finish_at, finish_notes, finished, finishes}
use Rattle.cf_model.specs.Sessions.{is_unfinished, no_memory, push, put_sub, read_at, says, slow}
use Rattle.cf_model.specs.Sessions.{spoken}
use Rattle.cf_hub.specs.WantOfMemory.{ClosesWith, OrCloses, Serves, without_buffer}
use Rattle.cf_hub.specs.Wordings.{Held, at_offset, delivering, end_text, held, no_publication, plain, push_text}
use Rattle.cf_hub.specs.Wordings.{reading, releasing, reply_text}
use Rattle.cf_hub.proofs.InNotes.{all_said, falls, many, says_end, says_place, says_reply}
use Rattle.cf_machine.specs.ClientLink.{amid_at, finishes_amid, finishes_over, over_at}
use Rattle.cf_hub_moves.specs.HubAsides.{FinishesAmong, MovesAmong, MovesOrCloses, SaysAmong}
use Rattle.cf_hub_moves.specs.Held.{IsHeld}
use Rattle.cf_hub_moves.proofs.Among.{IsCut, IsSlow, aside_among, closes_among, closes_now_among, push_among, put_among}
use Rattle.cf_hub_moves.proofs.Among.{says_among, takes_among}
use Rattle.cf_hub_moves.proofs.Closing.{by_open, closed_alike, no_items, was_open, zip_first}
use Rattle.cf_hub_moves.proofs.Holding.{holds_nothing, holds_one, holds_read, holds_up}

module _
    (within : (a : Arrival) (k : ArrivalBuffer) → IsWithin k → IsWithin (with_arrival a k))
    (stands : (a : Arrival) (k : ArrivalBuffer) (arrived : List Position) → StandsFor k arrived
    → StandsFor (with_arrival a k) (arrives a.at arrived))
    (counted : (k : ArrivalBuffer) (arrived : List Position) (r : Reading) → IsWithin k → StandsFor k arrived
    → k.short ≡ false → run_length (places k.arrived) r ≡ run_length arrived r)
    (short : (k : ArrivalBuffer) (arrived : List Position) (r : Reading) → IsWithin k → StandsFor k arrived
    → k.short ≡ false → (k.overflow || falls_short (places k.arrived) r) ≡ falls_short arrived r)
    (A : List ℕ → Type 0) (lists : Lists) where
  abbrev Says : Texts → Notes → Type 0
  Says a b = SaysAmong A lists a b

  abbrev closed_now : ℕ → Notes → Notes
  closed_now code b = closes_now (note.Close code) b

  -- ---- closed, and then no move

  open_closes : (code : ℕ) (b : Notes) → b.closed ≡ false → closed_now code b ≡ closes (note.Close code) b
  open_closes code b e = ap (λ (t : Bool). if t then b else closes (note.Close code) b) e

  slow_so : (g : Notes → Notes) → ((code : ℕ) (b : Notes) → g (closes (note.Close code) b) ≡ closes (note.Close code) b)
      → (new : Texts) (b : Notes) → IsSlow A lists new b → MovesOrCloses A lists g new b
  slow_so g same new b k =
      inr (slow, subst (Says new) (sym (ap g (open_closes slow b k.open_before) ∙ same slow b)) k.says)

  want_so : (g : Notes → Notes) → ((code : ℕ) (b : Notes) → g (closes (note.Close code) b) ≡ closes (note.Close code) b)
      → (a new : Texts) (b : Notes) → Says a b
      → ClosesWith (Close no_memory) a new → MovesOrCloses A lists g new b
  want_so g same a new b h k =
      inr (
        no_memory,
        subst (λ x. Says x (g (closed_now no_memory b))) (sym k.closed)
            (subst (Says (closes (Close no_memory) a)) (sym
            (ap g (open_closes no_memory b (sym h.closed ∙ k.was_open)) ∙ same no_memory b))
            (closes_among A lists no_memory a b h.notes)),
      )

  -- a move that may find no room
  or_slow : (g : Notes → Notes) → ((code : ℕ) (b : Notes) → g (closes (note.Close code) b) ≡ closes (note.Close code) b)
      → (new : Texts) (b : Notes) → Says new (g b) ⊎ IsSlow A lists new b → MovesOrCloses A lists g new b
  or_slow g same new b (inl h) = inl h
  or_slow g same new b (inr k) = slow_so g same new b k

  or_closes : (hit : Bool) (f : Texts → Texts) (g : Notes → Notes)
      → ((a : Texts) (b : Notes) → Says a b → Says (f a) (g b) ⊎ IsSlow A lists (f a) b)
      → ((code : ℕ) (b : Notes) → g (closes (note.Close code) b) ≡ closes (note.Close code) b)
      → (a new : Texts) (b : Notes) → Says a b → OrCloses hit plain f a new → MovesOrCloses A lists g new b
  or_closes hit f g alike same a new b h (inl e) =
      subst (λ x. MovesOrCloses A lists g x b) (sym e) (or_slow g same (f a) b (alike a b h))
  or_closes hit f g alike same a new b h (inr k) = want_so g same a new b h k.1

  -- ---- the stream was read

  read_by : (c : List ℕ) (r : Reading) (missed : List Placed) → AreMissed lists c r missed
      → (s : Subscription Held) (t : Subscription (List Position)) (a : Texts) (b : Notes)
      → AlikeSub (IsHeld lists c) s t → Says a b → Says (read_at (reading missed) c r s a)
      (read_at (spoken lists) c r t b)
  read_by c r missed m Off Off a b e h = h
  read_by c r missed m (Asked id since k) (Asked i z k') a b e h =
      put_among A lists c (Ready id (is_some since) r (record k { missed = missed })) (Ready i (is_some z) r k') a b
      (e.0, ap is_some e.1, refl, holds_read lists c r missed m id k k' e.2) h
  read_by c r missed m (Ready id was x k) (Ready i w y k') a b e h = h
  read_by c r missed m (On p q) (On p' q') a b e h = h
  read_by c r missed m Off (Asked i z k') a b e h = absurd e
  read_by c r missed m Off (Ready i w y k') a b e h = absurd e
  read_by c r missed m Off (On p' q') a b e h = absurd e
  read_by c r missed m (Asked id since k) Off a b e h = absurd e
  read_by c r missed m (Asked id since k) (Ready i w y k') a b e h = absurd e
  read_by c r missed m (Asked id since k) (On p' q') a b e h = absurd e
  read_by c r missed m (Ready id was x k) Off a b e h = absurd e
  read_by c r missed m (Ready id was x k) (Asked i z k') a b e h = absurd e
  read_by c r missed m (Ready id was x k) (On p' q') a b e h = absurd e
  read_by c r missed m (On p q) Off a b e h = absurd e
  read_by c r missed m (On p q) (Asked i z k') a b e h = absurd e
  read_by c r missed m (On p q) (Ready i w y k') a b e h = absurd e

  -- ---- a publication comes

  -- as slow as with another subscription
  slow_put : (new : Texts) (c : List ℕ) (t : Subscription (List Position)) (b : Notes)
      → IsSlow A lists new (put_sub c t b) → IsSlow A lists new b
  slow_put new c t b k = record { open_before = k.open_before; closed = k.closed; says = k.says }

  kept_or : (new : Texts) (c : List ℕ) (t : Subscription (List Position)) (x b : Notes) → Says new x
      ⊎ IsSlow A lists new (put_sub c t b) → Says new x ⊎ IsSlow A lists new b
  kept_or new c t x b (inl h) = inl h
  kept_or new c t x b (inr k) = inr (slow_put new c t b k)

  verdict_by : (c e : List ℕ) (p : Placed) → IsListed lists c e p
      → (x : Verdict) (behind_at : Option ℕ) (a : Texts) (b : Notes) → Says a b
      → Says (by_verdict (delivering p) c (at_offset e p) behind_at x a)
      (by_verdict (spoken lists) c (at_offset e p) behind_at x b)
      ⊎ IsSlow A lists (by_verdict (delivering p) c (at_offset e p) behind_at x a) b
  verdict_by c e p l Drop behind_at a b h = inl h
  verdict_by c e p l Pass behind_at a b h =
      let q : Position = at_offset e p in
      kept_or _ c (On q behind_at) _ b
      (push_among A lists p [] [] (Text (push_text c p)) (Pub c q) (put_sub c (On q behind_at) a)
      (put_sub c (On q behind_at) b)
      (says_place lists c e p l) (put_among A lists c (On q behind_at) (On q behind_at) a b (refl, refl) h))
  verdict_by c e p l Insufficient behind_at a b h =
      kept_or _ c Off _ b
      (push_among A lists p [] [] (Text (end_text c)) (End c) (put_sub c Off a) (put_sub c Off b) (says_end lists c)
      (put_among A lists c Off Off a b tt h))

  come_by : (c e : List ℕ) (p : Placed) → IsListed lists c e p
      → (s : Subscription Held) (t : Subscription (List Position)) (a : Texts) (b : Notes)
      → AlikeSub (IsHeld lists c) s t → Says a b
      → Says (come_at (delivering p) c (at_offset e p) s a) (come_at (spoken lists) c (at_offset e p) t b)
      ⊎ IsSlow A lists (come_at (delivering p) c (at_offset e p) s a) b
  come_by c e p l Off Off a b i h = inl h
  come_by c e p l (Asked id since k) (Asked j z k') a b i h =
      inl (put_among A lists c (Asked id since (record k { kept = with_arrival (arrival e p) k.kept }))
      (Asked j z (arrives (at_offset e p) k')) a b (
        i.0,
        i.1,
        holds_one within stands counted short lists c e p l id None k k' i.2,
      ) h)
  come_by c e p l (Ready id was r k) (Ready j w y k') a b i h =
      inl (put_among A lists c (Ready id was r (record k { kept = with_arrival (arrival e p) k.kept }))
      (Ready j w y (arrives (at_offset e p) k')) a b
      (i.0, i.1, i.2, holds_one within stands counted short lists c e p l id (Some r) k k' i.3) h)
  come_by c e p l (On o m) (On o' m') a b i h =
      subst (λ (z : Notes). Says (come_at (delivering p) c (at_offset e p) (On o m) a) z
      ⊎ IsSlow A lists (come_at (delivering p) c (at_offset e p) (On o m) a) b)
      (λ j. by_verdict (spoken lists) c (at_offset e p) (i.1 j) (verdict (i.0 j) (at_offset e p)) b)
      (verdict_by c e p l (verdict o (at_offset e p)) m a b h)
  come_by c e p l Off (Asked j z k') a b i h = absurd i
  come_by c e p l Off (Ready j w y k') a b i h = absurd i
  come_by c e p l Off (On o' m') a b i h = absurd i
  come_by c e p l (Asked id since k) Off a b i h = absurd i
  come_by c e p l (Asked id since k) (Ready j w y k') a b i h = absurd i
  come_by c e p l (Asked id since k) (On o' m') a b i h = absurd i
  come_by c e p l (Ready id was r k) Off a b i h = absurd i
  come_by c e p l (Ready id was r k) (Asked j z k') a b i h = absurd i
  come_by c e p l (Ready id was r k) (On o' m') a b i h = absurd i
  come_by c e p l (On o m) Off a b i h = absurd i
  come_by c e p l (On o m) (Asked j z k') a b i h = absurd i
  come_by c e p l (On o m) (Ready j w y k') a b i h = absurd i

  -- what came is given up
  gives_up : (c e : List ℕ) (p : Placed) (s : Subscription Held) (t : Subscription (List Position)) (a new : Texts)
      (b : Notes) → AlikeSub (IsHeld lists c) s t
      → is_unfinished s ≡ true → new ≡ put_sub c (without_buffer (delivering p) s) a → Says a b
      → Says new (come_at (spoken lists) c (at_offset e p) t b)
  gives_up c e p (Asked id since k) (Asked i z k') a new b l u is h =
      subst (λ x. Says x (put_sub c (Asked i z (arrives (at_offset e p) k')) b)) (sym is)
      (put_among A lists c (Asked id since (record k { kept = given_up true })) (Asked i z (arrives (at_offset e p) k'))
      a b (l.0, l.1, holds_up lists c id None k k' (arrives (at_offset e p) k') l.2) h)
  gives_up c e p (Ready id was r k) (Ready i w y k') a new b l u is h =
      subst (λ x. Says x (put_sub c (Ready i w y (arrives (at_offset e p) k')) b)) (sym is)
      (put_among A lists c (Ready id was r (record k { kept = given_up true }))
      (Ready i w y (arrives (at_offset e p) k')) a b
      (l.0, l.1, l.2, holds_up lists c id (Some r) k k' (arrives (at_offset e p) k') l.3) h)
  gives_up c e p Off t a new b l u is h = absurd (cc)
  gives_up c e p (On q m) t a new b l u is h = absurd (cc)
  gives_up c e p (Asked id since k) Off a new b l u is h = absurd l
  gives_up c e p (Asked id since k) (Ready i w y k') a new b l u is h = absurd l
  gives_up c e p (Asked id since k) (On q m) a new b l u is h = absurd l
  gives_up c e p (Ready id was r k) Off a new b l u is h = absurd l
  gives_up c e p (Ready id was r k) (Asked i z k') a new b l u is h = absurd l
  gives_up c e p (Ready id was r k) (On q m) a new b l u is h = absurd l

  delivers_so : (hit : Bool) (c e : List ℕ) (p : Placed) (a new : Texts) (b : Notes) → IsListed lists c e p → Says a b
      → Serves hit (delivering p) c (comes (delivering p) c (at_offset e p)) a new
      → MovesOrCloses A lists (comes (spoken lists) c (at_offset e p)) new b
  delivers_so hit c e p a new b l h (inl is) =
      subst (λ x. MovesOrCloses A lists (comes (spoken lists) c (at_offset e p)) x b) (sym is)
      (or_slow (comes (spoken lists) c (at_offset e p)) (λ code b. refl) (comes (delivering p) c (at_offset e p) a) b
      (come_by c e p l (a.subs c) (b.subs c) a b (h.subs c) h))
  delivers_so hit c e p a new b l h (inr (t, inl k)) =
      want_so (comes (spoken lists) c (at_offset e p)) (λ code b. refl) a new b h k
  delivers_so hit c e p a new b l h (inr (t, inr k)) =
      inl (gives_up c e p (a.subs c) (b.subs c) a new b (h.subs c) k.waits k.given_up h)

  -- ---- the position check

  by_check_so : (c : List ℕ) (x : Checked) (p : Position) (a : Texts) (b : Notes) → Says a b
      → Says (by_check plain c p x a) (by_check (spoken lists) c p x b) ⊎ IsSlow A lists (by_check plain c p x a) b
  by_check_so c Fine p a b h = inl (put_among A lists c (On p None) (On p None) a b (refl, refl) h)
  by_check_so c Behind p a b h =
      inl (put_among A lists c (On p (Some p.offset)) (On p (Some p.offset)) a b (refl, refl) h)
  by_check_so c Ended p a b h =
      kept_or _ c Off _ b (push_among A lists no_publication [] [] (Text (end_text c)) (End c) (put_sub c Off a)
      (put_sub c Off b) (says_end lists c) (put_among A lists c Off Off a b tt h))

  check_by : (c : List ℕ) (top : Option Position) (s : Subscription Held) (t : Subscription (List Position)) (a : Texts)
      (b : Notes) → AlikeSub (IsHeld lists c) s t → Says a b
      → Says (check_at plain c top s a) (check_at (spoken lists) c top t b)
      ⊎ IsSlow A lists (check_at plain c top s a) b
  check_by c top Off Off a b e h = inl h
  check_by c top (Asked id since k) (Asked i z k') a b e h = inl h
  check_by c top (Ready id was r k) (Ready i w y k') a b e h = inl h
  check_by c top (On o m) (On o' m') a b e h =
      subst (λ (z : Notes). Says (check_at plain c top (On o m) a) z
      ⊎ IsSlow A lists (check_at plain c top (On o m) a) b)
      (λ j. by_check (spoken lists) c (e.0 j) (position_check top (e.0 j) (e.1 j)) b)
      (by_check_so c (position_check top o m) o a b h)
  check_by c top Off (Asked i z k') a b e h = absurd e
  check_by c top Off (Ready i w y k') a b e h = absurd e
  check_by c top Off (On o' m') a b e h = absurd e
  check_by c top (Asked id since k) Off a b e h = absurd e
  check_by c top (Asked id since k) (Ready i w y k') a b e h = absurd e
  check_by c top (Asked id since k) (On o' m') a b e h = absurd e
  check_by c top (Ready id was r k) Off a b e h = absurd e
  check_by c top (Ready id was r k) (Asked i z k') a b e h = absurd e
  check_by c top (Ready id was r k) (On o' m') a b e h = absurd e
  check_by c top (On o m) Off a b e h = absurd e
  check_by c top (On o m) (Asked i z k') a b e h = absurd e
  check_by c top (On o m) (Ready i w y k') a b e h = absurd e

  -- ---- a finish

  stand_by : (c e : List ℕ) (top : ℕ) (t u : Bool) (m n : ℕ) → t ≡ u → m ≡ n
      → AlikeSub (IsHeld lists c) (if t then Off else On (record { epoch = e; offset = top + m }) None)
      (if u then Off else On (record { epoch = e; offset = top + n }) None)
  stand_by c e top true true m n i j = tt
  stand_by c e top false false m n i j = ((λ k. record { epoch = e; offset = top + j k }), refl)
  stand_by c e top true false m n i j = absurd (cc)
  stand_by c e top false true m n i j = absurd (cc)

  module _ (c : List ℕ) (hit : Bool) (id : ℕ) (was : Bool) (r : Reading) (h : Held) (arrived : List Position)
      (held : IsHeld lists c id (Some r) h arrived)
      (a new : Texts) (b : Notes) (alike : Says a b) (at : b.subs c ≡ Ready id was r arrived)
      (f : Finishes hit c id was r h a new) where
    abbrev notes : List Note
    notes = finish_notes (spoken lists) c id was r arrived

    abbrev last : Subscription (List Position)
    last = finished (spoken lists) r arrived

    abbrev given : List Item
    given = finish_notes (releasing f.run) c id was r h

    abbrev left : Texts
    left = put_sub c (finished (releasing f.run) r h) a

    abbrev after : List Item → Texts
    after is = says (releasing f.run) is left

    abbrev so_far : Subscription (List Position) → List Note → Notes
    so_far s ns = says (spoken lists) ns (put_sub c s b)

    -- broken off after these
    amid-is : (n code : ℕ) → b.closed ≡ false → (so_far last (take n notes)).closed ≡ false
        → finishes_amid (spoken lists) c n code b ≡ closes (note.Close code) (so_far last (take n notes))
    amid-is n code e o =
        ap (λ z. amid_at (spoken lists) c n code z b) at
        ∙ ap (λ (t : Bool). if t then b else closes_now (note.Close code) (so_far last (take n notes))) e
        ∙ ap (λ (t : Bool). if t then so_far last (take n notes)
        else closes (note.Close code) (so_far last (take n notes))) o

    as_amid : (n code : ℕ) → b.closed ≡ false → (so_far last (take n notes)).closed ≡ false
        → Says new (closes (note.Close code) (so_far last (take n notes))) → FinishesAmong A lists c new b
    as_amid n code e o k = inr (inr (inl (n, (code, subst (Says new) (sym (amid-is n code e o)) k))))

    -- that code's session was open after what was said, so there was room
    had_room : (is : List Item) (ms : List Note) (s : Subscription (List Position)) → (after is).closed ≡ false
        → Says (after is) (so_far s ms) ⊎ IsCut A lists no_publication [] f.run (after is) ms (put_sub c s b)
        → Says (after is) (so_far s ms)
    had_room is ms s o (inl k) = k
    had_room is ms s o (inr k) = absurd (let g : true ≡ false = sym k.closed ∙ o in cc)

    open_b : (is : List Item) (ms : List Note) (s : Subscription (List Position)) → Says (after is) (so_far s ms)
        → (after is).closed ≡ false → (so_far s ms).closed ≡ false
    open_b is ms s k o = sym k.closed ∙ o

    closed_first : (ms : List Note) (s : Subscription (List Position)) → (so_far s ms).closed ≡ false → b.closed ≡ false
    closed_first ms s o = was_open (spoken lists) ms (put_sub c s b) o

    -- cut off, as there was no room for one of them
    as_cut : (is : List Item) → new ≡ after is → IsCut A lists no_publication [] f.run (after is) notes
        (put_sub c last b) → FinishesAmong A lists c new b
    as_cut is e k =
        as_amid k.count slow k.open_before k.open_then
        (subst (λ x. Says x (closes (note.Close slow) (so_far last (take k.count notes)))) (sym e) k.says_so)

    -- memory was refused after the first of them
    as_want : (first : List Item) (n : ℕ) → new ≡ closes (Close no_memory) (after first) → (after first).closed ≡ false
        → Says (after first) (so_far last (take n notes)) → FinishesAmong A lists c new b
    as_want first n e o k =
        let open_then : (so_far last (take n notes)).closed ≡ false = open_b first (take n notes) last k o in
        as_amid n no_memory (closed_first (take n notes) last open_then) open_then
        (subst (λ x. Says x (closes (note.Close no_memory) (so_far last (take n notes)))) (sym e)
        (closes_among A lists no_memory (after first) (so_far last (take n notes)) k.notes))

    -- no memory was refused for what is kept
    whole : h.kept.short ≡ false → FinishesAmong A lists c new b
    whole is_whole =
        let kept : IsKept lists c id (Some r) h arrived =
        record {
          is_code = held.is_code;
          within = held.within;
          stands = held.stands;
          whole = is_whole;
          listed = held.listed;
          missed = held.missed;
        } in
        let said : AllZip (SaysNote lists) given notes =
        all_said counted short lists c id was r h arrived kept f.run f.is_run in
        let put : Says left (put_sub c last b) =
        put_among A lists c (finished (releasing f.run) r h) last a b
        (stand_by c r.epoch r.top (h.kept.overflow || falls_short (places h.kept.arrived) r) (falls_short arrived r)
        (length f.run) (run_length arrived r)
        (falls counted short lists c id was r h arrived kept f.run f.is_run)
        (many counted short lists c id was r h arrived kept f.run f.is_run)) alike in
        elim f.said [
          | inl e ↦ elim (says_among A lists no_publication [] f.run given notes left (put_sub c last b) said put) [
            | inl k ↦ inl (subst (λ x. Says x (finishes (spoken lists) c b)) (sym e)
                (subst (Says (after given)) (sym (ap (λ z. finish_at (spoken lists) c z b) at)) k))
            | inr k ↦ as_cut given e k
          ]
          | inr x ↦
              let n : ℕ = length x.1.first in
              as_want x.1.first n x.1.closed x.1.was_open
              (had_room x.1.first (take n notes) last x.1.was_open
              (says_among A lists no_publication [] f.run x.1.first (take n notes) left (put_sub c last b)
              (zip_first (SaysNote lists) x.1.first x.1.rest notes
              (subst (λ ns. AllZip (SaysNote lists) ns notes) x.1.all said)) put))
        ]

    -- memory was refused for it, and all that came was given up
    module _ (is_short : h.kept.short ≡ true) where
      over : h.kept.overflow ≡ true
      over = held.within.cause is_short

      no_run : f.run ≡ []
      no_run = no_items f.run
          (f.is_run.counted ∙ ap (λ (xs : List Arrival). run_length (places xs)
          (ended_at (record { epoch = r.epoch; offset = r.top }))) (held.within.nothing over))

      abbrev two : List Item
      two = Text (reply_text id was r h.missed) ∷ Text (end_text c) ∷ []

      abbrev told : List Note
      told = Reply c id was r ∷ End c ∷ []

      given-is : given ≡ two
      given-is i =
          Text (reply_text id was r h.missed)
          ∷ (map (λ x. Text (push_text c x)) (no_run i)
          ++ (if over i || falls_short (places h.kept.arrived) r then Text (end_text c) ∷ [] else []))

      off : finished (releasing f.run) r h ≡ Off
      off i = if over i || falls_short (places h.kept.arrived) r then Off
          else On (record { epoch = r.epoch; offset = r.top + length f.run }) None

      said : AllZip (SaysNote lists) two told
      said = (says_reply lists c id was r h.missed held.is_code held.missed, (says_end lists c, tt))

      put : Says left (put_sub c Off b)
      put = put_among A lists c (finished (releasing f.run) r h) Off a b
          (subst (λ (z : Subscription Held). AlikeSub (IsHeld lists c) z Off) (sym off) tt) alike

      over-is : finishes_over (spoken lists) c b ≡ so_far Off told
      over-is = ap (λ z. over_at (spoken lists) c z b) at

      -- the same with the subscription that a finish would leave
      as_amid_off : (n code : ℕ) (ms : List Note) → take n notes ≡ ms → (so_far Off ms).closed ≡ false
          → Says new (closes (note.Close code) (so_far Off ms)) → FinishesAmong A lists c new b
      as_amid_off n code ms e o k =
          let same = closed_alike (spoken lists) (note.Close code) ms b (with b.subs c Off) (with b.subs c last) in
          as_amid n code (closed_first ms Off o) (ap (λ ns. (so_far last ns).closed) e ∙ sym same.1 ∙ o)
          (subst (Says new) (same.0 ∙ sym (ap (λ ns. closes (note.Close code) (so_far last ns)) e)) k)

      as_over : (code : ℕ) → (so_far Off told).closed ≡ false → Says new (closes (note.Close code) (so_far Off told))
          → FinishesAmong A lists c new b
      as_over code o k =
          inr (inr (inr (
            code,
            subst (Says new) (sym (ap (closes_now (note.Close code)) over-is
                ∙ ap (λ (t : Bool). if t then so_far Off told else closes (note.Close code) (so_far Off told)) o)) k,
          )))

      -- by how many of the two were said
      by_count : (n code : ℕ) → (so_far Off (take n told)).closed ≡ false
          → Says new (closes (note.Close code) (so_far Off (take n told))) → FinishesAmong A lists c new b
      by_count zero code o k = as_amid_off 0 code [] refl o k
      by_count (suc zero) code o k = as_amid_off 1 code (Reply c id was r ∷ []) refl o k
      by_count (suc (suc zero)) code o k = as_over code o k
      by_count (suc (suc (suc n))) code o k = as_over code o k

      shortly : FinishesAmong A lists c new b
      shortly = elim f.said [
        | inl e ↦ elim (says_among A lists no_publication [] f.run two told left (put_sub c Off b) said put) [
          | inl k ↦ inr (inl (subst (λ x. Says x (finishes_over (spoken lists) c b)) (sym (e ∙ ap after given-is))
              (subst (Says (after two)) (sym over-is) k)))
          | inr k ↦ by_count k.count slow k.open_then (subst
              (λ x. Says x (closes (note.Close slow) (so_far Off (take k.count told)))) (sym (e ∙ ap after given-is))
              k.says_so)
        ]
        | inr x ↦
            let n : ℕ = length x.1.first in
            let k : Says (after x.1.first) (so_far Off (take n told)) =
            had_room x.1.first (take n told) Off x.1.was_open
            (says_among A lists no_publication [] f.run x.1.first (take n told) left (put_sub c Off b)
            (zip_first (SaysNote lists) x.1.first x.1.rest told
            (subst (λ ns. AllZip (SaysNote lists) ns told) (sym given-is ∙ x.1.all) said)) put) in
            by_count n no_memory (open_b x.1.first (take n told) Off k x.1.was_open)
            (subst (λ y. Says y (closes (note.Close no_memory) (so_far Off (take n told)))) (sym x.1.closed)
            (closes_among A lists no_memory (after x.1.first) (so_far Off (take n told)) k.notes))
      ]

    finish_ready : FinishesAmong A lists c new b
    finish_ready = by_open (FinishesAmong A lists c new b) h.kept.short shortly whole

  -- nothing to finish
  nothing : (c : List ℕ) (a new : Texts) (b : Notes) → new ≡ a → Says a b → finishes (spoken lists) c b ≡ b
      → FinishesAmong A lists c new b
  nothing c a new b e alike same =
      inl (subst (λ x. Says x (finishes (spoken lists) c b)) (sym e) (subst (Says a) (sym same) alike))

  finish_by : (c : List ℕ) (hit : Bool) (s : Subscription Held) (t : Subscription (List Position)) (a new : Texts)
      (b : Notes) → AlikeSub (IsHeld lists c) s t → b.subs c ≡ t
      → FinishesAt hit c s a new → Says a b → FinishesAmong A lists c new b
  finish_by c hit Off Off a new b e at f alike = nothing c a new b f alike (ap (λ z. finish_at (spoken lists) c z b) at)
  finish_by c hit (Asked id since k) (Asked i z k') a new b e at f alike =
      nothing c a new b f alike (ap (λ z. finish_at (spoken lists) c z b) at)
  finish_by c hit (On p behind_at) (On q m) a new b e at f alike =
      nothing c a new b f alike (ap (λ z. finish_at (spoken lists) c z b) at)
  finish_by c hit (Ready id was r k) (Ready i w y k') a new b e at f alike =
      finish_ready c hit id was r k k' e.3 a new b alike (at ∙ (λ j. Ready (sym e.0 j) (sym e.1 j) (sym e.2 j) k')) f
  finish_by c hit Off (Asked i z k') a new b e at f alike = absurd e
  finish_by c hit Off (Ready i w y k') a new b e at f alike = absurd e
  finish_by c hit Off (On q m) a new b e at f alike = absurd e
  finish_by c hit (Asked id since k) Off a new b e at f alike = absurd e
  finish_by c hit (Asked id since k) (Ready i w y k') a new b e at f alike = absurd e
  finish_by c hit (Asked id since k) (On q m) a new b e at f alike = absurd e
  finish_by c hit (Ready id was r k) Off a new b e at f alike = absurd e
  finish_by c hit (Ready id was r k) (Asked i z k') a new b e at f alike = absurd e
  finish_by c hit (Ready id was r k) (On q m) a new b e at f alike = absurd e
  finish_by c hit (On p behind_at) Off a new b e at f alike = absurd e
  finish_by c hit (On p behind_at) (Asked i z k') a new b e at f alike = absurd e
  finish_by c hit (On p behind_at) (Ready i w y k') a new b e at f alike = absurd e

  -- EACH MOVE
  pub moves_among : MovesAmong A lists
  moves_among = record {
    opens = record { subs = λ d. tt; notes = tt; closed = refl };
    begins = λ c id since code a b h. put_among A lists c (Asked id since (held nothing_kept [])) (Asked id since []) a
        b (refl, refl, holds_nothing lists c id code) h;
    leaves = λ c a b h. put_among A lists c Off Off a b tt h;
    reads = λ c r missed m a b h. read_by c r missed m (a.subs c) (b.subs c) a b (h.subs c) h;
    closes = λ code a b h. closes_now_among A lists code a b h;
    takes = λ a b h. takes_among A lists a b h;
    says = λ hit i n a new b s h k. or_closes hit (push plain i) (push (spoken lists) n)
        (λ x y z. push_among A lists no_publication [] [] i n x y s z) (λ code y. refl) a new b h k;
    says_aside =
        λ hit t a new b s h k. or_closes hit (push plain (Text t)) (λ y. y)
        (λ x y z. aside_among A lists no_publication [] [] t x y s z) (λ code y. refl) a new b h k;
    checks = λ hit c top a new b h k. or_closes hit (checks plain c top) (checks (spoken lists) c top)
        (λ x y z. check_by c top (x.subs c) (y.subs c) x y (z.subs c) z) (λ code y. refl) a new b h k;
    delivers = delivers_so;
    finishes = λ hit c a new b h k. finish_by c hit (a.subs c) (b.subs c) a new b (h.subs c) refl k h;
  }
