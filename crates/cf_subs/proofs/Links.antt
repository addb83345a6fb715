-- How a row's two lists are kept where the row is linked in and where it is unlinked.
use Rattle.std.proofs.Common.{◌≡◌, ℕ, true, false, List, [], ◌∷◌, ◌++◌, Option, Some, None, refl, sym, ap, ◌∙◌, subst}
use Rattle.std.proofs.Common.{cond}
use Rattle.std.specs.Prelude.{IsSome}
use Rattle.std.specs.List.{IsDistinct}
use denote.RawPtr.{Ptr}
use Rattle.lru.specs.Linked.{IsApart}
use Rattle.cf_subs.specs.declared.blocks.At.{At}
use Rattle.cf_subs.specs.declared.linked_row.LinkedRow.{LinkedRow}
use Rattle.cf_subs.specs.Held.{Held, places, found, without}
use Rattle.cf_subs.specs.Threads.{at, leads_to, nowhere, IsHeld, changed, first_of, last_of, AreThreaded}
use Rattle.cf_subs.specs.RowBlocks.{AreLinked, before_in_channel, after_in_channel, before_in_session, after_in_session}
use Rattle.cf_subs.specs.RowBlocks.{channel_of, session_of, rows_of, SameEnds}
use Rattle.cf_subs.proofs.Threads.{changed_append, changed_around, places_changed, right_fresh, apart_right, found_left}
use Rattle.cf_subs.proofs.Threads.{found_right, held_changed, last_held, first_held, last_past, first_past, th_right}
use Rattle.cf_subs.proofs.Threads.{th_kept, linked_in, unlinked, last_changed, first_changed, some_eq}
use Rattle.cf_subs.proofs.Places.{cut_at, without_cut}

pub rows_changed : (change : LinkedRow → LinkedRow) (o : Option At) → ((x : LinkedRow) → (change x).row ≡ x.row)
    → (hs : List (Held LinkedRow)) → rows_of (changed change o hs) ≡ rows_of hs
rows_changed change o K [] = refl
rows_changed change o K (h ∷ hs) =
    (λ i. (elim (leads_to o h.at) as (λ y. (cond y (change h.value) h.value).row ≡ h.value.row)
    [ true ↦ K h.value | false ↦ refl ]) i ∷ rows_changed change o K hs i)

pub ends_changed : (key : LinkedRow → ℕ) (change : LinkedRow → LinkedRow) (o : Option At)
    → ((x : LinkedRow) → key (change x) ≡ key x) → (hs ws : List (Held LinkedRow)) → SameEnds key hs ws
    → SameEnds key (changed change o hs) ws
ends_changed key change o K hs ws e k = (
  first_changed key change K k o hs ∙ (e k).0,
  last_changed key change K k o nowhere nowhere hs (λ c. refl) ∙ (e k).1,
)

module _ (xs : List (Held LinkedRow)) (n : Held LinkedRow) (ys : List (Held LinkedRow))
    (linked : AreLinked (xs ++ n ∷ ys)) (d : IsApart (places (xs ++ n ∷ ys))) where
  abbrev s : LinkedRow
  s = n.value

  abbrev w1 : List (Held LinkedRow)
  w1 = xs ++ ys

  abbrev w2 : List (Held LinkedRow)
  w2 = changed (after_in_channel s.after_in_channel) s.before_in_channel w1

  abbrev w3 : List (Held LinkedRow)
  w3 = changed (before_in_channel s.before_in_channel) s.after_in_channel w2

  abbrev w4 : List (Held LinkedRow)
  w4 = changed (after_in_session s.after_in_session) s.before_in_session w3

  abbrev pub w5 : List (Held LinkedRow)
  w5 = changed (before_in_session s.before_in_session) s.after_in_session w4

  abbrev Ch : List (Held LinkedRow) → Type 0
  Ch = AreThreaded channel_of (λ x. x.before_in_channel) (λ x. x.after_in_channel) nowhere

  abbrev Se : List (Held LinkedRow) → Type 0
  Se = AreThreaded session_of (λ x. x.before_in_session) (λ x. x.after_in_session) nowhere

  in_channel : (s.before_in_channel ≡ last_of channel_of nowhere xs s.row.channel)
      × (s.after_in_channel ≡ first_of channel_of s.row.channel ys)
  in_channel = let mid =
      th_right channel_of (λ x. x.before_in_channel) (λ x. x.after_in_channel) nowhere xs (n ∷ ys) linked.0 in
      (mid.0, mid.1)

  in_session : (s.before_in_session ≡ last_of session_of nowhere xs s.row.session)
      × (s.after_in_session ≡ first_of session_of s.row.session ys)
  in_session = let mid =
      th_right session_of (λ x. x.before_in_session) (λ x. x.after_in_session) nowhere xs (n ∷ ys) linked.1 in
      (mid.0, mid.1)

  pub held1 : IsHeld w1 s.before_in_channel
  held1 = subst (IsHeld w1) (sym in_channel.0) (last_held channel_of s.row.channel w1 nowhere xs tt (found_left xs ys))

  pub held2 : IsHeld w2 s.after_in_channel
  held2 = held_changed (after_in_channel s.after_in_channel) s.before_in_channel w1 s.after_in_channel
      (subst (IsHeld w1) (sym in_channel.1) (first_held channel_of s.row.channel w1 ys (found_right xs ys)))

  pub held3 : IsHeld w3 s.before_in_session
  held3 = held_changed (before_in_channel s.before_in_channel) s.after_in_channel w2 s.before_in_session
      (held_changed (after_in_channel s.after_in_channel) s.before_in_channel w1 s.before_in_session
      (subst (IsHeld w1) (sym in_session.0) (last_held session_of s.row.session w1 nowhere xs tt (found_left xs ys))))

  pub held4 : IsHeld w4 s.after_in_session
  held4 = held_changed (after_in_session s.after_in_session) s.before_in_session w3 s.after_in_session
      (held_changed (before_in_channel s.before_in_channel) s.after_in_channel w2 s.after_in_session
      (held_changed (after_in_channel s.after_in_channel) s.before_in_channel w1 s.after_in_session
      (subst (IsHeld w1) (sym in_session.1) (first_held session_of s.row.session w1 ys (found_right xs ys)))))

  pub rows5 : rows_of w5 ≡ rows_of w1
  rows5 = rows_changed (before_in_session s.before_in_session) s.after_in_session (λ x. refl) w4
      ∙ rows_changed (after_in_session s.after_in_session) s.before_in_session (λ x. refl) w3
      ∙ rows_changed (before_in_channel s.before_in_channel) s.after_in_channel (λ x. refl) w2
      ∙ rows_changed (after_in_channel s.after_in_channel) s.before_in_channel (λ x. refl) w1

  pub ends5 : (key : LinkedRow → ℕ) → ((x : LinkedRow) (o : Option At) → key (after_in_channel o x) ≡ key x)
      → ((x : LinkedRow) (o : Option At) → key (before_in_channel o x) ≡ key x)
      → ((x : LinkedRow) (o : Option At) → key (after_in_session o x) ≡ key x)
      → ((x : LinkedRow) (o : Option At) → key (before_in_session o x) ≡ key x) → SameEnds key w5 w1
  ends5 key A B C D =
      ends_changed key (before_in_session s.before_in_session) s.after_in_session (λ x. D x s.before_in_session) w4 w1
      (ends_changed key (after_in_session s.after_in_session) s.before_in_session (λ x. C x s.after_in_session) w3 w1
      (ends_changed key (before_in_channel s.before_in_channel) s.after_in_channel (λ x. B x s.before_in_channel) w2 w1
      (ends_changed key (after_in_channel s.after_in_channel) s.before_in_channel (λ x. A x s.after_in_channel) w1 w1
      (λ k. (refl, refl)))))

  channel3 : Ch w3
  channel3 = unlinked channel_of (λ x. x.before_in_channel) (λ x. x.after_in_channel)
      (after_in_channel s.after_in_channel) (before_in_channel s.before_in_channel) n
      (λ x. refl) (λ x. refl) (λ x. refl) (λ x. refl) (λ x. refl) (λ x. refl) xs ys linked.0 d

  -- the channel's changes, of any of the blocks
  abbrev G1 : List (Held LinkedRow) → List (Held LinkedRow)
  G1 = changed (after_in_channel s.after_in_channel) s.before_in_channel

  abbrev G2 : List (Held LinkedRow) → List (Held LinkedRow)
  G2 = changed (before_in_channel s.before_in_channel) s.after_in_channel

  before_elsewhere : leads_to s.before_in_channel n.at ≡ false
  before_elsewhere =
      ap (λ o. leads_to o n.at) in_channel.0 ∙ last_past channel_of s.row.channel nowhere n.at xs
      (right_fresh xs (n ∷ ys) d).0 refl

  after_elsewhere : leads_to s.after_in_channel n.at ≡ false
  unfolding IsDistinct
  after_elsewhere =
      ap (λ o. leads_to o n.at) in_channel.1 ∙ first_past channel_of s.row.channel n.at ys (apart_right xs (n ∷ ys) d).0

  around : G2 (G1 (xs ++ n ∷ ys)) ≡ G2 (G1 xs) ++ n ∷ G2 (G1 ys)
  around = ap G2 (changed_around (after_in_channel s.after_in_channel) s.before_in_channel xs n ys before_elsewhere)
      ∙ changed_around (before_in_channel s.before_in_channel) s.after_in_channel (G1 xs) n (G1 ys) after_elsewhere

  both : G2 (G1 xs) ++ G2 (G1 ys) ≡ w3
  both = sym (ap G2 (changed_append (after_in_channel s.after_in_channel) s.before_in_channel xs ys)
      ∙ changed_append (before_in_channel s.before_in_channel) s.after_in_channel (G1 xs) (G1 ys))

  session_around : Se (G2 (G1 xs) ++ n ∷ G2 (G1 ys))
  session_around =
      subst Se around (th_kept session_of (λ x. x.before_in_session) (λ x. x.after_in_session)
      (before_in_channel s.before_in_channel) s.after_in_channel (λ x. refl) (λ x. refl) (λ x. refl) nowhere
      (G1 (xs ++ n ∷ ys))
      (th_kept session_of (λ x. x.before_in_session) (λ x. x.after_in_session) (after_in_channel s.after_in_channel)
      s.before_in_channel (λ x. refl) (λ x. refl) (λ x. refl) nowhere (xs ++ n ∷ ys) linked.1))

  apart_around : IsApart (places (G2 (G1 xs) ++ n ∷ G2 (G1 ys)))
  apart_around =
      subst (λ l. IsApart (places l)) around (subst IsApart
      (sym (places_changed (before_in_channel s.before_in_channel) s.after_in_channel (G1 (xs ++ n ∷ ys))
      ∙ places_changed (after_in_channel s.after_in_channel) s.before_in_channel (xs ++ n ∷ ys))) d)

  session5 : Se w5
  session5 = subst (λ l. Se (changed (before_in_session s.before_in_session) s.after_in_session
      (changed (after_in_session s.after_in_session) s.before_in_session l))) both
      (unlinked session_of (λ x. x.before_in_session) (λ x. x.after_in_session) (after_in_session s.after_in_session)
      (before_in_session s.before_in_session) n
      (λ x. refl) (λ x. refl) (λ x. refl) (λ x. refl) (λ x. refl) (λ x. refl) (G2 (G1 xs)) (G2 (G1 ys)) session_around
      apart_around)

  pub linked5 : AreLinked w5
  linked5 = (
    th_kept channel_of (λ x. x.before_in_channel) (λ x. x.after_in_channel) (before_in_session s.before_in_session)
        s.after_in_session (λ x. refl) (λ x. refl) (λ x. refl) nowhere w4
        (th_kept channel_of (λ x. x.before_in_channel) (λ x. x.after_in_channel) (after_in_session s.after_in_session)
        s.before_in_session (λ x. refl) (λ x. refl) (λ x. refl) nowhere w3 channel3),
    session5,
  )

module _ (hs : List (Held LinkedRow)) (n : Held LinkedRow) (linked : AreLinked hs) (d : IsApart (places (hs ++ n ∷ [])))
    (channel : (n.value.before_in_channel ≡ last_of channel_of nowhere hs n.value.row.channel)
    × (n.value.after_in_channel ≡ None)) (session : (n.value.before_in_session
    ≡ last_of session_of nowhere hs n.value.row.session) × (n.value.after_in_session ≡ None)) where
  abbrev here : Option At
  here = Some (at n.at)

  abbrev v1 : List (Held LinkedRow)
  v1 = hs ++ n ∷ []

  abbrev v2 : List (Held LinkedRow)
  v2 = changed (after_in_channel here) n.value.before_in_channel v1

  abbrev pub v3 : List (Held LinkedRow)
  v3 = changed (after_in_session here) n.value.before_in_session v2

  pub stands1 : IsHeld v1 n.value.before_in_channel
  stands1 = subst (IsHeld v1) (sym channel.0) (last_held channel_of n.value.row.channel v1 nowhere hs tt
      (found_left hs (n ∷ [])))

  pub stands2 : IsHeld v2 n.value.before_in_session
  stands2 = held_changed (after_in_channel here) n.value.before_in_channel v1 n.value.before_in_session
      (subst (IsHeld v1) (sym session.0) (last_held session_of n.value.row.session v1 nowhere hs tt
      (found_left hs (n ∷ []))))

  pub rows3 : rows_of v3 ≡ rows_of v1
  rows3 = rows_changed (after_in_session here) n.value.before_in_session (λ x. refl) v2
      ∙ rows_changed (after_in_channel here) n.value.before_in_channel (λ x. refl) v1

  pub ends3 : (key : LinkedRow → ℕ) → ((x : LinkedRow) (o : Option At) → key (after_in_channel o x) ≡ key x)
      → ((x : LinkedRow) (o : Option At) → key (after_in_session o x) ≡ key x) → SameEnds key v3 v1
  ends3 key A C =
      ends_changed key (after_in_session here) n.value.before_in_session (λ x. C x here) v2 v1
      (ends_changed key (after_in_channel here) n.value.before_in_channel (λ x. A x here) v1 v1 (λ k. (refl, refl)))

  abbrev us : List (Held LinkedRow)
  us = changed (after_in_channel here) n.value.before_in_channel hs

  pushed : v2 ≡ us ++ n ∷ []
  pushed = changed_around (after_in_channel here) n.value.before_in_channel hs n []
      (ap (λ o. leads_to o n.at) channel.0 ∙ last_past channel_of n.value.row.channel nowhere n.at hs
      (right_fresh hs (n ∷ []) d).0 refl)

  pub linked3 : AreLinked v3
  linked3 = (
    th_kept channel_of (λ x. x.before_in_channel) (λ x. x.after_in_channel) (after_in_session here)
        n.value.before_in_session (λ x. refl) (λ x. refl) (λ x. refl) nowhere v2
        (linked_in channel_of (λ x. x.before_in_channel) (λ x. x.after_in_channel) (after_in_channel here)
        (λ x. record x { before_in_channel = n.value.before_in_channel }) n (λ x. refl) (λ x. refl) (λ x. refl)
        (λ x. refl) (λ x. refl) (λ x. refl) hs linked.0 d channel.0 channel.1),
    subst (λ l. AreThreaded session_of (λ x. x.before_in_session) (λ x. x.after_in_session) nowhere
        (changed (after_in_session here) n.value.before_in_session l)) (sym pushed)
        (linked_in session_of (λ x. x.before_in_session) (λ x. x.after_in_session) (after_in_session here)
        (λ x. record x { before_in_session = n.value.before_in_session }) n (λ x. refl) (λ x. refl) (λ x. refl)
        (λ x. refl) (λ x. refl) (λ x. refl) us
        (th_kept session_of (λ x. x.before_in_session) (λ x. x.after_in_session) (after_in_channel here)
        n.value.before_in_channel (λ x. refl) (λ x. refl) (λ x. refl) nowhere hs linked.1)
        (subst (λ l. IsApart (places l)) pushed (subst IsApart
        (sym (places_changed (after_in_channel here) n.value.before_in_channel v1)) d))
        (session.0 ∙ sym (last_changed session_of (after_in_channel here) (λ x. refl) n.value.row.session
        n.value.before_in_channel nowhere nowhere hs (λ c. refl))) session.1),
  )

-- a block that was taken out, between those that were before it and after it
pub record Out (hs : List (Held LinkedRow)) (p : Ptr) (r : LinkedRow) (left : List (Held LinkedRow)) : Type 0 where
  pub before : List (Held LinkedRow)
  pub here : Held LinkedRow
  pub after : List (Held LinkedRow)
  pub same : r ≡ here.value
  pub rest : left ≡ before ++ after
  pub linked : AreLinked (before ++ here ∷ after)
  pub apart : IsApart (places (before ++ here ∷ after))

pub out : (hs : List (Held LinkedRow)) (p : Ptr) (r : LinkedRow) (left : List (Held LinkedRow)) → Some r ≡ found hs p
    → left ≡ without hs p → AreLinked hs → IsApart (places hs) → Out hs p r left
out hs p r left e f linked apart =
    let cut = cut_at hs p (subst (λ o. IsSome o) e refl) in let n = cut.here in
    let d : IsApart (places (cut.before ++ n ∷ cut.after)) = subst (λ l. IsApart (places l)) cut.cut apart in record {
      before = cut.before;
      here = n;
      after = cut.after;
      same = some_eq r n.value (e ∙ cut.value);
      rest = f ∙ ap (λ l. without l p) cut.cut ∙ ap (λ q. without (cut.before ++ n ∷ cut.after) q) (sym cut.place)
          ∙ without_cut cut.before n cut.after d;
      linked = subst AreLinked cut.cut linked;
      apart = d;
    }
