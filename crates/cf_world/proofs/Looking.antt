-- What is asked of a session that says another one is answered as of that one.
use Rattle.std.proofs.Common.{◌≡◌, ℕ, not, true, Option, Some, None, List, [], ◌∷◌, refl, sym, ap, ◌∙◌, subst}
use Rattle.std.proofs.Common.{slice_get}
use Rattle.std.specs.List.{AllZip}
use Rattle.std.proofs.lemmas.Option.{same_Some}
use Rattle.cf_protocol.specs.Note.{Lists, Note}
use Rattle.cf_protocol.specs.Note as note
use Rattle.cf_protocol.specs.Position.{Position}
use Rattle.cf_queue.specs.OutQueue.{Item, Text, Close}
use Rattle.cf_hub.specs.Alike.{AlikeSub}
use Rattle.cf_hub.specs.Asking.{asked_of}
use Rattle.cf_hub.specs.Hub.{is_open}
use Rattle.cf_hub.specs.InNotes.{IsKept, IsSaid, SaysAt, SaysNote, SaysSession}
use Rattle.cf_hub.specs.Rows.{sub_in}
use Rattle.cf_hub.specs.Session.{Attached}
use Rattle.cf_model.specs.Sessions.{Subscription, Off, Asked, Ready, On, is_asked, is_off, is_ready, is_unfinished}
use Rattle.cf_hub.specs.declared.asking.UnreadSubscription.{UnreadSubscription as Answer}
use Rattle.cf_hub.specs.Wordings.{Held}
use Rattle.cf_machine.specs.Session.{Session, Sub}
use Rattle.cf_world.specs.HubCalls.{front}

pub off_is : (s : Sub) → is_off s ≡ true → s ≡ Off
off_is Off h = refl
off_is (Asked id since k) h = absurd (cc)
off_is (Ready id was x k) h = absurd (cc)
off_is (On p behind_at) h = absurd (cc)

module _ (lists : Lists) (c : List ℕ) where
  off_same : (s : Subscription Held) (s' : Sub) → AlikeSub (IsKept lists c) s s' → is_off s ≡ is_off s'
  off_same Off Off e = refl
  off_same (Asked id since k) (Asked id' since' k') e = refl
  off_same (Ready id was x k) (Ready id' was' x' k') e = refl
  off_same (On p behind_at) (On p' behind_at') e = refl
  off_same Off (Asked id' since' k') e = absurd e
  off_same Off (Ready id' was' x' k') e = absurd e
  off_same Off (On p' behind_at') e = absurd e
  off_same (Asked id since k) Off e = absurd e
  off_same (Asked id since k) (Ready id' was' x' k') e = absurd e
  off_same (Asked id since k) (On p' behind_at') e = absurd e
  off_same (Ready id was x k) Off e = absurd e
  off_same (Ready id was x k) (Asked id' since' k') e = absurd e
  off_same (Ready id was x k) (On p' behind_at') e = absurd e
  off_same (On p behind_at) Off e = absurd e
  off_same (On p behind_at) (Asked id' since' k') e = absurd e
  off_same (On p behind_at) (Ready id' was' x' k') e = absurd e

  asked_same : (s : Subscription Held) (s' : Sub) → AlikeSub (IsKept lists c) s s' → is_asked s ≡ is_asked s'
  asked_same Off Off e = refl
  asked_same (Asked id since k) (Asked id' since' k') e = refl
  asked_same (Ready id was x k) (Ready id' was' x' k') e = refl
  asked_same (On p behind_at) (On p' behind_at') e = refl
  asked_same Off (Asked id' since' k') e = absurd e
  asked_same Off (Ready id' was' x' k') e = absurd e
  asked_same Off (On p' behind_at') e = absurd e
  asked_same (Asked id since k) Off e = absurd e
  asked_same (Asked id since k) (Ready id' was' x' k') e = absurd e
  asked_same (Asked id since k) (On p' behind_at') e = absurd e
  asked_same (Ready id was x k) Off e = absurd e
  asked_same (Ready id was x k) (Asked id' since' k') e = absurd e
  asked_same (Ready id was x k) (On p' behind_at') e = absurd e
  asked_same (On p behind_at) Off e = absurd e
  asked_same (On p behind_at) (Asked id' since' k') e = absurd e
  asked_same (On p behind_at) (Ready id' was' x' k') e = absurd e

  ready_same : (s : Subscription Held) (s' : Sub) → AlikeSub (IsKept lists c) s s' → is_ready s ≡ is_ready s'
  ready_same Off Off e = refl
  ready_same (Asked id since k) (Asked id' since' k') e = refl
  ready_same (Ready id was x k) (Ready id' was' x' k') e = refl
  ready_same (On p behind_at) (On p' behind_at') e = refl
  ready_same Off (Asked id' since' k') e = absurd e
  ready_same Off (Ready id' was' x' k') e = absurd e
  ready_same Off (On p' behind_at') e = absurd e
  ready_same (Asked id since k) Off e = absurd e
  ready_same (Asked id since k) (Ready id' was' x' k') e = absurd e
  ready_same (Asked id since k) (On p' behind_at') e = absurd e
  ready_same (Ready id was x k) Off e = absurd e
  ready_same (Ready id was x k) (Asked id' since' k') e = absurd e
  ready_same (Ready id was x k) (On p' behind_at') e = absurd e
  ready_same (On p behind_at) Off e = absurd e
  ready_same (On p behind_at) (Asked id' since' k') e = absurd e
  ready_same (On p behind_at) (Ready id' was' x' k') e = absurd e

  waits_same : (s : Subscription Held) (s' : Sub) → AlikeSub (IsKept lists c) s s' → is_unfinished s ≡ is_unfinished s'
  waits_same Off Off e = refl
  waits_same (Asked id since k) (Asked id' since' k') e = refl
  waits_same (Ready id was x k) (Ready id' was' x' k') e = refl
  waits_same (On p behind_at) (On p' behind_at') e = refl
  waits_same Off (Asked id' since' k') e = absurd e
  waits_same Off (Ready id' was' x' k') e = absurd e
  waits_same Off (On p' behind_at') e = absurd e
  waits_same (Asked id since k) Off e = absurd e
  waits_same (Asked id since k) (Ready id' was' x' k') e = absurd e
  waits_same (Asked id since k) (On p' behind_at') e = absurd e
  waits_same (Ready id was x k) Off e = absurd e
  waits_same (Ready id was x k) (Asked id' since' k') e = absurd e
  waits_same (Ready id was x k) (On p' behind_at') e = absurd e
  waits_same (On p behind_at) Off e = absurd e
  waits_same (On p behind_at) (Asked id' since' k') e = absurd e
  waits_same (On p behind_at) (Ready id' was' x' k') e = absurd e

  abbrev answer : Option Position → Answer
  answer o = record { since = o }

  asks_same : (s : Subscription Held) (s' : Sub) → AlikeSub (IsKept lists c) s s' → asked_of s ≡ asked_of s'
  asks_same Off Off e = refl
  asks_same (Asked id since k) (Asked id' since' k') e = ap (λ (o : Option Position). Some (answer o)) e.1
  asks_same (Ready id was x k) (Ready id' was' x' k') e = refl
  asks_same (On p behind_at) (On p' behind_at') e = refl
  asks_same Off (Asked id' since' k') e = absurd e
  asks_same Off (Ready id' was' x' k') e = absurd e
  asks_same Off (On p' behind_at') e = absurd e
  asks_same (Asked id since k) Off e = absurd e
  asks_same (Asked id since k) (Ready id' was' x' k') e = absurd e
  asks_same (Asked id since k) (On p' behind_at') e = absurd e
  asks_same (Ready id was x k) Off e = absurd e
  asks_same (Ready id was x k) (Asked id' since' k') e = absurd e
  asks_same (Ready id was x k) (On p' behind_at') e = absurd e
  asks_same (On p behind_at) Off e = absurd e
  asks_same (On p behind_at) (Asked id' since' k') e = absurd e
  asks_same (On p behind_at) (Ready id' was' x' k') e = absurd e

-- ---- the session of a number, which is there

module _ (lists : Lists) where
  there : {X : Type 0} (f : Subscription Held → X) (g : Sub → X)
      → ((c : List ℕ) (s : Subscription Held) (s' : Sub) → AlikeSub (IsKept lists c) s s' → f s ≡ g s')
      → (o : Option Attached) (b : Session) → SaysAt lists o b → (c : List ℕ) → f (sub_in o c) ≡ g (b.subs c)
  there f g same None b h c = absurd h
  there f g same (Some a) b h c = same c (a.state.subs c) (b.subs c) (h.subs c)

  module _ (o : Option Attached) (b : Session) (h : SaysAt lists o b) where
    pub off_at : (c : List ℕ) → is_off (sub_in o c) ≡ is_off (b.subs c)
    off_at = there is_off is_off (off_same lists) o b h

    pub asked_at : (c : List ℕ) → is_asked (sub_in o c) ≡ is_asked (b.subs c)
    asked_at = there is_asked is_asked (asked_same lists) o b h

    pub ready_at : (c : List ℕ) → is_ready (sub_in o c) ≡ is_ready (b.subs c)
    ready_at = there is_ready is_ready (ready_same lists) o b h

    pub waits_at : (c : List ℕ) → is_unfinished (sub_in o c) ≡ is_unfinished (b.subs c)
    waits_at = there is_unfinished is_unfinished (waits_same lists) o b h

    pub asks_at : (c : List ℕ) → asked_of (sub_in o c) ≡ asked_of (b.subs c)
    asks_at = there asked_of asked_of (asks_same lists) o b h

  -- it is there
  pub attached : (o : Option Attached) (b : Session) → SaysAt lists o b → (a : Attached) × (o ≡ Some a)
      × SaysSession lists a.state b
  attached None b h = absurd h
  attached (Some a) b h = (a, refl, h)

  -- ---- what waits for the client

  -- nothing does, or a text that says the front note, or the close
  pub record TextFront (t : List ℕ) (ns : List Note) : Type 0 where
    pub note : Note
    pub rest : List Note
    pub is : ns ≡ note ∷ rest
    pub said : IsSaid lists t note

  no_front : (is : List Item) (ns : List Note) → AllZip (SaysNote lists) is ns → None ≡ slice_get is 0 → ns ≡ []
  no_front [] [] h e = refl
  no_front [] (n ∷ ns) h e = absurd h
  no_front (i ∷ is) ns h e = absurd (cc)

  front_says : (i : Item) (is : List Item) (ns : List Note) → AllZip (SaysNote lists) is ns → Some i ≡ slice_get is 0
      → (n : Note) × (rest : List Note) × (ns ≡ n ∷ rest) × SaysNote lists i n
  front_says i [] ns h e = absurd (cc)
  front_says i (j ∷ is) [] h e = absurd h
  front_says i (j ∷ is) (n ∷ ns) h e =
      (n, ns, refl, subst (λ (z : Item). SaysNote lists z n) (sym (same_Some i j e)) h.0)

  pub none_waits : (o : Option Attached) (b : Session) → SaysAt lists o b → None ≡ front o → b.notes ≡ []
  none_waits None b h e = absurd h
  none_waits (Some a) b h e = no_front a.state.notes b.notes h.notes e

  pub text_waits : (o : Option Attached) (b : Session) (t : List ℕ) → SaysAt lists o b → Some (Text t) ≡ front o
      → TextFront t b.notes
  text_waits None b t h e = absurd h
  text_waits (Some a) b t h e =
      let f = front_says (Text t) a.state.notes b.notes h.notes e in
      record { note = f.0; rest = f.1; is = f.2; said = f.3 }

  pub close_waits : (o : Option Attached) (b : Session) (code : ℕ) → SaysAt lists o b → Some (Close code) ≡ front o
      → (rest : List Note) × (b.notes ≡ note.Close code ∷ rest)
  close_waits None b code h e = absurd h
  close_waits (Some a) b code h e =
      let f = front_says (Close code) a.state.notes b.notes h.notes e in
      (f.1, f.2 ∙ ap (λ (n : Note). n ∷ f.1) f.3)

  pub open_at : (o : Option Attached) (b : Session) → SaysAt lists o b → is_open o ≡ not b.closed
  open_at None b h = absurd h
  open_at (Some a) b h = ap not h.closed
