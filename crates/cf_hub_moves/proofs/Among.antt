-- What is said among asides.
use Rattle.std.proofs.Common.{◌≡◌, ◌⊎◌, inl, inr, ◌≤◌, ℕ, suc, ◌+◌, nat_le, sum_by, Bool, true, false, if◌then◌else◌}
use Rattle.std.proofs.Common.{List, [], ◌∷◌, ◌++◌, drop, take, arith, refl, sym, ap, ◌∙◌, subst}
use Rattle.std.specs.List.{AllZip}
use Rattle.std.specs.Str.{bytes_eq}
use Rattle.std.specs.Cmp.Lexicographic.{bytes_decides}
use Rattle.std.proofs.lemmas.Bool.Decides.{nat_tests}
use Rattle.std.proofs.lemmas.List.Sums.{sum_by-cons}
use Rattle.cf_protocol.specs.Datum.{Placed}
use Rattle.cf_protocol.specs.Note.{Lists, Note, Reading}
use Rattle.cf_protocol.specs.Note as note
use Rattle.cf_protocol.specs.Position.{Position}
use Rattle.cf_queue.specs.OutQueue.{Item, Text, Close}
use Rattle.cf_hub.specs.Alike.{AlikeSub}
use Rattle.cf_hub.specs.AlikeMoves.{Notes, Texts}
use Rattle.cf_hub.specs.InNotes.{SaysNote}
use Rattle.cf_model.specs.Sessions.{Subscription, Wording, closes, closes_now, most_waiting, push, put_sub, says, slow}
use Rattle.cf_model.specs.Sessions.{takes_front}
use Rattle.cf_model.specs.Sessions.{spoken}
use Rattle.cf_hub.specs.Wordings.{Held, item_weight, texts}
use Rattle.cf_hub.proofs.InNotes.{weighs}
use Rattle.cf_hub_moves.specs.Held.{IsHeld}
use Rattle.cf_hub_moves.specs.HubAsides.{IsAside, SaysAmong, SaysSome}

module _ (A : List ℕ → Type 0) (lists : Lists) where
  abbrev pub Says : Texts → Notes → Type 0
  Says a b = SaysAmong A lists a b

  abbrev pub v : Wording (List Position) Note
  v = spoken lists

  -- ---- lists of texts

  some_more : (is : List Item) (ns : List Note) (i : Item) (n : Note) → SaysSome A lists is ns → SaysNote lists i n
      → SaysSome A lists (is ++ i ∷ []) (ns ++ n ∷ [])
  some_more [] [] i n h s = inl (s, tt)
  some_more [] (m ∷ ns) i n h s = absurd h
  some_more (j ∷ is) [] i n h s = inr (h.0, some_more is [] i n h.1 s)
  some_more (j ∷ is) (m ∷ ns) i n (inl h) s = inl (h.0, some_more is ns i n h.1 s)
  some_more (j ∷ is) (m ∷ ns) i n (inr h) s = inr (h.0, some_more is (m ∷ ns) i n h.1 s)

  aside_more : (is : List Item) (ns : List Note) (i : Item) → SaysSome A lists is ns → IsAside A i
      → SaysSome A lists (is ++ i ∷ []) ns
  aside_more [] [] i h s = (s, tt)
  aside_more [] (m ∷ ns) i h s = absurd h
  aside_more (j ∷ is) [] i h s = (h.0, aside_more is [] i h.1 s)
  aside_more (j ∷ is) (m ∷ ns) i (inl h) s = inl (h.0, aside_more is ns i h.1 s)
  aside_more (j ∷ is) (m ∷ ns) i (inr h) s = inr (h.0, aside_more is (m ∷ ns) i h.1 s)

  -- the notes weigh no more
  lighter : (is : List Item) (ns : List Note) → SaysSome A lists is ns → sum_by v.weight ns ≤ sum_by item_weight is
  lighter [] [] h = omega arith
  lighter [] (m ∷ ns) h = absurd h
  lighter (i ∷ is) [] h = let e = sum_by-cons item_weight i is in let k = lighter is [] h.1 in omega (arith, e, k)
  lighter (i ∷ is) (m ∷ ns) (inl h) =
      let e = sum_by-cons item_weight i is in
      let f = sum_by-cons v.weight m ns in
      let w : item_weight i ≡ v.weight m = weighs lists i m h.0 in
      let k = lighter is ns h.1 in omega (arith, e, f, w, k)
  lighter (i ∷ is) (m ∷ ns) (inr h) = let e = sum_by-cons item_weight i is in let k = lighter is (m ∷ ns) h.1 in
      omega (arith, e, k)

  -- ---- sessions

  pub put_among : (c : List ℕ) (s : Subscription Held) (t : Subscription (List Position)) (a : Texts) (b : Notes)
      → AlikeSub (IsHeld lists c) s t → Says a b → Says (put_sub c s a) (put_sub c t b)
  put_among c s t a b e h =
      record { subs = λ d. by_value d (bytes_eq d c) ((bytes_decides d c).0); notes = h.notes; closed = h.closed }
    where
      by_value : (d : List ℕ) (x : Bool) → (x ≡ true → d ≡ c)
          → AlikeSub (IsHeld lists d) (if x then s else a.subs d) (if x then t else b.subs d)
      by_value d true is = subst (λ (z : List ℕ). AlikeSub (IsHeld lists z) s t) (sym (is refl)) e
      by_value d false is = h.subs d

  -- closed with one code
  pub closes_among : (code : ℕ) (a : Texts) (b : Notes) → SaysSome A lists a.notes b.notes
      → Says (closes (Close code) a) (closes (note.Close code) b)
  closes_among code a b h =
      record { subs = λ d. tt; notes = some_more a.notes b.notes (Close code) (note.Close code) h refl; closed = refl }

  pub closes_now_among : (code : ℕ) (a : Texts) (b : Notes) → Says a b
      → Says (closes_now (Close code) a) (closes_now (note.Close code) b)
  closes_now_among code a b h = by_closed a.closed b.closed h.closed
    where
      by_closed : (t u : Bool) → t ≡ u → Says (if t then a else closes (Close code) a)
          (if u then b else closes (note.Close code) b)
      by_closed true true e = h
      by_closed false false e = closes_among code a b h.notes
      by_closed true false e = absurd (cc)
      by_closed false true e = absurd (cc)

  pub takes_among : (a : Texts) (b : Notes) → Says a b → Says (takes_front a) (takes_front b) ⊎ Says (takes_front a) b
  takes_among a b h = by_notes a.notes b.notes refl refl h.notes
    where
      with_notes : (is : List Item) (ns : List Note) → SaysSome A lists is ns
          → Says (record a { notes = is }) (record b { notes = ns })
      with_notes is ns k = record { subs = h.subs; notes = k; closed = h.closed }

      same : (ns : List Note) → b.notes ≡ ns → record b { notes = ns } ≡ b
      same ns e i = record b { notes = sym e i }

      by_notes : (is : List Item) (ns : List Note) → a.notes ≡ is → b.notes ≡ ns → SaysSome A lists is ns
          → Says (record a { notes = drop 1 a.notes }) (record b { notes = drop 1 b.notes })
          ⊎ Says (record a { notes = drop 1 a.notes }) b
      by_notes [] [] e f k =
          inl (subst (λ z. Says (record a { notes = drop 1 z }) (record b { notes = drop 1 b.notes })) (sym e)
          (subst (λ z. Says (record a { notes = [] }) (record b { notes = drop 1 z })) (sym f) (with_notes [] [] tt)))
      by_notes [] (n ∷ ns) e f k = absurd k
      by_notes (i ∷ is) [] e f k =
          inr (subst (λ z. Says (record a { notes = drop 1 z }) b) (sym e)
          (subst (Says (record a { notes = is })) (same [] f) (with_notes is [] k.1)))
      by_notes (i ∷ is) (n ∷ ns) e f (inl k) =
          inl (subst (λ z. Says (record a { notes = drop 1 z }) (record b { notes = drop 1 b.notes })) (sym e)
          (subst (λ z. Says (record a { notes = is }) (record b { notes = drop 1 z })) (sym f)
          (with_notes is ns k.1)))
      by_notes (i ∷ is) (n ∷ ns) e f (inr k) =
          inr (subst (λ z. Says (record a { notes = drop 1 z }) b) (sym e)
          (subst (Says (record a { notes = is })) (same (n ∷ ns) f) (with_notes is (n ∷ ns) k.1)))

  -- ---- a text is said: its note is; or there is no room for the text, and both are closed as too slow

  pub record IsSlow (new : Texts) (b : Notes) : Type 0 where
    pub open_before : b.closed ≡ false
    pub closed : new.closed ≡ true
    pub says : Says new (closes (note.Close slow) b)

  fits_too : (i m j n : ℕ) → m ≤ i → n ≤ j → nat_le (i + j) most_waiting ≡ true → nat_le (m + n) most_waiting ≡ true
  fits_too i m j n h k e = grind (arith, nat_tests)

  push_by : (i : Item) (n : Note) (a : Texts) (b : Notes) → SaysNote lists i n → Says a b → (t u x y : Bool)
      → a.closed ≡ t → t ≡ u → b.closed ≡ u → (x ≡ true → y ≡ true)
      → Says (if t then a else if x then record a { notes = a.notes ++ i ∷ [] } else closes (Close slow) a)
      (if u then b else if y then record b { notes = b.notes ++ n ∷ [] } else closes (note.Close slow) b)
      ⊎ IsSlow (if t then a else if x then record a { notes = a.notes ++ i ∷ [] } else closes (Close slow) a) b
  push_by i n a b s h true true x y p q r f = inl h
  push_by i n a b s h true false x y p q r f = absurd (cc)
  push_by i n a b s h false true x y p q r f = absurd (cc)
  push_by i n a b s h false false true true p q r f =
      inl (record { subs = h.subs; notes = some_more a.notes b.notes i n h.notes s; closed = h.closed })
  push_by i n a b s h false false true false p q r f = absurd (let g : false ≡ true = f refl in cc)
  push_by i n a b s h false false false y p q r f =
      inr (record { open_before = r; closed = refl; says = closes_among slow a b h.notes })

  module _ (p : Placed) (missed run : List Placed) where
    abbrev w : Wording Held Item
    w = texts p missed run

    pub push_among : (i : Item) (n : Note) (a : Texts) (b : Notes) → SaysNote lists i n → Says a b
        → Says (push w i a) (push v n b) ⊎ IsSlow (push w i a) b
    push_among i n a b s h =
        push_by i n a b s h a.closed b.closed (nat_le (sum_by item_weight a.notes + item_weight i) most_waiting)
        (nat_le (sum_by v.weight b.notes + v.weight n) most_waiting)
        refl h.closed refl
        (fits_too (sum_by item_weight a.notes) (sum_by v.weight b.notes) (item_weight i) (v.weight n)
        (lighter a.notes b.notes h.notes) (let e : item_weight i
        ≡ v.weight n = weighs lists i n s in omega (arith, e)))

    pub aside_among : (t : List ℕ) (a : Texts) (b : Notes) → A t → Says a b → Says (push w (Text t) a) b
        ⊎ IsSlow (push w (Text t) a) b
    aside_among t a b s h =
        by_closed a.closed (nat_le (sum_by item_weight a.notes + item_weight (Text t)) most_waiting) refl
      where
        by_closed : (x y : Bool) → a.closed ≡ x
            → Says (if x then a else if y then record a { notes = a.notes ++ Text t ∷ [] } else closes (Close slow) a) b
            ⊎ IsSlow (if x then a else if y then record a { notes = a.notes ++ Text t ∷ [] } else closes (Close slow) a)
            b
        by_closed true y e = inl h
        by_closed false true e =
            inl (record { subs = h.subs; notes = aside_more a.notes b.notes (Text t) h.notes s; closed = h.closed })
        by_closed false false e =
            inr (record { open_before = sym h.closed ∙ e; closed = refl; says = closes_among slow a b h.notes })

    -- these, one after another: their notes are said; or after some of them there is no room
    pub record IsCut (new : Texts) (ms : List Note) (b : Notes) : Type 0 where
      pub count : ℕ
      pub open_before : b.closed ≡ false
      pub open_then : (says v (take count ms) b).closed ≡ false
      pub closed : new.closed ≡ true
      pub says_so : Says new (closes (note.Close slow) (says v (take count ms) b))

    says_closed : (is : List Item) (a : Texts) → a.closed ≡ true → says w is a ≡ a
    says_closed [] a e = refl
    says_closed (i ∷ is) a e =
        ap (says w is) (ap (λ (t : Bool). if t then a
        else if nat_le (sum_by item_weight a.notes + item_weight i) most_waiting then record a
        { notes = a.notes ++ i ∷ [] } else closes (Close slow) a) e)
        ∙ says_closed is a e

    was_open : (n : Note) (b : Notes) → (push v n b).closed ≡ false → b.closed ≡ false
    was_open n b h = by_closed b.closed refl
      where
        by_closed : (t : Bool) → b.closed ≡ t → t ≡ false
        by_closed false e = refl
        by_closed true e =
            absurd (let f : true ≡ false = sym (ap (λ (x : Bool).
            (if x then b else if nat_le (sum_by v.weight b.notes + v.weight n) most_waiting then record b
            { notes = b.notes ++ n ∷ [] } else closes (note.Close slow) b).closed) e ∙ e) ∙ h in cc)

    pub says_among : (is : List Item) (ms : List Note) (a : Texts) (b : Notes) → AllZip (SaysNote lists) is ms
        → Says a b → Says (says w is a) (says v ms b) ⊎ IsCut (says w is a) ms b
    says_among [] [] a b z h = inl h
    says_among [] (m ∷ ms) a b z h = absurd z
    says_among (i ∷ is) [] a b z h = absurd z
    says_among (i ∷ is) (m ∷ ms) a b z h =
        elim (push_among i m a b z.0 h) [
          | inl k ↦ elim (says_among is ms (push w i a) (push v m b) z.1 k) [
            | inl l ↦ inl l
            | inr l ↦ inr (record {
              count = suc l.count;
              open_before = was_open m b l.open_before;
              open_then = l.open_then;
              closed = l.closed;
              says_so = l.says_so;
            })
          ]
          | inr k ↦
              let same : says w is (push w i a) ≡ push w i a = says_closed is (push w i a) k.closed in
              inr (record {
                count = 0;
                open_before = k.open_before;
                open_then = k.open_before;
                closed = ap (λ (x : Texts). x.closed) same ∙ k.closed;
                says_so = subst (λ x. Says x (closes (note.Close slow) b)) (sym same) k.says;
              })
        ]
