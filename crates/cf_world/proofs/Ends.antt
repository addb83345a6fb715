-- A move of a session may end subscriptions, and begins none; and a session that is closed has none.
use Rattle.std.proofs.Common.{◌≡◌, ℕ, ◌+◌, Bool, true, false, if◌then◌else◌, Option, Some, None, List, [], ◌∷◌, ◌++◌}
use Rattle.std.proofs.Common.{is_some, refl, sym, ap, ◌∙◌, subst}
use Rattle.std.specs.Prelude.{nat_le, sum_by}
use Rattle.std.specs.Cmp.Lexicographic.{bytes_decides}
use Rattle.std.specs.Str.{bytes_eq}
use Rattle.cf_protocol.specs.Note.{Note, Reading}
use Rattle.cf_protocol.specs.Position.{Position}
use Rattle.cf_model.specs.Recovery.{Verdict, Drop, Pass, Insufficient, verdict}
use Rattle.cf_model.specs.Recovery.{Checked, Fine, Behind, Ended, position_check}
use Rattle.cf_model.specs.Sessions.{Off, Asked, Ready, On, by_check, by_verdict, check_at, checks, closes}
use Rattle.cf_model.specs.Sessions.{closes_now, come_at, comes, finish_at, finish_notes, finished, finishes, is_off}
use Rattle.cf_model.specs.Sessions.{leaves, most_waiting, push, put_sub, read_at, reads, says, slow, takes_front}
use Rattle.cf_machine.specs.Session.{Session, Sub, Words}
use Rattle.cf_world.specs.NodesTie.{IsShutOff}

abbrev pub OnlyEnds : (Session → Session) → Type 0
OnlyEnds g = (b : Session) (c : List ℕ) → is_off ((g b).subs c) ≡ false → is_off (b.subs c) ≡ false

put_ends : (d : List ℕ) (v : Sub) (b : Session) → (is_off v ≡ false → is_off (b.subs d) ≡ false) → (c : List ℕ)
    → is_off ((put_sub d v b).subs c) ≡ false → is_off (b.subs c) ≡ false
put_ends d v b h c = by_value (bytes_eq c d) ((bytes_decides c d).0)
  where
    by_value : (t : Bool) → (t ≡ true → c ≡ d) → is_off (if t then v else b.subs c) ≡ false → is_off (b.subs c) ≡ false
    by_value true is e = subst (λ (x : List ℕ). is_off (b.subs x) ≡ false) (sym (is refl)) (h e)
    by_value false is e = e

module _ (w : Words) where
  push_by : (shut fits : Bool) (n : Note) (b : Session) (c : List ℕ)
      → is_off ((if shut then b else if fits then record b { notes = b.notes ++ n ∷ [] }
      else closes (w.close slow) b).subs c) ≡ false → is_off (b.subs c) ≡ false
  push_by true fits n b c e = e
  push_by false true n b c e = e
  push_by false false n b c e = absurd (cc)

  pub push_ends : (n : Note) → OnlyEnds (push w n)
  push_ends n b c e = push_by b.closed (nat_le (sum_by w.weight b.notes + w.weight n) most_waiting) n b c e

  says_ends : (ns : List Note) → OnlyEnds (says w ns)
  says_ends [] b c e = e
  says_ends (n ∷ ns) b c e = push_ends n b c (says_ends ns (push w n b) c e)

  read_ends : (d : List ℕ) (r : Reading) (s : Sub) (b : Session) → b.subs d ≡ s → (c : List ℕ)
      → is_off ((read_at w d r s b).subs c) ≡ false → is_off (b.subs c) ≡ false
  read_ends d r Off b h c e = e
  read_ends d r (Asked id since k) b h c e =
      put_ends d (Ready id (is_some since) r (w.with_read k)) b (λ x. ap is_off h) c e
  read_ends d r (Ready id was x k) b h c e = e
  read_ends d r (On p behind_at) b h c e = e

  pub reads_ends : (d : List ℕ) (r : Reading) → OnlyEnds (reads w d r)
  reads_ends d r b c e = read_ends d r (b.subs d) b refl c e

  verdict_ends : (d : List ℕ) (q : Position) (behind_at : Option ℕ) (x : Verdict) (b : Session)
      → is_off (b.subs d) ≡ false
      → (c : List ℕ) → is_off ((by_verdict w d q behind_at x b).subs c) ≡ false → is_off (b.subs c) ≡ false
  verdict_ends d q behind_at Drop b h c e = e
  verdict_ends d q behind_at Pass b h c e =
      put_ends d (On q behind_at) b (λ x. h) c (push_ends (w.place d q) (put_sub d (On q behind_at) b) c e)
  verdict_ends d q behind_at Insufficient b h c e =
      put_ends d Off b (λ x. h) c (push_ends (w.end d) (put_sub d Off b) c e)

  come_ends : (d : List ℕ) (q : Position) (s : Sub) (b : Session) → b.subs d ≡ s → (c : List ℕ)
      → is_off ((come_at w d q s b).subs c) ≡ false → is_off (b.subs c) ≡ false
  come_ends d q Off b h c e = e
  come_ends d q (Asked id since k) b h c e = put_ends d (Asked id since (w.with_one q k)) b (λ x. ap is_off h) c e
  come_ends d q (Ready id was r k) b h c e = put_ends d (Ready id was r (w.with_one q k)) b (λ x. ap is_off h) c e
  come_ends d q (On p behind_at) b h c e = verdict_ends d q behind_at (verdict p q) b (ap is_off h) c e

  pub comes_ends : (d : List ℕ) (q : Position) → OnlyEnds (comes w d q)
  comes_ends d q b c e = come_ends d q (b.subs d) b refl c e

  finish_ends : (d : List ℕ) (s : Sub) (b : Session) → b.subs d ≡ s → (c : List ℕ)
      → is_off ((finish_at w d s b).subs c) ≡ false → is_off (b.subs c) ≡ false
  finish_ends d Off b h c e = e
  finish_ends d (Asked id since k) b h c e = e
  finish_ends d (Ready id was r k) b h c e =
      put_ends d (finished w r k) b (λ x. ap is_off h) c
      (says_ends (finish_notes w d id was r k) (put_sub d (finished w r k) b) c e)
  finish_ends d (On p behind_at) b h c e = e

  pub finishes_ends : (d : List ℕ) → OnlyEnds (finishes w d)
  finishes_ends d b c e = finish_ends d (b.subs d) b refl c e

  by_check_ends : (d : List ℕ) (p : Position) (x : Checked) (b : Session) → is_off (b.subs d) ≡ false → (c : List ℕ)
      → is_off ((by_check w d p x b).subs c) ≡ false → is_off (b.subs c) ≡ false
  by_check_ends d p Fine b h c e = put_ends d (On p None) b (λ x. h) c e
  by_check_ends d p Behind b h c e = put_ends d (On p (Some p.offset)) b (λ x. h) c e
  by_check_ends d p Ended b h c e = put_ends d Off b (λ x. h) c (push_ends (w.end d) (put_sub d Off b) c e)

  check_ends : (d : List ℕ) (top : Option Position) (s : Sub) (b : Session) → b.subs d ≡ s → (c : List ℕ)
      → is_off ((check_at w d top s b).subs c) ≡ false → is_off (b.subs c) ≡ false
  check_ends d top Off b h c e = e
  check_ends d top (Asked id since k) b h c e = e
  check_ends d top (Ready id was r k) b h c e = e
  check_ends d top (On p behind_at) b h c e = by_check_ends d p (position_check top p behind_at) b (ap is_off h) c e

  pub checks_ends : (d : List ℕ) (top : Option Position) → OnlyEnds (checks w d top)
  checks_ends d top b c e = check_ends d top (b.subs d) b refl c e

pub leaves_ends : (d : List ℕ) → OnlyEnds (leaves d)
leaves_ends d b c e = put_ends d Off b (λ x. absurd (cc)) c e

pub closes_ends : (n : Note) → OnlyEnds (closes_now n)
closes_ends n b c e = by_value b.closed e
  where
    by_value : (t : Bool) → is_off ((if t then b else closes n b).subs c) ≡ false → is_off (b.subs c) ≡ false
    by_value true h = h
    by_value false h = absurd (cc)

pub takes_ends : OnlyEnds takes_front
takes_ends b c e = e

-- ---- a session that is closed has no subscription

shut_by : (b b' : Session) → (b'.closed ≡ true → b.closed ≡ true)
    → ((c : List ℕ) → is_off (b'.subs c) ≡ false → is_off (b.subs c) ≡ false) → IsShutOff b → IsShutOff b'
shut_by b b' closed ends h e c = by_value (is_off (b'.subs c)) refl
  where
    by_value : (t : Bool) → is_off (b'.subs c) ≡ t → t ≡ true
    by_value true f = refl
    by_value false f = absurd (let no : true ≡ false = sym (h (closed e) c) ∙ ends c f in cc)

put_shut : (d : List ℕ) (v : Sub) (b : Session) → (is_off v ≡ false → is_off (b.subs d) ≡ false) → IsShutOff b
    → IsShutOff (put_sub d v b)
put_shut d v b e h = shut_by b (put_sub d v b) (λ f. f) (put_ends d v b e) h

module _ (w : Words) where
  push_shut_by : (shut fits : Bool) (n : Note) (b : Session) → IsShutOff b
      → IsShutOff (if shut then b else if fits then record b { notes = b.notes ++ n ∷ [] } else closes (w.close slow) b)
  push_shut_by true fits n b h = h
  push_shut_by false true n b h = h
  push_shut_by false false n b h = λ e c. refl

  push_shut : (n : Note) (b : Session) → IsShutOff b → IsShutOff (push w n b)
  push_shut n b h = push_shut_by b.closed (nat_le (sum_by w.weight b.notes + w.weight n) most_waiting) n b h

  says_shut : (ns : List Note) (b : Session) → IsShutOff b → IsShutOff (says w ns b)
  says_shut [] b h = h
  says_shut (n ∷ ns) b h = says_shut ns (push w n b) (push_shut n b h)

  read_shut : (d : List ℕ) (r : Reading) (s : Sub) (b : Session) → b.subs d ≡ s → IsShutOff b
      → IsShutOff (read_at w d r s b)
  read_shut d r Off b e h = h
  read_shut d r (Asked id since k) b e h =
      put_shut d (Ready id (is_some since) r (w.with_read k)) b (λ x. ap is_off e) h
  read_shut d r (Ready id was x k) b e h = h
  read_shut d r (On p behind_at) b e h = h

  verdict_shut : (d : List ℕ) (q : Position) (behind_at : Option ℕ) (x : Verdict) (b : Session)
      → is_off (b.subs d) ≡ false
      → IsShutOff b → IsShutOff (by_verdict w d q behind_at x b)
  verdict_shut d q behind_at Drop b e h = h
  verdict_shut d q behind_at Pass b e h =
      push_shut (w.place d q) (put_sub d (On q behind_at) b) (put_shut d (On q behind_at) b (λ x. e) h)
  verdict_shut d q behind_at Insufficient b e h = push_shut (w.end d) (put_sub d Off b) (put_shut d Off b (λ x. e) h)

  come_shut : (d : List ℕ) (q : Position) (s : Sub) (b : Session) → b.subs d ≡ s → IsShutOff b
      → IsShutOff (come_at w d q s b)
  come_shut d q Off b e h = h
  come_shut d q (Asked id since k) b e h = put_shut d (Asked id since (w.with_one q k)) b (λ x. ap is_off e) h
  come_shut d q (Ready id was r k) b e h = put_shut d (Ready id was r (w.with_one q k)) b (λ x. ap is_off e) h
  come_shut d q (On p behind_at) b e h = verdict_shut d q behind_at (verdict p q) b (ap is_off e) h

  finish_shut : (d : List ℕ) (s : Sub) (b : Session) → b.subs d ≡ s → IsShutOff b → IsShutOff (finish_at w d s b)
  finish_shut d Off b e h = h
  finish_shut d (Asked id since k) b e h = h
  finish_shut d (Ready id was r k) b e h =
      says_shut (finish_notes w d id was r k) (put_sub d (finished w r k) b)
      (put_shut d (finished w r k) b (λ x. ap is_off e) h)
  finish_shut d (On p behind_at) b e h = h

  by_check_shut : (d : List ℕ) (p : Position) (x : Checked) (b : Session) → is_off (b.subs d) ≡ false → IsShutOff b
      → IsShutOff (by_check w d p x b)
  by_check_shut d p Fine b e h = put_shut d (On p None) b (λ x. e) h
  by_check_shut d p Behind b e h = put_shut d (On p (Some p.offset)) b (λ x. e) h
  by_check_shut d p Ended b e h = push_shut (w.end d) (put_sub d Off b) (put_shut d Off b (λ x. e) h)

  check_shut : (d : List ℕ) (top : Option Position) (s : Sub) (b : Session) → b.subs d ≡ s → IsShutOff b
      → IsShutOff (check_at w d top s b)
  check_shut d top Off b e h = h
  check_shut d top (Asked id since k) b e h = h
  check_shut d top (Ready id was r k) b e h = h
  check_shut d top (On p behind_at) b e h = by_check_shut d p (position_check top p behind_at) b (ap is_off e) h

-- ---- both

pub record Keeps (g : Session → Session) : Type 0 where
  pub ends : OnlyEnds g
  pub shut : (b : Session) → IsShutOff b → IsShutOff (g b)

module _ (w : Words) where
  pub push_keeps : (n : Note) → Keeps (push w n)
  push_keeps n = record { ends = push_ends w n; shut = push_shut w n }

  pub reads_keeps : (d : List ℕ) (r : Reading) → Keeps (reads w d r)
  reads_keeps d r = record { ends = reads_ends w d r; shut = λ b h. read_shut w d r (b.subs d) b refl h }

  pub comes_keeps : (d : List ℕ) (q : Position) → Keeps (comes w d q)
  comes_keeps d q = record { ends = comes_ends w d q; shut = λ b h. come_shut w d q (b.subs d) b refl h }

  pub finishes_keeps : (d : List ℕ) → Keeps (finishes w d)
  finishes_keeps d = record { ends = finishes_ends w d; shut = λ b h. finish_shut w d (b.subs d) b refl h }

  pub checks_keeps : (d : List ℕ) (top : Option Position) → Keeps (checks w d top)
  checks_keeps d top = record { ends = checks_ends w d top; shut = λ b h. check_shut w d top (b.subs d) b refl h }

pub leaves_keeps : (d : List ℕ) → Keeps (leaves d)
leaves_keeps d = record { ends = leaves_ends d; shut = λ b h. put_shut d Off b (λ x. absurd (cc)) h }

pub closes_keeps : (n : Note) → Keeps (closes_now n)
closes_keeps n = record { ends = closes_ends n; shut = λ b h. by_value b.closed b h }
  where
    by_value : (t : Bool) (b : Session) → IsShutOff b → IsShutOff (if t then b else closes n b)
    by_value true b h = h
    by_value false b h = λ e c. refl

pub takes_keeps : Keeps takes_front
takes_keeps = record { ends = takes_ends; shut = λ b h. h }

pub stays_keeps : Keeps (λ b. b)
stays_keeps = record { ends = λ b c e. e; shut = λ b h. h }
