-- What a session says leaves the notes of its client its own: only answers to calls have to be.
use Rattle.std.proofs.Common.{◌≡◌, ℕ, zero, suc, ◌+◌, Bool, true, false, Option, List, [], ◌∷◌, ◌++◌, refl}
use Rattle.std.proofs.Common.{if◌then◌else◌}
use Rattle.std.specs.Prelude.{nat_le, sum_by}
use Rattle.std.specs.List.{All}
use Rattle.std.proofs.lemmas.List.Elements.{All-append}
use Rattle.cf_protocol.specs.Note.{Lists, Note, Reading, Pub, End, Close}
use Rattle.cf_protocol.specs.Position.{Position}
use Rattle.cf_model.specs.Recovery.{Verdict, Drop, Pass, Insufficient, verdict}
use Rattle.cf_client.specs.ClientCalls.{State}
use Rattle.cf_model.specs.Recovery.{Checked, Fine, Behind, Ended, position_check}
use Rattle.cf_model.specs.Sessions.{Off, Asked, Ready, On, by_check, by_verdict, check_at, checks, closes, come_at}
use Rattle.cf_model.specs.Sessions.{comes, finish_at, finish_notes, finished, finishes, most_waiting, push, put_sub}
use Rattle.cf_model.specs.Sessions.{is_ready, read_at, reads, says, slow}
use Rattle.cf_model.specs.Sessions.{pushes, spoken}
use Rattle.cf_model.specs.Recovery.{falls_short, run_length}
use Rattle.cf_model.specs.Recovery.{next}
use Rattle.cf_machine.specs.IntervalMachine.{is_on}
use Rattle.cf_machine.specs.Session.{Session, Sub}
use Rattle.cf_world.specs.ClientTie.{IsOwn}
use Rattle.cf_world.proofs.Named.{all-one}
use Rattle.cf_world.proofs.Sitting.{Owns}

module _ (lists : Lists) (s : State) where
  push_by : (shut fits : Bool) (n : Note) (b : Session) → IsOwn s n → All (IsOwn s) b.notes
      → All (IsOwn s) (if shut then b else if fits then record b { notes = b.notes ++ n ∷ [] }
      else closes (Close slow) b).notes
  push_by true fits n b h k = k
  push_by false true n b h k = All-append (IsOwn s) b.notes (n ∷ []) k (all-one (IsOwn s) n h)
  push_by false false n b h k = All-append (IsOwn s) b.notes (Close slow ∷ []) k (all-one (IsOwn s) (Close slow) tt)

  pub push-own : (n : Note) (b : Session) → IsOwn s n → All (IsOwn s) b.notes
      → All (IsOwn s) (push (spoken lists) n b).notes
  push-own n b h k =
      push_by b.closed (nat_le (sum_by (spoken lists).weight b.notes + (spoken lists).weight n) most_waiting) n b h k

  -- notes that have to be nobody's
  abbrev Free : List Note → Type 0
  Free [] = Unit {0}
  Free (n ∷ ns) = IsOwn s n × Free ns

  says-own : (ns : List Note) (b : Session) → Free ns → All (IsOwn s) b.notes
      → All (IsOwn s) (says (spoken lists) ns b).notes
  says-own [] b h k = k
  says-own (n ∷ ns) b h k = says-own ns (push (spoken lists) n b) h.1 (push-own n b h.0 k)

  free-then : (ms ns : List Note) → Free ms → Free ns → Free (ms ++ ns)
  free-then [] ns h k = k
  free-then (n ∷ ms) ns h k = (h.0, free-then ms ns h.1 k)

  free-pushes : (c : List ℕ) (p : Position) (k : ℕ) → Free (pushes c p k)
  free-pushes c p zero = tt
  free-pushes c p (suc k) = (tt, free-pushes c (next p) k)

  free-end : (t : Bool) (c : List ℕ) → Free (if t then End c ∷ [] else [])
  free-end true c = (tt, tt)
  free-end false c = tt

  finish_own : (c : List ℕ) (o : Sub) (b : Session) → All (IsOwn s) b.notes
      → All (IsOwn s) (finish_at (spoken lists) c o b).notes
  finish_own c Off b k = k
  finish_own c (Asked id since a) b k = k
  finish_own c (Ready id was r a) b k =
      says-own (finish_notes (spoken lists) c id was r a) (put_sub c (finished (spoken lists) r a) b) (
        tt,
        free-then (pushes c (record { epoch = r.epoch; offset = r.top }) (run_length a r))
            (if falls_short a r then End c ∷ [] else [])
            (free-pushes c (record { epoch = r.epoch; offset = r.top }) (run_length a r))
            (free-end (falls_short a r) c),
      ) k
  finish_own c (On p behind_at) b k = k

  verdict_own : (c : List ℕ) (q : Position) (behind_at : Option ℕ) (v : Verdict) (b : Session) → All (IsOwn s) b.notes
      → All (IsOwn s) (by_verdict (spoken lists) c q behind_at v b).notes
  verdict_own c q behind_at Drop b k = k
  verdict_own c q behind_at Pass b k = push-own (Pub c q) (put_sub c (On q behind_at) b) tt k
  verdict_own c q behind_at Insufficient b k = push-own (End c) (put_sub c Off b) tt k

  come_own : (c : List ℕ) (q : Position) (o : Sub) (b : Session) → All (IsOwn s) b.notes
      → All (IsOwn s) (come_at (spoken lists) c q o b).notes
  come_own c q Off b k = k
  come_own c q (Asked id since a) b k = k
  come_own c q (Ready id was r a) b k = k
  come_own c q (On p behind_at) b k = verdict_own c q behind_at (verdict p q) b k

  checked_own : (c : List ℕ) (p : Position) (v : Checked) (b : Session) → All (IsOwn s) b.notes
      → All (IsOwn s) (by_check (spoken lists) c p v b).notes
  checked_own c p Fine b k = k
  checked_own c p Behind b k = k
  checked_own c p Ended b k = push-own (End c) (put_sub c Off b) tt k

  check_own : (c : List ℕ) (top : Option Position) (o : Sub) (b : Session) → All (IsOwn s) b.notes
      → All (IsOwn s) (check_at (spoken lists) c top o b).notes
  check_own c top Off b k = k
  check_own c top (Asked id since a) b k = k
  check_own c top (Ready id was r a) b k = k
  check_own c top (On p behind_at) b k = checked_own c p (position_check top p behind_at) b k

  read_own : (c : List ℕ) (r : Reading) (o : Sub) (b : Session) → All (IsOwn s) b.notes
      → All (IsOwn s) (read_at (spoken lists) c r o b).notes
  read_own c r Off b k = k
  read_own c r (Asked id since a) b k = k
  read_own c r (Ready id was x a) b k = k
  read_own c r (On p behind_at) b k = k

pub finishes-own : (lists : Lists) (c : List ℕ) → Owns (finishes (spoken lists) c)
finishes-own lists c s b k = finish_own lists s c (b.subs c) b k

pub comes-own : (lists : Lists) (c : List ℕ) (q : Position) → Owns (comes (spoken lists) c q)
comes-own lists c q s b k = come_own lists s c q (b.subs c) b k

pub checks-own : (lists : Lists) (c : List ℕ) (top : Option Position) → Owns (checks (spoken lists) c top)
checks-own lists c top s b k = check_own lists s c top (b.subs c) b k

pub reads-own : (lists : Lists) (c : List ℕ) (r : Reading) → Owns (reads (spoken lists) c r)
reads-own lists c r s b k = read_own lists s c r (b.subs c) b k

-- ---- nothing is to happen

pub finish-rest : (lists : Lists) (c : List ℕ) (o : Sub) (b : Session) → is_ready o ≡ false
    → finish_at (spoken lists) c o b ≡ b
finish-rest lists c Off b h = refl
finish-rest lists c (Asked id since a) b h = refl
finish-rest lists c (Ready id was r a) b h = absurd (cc)
finish-rest lists c (On p behind_at) b h = refl

pub check-rest : (lists : Lists) (c : List ℕ) (top : Option Position) (o : Sub) (b : Session) → is_on o ≡ false
    → check_at (spoken lists) c top o b ≡ b
check-rest lists c top Off b h = refl
check-rest lists c top (Asked id since a) b h = refl
check-rest lists c top (Ready id was r a) b h = refl
check-rest lists c top (On p behind_at) b h = absurd (cc)
