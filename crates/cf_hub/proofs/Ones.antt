-- One session changes, and its rows with it.
use Rattle.std.proofs.Common.{◌≡◌, ◌≢◌, ℕ, not, Bool, true, false, if◌then◌else◌, Option, Some, None, List, refl, sym}
use Rattle.std.proofs.Common.{ap, ◌∙◌, subst, option_map, is_some}
use Rattle.std.specs.Str.{bytes_eq}
use Rattle.cf_subscribers.specs.Follows.{Follow}
use Rattle.cf_queue.specs.OutQueue.{Item, Close}
use Rattle.cf_protocol.specs.Note.{Reading}
use Rattle.cf_hub.specs.declared.fate.Fate.{Fate}
use Rattle.cf_hub.specs.declared.fate.Fate.TheVariants as fate
use Rattle.cf_hub.specs.Hub.{Node, One, attached_in, is_open, moves}
use Rattle.cf_hub.specs.Places.{Places, numbered}
use Rattle.cf_hub.specs.Rows.{Agrees, off_after, rows_after, sub_in}
use Rattle.cf_hub.specs.Session.{Attached, shown_all}
use Rattle.cf_model.specs.Sessions.{SessionState, Subscription, Wording, Off, Asked, Ready, On, reads, read_at, closes}
use Rattle.cf_model.specs.Sessions.{closes_now, leaves, is_off}
use Rattle.cf_hub.specs.Wordings.{Held}
use Rattle.cf_hub.proofs.States.{ends_off, puts_off}
use Rattle.cf_hub.proofs.Walks.{agrees_by}
use Rattle.cf_hub.proofs.Hubs.{seen, agrees_seen}

off_stays : (f : Fate) (c d : List ℕ) → true ≡ off_after f c d true
off_stays fate.Passed c d = refl
off_stays fate.Kept c d = refl
off_stays fate.Dropped c d = refl
off_stays fate.Ended c d = either (bytes_eq d c)
  where
    either : (t : Bool) → true ≡ (if t then true else true)
    either true = refl
    either false = refl
off_stays fate.Closed c d = refl

module _ (f : Fate) (c : List ℕ) (k : ℕ) (move : SessionState Held Item → SessionState Held Item) (m n : Places)
    (rows : List Follow) (agrees : Agrees (attached_in m) rows)
    (here : attached_in n k ≡ option_map (moves move) (attached_in m k))
    (others : (j : ℕ) → j ≢ k → attached_in n j ≡ attached_in m j)
    (offs : (a : Attached) (d : List ℕ) → attached_in m k ≡ Some a
    → is_off ((move a.state).subs d) ≡ off_after f c d (is_off (a.state.subs d))) where
  off_in : (d : List ℕ) (o : Option Attached) → attached_in m k ≡ o
      → is_off (sub_in (option_map (moves move) o) d) ≡ off_after f c d (is_off (sub_in o d))
  off_in d None e = off_stays f c d
  off_in d (Some a) e = offs a d e

  pub one_agrees : Agrees (attached_in n) (rows_after f c k rows)
  one_agrees =
      agrees_by f c k (attached_in m) (attached_in n) rows agrees
      (λ d. ap (λ o. is_off (sub_in o d)) here ∙ off_in d (attached_in m k) refl) others

  pub one_seen : (old new : Node) → old.sessions ≡ shown_all (numbered 0 m) → new.sessions ≡ shown_all (numbered 0 n)
      → new.rows ≡ rows_after f c k rows → One k move old new
  one_seen old new was is gone =
      record {
        here = ap (λ g. g k) (seen new n is) ∙ here ∙ ap (λ g. option_map (moves move) (g k)) (sym (seen old m was));
        others = λ j h. ap (λ g. g j) (seen new n is) ∙ others j h ∙ ap (λ g. g j) (sym (seen old m was));
        agrees = agrees_seen new n is (subst (λ (rs : List Follow). Agrees (attached_in n) rs) (sym gone) one_agrees);
      }

-- ---- which channels are off

pub leaves_off : (c : List ℕ) (l : SessionState Held Item) (d : List ℕ)
    → is_off ((leaves c l).subs d) ≡ off_after fate.Ended c d (is_off (l.subs d))
leaves_off c l d = ends_off c d l

pub closes_off : (code : ℕ) (c : List ℕ) (l : SessionState Held Item) (d : List ℕ) → l.closed ≡ false
    → is_off ((closes_now (Close code) l).subs d) ≡ off_after fate.Closed c d (is_off (l.subs d))
closes_off code c l d e = by_value l.closed e
  where
    by_value : (t : Bool) → t ≡ false → is_off ((if t then l else closes (Close code) l).subs d) ≡ true
    by_value true e = absurd (cc)
    by_value false e = refl

pub stays_off : (code : ℕ) (c : List ℕ) (l : SessionState Held Item) (d : List ℕ) → l.closed ≡ true
    → is_off ((closes_now (Close code) l).subs d) ≡ is_off (l.subs d)
stays_off code c l d e = by_value l.closed e
  where
    by_value : (t : Bool) → t ≡ true → is_off ((if t then l else closes (Close code) l).subs d) ≡ is_off (l.subs d)
    by_value true e = refl
    by_value false e = absurd (cc)

pub opened : (o : Option Attached) (a : Attached) → is_open o ≡ true → o ≡ Some a → a.state.closed ≡ false
opened o a e is = let g : not a.state.closed ≡ true = sym (ap is_open is) ∙ e in un_not a.state.closed g
  where
    un_not : (b : Bool) → not b ≡ true → b ≡ false
    un_not true h = absurd (cc)
    un_not false h = refl

pub shut : (o : Option Attached) (a : Attached) → is_open o ≡ false → o ≡ Some a → a.state.closed ≡ true
shut o a e is = let g : not a.state.closed ≡ false = sym (ap is_open is) ∙ e in un_not a.state.closed g
  where
    un_not : (b : Bool) → not b ≡ false → b ≡ true
    un_not true h = refl
    un_not false h = absurd (cc)

-- a read turns nothing off
pub reads_off : (w : Wording Held Item) (c : List ℕ) (r : Reading) (s : SessionState Held Item) (d : List ℕ)
    → is_off ((reads w c r s).subs d) ≡ is_off (s.subs d)
reads_off w c r s d = by_sub (s.subs c) refl
  where
    by_sub : (x : Subscription Held) → s.subs c ≡ x → is_off ((read_at w c r x s).subs d) ≡ is_off (s.subs d)
    by_sub Off e = refl
    by_sub (Asked id since b) e = puts_off c d (Ready id (is_some since) r (w.with_read b)) s refl (ap is_off e)
    by_sub (Ready id was x b) e = refl
    by_sub (On at behind_at) e = refl
