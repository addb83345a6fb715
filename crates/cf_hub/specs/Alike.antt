-- Two sessions are alike that are at the same places: their subscriptions are the same but for what is kept before a
-- reply, and what waits for the one client is said in other words to the other. R relates what is kept, by channel,
-- by the id of the ask and by the reading, if the stream was read; S relates notes.
use Rattle.std.specs.Prelude.{◌≡◌, ⊤, ℕ, Option, Some, None, List}
use Rattle.std.specs.List.{AllZip}
use Rattle.cf_protocol.specs.Note.{Reading}
use Rattle.cf_model.specs.Sessions.{Subscription, Off, Asked, Ready, On, SessionState}

abbrev pub AlikeSub : {B C : Type 0} → (ℕ → Option Reading → B → C → Type 0) → Subscription B
    → Subscription C → Type 0
AlikeSub R Off Off = ⊤
AlikeSub R (Asked id since b) (Asked id' since' b') = (id ≡ id') × (since ≡ since') × R id None b b'
AlikeSub R (Ready id was r b) (Ready id' was' r' b') =
    (id ≡ id') × (was ≡ was') × (r ≡ r') × R id (Some r) b b'
AlikeSub R (On p behind_at) (On p' behind_at') = (p ≡ p') × (behind_at ≡ behind_at')
AlikeSub R s s' = ⊥

pub record Alike {B C N M : Type 0} (R : List ℕ → ℕ → Option Reading → B → C → Type 0)
    (S : N → M → Type 0)
    (a : SessionState B N) (b : SessionState C M) : Type 0 where
  pub subs : (c : List ℕ) → AlikeSub (R c) (a.subs c) (b.subs c)
  pub notes : AllZip S a.notes b.notes
  pub closed : a.closed ≡ b.closed
