-- A session whose calls met no refused request for memory goes as its script says.
use Rattle.std.proofs.Common.{◌≡◌, ◌≢◌, ◌∙◌, ◌||◌, ◌==◌, ℕ, Bool, true, false, not, Option, Some, List, arith, sym, ap}
use Rattle.std.proofs.Common.{subst, inl, inr}
use Rattle.cf_session.specs.CommandScripts.{Tables}
use Rattle.cf_session.specs.Script.{Served, Over, Close, Say, Pong, Ask}
use Rattle.cf_session.specs.Played.{asked_kind}
use Rattle.cf_session.specs.SessionMachine.{Act, Progress, Todo, Out, Does, Hears, HearsText, Acts, GivesUp, awaits}
use Rattle.cf_session.specs.SessionMachine.{fails, falls_silent, stays_out}

same-act : (a b : Act) → Some a ≡ Some b → a ≡ b
same-act a b h = cc

none-refused : (n : ℕ) → not (n == 0) ≡ false → n ≡ 0
none-refused n h = grind (arith, h)

pub long-now : (a b : Bool) (n : ℕ) → b ≡ (a || not (n == 0)) → b ≡ false → n ≡ 0
long-now false b n h long = none-refused n (sym h ∙ long)
long-now true b n h long = absurd (cc (h, long))

gives-some : (t : Tables) (p : Progress) (act : Option Act) (q : Progress) (n : ℕ) → GivesUp t p act q n → n ≢ 0
gives-some t p act q n (fails id script after at) = λ e. absurd (cc (e))
gives-some t p act q n (falls_silent id script after at) = λ e. absurd (cc (e))
gives-some t p act q n (stays_out script at) = λ e. absurd (cc (e))

pub acts-does : (t : Tables) (p : Progress) (act : Option Act) (q : Progress) (n : ℕ) → Acts t p act q n → n ≡ 0
    → Does p act q
acts-does t p act q n (inl d) long = d.0
acts-does t p act q n (inr h) long = absurd (gives-some t p act q n h long)

pub hears-long : (t : Tables) (p : Progress) (text : List ℕ) (q : Progress) (n : ℕ) → Hears t p text q n → n ≡ 0
    → HearsText t p text q
hears-long t p text q n (inl h) long = h.0
hears-long t p text q n (inr h) long = absurd (cc (h.1.once, long))

-- after a call has gone out its kind is awaited, and after another act nothing is
pub out-awaits : (p q : Progress) (a : Act) → Does p (Some a) q → asked_kind a ≡ awaits q
out-awaits (Todo (Served who)) q a d = absurd (cc (d.acts))
out-awaits (Todo Over) q a d = absurd (cc (d.acts))
out-awaits (Todo (Close code)) q a d =
    subst (λ (x : Act). asked_kind x ≡ awaits q) (sym (same-act a _ d.acts)) (sym (ap awaits d.goes))
out-awaits (Todo (Say id o after)) q a d =
    subst (λ (x : Act). asked_kind x ≡ awaits q) (sym (same-act a _ d.acts)) (sym (ap awaits d.goes))
out-awaits (Todo (Pong after)) q a d =
    subst (λ (x : Act). asked_kind x ≡ awaits q) (sym (same-act a _ d.acts)) (sym (ap awaits d.goes))
out-awaits (Todo (Ask call after)) q a d =
    subst (λ (x : Act). asked_kind x ≡ awaits q) (sym (same-act a _ d.acts)) (sym (ap awaits d.goes))
out-awaits (Out kind after) q a d = absurd (cc (d.acts))
