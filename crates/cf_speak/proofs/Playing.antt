-- A script that is played where no memory was refused.
use Rattle.std.proofs.Common.{◌≡◌, ◌⊎◌, Bool, true, false, Option, refl, sym, ap, subst, inl, inr}
use Rattle.cf_session.specs.Calls.{Answer}
use Rattle.cf_session.specs.Script.{Script, Served, Over, Close, Say, Pong, Ask}
use Rattle.cf_session.specs.SessionMachine.{Act, Progress, Todo, Out}
use Rattle.cf_session.specs.CommandScripts.{Tables}
use Rattle.cf_session.specs.Played.{Plays, Serves, Stops}
use Rattle.cf_speak.specs.Scene.{met_refused_memory, is_over}
use Rattle.cf_speak.specs.Shown.{scene_of}
use Rattle.cf_speak.specs.Steps.{Step, StepUnlessShort}
use Rattle.cf_speak.specs.declared.local_node.LocalNode.{LocalNode}
use Rattle.std.proofs.Common.{List, ℕ}

either : {A B C : Type 0} → (A → C) → (B → C) → A ⊎ B → C
either f g (inl a) = f a
either f g (inr b) = g b

long_of : (a b : Bool) → (a ≡ true → b ≡ true) → b ≡ false → a ≡ false
long_of false b h long = refl
long_of true b h long = absurd (cc (h refl, long))

abbrev pub over_at : LocalNode → Bool
over_at n = is_over (scene_of n)

abbrev pub does_at : LocalNode → Act → Option Answer → LocalNode → Type 0
does_at old act answer new = StepUnlessShort (scene_of old) act answer (scene_of new)

stopped : (after : Script) (mid m : LocalNode) (end : Script) → Stops over_at does_at after mid m end
    → met_refused_memory (scene_of mid) ≡ true → met_refused_memory (scene_of m) ≡ true
stopped after mid m end h f = subst (λ (x : LocalNode). met_refused_memory (scene_of x) ≡ true) (sym h.stays) f

-- want of memory is remembered
pub remembers : (s : Script) (n m : LocalNode) (end : Script) → Plays over_at does_at s n m end
    → met_refused_memory (scene_of n) ≡ true → met_refused_memory (scene_of m) ≡ true
remembers (Served who) n m end h f = subst (λ (x : LocalNode). met_refused_memory (scene_of x) ≡ true) (sym h.0) f
remembers Over n m end h f = subst (λ (x : LocalNode). met_refused_memory (scene_of x) ≡ true) (sym h.0) f
remembers (Close code) n m end h f = h.0.remembered f
remembers (Say id o after) n m end h f =
    either (λ x. remembers after h.0 m end x.1 (h.1.remembered f)) (λ x. stopped after h.0 m end x (h.1.remembered f))
    h.2
remembers (Pong after) n m end h f =
    either (λ x. remembers after h.0 m end x.1 (h.1.remembered f)) (λ x. stopped after h.0 m end x (h.1.remembered f))
    h.2
remembers (Ask call after) n m end h f =
    either (λ x. remembers (after h.1) h.0 m end x.1 (h.2.remembered f))
    (λ x. stopped (after h.1) h.0 m end x (h.2.remembered f)) h.3

still_stops : (after : Script) (mid m : LocalNode) (end : Script) → Stops over_at does_at after mid m end
    → Stops is_over Step after (scene_of mid) (scene_of m) end
still_stops after mid m end h = record { over = h.over; stays = ap scene_of h.stays; leaves = h.leaves }

pub plays_long : (s : Script) (n m : LocalNode) (end : Script) → Plays over_at does_at s n m end
    → met_refused_memory (scene_of m) ≡ false → Plays is_over Step s (scene_of n) (scene_of m) end
plays_long (Served who) n m end h long = (ap scene_of h.0, h.1)
plays_long Over n m end h long = (ap scene_of h.0, h.1)
plays_long (Close code) n m end h long = (h.0.step long, h.1)
plays_long (Say id o after) n m end h long =
    either
    (λ x. (
      scene_of h.0,
      h.1.step (long_of (met_refused_memory (scene_of h.0)) (met_refused_memory (scene_of m))
          (remembers after h.0 m end x.1) long),
      inl (x.0, plays_long after h.0 m end x.1 long),
    ))
    (λ x. (
      scene_of h.0,
      h.1.step (long_of (met_refused_memory (scene_of h.0)) (met_refused_memory (scene_of m))
          (stopped after h.0 m end x) long),
      inr (still_stops after h.0 m end x),
    ))
    h.2
plays_long (Pong after) n m end h long =
    either
    (λ x. (
      scene_of h.0,
      h.1.step (long_of (met_refused_memory (scene_of h.0)) (met_refused_memory (scene_of m))
          (remembers after h.0 m end x.1) long),
      inl (x.0, plays_long after h.0 m end x.1 long),
    ))
    (λ x. (
      scene_of h.0,
      h.1.step (long_of (met_refused_memory (scene_of h.0)) (met_refused_memory (scene_of m))
          (stopped after h.0 m end x) long),
      inr (still_stops after h.0 m end x),
    ))
    h.2
plays_long (Ask call after) n m end h long =
    either
    (λ x. (
      scene_of h.0,
      h.1,
      h.2.step (long_of (met_refused_memory (scene_of h.0)) (met_refused_memory (scene_of m))
          (remembers (after h.1) h.0 m end x.1) long),
      inl (x.0, plays_long (after h.1) h.0 m end x.1 long),
    ))
    (λ x. (
      scene_of h.0,
      h.1,
      h.2.step (long_of (met_refused_memory (scene_of h.0)) (met_refused_memory (scene_of m))
          (stopped (after h.1) h.0 m end x) long),
      inr (still_stops (after h.1) h.0 m end x),
    ))
    h.3

pub serves_long : (t : Tables) (p : Progress) (n : LocalNode) (text : List ℕ) (m : LocalNode) (q : Progress)
    → Serves over_at does_at t p n text m q → met_refused_memory (scene_of m) ≡ false
    → Serves is_over Step t p (scene_of n) text (scene_of m) q
serves_long t (Todo s) n text m q h long =
    record {
      script = h.script;
      end = h.end;
      hears = h.hears;
      plays = plays_long h.script n m h.end h.plays long;
      ends = h.ends;
    }
serves_long t (Out kind after) n text m q h long = absurd h
