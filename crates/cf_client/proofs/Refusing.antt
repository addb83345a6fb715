-- Whether a call was refused just so.
use Rattle.std.proofs.Common.{◌≡◌, List, ℕ, true, false, cond, Some, None, Option, refl, sym, ap, subst}
use Rattle.std.specs.Prelude.{Result, Ok, Err, IfErr, IsErrAnd}
use Rattle.cf_protocol.specs.Position.{Position}
use Rattle.cf_model.specs.Clients.{is_idle}
use Rattle.cf_client.specs.Shown.{shown_mode}
use Rattle.cf_client.specs.declared.channels.Mode.{Mode as CodeMode}
use Rattle.cf_client.specs.declared.channels.Mode.TheVariants as code
use Rattle.cf_client.specs.ClientCalls.{State, RefusedBy, call_fault, ask_fault, leave_fault}
use Rattle.cf_client.specs.declared.fault.ClientFault.{ClientFault}
use Rattle.cf_client.specs.declared.fault.ClientFault.TheVariants.{Memory, NotNow}

module _ {T : Type 0} where
  -- nothing speaks against it, and it was carried out
  pub refused_not : (o : Option ClientFault) (x : T) → o ≡ None → RefusedBy o (Ok x)
  refused_not o x none = subst (λ (o : Option ClientFault). RefusedBy {T = T} o (Ok x)) (sym none) tt

  -- nothing speaks against it, and memory was refused
  pub refused_memory : (o : Option ClientFault) (r : Result T ClientFault) → o ≡ None
      → IsErrAnd r (λ (fault : ClientFault). fault ≡ Memory) → RefusedBy o r
  refused_memory o (Ok x) none h = absurd h
  refused_memory o (Err fault) none h = subst (λ (o : Option ClientFault). RefusedBy {T = T} o (Err fault)) (sym none) h

  -- it was refused for what speaks against it
  pub refused_as : (o : Option ClientFault) (r : Result T ClientFault) (why : ClientFault) → o ≡ Some why
      → IsErrAnd r (λ (fault : ClientFault). fault ≡ why) → RefusedBy o r
  refused_as o (Ok x) why is h = absurd h
  refused_as o (Err fault) why is h =
      subst (λ (o : Option ClientFault). RefusedBy {T = T} o (Err fault)) (sym is)
      (ap (λ (f : ClientFault). let refused : Result T ClientFault = Err f in refused) h)

  -- an error for which the reason holds
  pub refused_if : (r : Result T ClientFault) (why : ClientFault) (P : ClientFault → Type 0)
      → IsErrAnd r (λ (fault : ClientFault). fault ≡ why) → P why → IfErr r P
  refused_if (Ok x) why P h p = absurd h
  refused_if (Err fault) why P h p = subst P (sym h) p

-- ---- what an ask and a leave ask for

pub not_idle : (m : CodeMode) → ((last : Option Position) → m ≡ code.Idle last → ⊥) → is_idle (shown_mode m) ≡ false
not_idle (code.Idle last) never = absurd (never last refl)
not_idle (code.Asking id from last) never = refl
not_idle (code.Live at) never = refl

pub asks_idle : (c : List ℕ) (s : State) → is_idle (s.client.modes c) ≡ true → ask_fault c s ≡ call_fault s
asks_idle c s idle = ap (λ b. cond b (call_fault s) (Some NotNow)) idle

pub asks_busy : (c : List ℕ) (s : State) → is_idle (s.client.modes c) ≡ false → ask_fault c s ≡ Some NotNow
asks_busy c s busy = ap (λ b. cond b (call_fault s) (Some NotNow)) busy

pub leaves_busy : (c : List ℕ) (s : State) → is_idle (s.client.modes c) ≡ false → leave_fault c s ≡ call_fault s
leaves_busy c s busy = ap (λ b. cond b (Some NotNow) (call_fault s)) busy

pub leaves_idle : (c : List ℕ) (s : State) → is_idle (s.client.modes c) ≡ true → leave_fault c s ≡ Some NotNow
leaves_idle c s idle = ap (λ b. cond b (Some NotNow) (call_fault s)) idle
