-- An event by the method of its kind.
use Rattle.std.proofs.Common.{◌≡◌, ◌≢◌, ℕ, Result, Ok, Err, Bool, true, false, if◌then◌else◌, List, [], map, refl, sym}
use Rattle.std.proofs.Common.{ap, subst, ◌∙◌}
use Rattle.std.specs.Result.{OnOk}
use Rattle.cf_machine.specs.Config.{Config}
use Rattle.cf_machine.specs.Event.{Event}
use Rattle.cf_machine.specs.IntervalMachine.{allows}
use Rattle.cf_machine.specs.Told.{tells, writes}
use Rattle.cf_machine.specs.Trace.{Entry}
use Rattle.cf_machine.specs.World.{World}
use Rattle.cf_schedule.specs.Seen.{seen}
use Rattle.cf_schedule.specs.declared.event.Event as declared
use Rattle.cf_schedule.specs.declared.event.Event.TheVariants as variant
use Rattle.cf_world.specs.Entries.{shown_entry}
use Rattle.cf_world.specs.Tie.{GoesOn}
use Rattle.cf_world.specs.declared.entry.Entry.{Entry as CodeEntry}
use Rattle.cf_world.specs.declared.world.WorldParts.{WorldParts}

pub goes-so : {e f : Event} (old new : WorldParts) → f ≡ e → GoesOn e old new → GoesOn f old new
goes-so {e} {f} old new same h = subst (λ (x : Event). GoesOn x old new) (sym same) h

-- the same of a call that answers something
pub goes-ok : {e f : Event} {A E : Type 0} (old new : WorldParts) (r : Result A E) → f ≡ e → OnOk r (GoesOn e old new)
    → OnOk r (GoesOn f old new)
goes-ok old new r same h = subst (λ (x : Event). OnOk r (GoesOn x old new)) (sym same) h

-- the same where the event was carried out, if it is such a one
pub goes-where : {e f : Event} {E : Type 0} (D : Type 0) (old new : WorldParts) (r : Result Unit E) → f ≡ e
    → OnOk r (GoesOn e old new) → OnOk r (D → GoesOn f old new)
goes-where D old new (Ok u) same h = λ d. goes-so old new same h
goes-where D old new (Err f) same h = tt

-- any event but a take tells nobody anything
tells-none : (n : ℕ) (m : World) (e : declared.Event) → ((x : List ℕ) → e ≢ variant.Take x) → tells n m (seen e) ≡ []
tells-none n m (variant.Epoch e) other = refl
tells-none n m (variant.Connect x k) other = refl
tells-none n m (variant.Ask x c) other = refl
tells-none n m (variant.AskFrom x c) other = refl
tells-none n m (variant.Read x c) other = refl
tells-none n m (variant.Finish x c) other = refl
tells-none n m (variant.Publish c key body) other = refl
tells-none n m (variant.PublishBy x c key body) other = refl
tells-none n m (variant.Deliver k i) other = refl
tells-none n m (variant.Take x) other = absurd (other x refl)
tells-none n m (variant.Break x) other = refl
tells-none n m (variant.Leave x c) other = refl
tells-none n m (variant.Trim c k) other = refl
tells-none n m (variant.Forget c) other = refl
tells-none n m variant.BrokerRestart other = refl
tells-none n m (variant.SetSize name k) other = refl
tells-none n m (variant.Restart k) other = refl
tells-none n m (variant.Check x c) other = refl
tells-none n m (variant.ListHistory x c limit) other = refl

either-way : (b : Bool) (es : List Entry) → es ≡ [] → [] ≡ (if b then es else [])
either-way true es h = sym h
either-way false es h = refl

pub quiet : (e : declared.Event) {es : List CodeEntry} → ((x : List ℕ) → e ≢ variant.Take x) → es ≡ []
    → (cfg : Config) (n : ℕ) (m : World) → map shown_entry es ≡ writes cfg n m (seen e)
quiet e {es} other none cfg n m =
    ap (map shown_entry) none ∙ either-way (allows cfg m (seen e)) (tells n m (seen e)) (tells-none n m e other)
