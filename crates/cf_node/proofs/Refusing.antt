-- With which code a call is refused that the hub refuses.
use Rattle.std.proofs.Common.{◌≡◌, ◌≢◌, ℕ, true, false, Option, Some, List, refl}
use Rattle.cf_protocol.specs.Checks.{refusal_code}
use Rattle.cf_protocol.specs.declared.codes.ErrorCode.{ErrorCode}
use Rattle.cf_hub.specs.Hub.{IsFull, IsOpenWith, NoRoom, Node}
use Rattle.cf_hub.specs.declared.refusal.HubRefusal.{HubRefusal}
use Rattle.cf_hub.specs.declared.refusal.HubRefusal.TheVariants as refusal
use Rattle.cf_session.specs.Refusals.{of_hub}
use Rattle.cf_node.specs.Own.{FailsToAttach, FailsToBegin}

pub fails_to_attach : (h : Node) (e : HubRefusal) (code : ErrorCode) → code ≡ refusal_code (of_hub e)
    → (e ≢ refusal.TooMany → e ≡ refusal.Memory) → (e ≡ refusal.TooMany → NoRoom h) → FailsToAttach h code
fails_to_attach h refusal.NoSession code is other full = rw is tt
fails_to_attach h refusal.Already code is other full = absurd (cc (other (λ e. cc)))
fails_to_attach h refusal.TooMany code is other full = rw is (full refl)
fails_to_attach h refusal.Memory code is other full = rw is tt

pub fails_to_begin : (own : Option ℕ) (k : ℕ) (c : List ℕ) (h : Node) (e : HubRefusal) (code : ErrorCode)
    → own ≡ Some k → code ≡ refusal_code (of_hub e)
    → (e ≡ refusal.Already → IsOpenWith (λ off. off ≡ false) k c h)
    → (e ≡ refusal.TooMany → IsOpenWith (λ off. off ≡ true) k c h × IsFull k h) → FailsToBegin own c h code
fails_to_begin own k c h refusal.NoSession code is_own is already full = rw is tt
fails_to_begin own k c h refusal.Already code is_own is already full = rw (is_own, is) (already refl)
fails_to_begin own k c h refusal.TooMany code is_own is already full = rw (is_own, is) (full refl)
fails_to_begin own k c h refusal.Memory code is_own is already full = rw is tt
