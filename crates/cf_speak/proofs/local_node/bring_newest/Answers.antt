-- If no request was refused no session was hit (`all_unhit`), so the stream's newest comes to all that follow it.
use Rattle.std.proofs.Common.{◌≡◌, ◌∙◌, ◌≤◌, ℕ, false, Option, Some, None, List, [], ◌∷◌, arith, length, subst, sym}
use Rattle.std.proofs.Common.{inl, inr, option_map, option_copied, option_and_then, ap}
use Rattle.cf_protocol.specs.Datum.{Placed}
use Rattle.cf_protocol.specs.Position.{Position}
use Rattle.cf_stream.specs.Stream.{Shown, newest_of, position_of}
use Rattle.cf_hub.specs.Hub as hub
use Rattle.cf_hub.specs.Hub.{Node, InState, attached_at, counted}
use Rattle.cf_hub.specs.Session.{Attached}
use Rattle.cf_hub.specs.WantOfMemory.{Both}
use Rattle.cf_hub.specs.Wordings.{at_offset, delivering}
use Rattle.cf_model.specs.Sessions.{comes}
use Rattle.cf_speak.specs.Steps.{Delivers, brings, brings_newest}
use Rattle.cf_speak.proofs.local_node.bring_newest.Goals as goal

-- where no request was refused, no session was hit
unhit : (c e : List ℕ) (p : Placed) (x y : Option Attached)
    → Both (hub.Brings false c e p) x y → Both (InState (λ a b. b ≡ comes (delivering p) c (at_offset e p) a)) x y
unhit c e p None None h = tt
unhit c e p None (Some y) h = h
unhit c e p (Some x) None h = h
unhit c e p (Some x) (Some y) (inl comes, badge) = (comes, badge)
unhit c e p (Some x) (Some y) (inr (hit, gone), badge) = absurd (cc (hit))

all_unhit : (c e : List ℕ) (p : Placed) (old new : Node) (hit : List ℕ) (requests : ℕ)
    → length hit ≤ requests → new.refused ≡ counted requests old.refused → new.refused ≡ 0
    → ((k : ℕ) → Both (hub.Brings (hub.is_in k hit) c e p) (attached_at old k) (attached_at new k))
    → (k : ℕ) → Both (InState (λ a b. b ≡ comes (delivering p) c (at_offset e p) a)) (attached_at old k)
    (attached_at new k)
all_unhit c e p old new [] requests few count none each k = unhit c e p _ _ (each k)
all_unhit c e p old new (j ∷ js) requests few count none each k = absurd (omega (arith, few, sym count ∙ none))

brings_at : (c : List ℕ) (o : Option Shown) (at : Position) (p : Placed) (old new : Node)
    → Some at ≡ option_map position_of o → Some p ≡ option_and_then newest_of o → Delivers c at.epoch p old new
    → brings_newest c o old new
brings_at c None at p old new stands newest delivers = absurd (cc (stands))
brings_at c (Some x) at p old new stands newest delivers =
    let same : at.epoch ≡ x.epoch = cc (stands) in
    subst (λ (o : Option Placed). brings c x.epoch o old new) newest
    (subst (λ (e : List ℕ). Delivers c e p old new) same delivers)

pub returns-clause-brings : goal.returns-clause-brings
returns-clause-brings c none =
    let delivered = c.deliver.ensures.each in
    brings_at c.args.channel.now _ c.in-Some.position c.in-Some-last.publication.now c.args.hub.now c.deliver.new.self
    (sym c.in-Some.is ∙ c.position.ensures.position)
    (ap option_copied (sym c.in-Some-last.is) ∙ c.last.ensures)
    (record {
      each = all_unhit c.args.channel.now _ c.in-Some-last.publication.now c.args.hub.now c.deliver.new.self
          delivered.hit delivered.requests delivered.few_hit delivered.count none delivered.each;
      agrees = c.deliver.ensures.agrees;
    })
