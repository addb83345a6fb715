-- What is taken for a client as the hub names its session.
use Rattle.std.proofs.Common.{◌≡◌, ◌∙◌, ℕ, Bool, false, Option, Some, None, option_map, List, [], refl, sym}
use Rattle.std.proofs.lemmas.List.{append-nil}
use Rattle.cf_queue.specs.declared.queue.Out.{Out}
use Rattle.cf_hub.specs.Hub.{Node, attached_at, waits_in}
use Rattle.cf_hub.specs.Session.{Attached}
use Rattle.cf_dispatch.specs.Outlet.{Takes, leaves_more, left_with}
use Rattle.cf_dispatch.specs.declared.outlet.Taken.{Taken}
use Rattle.cf_dispatch.specs.declared.outlet.Taken.TheVariants.{All, Blocked, Limit, Memory}

stays : (x : Option Attached) → x ≡ option_map (left_with (waits_in x)) x
stays None = refl
stays (Some a) = refl

-- nothing is
pub takes_nothing : (k : ℕ) (h : Node) (xs : List Out) → Takes k h h xs xs
takes_nothing k h xs = record {
  taken = [];
  gained = sym (append-nil xs);
  waited = refl;
  here = stays (attached_at h k);
  others = λ j other. refl;
  turns = refl;
}

-- nothing waits any more if no more may
all_is_taken : (t : Taken) → leaves_more t ≡ false → t ≡ All
all_is_taken All e = refl
all_is_taken Limit e = absurd (cc)
all_is_taken Memory e = absurd (cc)
all_is_taken Blocked e = absurd (cc)

-- who owes exactly what may still wait has taken all once nothing is owed
pub owes_none : (owed : Bool) (t : Taken) → owed ≡ leaves_more t → owed ≡ false → t ≡ All
owes_none owed t is none = all_is_taken t (sym is ∙ none)
