-- The number is free, so to put a session there changes nobody else, and its badge is the one that the definition
-- gives it.
use Rattle.std.proofs.Common.{rules, ◌≡◌, ◌∙◌, ◌+◌, ℕ, Option, Some, None, List, sym, ap, string_bytes, is_some, false}
use Rattle.std.proofs.Common.{option_map}
use Rattle.cf_hub.specs.Hub.{Node, attached_in, client_id, fresh}
use Rattle.cf_hub.specs.Session.{Attached, Badge, attached_of}
use Rattle.cf_hub.proofs.Hubs.{seen, seen_in, agrees_shown}
use Rattle.cf_hub.proofs.Opening.{fresh_agrees, fresh_bounded, fresh_is}
use Rattle.cf_hub.proofs.Placing.{has_place}
use Rattle.cf_hub.proofs.hub.Hub.open.Goals as goal

abbrev badge_with : List ℕ → List ℕ → ℕ → Badge
badge_with client user now = record { client = client; user = user; pinged = now; awaits_pong = false }

pub insert-requires : goal.insert-requires
insert-requires c =
    has_place c.self.inside.sessions c.args.number
    (λ j h. sym (ap (λ (g : ℕ → Option Attached). is_some (g j))
    (seen c.args.self.now c.self.inside.sessions (ap (λ (h : Node). h.sessions) (sym c.self.view_is))))
    ∙ c.requires.free.least j h)

pub invariant_of-self-2 : goal.invariant_of-self-2
invariant_of-self-2 c =
    let free : attached_in c.self.inside.sessions c.args.number ≡ None =
    sym (ap (λ (g : ℕ → Option Attached). g c.args.number)
    (seen c.args.self.now c.self.inside.sessions (ap (λ (h : Node). h.sessions) (sym c.self.view_is))))
    ∙ c.requires.free.free in (
      fresh_agrees c.args.number c.self.inside.sessions c.insert.new.self c.self.inside.rows c.new-session.result
          c.self.invariant.0 free (ap (option_map attached_of) c.in_ok-insert.ensures.here)
          (λ j h. ap (option_map attached_of) (c.in_ok-insert.ensures.others j h)) c.new-session.ensures.state,
      fresh_bounded c.args.number c.self.inside.sessions c.insert.new.self c.new-session.result c.self.invariant.1
          c.requires.below
          (λ j h. sym (ap (λ (g : ℕ → Option Attached). is_some (g j))
          (seen c.args.self.now c.self.inside.sessions (ap (λ (h : Node). h.sessions) (sym c.self.view_is))))
          ∙ c.requires.free.least j h)
          (ap (option_map attached_of) c.in_ok-insert.ensures.here)
          (λ j h. ap (option_map attached_of) (c.in_ok-insert.ensures.others j h)),
    )

pub returns-clause-opens : goal.returns-clause-opens
returns-clause-opens c =
    let named : string_bytes c.in_ok-client.client
    ≡ client_id c.self.inside.node c.self.inside.boot (c.self.inside.used + 1) = search rules in
    record {
      here = seen_in c.insert.new.self c.args.number ∙ (ap (option_map attached_of) c.in_ok-insert.ensures.here)
          ∙ ap Some (fresh_is c.new-session.result (client_id c.self.inside.node c.self.inside.boot
          (c.self.inside.used + 1)) (string_bytes c.args.user) c.args.now c.new-session.ensures.state
          (c.new-session.ensures.badge ∙ ap (λ (t : List ℕ). badge_with t (string_bytes c.args.user) c.args.now) named))
          ∙ ap (λ (h : Node). Some (fresh (client_id h.node h.boot (h.used + 1)) (string_bytes c.args.user) c.args.now))
          c.self.view_is;
      others = λ j h. seen_in c.insert.new.self j ∙ ap (option_map attached_of) (c.in_ok-insert.ensures.others j h)
          ∙ ap (λ (g : ℕ → Option Attached). g j) (sym (seen c.args.self.now c.self.inside.sessions
          (ap (λ (h : Node). h.sessions) (sym c.self.view_is))));
      used = ap (λ (h : Node). h.used + 1) c.self.view_is;
      node = ap (λ (h : Node). h.node) c.self.view_is;
      boot = ap (λ (h : Node). h.boot) c.self.view_is;
      rows = ap (λ (h : Node). h.rows) c.self.view_is;
      refused = ap (λ (h : Node). h.refused) c.self.view_is;
      agrees = agrees_shown c.insert.new.self c.self.inside.rows (invariant_of-self-2 c).0;
    }
