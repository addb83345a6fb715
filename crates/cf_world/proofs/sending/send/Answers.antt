-- Where nothing is sent, the end is by a lemma of `proofs/SentSo`; else what client, hub and broker say is joined.
use Rattle.std.proofs.Common.{rules, ◌≡◌, ◌&&◌, true, false, not, Bool, Result, Ok, Err, String, Global, Option, Some}
use Rattle.std.proofs.Common.{ℕ, sym, ap, refl, subst, ◌∙◌}
use Rattle.cf_client.specs.ClientCalls.{RefusedBy}
use Rattle.cf_client.specs.ClientView.{state_of}
use Rattle.cf_client.specs.declared.fault.ClientFault.{ClientFault}
use Rattle.cf_client.specs.declared.fault.ClientFault.TheVariants.{NotNow, AtLastId}
use Rattle.cf_hub.specs.Hub.{Node, attached_at, is_open}
use Rattle.cf_world.specs.ClientTie.{send_fault}
use Rattle.cf_world.specs.HubCalls.{Moves}
use Rattle.cf_world.proofs.Named.{refused-some, sent-none}
use Rattle.cf_world.proofs.SentSo.{unopened-so, unsent-so, unsettled-so}
use Rattle.cf_world.proofs.sending.send.Goals.{else-branch-via-then-branch+else-not-is_closed}
use Rattle.cf_world.proofs.sending.send.Goals.{else-branch-via-else-branch}
use Rattle.cf_world.proofs.sending.send.Goals as goal

-- a hub that is looked at stays
looked : {n : ℕ} {h : Node} {hubs : ℕ → Option Node} → hubs n ≡ Some h → Moves n h h hubs hubs
looked is = record { was = is; now = is; others = λ j ne. refl }

pub returns-then-not-is_settled-clause-sends : goal.returns-then-not-is_settled-clause-sends
returns-then-not-is_settled-clause-sends c = λ cfg m x n hubs peers peers' is pv sits t.
    let no' : c.is_settled.result ≡ false = search rules in
    unsettled-so t x c.args.command.now (record { node = n; session = c.args.session }) (looked is) pv sits refl refl
    c.is_settled.result c.is_settled.ensures no'

pub returns-then-not-is_closed-clause-sends : goal.returns-then-not-is_closed-clause-sends
returns-then-not-is_closed-clause-sends c = λ cfg m x n hubs peers peers' is pv sits t.
    let lacks : c.in_ok-lacks_epoch.field-0 ≡ true = search rules in
    let opened : not c.is_closed.result ≡ true = search rules in
    unopened-so t x c.args.command.now (record { node = n; session = c.args.session }) (looked is) pv sits refl refl
    c.in_ok-lacks_epoch.field-0 c.is_closed.result
    (c.in_ok-lacks_epoch.ensures cfg.namespaces m.broker t.broker) c.is_closed.ensures
    (ap (λ (b : Bool). b && not c.is_closed.result) lacks ∙ opened)

pub returns-in-Err-NotNow-clause-sends : goal.returns-in-Err-NotNow-clause-sends
returns-in-Err-NotNow-clause-sends c = λ cfg m x n hubs peers peers' is pv sits t.
    let was : c.send.result ≡ Err NotNow = search rules in
    unsent-so t x c.args.command.now (record { node = n; session = c.args.session }) (looked is) pv sits refl
    c.send.ensures.address c.in-Err-NotNow.ensures.err
    (refused-some (String Global) (send_fault c.args.command.now (state_of c.args.peer.now.client)) NotNow
    (λ e. absurd (cc)) (subst (λ (r : Result (String Global) ClientFault). RefusedBy
    (send_fault c.args.command.now (state_of c.args.peer.now.client)) r) was c.send.ensures.refused))

pub returns-in-Err-AtLastId-clause-sends : goal.returns-in-Err-AtLastId-clause-sends
returns-in-Err-AtLastId-clause-sends c = λ cfg m x n hubs peers peers' is pv sits t.
    let was : c.send.result ≡ Err AtLastId = search rules in
    unsent-so t x c.args.command.now (record { node = n; session = c.args.session }) (looked is) pv sits refl
    c.send.ensures.address c.in-Err-AtLastId.ensures.err
    (refused-some (String Global) (send_fault c.args.command.now (state_of c.args.peer.now.client)) AtLastId
    (λ e. absurd (cc)) (subst (λ (r : Result (String Global) ClientFault). RefusedBy
    (send_fault c.args.command.now (state_of c.args.peer.now.client)) r) was c.send.ensures.refused))

pub returns-in-Ok-clause-sends : goal.returns-in-Ok-clause-sends
returns-in-Ok-clause-sends c =
    let yes' : c.is_settled.result ≡ true = search rules in
    let shut : Bool = not (is_open (attached_at c.args.hub.now c.args.session)) in
    let was : c.send.result ≡ Ok c.in-Ok.text = search rules in
    record {
      allowed = sent-none (send_fault c.args.command.now (state_of c.args.peer.now.client)) c.in-Ok.text
          (subst (λ (r : Result (String Global) ClientFault). RefusedBy
          (send_fault c.args.command.now (state_of c.args.peer.now.client)) r) was c.send.ensures.refused);
      said = c.in-Ok.ensures.text;
      address = c.send.ensures.address;
      session = c.send.ensures.session;
      state = c.in-Ok.ensures.ok;
      apart = c.send.ensures.apart;
      since = c.send.ensures.since;
      settled = c.is_settled.ensures.0 yes';
      lacks = c.in_ok-lacks_epoch.field-0;
      is_lacks = c.in_ok-lacks_epoch.ensures;
      opens = elim c.else-branch.branch [
        | else-branch-via-then-branch+else-not-is_closed w ↦ let no' : w.is_closed.result ≡ true = search rules in
            ap (λ (b : Bool). c.in_ok-lacks_epoch.field-0 && not b) (sym w.is_closed.ensures ∙ no')
            ∙ by_false c.in_ok-lacks_epoch.field-0
        | else-branch-via-else-branch w ↦ let no' : c.in_ok-lacks_epoch.field-0 ≡ false = search rules in
            ap (λ (b : Bool). b && not shut) no'
      ];
    }
  where
    by_false : (b : Bool) → (b && false) ≡ false
    by_false true = refl
    by_false false = refl
