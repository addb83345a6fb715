-- The id is read, and then the request, as the definition has it. Whether a request needs an id depends on its method
-- alone (`needs`), so the code may refuse a missing id by the method, before it reads the request.
use Rattle.std.proofs.Common.{rules, Err, ◌≡◌, ℕ, Bool, true, false, ◌&&◌, cond, Option, Some, None, ◌==◌, refl, ap}
use Rattle.std.proofs.Common.{◌∙◌, ne_eqb, subst}
use Rattle.cf_json.specs.Grammar.{Tree}
use Rattle.cf_protocol.specs.Command.{named_command, request_of, needs_id, connect, subscribe, unsubscribe, publish}
use Rattle.cf_protocol.specs.Command.{presence, presence_stats, history}
use Rattle.cf_protocol.specs.Fields.{Fields, ◌>>=◌, whole, max_u32, as_object, text, flag, position, limit}
use Rattle.cf_protocol.specs.Fields.{object_or_none}
use Rattle.cf_protocol.specs.Methods.{request_as}
use Rattle.cf_protocol.specs.Reading.{Answers}
use Rattle.cf_protocol.specs.Request.{Request, Command}
use Rattle.cf_protocol.specs.Shown.{shown_request}
use Rattle.cf_protocol.specs.declared.read.method.Method.{Method}
use Rattle.cf_protocol.specs.declared.read.method.Method.TheVariants as method
use Rattle.cf_protocol.proofs.Choices.{by_key, by_fault}
use Rattle.cf_protocol.proofs.read.command.read_named.Goals.{in-Send, in_default}
use Rattle.cf_protocol.proofs.read.command.read_named.Goals.{else-id-eq0-via-then-id-eq0+else-not-matches}
use Rattle.cf_protocol.proofs.read.command.read_named.Goals.{else-id-eq0-via-else-id-eq0}
use Rattle.cf_protocol.proofs.read.command.read_named.Goals as goal

-- ---- a request that is read needs an id as its method does

abbrev has_id : Method → Bool
has_id method.Send = false
has_id m = true

others : (m : Method) → (m ≡ method.Send → ⊥) → has_id m ≡ true
others method.Send h = absurd (h refl)
others m h = refl

abbrev Needs : Bool → Option Request → Type 0
Needs b None = Unit
Needs b (Some r) = needs_id r ≡ b

then : {A : Type 0} (b : Bool) (o : Option A) (f : A → Option Request) → ((x : A) → Needs b (f x)) → Needs b (o >>= f)
then b None f h = tt
then b (Some x) f h = h x

needs : (m : Method) (t : Tree) → Needs (has_id m) (request_as m t)
needs method.Connect t = then true (as_object t) connect (λ r. then true (text r "token") _ (λ x. refl))
needs method.Subscribe t = then true (as_object t) subscribe
    (λ r. then true (flag r "recover") _ (λ x. then true (position r)
    _ (λ y. then true (text r "channel") _ (λ z. refl))))
needs method.Unsubscribe t = then true (as_object t) unsubscribe (λ r. then true (text r "channel") _ (λ x. refl))
needs method.Publish t = then true (as_object t) publish
    (λ r. then true (text r "channel") _ (λ x. then true (text r "key") _ (λ y. refl)))
needs method.Presence t = then true (as_object t) presence (λ r. then true (text r "channel") _ (λ x. refl))
needs method.PresenceStats t = then true (as_object t) presence_stats (λ r. then true (text r "channel") _ (λ x. refl))
needs method.History t = then true (as_object t) history
    (λ r. then true (limit r "limit") _ (λ x. then true (object_or_none position r "since")
    _ (λ y. then true (flag r "reverse") _ (λ z. then true (text r "channel") _ (λ u. refl)))))
needs method.Ping t = refl
needs method.Send t = refl
needs method.Other t = refl

-- ---- the id and the request, one after the other

abbrev with_id : ℕ → Request → Option Command
with_id id r = cond (needs_id r && (id == 0)) None (Some (record { id = id; request = r }))

named : (fs : Fields) (id : ℕ) (o : Option Request) → whole max_u32 fs "id" ≡ Some id → request_of fs ≡ o
    → named_command fs ≡ (o >>= with_id id)
named fs id o e f = ap (λ p. p >>= λ n. request_of fs >>= with_id n) e ∙ ap (λ p. p >>= with_id id) f

and_false : (b : Bool) → (b && false) ≡ false
and_false true = refl
and_false false = refl

-- a request that needs an id and has none
unanswered : (b : Bool) (id : ℕ) (o : Option Request) → Needs b o → b ≡ true → id ≡ 0 → (o >>= with_id id) ≡ None
unanswered b id None h e z = refl
unanswered b id (Some r) h e z = rw (h, e, z) refl

pub returns-in_err-method : goal.returns-in_err-method
returns-in_err-method c fs reads =
    let none : Answers shown_request (Err c.in_err-method.field-0.0) (request_of fs) =
    by_fault shown_request request_as c.args.members.now.text.now _ fs c.in_err-method.field-0.0
    (c.in_err-method.ensures fs reads) in
    let id = c.in_ok-id.ensures.exact fs reads in
    search rules

pub returns-in_err-request : goal.returns-in_err-request
returns-in_err-request c fs reads =
    let chosen = c.in_ok-method.ensures fs reads in
    let request_is : request_of fs ≡ request_as c.in_ok-method.method chosen.0 = by_key request_as _ fs _ chosen.2 in
    let id = c.in_ok-id.ensures.exact fs reads in
    let was = c.in_err-request.ensures chosen.0 chosen.1 in
    search rules

pub returns-then-not-matches : goal.returns-then-not-matches
returns-then-not-matches c fs reads =
    let chosen = c.in_ok-method.ensures fs reads in
    let m = c.in_ok-method.method in
    let request_is : request_of fs ≡ request_as m chosen.0 = by_key request_as _ fs _ chosen.2 in
    let has : has_id m ≡ true =
    elim c.match-matches.branch [
      | in-Send w ↦ cc (w.matches-is, c.if-not-matches.true)
      | in_default w ↦ others m w.in_default.not-Send
    ] in
    named fs c.in_ok-id.field-0 (request_as m chosen.0) (rw c.from.ensures at (c.in_ok-id.ensures.exact fs reads))
    request_is
    ∙ unanswered (has_id m) c.in_ok-id.field-0 (request_as m chosen.0) (needs m chosen.0) has c.if-id-eq0.true

pub returns : goal.returns
returns c fs reads =
    let chosen = c.in_ok-method.ensures fs reads in
    let m = c.in_ok-method.method in
    let request_is : request_of fs ≡ request_as m chosen.0 = by_key request_as _ fs _ chosen.2 in
    let id = c.in_ok-id.field-0 in
    let request = shown_request c.in_ok-request.request in
    let read = c.in_ok-request.ensures chosen.0 chosen.1 in
    let same : needs_id request ≡ has_id m = subst (Needs (has_id m)) read (needs m chosen.0) in
    let has : (needs_id request && (id == 0)) ≡ false =
    elim c.else-id-eq0.branch [
      | else-id-eq0-via-then-id-eq0+else-not-matches w ↦
          elim w.match-matches.branch [
            | in-Send v ↦ ap (λ b. b && (id == 0)) (same ∙ ap has_id v.in-Send.is)
            | in_default v ↦ cc (v.matches-is, w.if-not-matches.false)
          ]
      | else-id-eq0-via-else-id-eq0 w ↦
          ap (λ b. needs_id request && b) (ne_eqb id 0 w.if-id-eq0.false) ∙ and_false (needs_id request)
    ] in
    named fs id (Some request) (rw c.from.ensures at (c.in_ok-id.ensures.exact fs reads)) (request_is ∙ read)
    ∙ ap (λ b. cond {A = Option Command} b None (Some (record { id = id; request = request }))) has
