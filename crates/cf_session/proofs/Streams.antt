-- Frames ask for streams only where a namespace is set up, and say only replies that a session gives itself.
use Rattle.std.proofs.Common.{◌≡◌, ℕ, Bool, true, false, not, ◌||◌, is_some, Option, Some, None, List, [], ◌∷◌, refl}
use Rattle.cf_protocol.specs.Position.{Position}
use Rattle.cf_protocol.specs.Datum.{Who}
use Rattle.cf_protocol.specs.Request as request
use Rattle.cf_protocol.specs.Request.{Request, Command, Connect, Subscribe, Unsubscribe, PresenceStats, Ping, Send}
use Rattle.cf_protocol.specs.Request.{Other}
use Rattle.cf_protocol.specs.Settings.{NamespaceTable, settings_of, user_of}
use Rattle.cf_protocol.specs.declared.codes.ErrorCode.{ErrorCode}
use Rattle.cf_protocol.specs.declared.codes.ErrorCode.TheVariants as error
use Rattle.cf_session.specs.Calls.{Answer, Refused, Done, Found, Attached}
use Rattle.cf_session.specs.Script.{Script}
use Rattle.cf_protocol.specs.Checks.{Check, first_failed, is_bad_channel, is_bad_key, is_bad_data, may_publish}
use Rattle.cf_protocol.specs.Checks.{may_list, checks}
use Rattle.cf_session.specs.CommandScripts.{Tables, granted, unless_failed, connect_script, first_script, frame_script}
use Rattle.cf_session.specs.CommandScripts.{replies, after_read, after_begin, after_attach, client_of}
use Rattle.cf_session.specs.Asking.{AllAsk, HasStream, FramesHaveStreams, finds_own}

-- what a request needs
Needs : NamespaceTable → Request → Type 0
Needs t (Subscribe c since) = is_some (settings_of t c) ≡ true
Needs t (request.Publish c key d) = is_some (settings_of t c) ≡ true
Needs t (request.History c limit since reverse) = is_some (settings_of t c) ≡ true
Needs t (Unsubscribe c) = Unit {0}
Needs t (request.Presence c) = Unit {0}
Needs t (PresenceStats c) = Unit {0}
Needs t Ping = Unit {0}
Needs t Send = Unit {0}
Needs t request.Pong = Unit {0}
Needs t Other = Unit {0}
Needs t (Connect token) = Unit {0}

second_passed : (a b : Bool) (e f : ErrorCode) (cs : List Check) → first_failed ((a, e) ∷ (not b, f) ∷ cs) ≡ None
    → b ≡ true
second_passed true b e f cs h = absurd (cc (h))
second_passed false true e f cs h = refl
second_passed false false e f cs h = absurd (cc (h))

third_passed : (a d b : Bool) (e g f : ErrorCode) (cs : List Check)
    → first_failed ((a, e) ∷ (d, g) ∷ (not b, f) ∷ cs) ≡ None → b ≡ true
third_passed true d b e g f cs h = absurd (cc (h))
third_passed false d b e g f cs h = second_passed d b g f cs h

passed : (t : NamespaceTable) (r : Request) → first_failed (checks t r) ≡ None → Needs t r
unfolding Needs
passed t (Subscribe c since) h =
    second_passed (is_bad_channel c) (is_some (settings_of t c)) error.BadRequest error.UnknownChannel [] h
passed t (request.Publish c key d) h =
    third_passed (is_bad_channel c) (is_bad_key key || is_bad_data d) (is_some (settings_of t c)) error.BadRequest
    error.BadRequest error.UnknownChannel
    (may_publish t c ∷ []) h
passed t (request.History c limit since reverse) h =
    second_passed (is_bad_channel c) (is_some (settings_of t c)) error.BadRequest error.UnknownChannel
    (may_list t c ∷ (reverse, error.NotAvailable) ∷ []) h
passed t (Unsubscribe c) h = tt
passed t (request.Presence c) h = tt
passed t (PresenceStats c) h = tt
passed t Ping h = tt
passed t Send h = tt
passed t request.Pong h = tt
passed t Other h = tt
passed t (Connect token) h = tt

replies_ask : (t : NamespaceTable) (id : ℕ) (after : Script) → AllAsk (HasStream t) after → (a : Answer)
    → finds_own a ≡ true → AllAsk (HasStream t) (replies id after a)
replies_ask t id after h (Refused e) g = (refl, h)
replies_ask t id after h Done g = h
replies_ask t id after h (Found o) g = (g, h)
replies_ask t id after h (Attached client) g = h

read_asks : (t : NamespaceTable) (id : ℕ) (c : List ℕ) (after : Script) → AllAsk (HasStream t) after → (a : Answer)
    → finds_own a ≡ true → AllAsk (HasStream t) (after_read id c after a)
read_asks t id c after h (Refused e) g = (tt, λ b k. (refl, h))
read_asks t id c after h Done g = (tt, λ b k. h)
read_asks t id c after h (Found o) g = (tt, λ b k. h)
read_asks t id c after h (Attached client) g = (tt, λ b k. h)

begin_asks : (t : NamespaceTable) (id : ℕ) (c : List ℕ) (since : Option Position) (after : Script)
    → is_some (settings_of t c) ≡ true → AllAsk (HasStream t) after → (a : Answer) → finds_own a ≡ true
    → AllAsk (HasStream t) (after_begin id c c since after a)
begin_asks t id c since after up h (Refused e) g = (refl, h)
begin_asks t id c since after up h Done g = (up, read_asks t id c after h)
begin_asks t id c since after up h (Found o) g = (up, read_asks t id c after h)
begin_asks t id c since after up h (Attached client) g = (up, read_asks t id c after h)

granted_asks : (t : NamespaceTable) (who : Who) (id : ℕ) (r : Request) (after : Script) → Needs t r
    → AllAsk (HasStream t) after → AllAsk (HasStream t) (granted who id r after)
unfolding Needs
granted_asks t who id (Subscribe c since) after up h = (tt, begin_asks t id c since after up h)
granted_asks t who id (Unsubscribe c) after up h = (tt, λ a g. (refl, h))
granted_asks t who id (request.Publish c key d) after up h = (up, replies_ask t id after h)
granted_asks t who id (request.Presence c) after up h = (tt, replies_ask t id after h)
granted_asks t who id (PresenceStats c) after up h = (tt, replies_ask t id after h)
granted_asks t who id (request.History c limit since reverse) after up h = (up, replies_ask t id after h)
granted_asks t who id Ping after up h = (refl, h)
granted_asks t who id Send after up h = h
granted_asks t who id request.Pong after up h = h
granted_asks t who id Other after up h = h
granted_asks t who id (Connect token) after up h = tt

unless_asks : (t : NamespaceTable) (o : Option ErrorCode) (id : ℕ) (after script : Script)
    → AllAsk (HasStream t) after → (o ≡ None → AllAsk (HasStream t) script)
    → AllAsk (HasStream t) (unless_failed o id after script)
unless_asks t None id after script h g = g refl
unless_asks t (Some e) id after script h g = (refl, h)

attach_asks : (t : NamespaceTable) (id : ℕ) (user : List ℕ) (after : Who → Script)
    → ((w : Who) → AllAsk (HasStream t) (after w)) → (a : Answer) → finds_own a ≡ true
    → AllAsk (HasStream t) (after_attach id user after a)
attach_asks t id user after h (Attached client) g = (refl, h (client_of user client))
attach_asks t id user after h (Refused e) g = tt
attach_asks t id user after h Done g = tt
attach_asks t id user after h (Found o) g = tt

connect_asks : (t : NamespaceTable) (o : Option (List ℕ)) (id : ℕ) (after : Who → Script)
    → ((w : Who) → AllAsk (HasStream t) (after w)) → AllAsk (HasStream t) (connect_script o id after)
connect_asks t None id after h = tt
connect_asks t (Some user) id after h = (tt, attach_asks t id user after h)

first_asks : (t : Tables) (id : ℕ) (r : Request) (after : Who → Script)
    → ((w : Who) → AllAsk (HasStream t.namespaces) (after w))
    → AllAsk (HasStream t.namespaces) (first_script t id r after)
first_asks t id (Connect token) after h = connect_asks t.namespaces (user_of t.tokens token) id after h
first_asks t id (Subscribe c since) after h = tt
first_asks t id (Unsubscribe c) after h = tt
first_asks t id (request.Publish c key d) after h = tt
first_asks t id (request.Presence c) after h = tt
first_asks t id (PresenceStats c) after h = tt
first_asks t id (request.History c limit since reverse) after h = tt
first_asks t id Ping after h = tt
first_asks t id Send after h = tt
first_asks t id request.Pong after h = tt
first_asks t id Other after h = tt

pub frames_have_streams : FramesHaveStreams
frames_have_streams t [] who = tt
frames_have_streams t (k ∷ ks) None =
    first_asks t k.id k.request (λ w. frame_script t ks (Some w)) (λ w. frames_have_streams t ks (Some w))
frames_have_streams t (k ∷ ks) (Some who) =
    unless_asks t.namespaces (first_failed (checks t.namespaces k.request)) k.id (frame_script t ks (Some who))
    (granted who k.id k.request (frame_script t ks (Some who)))
    (frames_have_streams t ks (Some who))
    (λ e. granted_asks t.namespaces who k.id k.request (frame_script t ks (Some who)) (passed t.namespaces k.request e)
    (frames_have_streams t ks (Some who)))
