-- What a draft makes of what a client knows, and what contracts see of it.
use Rattle.std.proofs.Common.{◌≡◌, ◌∙◌, ℕ, suc, Bool, true, false, cond, if◌then◌else◌, not, ◌==◌, ◌||◌, Option, Some}
use Rattle.std.proofs.Common.{None, IsSome, is_some, List, [], ◌∷◌, ◌++◌, map, reverse, refl, sym, ap, subst, filter}
use Rattle.std.proofs.Common.{arith, Vec}
use Rattle.std.specs.BTreeMap.{get_by_text, is_at}
use Rattle.std.specs.Cmp.Lexicographic.{slice_cmp}
use Rattle.std.specs.List.{All, list_any}
use Rattle.std.specs.Map.{update, lookup}
use Rattle.std.specs.Option.{option_map}
use Rattle.std.specs.Ordering.{nat_cmp, is_eq}
use Rattle.std.specs.Str.{bytes_eq}
use Rattle.std.specs.String.{string_bytes}
use Rattle.std.specs.declared.string.String.{String}
use Rattle.std.specs.declared.alloc.Global.{Global}
use Rattle.std.proofs.lemmas.Bool.Decides.{nat_tests}
use Rattle.std.proofs.lemmas.List.{map-append, reverse-append}
use Rattle.std.proofs.lemmas.List.Elements.{All-head, All-tail}
use Rattle.std.proofs.lemmas.Map.Text.{is_eq-slice_cmp}
use Rattle.std.proofs.lemmas.Slice.Eq.{bytes_eq-Decides}
use Rattle.cf_protocol.specs.Names.{with}
use Rattle.cf_protocol.specs.Position.{Position}
use Rattle.cf_model.specs.Clients.{Mode, Idle, Asking, Live, idle, is_idle, last_of}
use Rattle.cf_client.specs.ClientCalls.{Call, State, asks_under, called, channel_under, asked, left, moves, answered}
use Rattle.cf_client.specs.ClientView.{ids_of}
use Rattle.cf_client.specs.Draft.{changed_or, drafted_code, drafted_mode, drafted_calls, drafted}
use Rattle.cf_client.specs.Shown.{Channels, modes_of, mode_or_idle, shown_mode, SetsMode, calls_of, known_state}
use Rattle.cf_client.specs.Shown.{shown_call}
use Rattle.cf_client.specs.declared.calls.Call.{Call as CodeCall}
use Rattle.cf_client.specs.declared.channels.Mode.{Mode as CodeMode}
use Rattle.cf_client.specs.declared.channels.Mode.TheVariants as code
use Rattle.cf_client.specs.declared.draft.Draft.{Draft as CodeDraft}
use Rattle.cf_client.specs.declared.known.Known.{Known as CodeKnown}
use Rattle.cf_client.proofs.Moves.{either_way, modes-get, sets_mode, asked_here, answered_here, calls-filter}

-- ---- one channel

-- a channel that asks is one that the client asked for
asks_is_there : (id : ℕ) (changed : Option CodeMode) (o : Option CodeMode)
    → asks_under id (mode_or_idle (option_map (changed_or changed) o)) ≡ true → IsSome o
asks_is_there id changed None h = absurd (cc)
asks_is_there id changed (Some v) h = refl

-- and so is a live one
live_is_there : (p : Position) (changed : Option CodeMode) (o : Option CodeMode)
    → mode_or_idle (option_map (changed_or changed) o) ≡ Live p → IsSome o
live_is_there p changed None h = absurd (cc)
live_is_there p changed (Some v) h = refl

put_here : (b : Bool) (m : CodeMode) (changed base : Option CodeMode) → (b ≡ true → IsSome base)
    → mode_or_idle (option_map (changed_or (if b then Some m else changed)) base)
    ≡ (if b then shown_mode m else mode_or_idle (option_map (changed_or changed) base))
put_here true m changed None there = let h : false ≡ true = there refl in absurd (cc)
put_here true m changed (Some v) there = refl
put_here false m changed base there = refl

-- a change at a channel that is there
pub put_moves : (k : CodeKnown) (old new : CodeDraft) (c : List ℕ) (m : CodeMode)
    → ((d : List ℕ) → get_by_text new.changed d ≡ update bytes_eq (get_by_text old.changed) c (Some m) d)
    → new.answered.items ≡ old.answered.items
    → IsSome (get_by_text k.channels c) → drafted k new ≡ moves c (shown_mode m) (drafted k old)
put_moves k old new c m puts same there =
    λ i. record {
      connected = k.is_connected;
      client = record {
        fresh = suc k.last_id;
        modes = λ d. modes d i;
        calls = ids_of (drafted_calls (same i) (calls_of k.calls.items));
      };
      out = drafted_calls (same i) (calls_of k.calls.items);
    }
  where
    modes : (d : List ℕ) → drafted_mode k.channels new.changed d
        ≡ with (drafted_mode k.channels old.changed) c (shown_mode m) d
    modes d =
        ap (λ o. mode_or_idle (option_map (changed_or o) (get_by_text k.channels d))) (puts d)
        ∙ put_here (bytes_eq c d) m (get_by_text old.changed d) (get_by_text k.channels d)
        (λ e. subst (λ x. IsSome (get_by_text k.channels x)) ((bytes_eq-Decides c d).0 e) there)
        ∙ ap (λ (b : Bool). if b then shown_mode m else drafted_mode k.channels old.changed d) (either_way c d)

abbrev Moved : CodeKnown → CodeDraft → CodeDraft → Mode → List ℕ → Type 0
Moved k old new m c = IsSome (get_by_text k.channels c) → drafted k new ≡ moves c m (drafted k old)

pub moves_asking : (k : CodeKnown) (old new : CodeDraft) (b name : List ℕ) (id : ℕ) (m : Mode) → b ≡ name
    → asks_under id (drafted_mode k.channels old.changed name) ≡ true
    → Moved k old new m b → drafted k new ≡ moves name m (drafted k old)
moves_asking k old new b name id m same asks goes =
    subst (Moved k old new m) same goes (asks_is_there id (get_by_text old.changed name) (get_by_text k.channels name)
    asks)

pub moves_live : (k : CodeKnown) (old new : CodeDraft) (b name : List ℕ) (p : Position) (m : Mode) → b ≡ name
    → drafted_mode k.channels old.changed name ≡ Live p
    → Moved k old new m b → drafted k new ≡ moves name m (drafted k old)
moves_live k old new b name p m same live goes =
    subst (Moved k old new m) same goes (live_is_there p (get_by_text old.changed name) (get_by_text k.channels name)
    live)

-- ---- what a client does of itself

ids_of-more : (ks : List Call) (k : Call) → ids_of (ks ++ k ∷ []) ≡ k.id ∷ ids_of ks
ids_of-more ks k =
    ap reverse (map-append (λ (x : Call). x.id) ks (k ∷ [])) ∙ reverse-append (map (λ (x : Call). x.id) ks) (k.id ∷ [])

pub called_path : (k : CodeKnown) (calls : Vec CodeCall Global) (id : ℕ) (channel : String Global) (name : List ℕ)
    → calls.items ≡ k.calls.items ++ record { id = id; channel = channel } ∷ [] → id ≡ suc k.last_id
    → string_bytes channel ≡ name
    → known_state (record k { calls = calls; last_id = id }) ≡ called name (known_state k)
called_path k calls id channel name is next named_so =
    let s : State = known_state k in
    let one : Call = record { id = suc k.last_id; channel = name } in
    let out : calls_of calls.items ≡ s.out ++ one ∷ [] =
    ap calls_of is ∙ map-append shown_call k.calls.items (record { id = id; channel = channel } ∷ [])
    ∙ (λ i. s.out ++ record { id = next i; channel = named_so i } ∷ []) in
    let ids : ids_of (calls_of calls.items) ≡ suc k.last_id ∷ s.client.calls = ap ids_of out ∙ ids_of-more s.out one in
    λ i. record {
      connected = s.connected;
      client = record {
        fresh = suc (next i);
        modes = s.client.modes;
        calls = ids i;
      };
      out = out i;
    }

pub asked_path : (k : CodeKnown) (new : Channels) (name : List ℕ) (id : ℕ) (from last : Option Position)
    → id ≡ suc k.last_id
    → ((d : List ℕ) → get_by_text new d ≡ update bytes_eq (get_by_text k.channels) name
    (Some (code.Asking id from last)) d)
    → last ≡ last_of (modes_of k.channels name)
    → known_state (record k { channels = new; last_id = id }) ≡ asked name from (known_state k)
asked_path k new name id from last next sets is =
    let asks : SetsMode k.channels new name (Asking id from last) =
    sets_mode k.channels new name (code.Asking id from last) sets in
    asked_here (known_state k) id (modes_of new) name from next
    (subst (λ (p : Option Position). SetsMode k.channels new name (Asking id from p)) is asks)

busy_is_there : (o : Option CodeMode) → is_idle (mode_or_idle o) ≡ false → IsSome o
busy_is_there None h = absurd (cc)
busy_is_there (Some v) h = refl

pub left_path : (k : CodeKnown) (new : Channels) (name : List ℕ) (id : ℕ) (last : Option Position) → id ≡ suc k.last_id
    → (IsSome (get_by_text k.channels name) → SetsMode k.channels new name (Idle last))
    → is_idle (modes_of k.channels name) ≡ false
    → last ≡ last_of (modes_of k.channels name)
    → known_state (record k { channels = new; last_id = id }) ≡ left name (known_state k)
left_path k new name id last next goes busy is =
    let there : IsSome (get_by_text k.channels name) =
    busy_is_there (get_by_text k.channels name) (ap is_idle (sym (modes-get k.channels name)) ∙ busy) in
    let sets : SetsMode k.channels new name (idle (modes_of k.channels name)) =
    subst (λ (p : Option Position). SetsMode k.channels new name (Idle p)) is (goes there) in
    λ i. record {
      connected = k.is_connected;
      client = record { fresh = suc (next i); modes = λ d. sets d i; calls = ids_of (calls_of k.calls.items) };
      out = calls_of k.calls.items;
    }

-- ---- nothing changes

unchanged : (o : Option CodeMode) → option_map (changed_or None) o ≡ o
unchanged None = refl
unchanged (Some v) = refl

pub no_change : (base changed : Channels) → changed.entries ≡ [] → (c : List ℕ)
    → get_by_text base c ≡ drafted_code base changed c
no_change base changed none c =
    let found : get_by_text changed c ≡ None = ap (lookup (is_at (λ x. slice_cmp nat_cmp c (string_bytes x)))) none in
    sym (ap (λ o. option_map (changed_or o) (get_by_text base c)) found ∙ unchanged (get_by_text base c))

pub nothing_drafted : (k : CodeKnown) (d : CodeDraft) → d.changed.entries ≡ [] → d.answered.items ≡ []
    → drafted k d ≡ known_state k
nothing_drafted k d none no_calls =
    let modes : (c : List ℕ) → drafted_mode k.channels d.changed c ≡ modes_of k.channels c = λ c.
    ap mode_or_idle (sym (no_change k.channels d.changed none c)) ∙ sym (modes-get k.channels c) in
    λ i. record {
      connected = k.is_connected;
      client = record {
        fresh = suc k.last_id;
        modes = λ c. modes c i;
        calls = ids_of (drafted_calls (no_calls i) (calls_of k.calls.items));
      };
      out = drafted_calls (no_calls i) (calls_of k.calls.items);
    }

-- ---- what is carried out

pub all_carried_out : (old new : CodeKnown) (d : CodeDraft) → new.is_connected ≡ old.is_connected
    → new.last_id ≡ old.last_id
    → ((c : List ℕ) → get_by_text new.channels c ≡ drafted_code old.channels d.changed c)
    → calls_of new.calls.items ≡ drafted_calls d.answered.items (calls_of old.calls.items)
    → known_state new ≡ drafted old d
all_carried_out old new d connected last modes calls =
    λ i. record {
      connected = connected i;
      client = record {
        fresh = suc (last i);
        modes = λ c. (modes-get new.channels c ∙ ap mode_or_idle (modes c)) i;
        calls = ids_of (calls i);
      };
      out = calls i;
    }

one_more : (b : Bool) (m : CodeMode) (rest base : Option CodeMode)
    → option_map (changed_or (if b then None else rest)) (option_map (λ v. if b then m else v) base)
    ≡ option_map (changed_or (if b then Some m else rest)) base
one_more true m rest None = refl
one_more true m rest (Some v) = refl
one_more false m rest None = refl
one_more false m rest (Some v) = refl

told_apart : (b : Bool) (m : CodeMode) (all : Option CodeMode) → (b ≡ true → all ≡ Some m)
    → (if b then Some m else all) ≡ all
told_apart true m all h = sym (h refl)
told_apart false m all h = refl

-- one change is carried out, and is no longer among those that are to come
pub carried_out_one : (base new : Channels) (all rest : Channels) (k : List ℕ) (m : CodeMode)
    → ((c : List ℕ) → get_by_text new c ≡ option_map (λ v. if bytes_eq k c then m else v) (get_by_text base c))
    → ((c : List ℕ) → get_by_text rest c ≡ update bytes_eq (get_by_text all) k None c) → get_by_text all k ≡ Some m
    → (c : List ℕ) → drafted_code new rest c ≡ drafted_code base all c
carried_out_one base new all rest k m each less here c =
    (λ i. option_map (changed_or (less c i)) (each c i))
    ∙ one_more (bytes_eq k c) m (get_by_text all c) (get_by_text base c)
    ∙ ap (λ o. option_map (changed_or o) (get_by_text base c))
    (told_apart (bytes_eq k c) m (get_by_text all c)
    (λ e. subst (λ x. get_by_text all x ≡ Some m) ((bytes_eq-Decides k c).0 e) here))

-- ---- calls

pub drafted_calls-append : (is js : List ℕ) (ks : List Call)
    → drafted_calls (is ++ js) ks ≡ drafted_calls js (drafted_calls is ks)
drafted_calls-append [] js ks = refl
drafted_calls-append (i ∷ is) js ks = drafted_calls-append is js (filter (λ (k : Call). not (k.id == i)) ks)

pub answered_more : (k : CodeKnown) (old new : CodeDraft) (id : ℕ) → new.changed ≡ old.changed
    → new.answered.items ≡ old.answered.items ++ id ∷ []
    → drafted k new ≡ answered id (drafted k old)
answered_more k old new id same more =
    let ks : List Call = calls_of k.calls.items in
    let calls : drafted_calls new.answered.items ks
    ≡ filter (λ (x : Call). not (x.id == id)) (drafted_calls old.answered.items ks) =
    ap (λ is. drafted_calls is ks) more ∙ drafted_calls-append old.answered.items (id ∷ []) ks in
    ap (λ (m : Channels). record {
      connected = k.is_connected;
      client = record {
        fresh = suc k.last_id;
        modes = drafted_mode k.channels m;
        calls = ids_of (drafted_calls new.answered.items ks);
      };
      out = drafted_calls new.answered.items ks;
    }) same
    ∙ answered_here (drafted k old) id (drafted_calls new.answered.items ks) refl calls

by_tests : (id j : ℕ) (k : Call) (a b d : Bool) (rest ks : List Call) → (k.id == j) ≡ a → (k.id == id) ≡ b
    → (j == id) ≡ d
    → channel_under id rest ≡ (if j == id then None else channel_under id ks)
    → channel_under id (cond (not a) (k ∷ rest) rest)
    ≡ (if d then None else if b then Some k.channel else channel_under id ks)
by_tests id j k true true true rest ks p q r h = h ∙ ap (λ (x : Bool). if x then None else channel_under id ks) r
by_tests id j k true true false rest ks p q r h = absurd (grind (arith, nat_tests, p, q, r))
by_tests id j k true false true rest ks p q r h = h ∙ ap (λ (x : Bool). if x then None else channel_under id ks) r
by_tests id j k true false false rest ks p q r h = h ∙ ap (λ (x : Bool). if x then None else channel_under id ks) r
by_tests id j k false true true rest ks p q r h = absurd (grind (arith, nat_tests, p, q, r))
by_tests id j k false true false rest ks p q r h =
    ap (λ (x : Bool). if x then Some k.channel else channel_under id rest) q
by_tests id j k false false d rest ks p q r h =
    ap (λ (x : Bool). if x then Some k.channel else channel_under id rest) q ∙ h
    ∙ ap (λ (x : Bool). if x then None else channel_under id ks) r

-- the order of the two ids doesn't matter
either_id : (i j : ℕ) (a b : Bool) → (i == j) ≡ a → (j == i) ≡ b → (i == j) ≡ (j == i)
either_id i j true true p q = p ∙ sym q
either_id i j true false p q = absurd (grind (arith, nat_tests, p, q))
either_id i j false true p q = absurd (grind (arith, nat_tests, p, q))
either_id i j false false p q = p ∙ sym q

-- a filter by the second of two tests, of what the first one keeps
by_both : (p : CodeCall → Bool) (k : CodeCall) (kept rest : List CodeCall) (a b c : Bool) → a ≡ c → p k ≡ not b
    → rest ≡ filter p kept
    → cond (not (a || b)) (k ∷ rest) rest ≡ filter p (cond (not c) (k ∷ kept) kept)
by_both p k kept rest a b true same is h = ap (λ (x : Bool). cond (not (x || b)) (k ∷ rest) rest) same ∙ h
by_both p k kept rest a b false same is h =
    ap (λ (x : Bool). cond (not (x || b)) (k ∷ rest) rest) same ∙ ap (λ (x : Bool). cond x (k ∷ rest) rest) (sym is)
    ∙ ap (λ (r : List CodeCall). cond (p k) (k ∷ r) r) h

kept_by_both : (id : ℕ) (ids : List ℕ) (ks : List CodeCall)
    → filter (λ k. not (list_any (λ i. i == k.id) (id ∷ ids))) ks
    ≡ filter (λ k. not (list_any (λ i. i == k.id) ids)) (filter (λ k. not (k.id == id)) ks)
kept_by_both id ids [] = refl
kept_by_both id ids (k ∷ ks) =
    by_both (λ (x : CodeCall). not (list_any (λ (i : ℕ). i == x.id) ids)) k
    (filter (λ (x : CodeCall). not (x.id == id)) ks)
    (filter (λ (x : CodeCall). not (list_any (λ (i : ℕ). i == x.id) (id ∷ ids))) ks)
    (id == k.id) (list_any (λ (i : ℕ). i == k.id) ids) (k.id == id)
    (either_id id k.id (id == k.id) (k.id == id) refl refl) refl (kept_by_both id ids ks)

all_kept : (ks : List CodeCall) → filter (λ k. true) ks ≡ ks
all_kept [] = refl
all_kept (k ∷ ks) = ap (λ (xs : List CodeCall). k ∷ xs) (all_kept ks)

-- the calls that aren't answered
pub calls_kept : (ids : List ℕ) (ks : List CodeCall)
    → calls_of (filter (λ k. not (list_any (λ i. i == k.id) ids)) ks) ≡ drafted_calls ids (calls_of ks)
calls_kept [] ks = ap calls_of (all_kept ks)
calls_kept (id ∷ ids) ks =
    ap calls_of (kept_by_both id ids ks) ∙ calls_kept ids (filter (λ (k : CodeCall). not (k.id == id)) ks)
    ∙ ap (drafted_calls ids) (calls-filter id ks)

-- a call that was answered is no longer found, and the others are
found_after_one : (id j : ℕ) (ks : List Call)
    → channel_under id (filter (λ k. not (k.id == j)) ks) ≡ (if j == id then None else channel_under id ks)
found_after_one id j [] =
    elim (j == id) as (λ b. ◌≡◌ {A = Option (List ℕ)} None (if b then None else None)) [ true ↦ refl | false ↦ refl ]
found_after_one id j (k ∷ ks) =
    by_tests id j k (k.id == j) (k.id == id) (j == id) (filter (λ (x : Call). not (x.id == j)) ks) ks refl refl refl
    (found_after_one id j ks)

either_none : (a b : Bool) (x : Option (List ℕ))
    → (if b then None else if a then None else x) ≡ (if a || b then None else x)
either_none true true x = refl
either_none true false x = refl
either_none false true x = refl
either_none false false x = refl

pub found_after : (id : ℕ) (is : List ℕ) (ks : List Call)
    → channel_under id (drafted_calls is ks) ≡ (if list_any (λ i. i == id) is then None else channel_under id ks)
found_after id [] ks = refl
found_after id (i ∷ is) ks =
    found_after id is (filter (λ (k : Call). not (k.id == i)) ks)
    ∙ ap (λ x. if list_any (λ (j : ℕ). j == id) is then None else x) (found_after_one id i ks)
    ∙ either_none (i == id) (list_any (λ (j : ℕ). j == id) is) (channel_under id ks)

-- ---- asks

-- what a walk over the channels finds
abbrev pub NoneAsks : Channels → Channels → ℕ → List ℕ → Type 0
NoneAsks base changed id name = asks_under id (drafted_mode base changed name) ≡ false

key_by_test : (P : List ℕ → Type 0) (c k : List ℕ) (b : Bool) (v : CodeMode) (rest : Option CodeMode)
    → is_eq (slice_cmp nat_cmp c k) ≡ b → P k
    → (IsSome rest → P c) → IsSome (cond b (Some v) rest) → P c
key_by_test P c k true v rest h here later there =
    subst P (sym ((bytes_eq-Decides c k).0 (sym (is_eq-slice_cmp c k) ∙ h))) here
key_by_test P c k false v rest h here later there = later there

key_found : (P : List ℕ → Type 0) (c : List ℕ) (es : List (String Global × CodeMode))
    → All (λ e. P (string_bytes e.0)) es
    → IsSome (lookup (is_at (λ k. slice_cmp nat_cmp c (string_bytes k))) es) → P c
key_found P c [] all there = absurd (cc)
key_found P c (e ∷ es) all there =
    key_by_test P c (string_bytes e.0) (is_eq (slice_cmp nat_cmp c (string_bytes e.0))) e.1
    (lookup (is_at (λ k. slice_cmp nat_cmp c (string_bytes k))) es) refl
    (All-head (λ (x : String Global × CodeMode). P (string_bytes x.0)) e es all)
    (key_found P c es (All-tail (λ (x : String Global × CodeMode). P (string_bytes x.0)) e es all)) there

pub none_asks : (base changed : Channels) (id : ℕ) → All (λ e. NoneAsks base changed id (string_bytes e.0)) base.entries
    → (c : List ℕ) → NoneAsks base changed id c
none_asks base changed id all c = by_value (get_by_text base c) refl
  where
    by_value : (o : Option CodeMode) → get_by_text base c ≡ o → NoneAsks base changed id c
    by_value None h = ap (λ o. asks_under id (mode_or_idle (option_map (changed_or (get_by_text changed c)) o))) h
    by_value (Some v) h = key_found (NoneAsks base changed id) c base.entries all (ap (λ o. is_some o) h)
