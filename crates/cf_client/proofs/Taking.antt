-- What a client takes, and what its application is told.
use Rattle.std.proofs.Common.{◌≡◌, ◌∙◌, ℕ, Bool, if◌then◌else◌, Option, Some, None, List, [], ◌∷◌, ◌++◌, refl, sym, ap}
use Rattle.std.proofs.Common.{subst, append_assoc, map, Bor}
use Rattle.std.specs.Option.{option_map}
use Rattle.std.specs.Prelude.{option_to_list}
use Rattle.std.proofs.lemmas.List.{append-nil, map-append}
use Rattle.cf_protocol.specs.Position.{Position}
use Rattle.cf_protocol.specs.Datum.{Placed}
use Rattle.cf_protocol.specs.Outgoing.{Outgoing}
use Rattle.cf_model.specs.Clients.{Mode, Idle, Asking, Live}
use Rattle.cf_client.specs.ClientCalls.{State, moves, asks_again, TakesPublication, TakesEnd, Takes, TakesAll}
use Rattle.cf_client.specs.AppItem as item
use Rattle.cf_client.specs.AppItem.{AppItem, published}
use Rattle.cf_client.specs.Shown.{shown_item, shown_mode}
use Rattle.cf_client.specs.declared.channels.Mode.{Mode as CodeMode}
use Rattle.cf_client.specs.declared.channels.Mode.TheVariants as code
use Rattle.cf_client.specs.declared.event.AppEvent.{AppEvent}

-- ---- what the application is told

pub told_one : (before after : List AppEvent) (e : AppEvent) (i : AppItem)
    → after ≡ before ++ e ∷ [] → shown_item e ≡ i → map shown_item after ≡ map shown_item before ++ i ∷ []
told_one before after e i h k =
    ap (map shown_item) h ∙ map-append shown_item before (e ∷ [])
    ∙ ap (λ (x : AppItem). map shown_item before ++ x ∷ []) k

-- one thing more is told, after nothing was
pub told_next : (before kept after : List AppEvent) (e : AppEvent) (i : AppItem)
    → kept ≡ before → after ≡ kept ++ e ∷ [] → shown_item e ≡ i → map shown_item after ≡ map shown_item before ++ i ∷ []
told_next before kept after e i same h k =
    subst (λ x. map shown_item after ≡ map shown_item x ++ i ∷ []) same (told_one kept after e i h k)

pub told_reply : (before mid after : List AppEvent) (i : AppItem) (is : List AppItem)
    → map shown_item mid ≡ map shown_item before ++ i ∷ [] → map shown_item after ≡ map shown_item mid ++ is
    → map shown_item after ≡ map shown_item before ++ i ∷ is
told_reply before mid after i is h k =
    k ∙ ap (λ (xs : List AppItem). xs ++ is) h ∙ append_assoc (map shown_item before) (i ∷ []) is

-- what is told of a call, where it was out, and where it wasn't
pub told_call : (tells : List ℕ → AppItem) (before after : List AppEvent) (e : AppEvent) (name : List ℕ)
    (found : Option (List ℕ))
    → after ≡ before ++ e ∷ [] → shown_item e ≡ tells name → Some name ≡ found
    → map shown_item after ≡ map shown_item before ++ map tells (option_to_list found)
told_call tells before after e name found h k is =
    told_one before after e (tells name) h k ∙ ap
    (λ (o : Option (List ℕ)). map shown_item before ++ map tells (option_to_list o)) is

pub told_next_call : (tells : List ℕ → AppItem) (before kept after : List AppEvent) (e : AppEvent) (name : List ℕ)
    (found : Option (List ℕ))
    → kept ≡ before → after ≡ kept ++ e ∷ [] → shown_item e ≡ tells name → Some name ≡ found
    → map shown_item after ≡ map shown_item before ++ map tells (option_to_list found)
told_next_call tells before kept after e name found same h k is =
    subst (λ x. map shown_item after ≡ map shown_item x ++ map tells (option_to_list found)) same
    (told_call tells kept after e name found h k is)

pub told_no_call : (tells : List ℕ → AppItem) (events : List AppEvent) (found : Option (List ℕ)) → None ≡ found
    → map shown_item events ≡ map shown_item events ++ map tells (option_to_list found)
told_no_call tells events found is =
    sym (append-nil (map shown_item events)) ∙ ap
    (λ (o : Option (List ℕ)). map shown_item events ++ map tells (option_to_list o)) is

-- a look-up that found nothing
pub none_found : (found : Option (Bor (List ℕ))) → ((b : Bor (List ℕ)) → found ≡ Some b → ⊥)
    → None ≡ option_map (λ b. b.now) found
none_found None never = refl
none_found (Some b) never = absurd (never b refl)

-- ---- modes that are found

-- what was found at a name
pub live_at : (found : CodeMode) (m : Mode) (p : Position) → shown_mode found ≡ m → found ≡ code.Live p → m ≡ Live p
live_at found m p says is = sym says ∙ ap shown_mode is

pub not_live : (found : CodeMode) (m : Mode) → shown_mode found ≡ m → ((p : Position) → found ≡ code.Live p → ⊥)
    → (p : Position) → m ≡ Live p → ⊥
not_live (code.Idle last) m says never p e = absurd (cc)
not_live (code.Asking id from last) m says never p e = absurd (cc)
not_live (code.Live at) m says never p e = never at refl

-- ---- pushes

pub passes_publication : (c : List ℕ) (q : Placed) (m : Mode) (s : State) → ((p : Position) → m ≡ Live p → ⊥)
    → TakesPublication c q m s s []
passes_publication c q (Idle last) s h = (refl, refl)
passes_publication c q (Asking id from last) s h = (refl, refl)
passes_publication c q (Live p) s h = absurd (h p refl)

pub takes_publication : (c : List ℕ) (q : Placed) (m : Mode) (p : Position) (old new : State) → m ≡ Live p
    → new ≡ moves c (Live (record { epoch = p.epoch; offset = q.offset })) old
    → TakesPublication c q m old new (published c p.epoch q ∷ [])
takes_publication c q m p old new e goes =
    subst (λ (x : Mode). TakesPublication c q x old new (published c p.epoch q ∷ [])) (sym e) (goes, refl)

pub passes_end : (c : List ℕ) (k : ℕ) (m : Mode) (s : State) → ((p : Position) → m ≡ Live p → ⊥) → TakesEnd c k m s s []
passes_end c k (Idle last) s h = (refl, refl)
passes_end c k (Asking id from last) s h = (refl, refl)
passes_end c k (Live p) s h = absurd (h p refl)

pub takes_end : (c : List ℕ) (k : ℕ) (b : Bool) (m : Mode) (p : Position) (old new : State) → m ≡ Live p
    → asks_again k ≡ b
    → new ≡ moves c (Idle (Some p)) old → TakesEnd c k m old new (if b then item.Resubscribing c k ∷ [] else [])
takes_end c k b m p old new e says goes =
    subst (λ (x : Mode). TakesEnd c k x old new (if b then item.Resubscribing c k ∷ [] else [])) (sym e)
    (goes, ap (λ (t : Bool). if t then item.Resubscribing c k ∷ [] else []) (sym says))

-- ---- a whole text

-- one more is taken
pub takes_more : (os : List Outgoing) (o : Outgoing) (a b c : State) (told more : List AppItem)
    → TakesAll os a b told → Takes o b c more → TakesAll (os ++ o ∷ []) a c (told ++ more)
takes_more [] o a b c told more h t = (
  c,
  more,
  [],
  subst (λ (x : State). Takes o x c more) h.0 t,
  (refl, refl),
  subst (λ (xs : List AppItem). xs ++ more ≡ more ++ []) (sym h.1) (sym (append-nil more)),
)
takes_more (p ∷ os) o a b c told more (mid, first, rest, one, all, tells) t = (
  mid,
  first,
  rest ++ more,
  one,
  takes_more os o mid b c rest more all t,
  ap (λ (xs : List AppItem). xs ++ more) tells ∙ append_assoc first rest more,
)
