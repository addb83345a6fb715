-- Where no epoch of a channel opens again after publications in it, a stream has the list of its epoch.
use Rattle.std.proofs.Common.{◌≡◌, ℕ, List, [], ◌∷◌, ◌++◌, Bool, true, false, cond, Option, Some, None, refl, sym, ap}
use Rattle.std.proofs.Common.{◌∙◌, subst, append_assoc, append-nil}
use Rattle.std.specs.Prelude.{◌&&◌, fold}
use Rattle.std.specs.Option.{option_map}
use Rattle.std.specs.Str.{bytes_eq}
use Rattle.std.proofs.lemmas.List.Sums.{fold-append}
use mathlib.Core.List.{IsPrefix}
use Rattle.cf_protocol.specs.Datum.{Datum}
use Rattle.cf_protocol.specs.LogEntry.{Entry}
use Rattle.cf_protocol.specs.LogEntry.Entry.{Open, Publish, Trim, Forget, Size}
use Rattle.cf_protocol.specs.Settings.{NamespaceTable}
use Rattle.cf_model.specs.Streams.{Life}
use Rattle.cf_model.specs.Streams.{in_namespace}
use Rattle.cf_stream.specs.LogState.{epoch_in, holding_in, keys_in, life_in, list_in, sizes_in}
use Rattle.cf_stream.specs.PublicationList.{kept_newest, opened, published}
use Rattle.cf_stream.specs.Streams.{size_at}
use Rattle.cf_machine.proofs.Names.{itself}
use Rattle.cf_stream.proofs.LogStates.{changed, life_in-append}
use Rattle.cf_node_hub.specs.Seen.{Turn, listed_in, no_turn, turn_after}

abbrev Turns : Type 0
Turns = List ℕ → Turn

-- whether the stream is of the epoch
abbrev is_of : Option Life → List ℕ → Bool
is_of None e = false
is_of (Some l) e = bytes_eq l.epoch e

record Tied (o : Option Life) (turns : Turns) : Type 0 where
  pub stands : (e : List ℕ) → (turns e).stands ≡ is_of o e
  pub list : (l : Life) → o ≡ Some l → (turns l.epoch).list ≡ l.list

-- an epoch that opens has no publications yet
abbrev Opens : (c : List ℕ) → Turns → Entry → Type 0
Opens c turns (Open q y) = bytes_eq q c ≡ true → (turns y).list ≡ []
Opens c turns (Publish q k d) = Unit {0}
Opens c turns (Trim q n) = Unit {0}
Opens c turns (Forget q) = Unit {0}
Opens c turns (Size name n) = Unit {0}

opens : (b : Bool) (y : List ℕ) (o : Option Life) (turns : Turns) → Tied o turns → (b ≡ true → (turns y).list ≡ [])
    → Tied (cond b (Some (opened y)) o) (λ e. record (turns e) { stands = cond b (bytes_eq y e) (turns e).stands })
opens true y o turns h fresh =
    record {
      stands = λ e. refl;
      list = λ l is. let same : opened y
          ≡ l = cc (is) in subst (λ (z : Life). (turns z.epoch).list ≡ z.list) same (fresh refl);
    }
opens false y o turns h fresh = record { stands = h.stands; list = h.list }

publishes : (b : Bool) (size : ℕ) (k : List ℕ) (d : Datum) (o : Option Life) (turns : Turns) → Tied o turns
    → Tied (cond b (option_map (published size k d) o) o)
    (λ e. record (turns e) { list = cond (b && (turns e).stands) ((turns e).list ++ d ∷ []) (turns e).list })
publishes true size k d None turns h = record { stands = h.stands; list = λ l is. absurd (cc (is)) }
publishes true size k d (Some m) turns h = record {
  stands = h.stands;
  list = λ l is.
      let same : published size k d m ≡ l = cc (is) in
      subst (λ (z : Life). cond (turns z.epoch).stands ((turns z.epoch).list ++ d ∷ []) (turns z.epoch).list ≡ z.list)
      same
      (ap (λ b. cond b ((turns m.epoch).list ++ d ∷ []) (turns m.epoch).list) (h.stands m.epoch ∙ itself m.epoch)
      ∙ ap (λ (ds : List Datum). ds ++ d ∷ []) (h.list m refl));
}
publishes false size k d o turns h = record { stands = h.stands; list = h.list }

keeps : (b : Bool) (n : ℕ) (o : Option Life) (turns : Turns) → Tied o turns
    → Tied (cond b (option_map (kept_newest n) o) o) turns
keeps true n None turns h = h
keeps true n (Some m) turns h = record {
  stands = h.stands;
  list = λ l is. let same : kept_newest n m ≡ l = cc (is) in
      subst (λ (z : Life). (turns z.epoch).list ≡ z.list) same (h.list m refl);
}
keeps false n o turns h = h

forgets : (b : Bool) (o : Option Life) (turns : Turns) → Tied o turns
    → Tied (cond b None o) (λ e. record (turns e) { stands = cond b false (turns e).stands })
forgets true o turns h = record { stands = λ e. refl; list = λ l is. absurd (cc (is)) }
forgets false o turns h = record { stands = h.stands; list = h.list }

step : (sizes : NamespaceTable) (c : List ℕ) (o : Option Life) (turns : Turns) (x : Entry) → Tied o turns
    → Opens c turns x → Tied (changed sizes c o x) (λ e. turn_after c e (turns e) x)
step sizes c o turns (Open q y) h fresh = opens (bytes_eq q c) y o turns h fresh
step sizes c o turns (Publish q k d) h fresh = publishes (bytes_eq q c) (size_at sizes c) k d o turns h
step sizes c o turns (Trim q n) h fresh = keeps (bytes_eq q c) n o turns h
step sizes c o turns (Forget q) h fresh = forgets (bytes_eq q c) o turns h
step sizes c o turns (Size name n) h fresh = keeps (in_namespace name c) n o turns h

abbrev turns_in : (c : List ℕ) → List Entry → Turns
turns_in c log = λ e. fold (turn_after c e) no_turn log

-- no epoch of the channel opens again after publications in it
abbrev pub OpensFresh : (c : List ℕ) → List Entry → Type 0
OpensFresh c log =
    (before after : List Entry) (q y : List ℕ) → log ≡ before ++ Open q y ∷ after → bytes_eq q c ≡ true
    → listed_in before c y ≡ []

at-open : (c : List ℕ) (log done more : List Entry) (x : Entry) → OpensFresh c log → log ≡ done ++ x ∷ more
    → Opens c (turns_in c done) x
at-open c log done more (Open q y) fresh is = fresh done more q y is
at-open c log done more (Publish q k d) fresh is = tt
at-open c log done more (Trim q n) fresh is = tt
at-open c log done more (Forget q) fresh is = tt
at-open c log done more (Size name n) fresh is = tt

runs : (t : NamespaceTable) (c : List ℕ) (log more done : List Entry) → OpensFresh c log → log ≡ done ++ more
    → Tied (life_in t done c) (turns_in c done) → Tied (life_in t log c) (turns_in c log)
runs t c log [] done fresh is h =
    subst (λ (l : List Entry). Tied (life_in t l c) (turns_in c l)) (sym (is ∙ append-nil done)) h
runs t c log (x ∷ more) done fresh is h =
    let next = step (sizes_in t done) c (life_in t done c) (turns_in c done) x h (at-open c log done more x fresh is) in
    let now : Tied (life_in t (done ++ x ∷ []) c) (turns_in c (done ++ x ∷ [])) =
    subst (λ (o : Option Life). Tied o (turns_in c (done ++ x ∷ []))) (sym (life_in-append t c (x ∷ []) done))
    (subst (λ (u : Turns). Tied (changed (sizes_in t done) c (life_in t done c) x) u)
    (λ i e. sym (fold-append (turn_after c e) no_turn done (x ∷ [])) i) next) in
    runs t c log more (done ++ x ∷ []) fresh (is ∙ sym (append_assoc done (x ∷ []) more)) now

nothing : (t : NamespaceTable) (c : List ℕ) → Tied (life_in t [] c) (turns_in c [])
nothing t c = record { stands = λ e. refl; list = λ l is. absurd (cc (is)) }

-- a stream of an epoch has all that was published in it
pub once-by-fresh : (c e : List ℕ) (log : List Entry) → OpensFresh c log → epoch_in log c ≡ Some e
    → list_in log c ≡ listed_in log c e
once-by-fresh c e log fresh is =
    let l : Life =
    record { epoch = e; list = list_in log c; keys = keys_in log c; held = (holding_in [] log c).held } in
    let tied = runs [] c log log [] fresh refl (nothing [] c) in
    sym (tied.list l (ap (option_map (λ (x : List ℕ).
    record { epoch = x; list = list_in log c; keys = keys_in log c; held = (holding_in [] log c).held })) is))

fresh-before : (c : List ℕ) (before log : List Entry) → IsPrefix before log → OpensFresh c log → OpensFresh c before
fresh-before c before log h fresh a b q y is about =
    fresh a (b ++ h.0) q y (sym h.1 ∙ (ap (λ (l : List Entry). l ++ h.0) is ∙ append_assoc a (Open q y ∷ b) h.0)) about

-- and so it is at each point of such a log
pub once_of : (c e : List ℕ) (before log : List Entry) → OpensFresh c log → IsPrefix before log
    → epoch_in before c ≡ Some e → list_in before c ≡ listed_in before c e
once_of c e before log fresh h is = once-by-fresh c e before (fresh-before c before log h fresh) is
