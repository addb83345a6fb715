-- Each entry's clone has its name and its settings, so the two tables are the same.
use Rattle.std.proofs.Common.{◌≡◌, List, [], ◌∷◌, String, Global, refl, sym, ap, subst, ◌∙◌, string_bytes}
use Rattle.std.specs.List.{AllZip}
use Rattle.cf_protocol.specs.Settings.{named, AreUsable}
use Rattle.cf_protocol.specs.declared.settings.Settings.{Settings}
use Rattle.cf_protocol.proofs.namespaces.Namespaces.copied.Goals as goal

-- clones have the names and the settings of what they are cloned from
clones : (v w : List (String Global × Settings))
    → AllZip (λ x y. (string_bytes y.0 ≡ string_bytes x.0) × (y.1 ≡ x.1)) v w → named w ≡ named v
clones [] [] h = refl
clones [] (y ∷ w) h = absurd h
clones (x ∷ v) [] h = absurd h
clones (x ∷ v) (y ∷ w) h =
    ap (λ n. (n, y.1) ∷ named w) h.0.0 ∙ ap (λ s. (string_bytes x.0, s) ∷ named w) h.0.1
    ∙ ap (λ es. (string_bytes x.0, x.1) ∷ es) (clones v w h.1)

pub returns : goal.returns
returns c = clones c.self.inside.entries.items c.in_ok-clone.field-0.items c.in_ok-clone.ensures.cases.0
    ∙ c.self.view_is

pub invariant_of-result : goal.invariant_of-result
invariant_of-result c =
    subst AreUsable (sym (clones c.self.inside.entries.items c.in_ok-clone.field-0.items c.in_ok-clone.ensures.cases.0))
    c.self.invariant
