-- Members whose keys all differ: each is the last with its key.
use Rattle.std.proofs.Common.{◌≡◌, List, ◌∷◌, false, ap, ◌∙◌}
use Rattle.cf_json.specs.Members.{Entry}
use Rattle.cf_json.proofs.Lasts.{has, lasts, lasts_new}

pub one_differs : (e : Entry) (es : List Entry) → has e.0 es ≡ false → lasts es ≡ es → lasts (e ∷ es) ≡ e ∷ es
one_differs e es h l = lasts_new e es h ∙ ap (λ t. e ∷ t) l
