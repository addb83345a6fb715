-- The lent session is the one at its place, so what is written to it is written there and nowhere else.
use Rattle.std.proofs.Common.{rules, ◌≡◌, ◌∙◌, sym, ap, Some, None, inl, slice_set}
use Rattle.std.specs.Box.{with_value}
use Rattle.std.proofs.lemmas.List.{map-set, get_or-map}
use Rattle.cf_hub.specs.Places.{Places, session_in, unboxed}
use Rattle.cf_hub.proofs.session_table.Sessions.get_mut.Goals as goal

pub returns-in-Some : goal.returns-in-Some
returns-in-Some c =
    let same : unboxed c.in_ok-place.place.now ≡ Some c.deref_mut.result.now = search rules in (
      rw c.in-Some.is (λ i. inl (
        c.deref_mut.result.ghost_name,
        λ w. (map-set unboxed c.self.inside.places.items c.args.number (Some (with_value c.in-Some.session w))
            ∙ ap (λ (ps : Places). slice_set ps c.args.number (Some w)) c.self.view_is) i,
      )),
      record {
        writes_back = tt;
        value = sym same ∙ ap unboxed c.in_ok-place.ensures.value
            ∙ sym (get_or-map unboxed c.self.inside.places.items c.args.number c.in_ok-place.place.now None
            (search rules)) ∙ ap (λ (ps : Places). session_in ps c.args.number) c.self.view_is;
      },
    )
