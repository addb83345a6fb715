-- The loop keeps that the events, as they are shown, are those of before and then the publications so far.
use Rattle.std.proofs.Common.{◌≡◌, List, [], ◌∷◌, ◌++◌, map, sym, ap, ◌∙◌, append_assoc}
use Rattle.std.proofs.lemmas.List.{map-append}
use Rattle.cf_client.specs.AppItem.{published}
use Rattle.cf_client.specs.Shown.{shown_item}
use Rattle.cf_client.proofs.event.pass_all.Goals as goal

-- one more is passed on
passed_on : {E P A : Type 0} (f : E → A) (g : P → A) (events more : List E) (e : E) (before : List A) (done : List P)
    (p : P)
    → more ≡ events ++ e ∷ [] → f e ≡ g p → map f events ≡ before ++ map g done
    → map f more ≡ before ++ map g (done ++ p ∷ [])
passed_on f g events more e before done p is one so_far =
    ap (map f) is ∙ map-append f events (e ∷ []) ∙ (λ i. so_far i ++ one i ∷ [])
    ∙ append_assoc before (map g done) (g p ∷ []) ∙ ap (λ l. before ++ l) (sym (map-append g done (p ∷ [])))

pub loop-publication-preserved : goal.loop-publication-preserved
loop-publication-preserved c =
    passed_on shown_item (published c.args.channel.now c.args.position.now.epoch) c.loop-publication.events.items
    c.push.new.self.items c.passed.result (map shown_item c.args.events.now.items) c.loop-publication.yielded
    c.in-Some.publication
    c.in_ok-push.ensures.items (c.passed.ensures ∙ ap
    (λ name. published name c.args.position.now.epoch c.in-Some.publication) c.in_ok-channel.ensures.ok)
    c.loop-publication.invariant
