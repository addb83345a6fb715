-- The loop moves one changed mode after another into the map, and keeps that what is drafted stays the same for each
-- channel.
use Rattle.std.proofs.Common.{◌≡◌, ◌∙◌, ◌==◌, not, None, [], List, ℕ, ap, refl, subst, if◌then◌else◌, rules}
use Rattle.std.proofs.lemmas.Fn.{filter_same}
use Rattle.std.proofs.lemmas.List.{nil_from_length}
use Rattle.std.proofs.lemmas.Map.Text.{btree_map_updates_text}
use Rattle.std.specs.BTreeMap.{get_by_text}
use Rattle.std.specs.List.{list_any}
use Rattle.std.specs.Option.{option_map}
use Rattle.std.specs.Str.{bytes_eq}
use Rattle.std.specs.String.{string_bytes}
use Rattle.cf_client.specs.Shown.{calls_of}
use Rattle.cf_client.proofs.Drafting.{all_carried_out, calls_kept, carried_out_one, no_change}
use Rattle.cf_client.proofs.draft.Draft.carry_out.Goals as goal

pub loop-channel-init : goal.loop-channel-init
loop-channel-init c =
    let ids = c.args.self.answered.items in
    record {
      connected = refl;
      last = refl;
      modes = λ d. refl;
      calls = ap calls_of (filter_same _ (λ k. not (list_any (λ i. i == k.id) ids)) _ (λ x b f' h. search rules)
          c.args.known.now.calls.items c.retain.new.self.items c.retain.ensures.filtered)
          ∙ calls_kept ids c.args.known.now.calls.items;
    }

pub loop-channel-preserved : goal.loop-channel-preserved
loop-channel-preserved c =
    let was = c.loop-channel.invariant in
    let base = c.loop-channel.known.channels in
    let new = c.set_mode.new.channels in
    let all = c.loop-channel.changed in
    let rest = c.pop_last.new.self in
    let name = string_bytes c.in-Some.channel in
    let each = subst (λ (n : List ℕ). (q : List ℕ)
    → get_by_text new q ≡ option_map (λ v. if bytes_eq n q then c.in-Some.mode else v) (get_by_text base q))
    c.as_str.ensures.value c.set_mode.ensures.each in
    record {
      connected = was.connected;
      last = was.last;
      modes = λ d. carried_out_one base new all rest name c.in-Some.mode each
          (btree_map_updates_text name all rest None c.in-Some.ensures.updates) c.in-Some.ensures.value d ∙ was.modes d;
      calls = was.calls;
    }

pub returns-clause-state : goal.returns-clause-state
returns-clause-state c =
    let was = c.loop-channel.invariant in
    let none : c.loop-channel.changed.entries ≡ [] = nil_from_length c.loop-channel.changed.entries (search rules) in
    all_carried_out c.args.known.now c.loop-channel.known c.args.self was.connected was.last
    (λ d. no_change c.loop-channel.known.channels c.loop-channel.changed none d ∙ was.modes d) was.calls
