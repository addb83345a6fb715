-- The loop goes from the back, and keeps that those seen are the last of their keys, which the set of keys remembers.
use Rattle.std.proofs.Common.{◌≡◌, ◌∷◌, ◌++◌, [], map, reverse, Bool, true, false, refl, sym, ap, ◌∙◌, append_assoc}
use Rattle.std.proofs.Common.{cond, rules, arith}
use Rattle.std.specs.Prelude.{String, string_bytes, not}
use Rattle.std.specs.declared.alloc.Global.{Global}
use Rattle.std.specs.Str.{bytes_eq}
use Rattle.std.specs.BTreeSet.{contains_text}
use Rattle.std.proofs.lemmas.List.{nil_from_length, map_push, reverse-reverse, reverse-append}
use Rattle.std.proofs.lemmas.Map.Text.{btree_set_updates_text}
use Rattle.cf_json.specs.Members.{entry_of}
use Rattle.cf_json.specs.Spans.{Span}
use Rattle.cf_json.proofs.Lasts.{has, lasts, lasts_of, has_more, lasts_new, lasts_old, map-reverse}
use Rattle.cf_json.proofs.fields.last_standing.Goals as goal

was_absent : (b : Bool) → true ≡ not b → b ≡ false
was_absent true e = cc
was_absent false e = refl

was_there : (b : Bool) → false ≡ not b → b ≡ true
was_there true e = refl
was_there false e = cc

pub loop-key-preserved-in_ok-push : goal.loop-key-preserved-in_ok-push
loop-key-preserved-in_ok-push c =
    let i = c.loop-key.invariant in
    let seen = c.loop-key.seen in
    let m : String Global × Span = (c.in-Some.key, c.in-Some.span) in
    let bs = string_bytes c.in_ok-clone.field-0 in
    let same : bs ≡ string_bytes c.in-Some.key = search rules in
    let tail : c.pop.new.self.items ++ m ∷ i.0 ≡ c.args.members.items =
    sym (append_assoc c.pop.new.self.items (m ∷ []) i.0) ∙ ap (λ t. t ++ i.0) (sym c.in-Some.ensures.items) ∙ i.1 in
    let new : has (string_bytes c.in-Some.key) (map entry_of i.0) ≡ false =
    sym (i.3 (string_bytes c.in-Some.key)) ∙ ap (contains_text seen) (sym same)
    ∙ was_absent (contains_text seen bs) (sym c.if-branch.true ∙ c.in_ok-insert.ensures.added) in
    let kept : map entry_of c.push.new.self.items ≡ reverse (lasts (map entry_of (m ∷ i.0))) =
    ap (map entry_of) c.in_ok-push.ensures.items ∙ map_push entry_of c.loop-key.kept.items m
    ∙ ap (λ t. t ++ entry_of m ∷ []) i.2
    ∙ sym (reverse-append (entry_of m ∷ []) (lasts (map entry_of i.0)))
    ∙ ap reverse (sym (lasts_new (entry_of m) (map entry_of i.0) new)) in (
      m ∷ i.0,
      tail,
      kept,
      λ k.
          btree_set_updates_text bs seen c.insert.new.self true c.in_ok-insert.ensures.updates k
          ∙ ap (λ u. cond (bytes_eq u k) true (contains_text seen k)) same
          ∙ has_more (string_bytes c.in-Some.key) k c.in-Some.span (map entry_of i.0) (contains_text seen k) (i.3 k),
    )

pub loop-key-preserved : goal.loop-key-preserved
loop-key-preserved c =
    let i = c.loop-key.invariant in
    let seen = c.loop-key.seen in
    let m : String Global × Span = (c.in-Some.key, c.in-Some.span) in
    let bs = string_bytes c.in_ok-clone.field-0 in
    let same : bs ≡ string_bytes c.in-Some.key = search rules in
    let tail : c.pop.new.self.items ++ m ∷ i.0 ≡ c.args.members.items =
    sym (append_assoc c.pop.new.self.items (m ∷ []) i.0) ∙ ap (λ t. t ++ i.0) (sym c.in-Some.ensures.items) ∙ i.1 in
    let old : has (string_bytes c.in-Some.key) (map entry_of i.0) ≡ true =
    sym (i.3 (string_bytes c.in-Some.key)) ∙ ap (contains_text seen) (sym same)
    ∙ was_there (contains_text seen bs) (sym c.if-branch.false ∙ c.in_ok-insert.ensures.added) in
    let kept : map entry_of c.loop-key.kept.items ≡ reverse (lasts (map entry_of (m ∷ i.0))) =
    i.2 ∙ ap reverse (sym (lasts_old (entry_of m) (map entry_of i.0) old)) in (
      m ∷ i.0,
      tail,
      kept,
      λ k.
          btree_set_updates_text bs seen c.insert.new.self true c.in_ok-insert.ensures.updates k
          ∙ ap (λ u. cond (bytes_eq u k) true (contains_text seen k)) same
          ∙ has_more (string_bytes c.in-Some.key) k c.in-Some.span (map entry_of i.0) (contains_text seen k) (i.3 k),
    )

pub returns-clause-ok : goal.returns-clause-ok
returns-clause-ok c =
    let i = c.loop-key.invariant in
    let h = c.loop-key.members.ok in let none : c.loop-key.members.items ≡ [] =
    nil_from_length c.loop-key.members.items (omega (arith, h, c.in_default.ensures.cases.0)) in
    let all : i.0 ≡ c.args.members.items = ap (λ t. t ++ i.0) (sym none) ∙ i.1 in
    ap (map entry_of) c.reverse.ensures.items ∙ map-reverse entry_of c.loop-key.kept.items ∙ ap reverse i.2
    ∙ reverse-reverse (lasts (map entry_of i.0)) ∙ ap (λ t. lasts (map entry_of t)) all
    ∙ sym (lasts_of (map entry_of c.args.members.items))
