-- The loop removes the session's first row again and again, and keeps that the rows of the other sessions stay, with
-- their
-- names.
use Rattle.std.proofs.Common.{◌∙◌, [], ◌==◌, ◌&&◌, List, sym, ap, arith, not}
use Rattle.std.specs.Prelude.{unwrap_or}
use Rattle.std.proofs.lemmas.List.{length-map}
use Rattle.cf_subs.specs.Rows as rows
use Rattle.cf_subs.specs.declared.table.Row.{Row}
use Rattle.cf_subscribers.specs.Follows.{follow, without_session}
use Rattle.cf_subscribers.specs.Names.{name_at, named}
use Rattle.cf_subscribers.proofs.ByName.{first_follows, none_left, one_gone}
use Rattle.cf_subscribers.proofs.Keeping.{AreFollows-fewer, gone_from, one_shorter}
use Rattle.cf_subscribers.proofs.subscribers.Subscribers.detach.Goals as goal

pub loop-number-smaller : goal.loop-number-smaller
loop-number-smaller c =
    let before : List Row = c.loop-number.self-inside.rows in let n = c.in-Some.number in
    let there = first_follows before n c.args.session c.next.new.self c.walk_session.ensures.each
    (sym c.walk_session.ensures.channels ∙ c.in-Some.ensures.steps) in
    one_shorter (rows.is_of n c.args.session) before c.remove_row.new.rows c.remove_row.ensures.rows there

pub loop-number-preserved : goal.loop-number-preserved
loop-number-preserved c =
    let before : List Row = c.loop-number.self-inside.rows in let n = c.in-Some.number in let ns =
    c.loop-number.self-inside.names in
    let there = first_follows before n c.args.session c.next.new.self c.walk_session.ensures.each
    (sym c.walk_session.ensures.channels ∙ c.in-Some.ensures.steps) in
    let less = one_shorter (rows.is_of n c.args.session) before c.remove_row.new.rows c.remove_row.ensures.rows there in
    let fewer = c.loop-number.invariant.fewer in record {
      kept =
          record {
            numbered = c.remove_row.ensures.numbered;
            used = c.remove_row.ensures.used;
            follows =
                rw c.remove_row.ensures.removed
                (AreFollows-fewer (λ r. follow (unwrap_or (name_at c.loop-number.self-inside.names r.channel) [])
                r.session) (λ r. not ((r.channel == c.in-Some.number) && (r.session == c.args.session)))
                c.loop-number.self-inside.rows c.loop-number.invariant.kept.follows);
          };
      left = ap (λ l. without_session l c.args.session) c.remove_row.ensures.removed
          ∙ one_gone (name_at ns) before n c.args.session ∙ c.loop-number.invariant.left;
      fewer = omega (arith, less, fewer);
    }

pub returns-clause-removed : goal.returns-clause-removed
returns-clause-removed c =
    let before : List Row = c.loop-number.self-inside.rows in let ns = c.loop-number.self-inside.names in
    sym (none_left (name_at ns) before c.args.session
    (sym c.walk_session.ensures.channels ∙ c.in_default.ensures.steps.0)) ∙ c.loop-number.invariant.left

pub returns-clause-counted : goal.returns-clause-counted
returns-clause-counted c =
    let first : List Row = c.self.inside.rows in let last : List Row = c.loop-number.self-inside.rows in
    let began = length-map first (λ r. follow (unwrap_or (name_at c.self.inside.names r.channel) []) r.session) in
    let ended = length-map last (λ r. follow (unwrap_or (name_at c.loop-number.self-inside.names r.channel) [])
    r.session) in
    let gone = gone_from (named c.self.inside.names first) c.args.self.now (named c.loop-number.self-inside.names last)
    c.args.session c.self.view_is (returns-clause-removed c) in
    let counted = c.len-count.ensures.counted in let left = c.len.ensures.counted in
    omega (arith, began, ended, gone, counted, left)
