-- The new row is linked behind the last of its channel and of its session, and both tables know it.
use Rattle.std.proofs.Common.{rules, ◌≡◌, Some, sym, ap, subst, ◌∙◌, [], ◌∷◌, ◌++◌}
use Rattle.std.proofs.lemmas.List.{map-append}
use Rattle.std.specs.Prelude.{nat_eq}
use Rattle.std.specs.HashMap.{get}
use Rattle.cf_subs.specs.declared.linked_row.LinkedRow.{LinkedRow}
use Rattle.cf_subs.specs.declared.table.Row.{Row}
use Rattle.cf_subs.specs.Ends.{IsHeaded, SetsAt, grown}
use Rattle.cf_subs.specs.Held.{Held, held}
use Rattle.cf_subs.specs.RowBlocks.{channel_of, session_of, rows_of}
use Rattle.cf_subs.proofs.Heads.{headed_push}
use Rattle.cf_subs.proofs.linked_rows.LinkedRows.push.Goals as goal

pub returns-clause-whole : goal.returns-clause-whole
returns-clause-whole c =
    let hs = c.args.self.now.row_blocks.blocks.held in let n = held c.link-at.result.ptr c.in_ok-block.block.value in
    let channels = c.reserve.new.self in let sessions = c.reserve-2.new.self in
    let same : c.args.row ≡ c.in_ok-block.block.value.row = search rules in
    let by_channel : IsHeaded channel_of channels hs = search rules in
    let by_session : IsHeaded session_of sessions hs = search rules in record {
      linked = c.link-at.ensures.linked;
      channels = headed_push channel_of channels c.grow.new.ends hs c.link-at.new.self.blocks.held n by_channel
          (subst (λ (r : Row). SetsAt channels c.grow.new.ends r.channel
          (Some (grown (get nat_eq channels r.channel) c.link-at.result))) same c.grow.ensures)
          c.link-at.ensures.lists.channels;
      sessions = headed_push session_of sessions c.grow-2.new.ends hs c.link-at.new.self.blocks.held n by_session
          (subst (λ (r : Row). SetsAt sessions c.grow-2.new.ends r.session
          (Some (grown (get nat_eq sessions r.session) c.link-at.result))) same c.grow-2.ensures)
          c.link-at.ensures.lists.sessions;
    }

pub returns-clause-ok : goal.returns-clause-ok
returns-clause-ok c =
    let hs = c.args.self.now.row_blocks.blocks.held in
    let same : c.args.row ≡ c.in_ok-block.block.value.row = search rules in
    c.link-at.ensures.lists.rows ∙ map-append (λ (h : Held LinkedRow). h.value.row) hs
    (held c.link-at.result.ptr c.in_ok-block.block.value ∷ []) ∙ ap (λ (r : Row). rows_of hs ++ r ∷ []) (sym same)
