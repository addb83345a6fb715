-- The block that is taken out isn't held any more, and its four neighbours, which are, come to point past it.
use Rattle.std.proofs.Common.{List, Some, refl, sym, ap, ◌∙◌, subst}
use Rattle.cf_subs.specs.declared.linked_row.LinkedRow.{LinkedRow}
use Rattle.cf_subs.specs.Held.{Held}
use Rattle.cf_subs.specs.Threads.{IsHeld, changed}
use Rattle.cf_subs.specs.RowBlocks.{AreLinked, before_in_channel, after_in_channel, before_in_session, after_in_session}
use Rattle.cf_subs.specs.RowBlocks.{channel_of, session_of, rows_of, SameEnds}
use Rattle.cf_subs.proofs.Links.{out, held1, held2, held3, held4, rows5, ends5, linked5}
use Rattle.cf_subs.proofs.row_blocks.RowBlocks.unlink.Goals as goal

pub set_after_in_channel-requires : goal.set_after_in_channel-requires
set_after_in_channel-requires c =
    let o = out c.args.self.now.blocks.held c.args.at.ptr c.deref-linked_row.result.now c.release.new.self.held
    (ap Some (c.deref-linked_row.ensures ∙ c.into_box.ensures) ∙ c.release.ensures.value) c.release.ensures.held
    c.requires.linked c.args.self.now.blocks.apart in
    subst (λ (z : List (Held LinkedRow) × LinkedRow). IsHeld z.0 z.1.before_in_channel)
    (λ i. (sym o.rest i, sym o.same i)) (held1 o.before o.here o.after o.linked o.apart)

pub set_before_in_channel-requires : goal.set_before_in_channel-requires
set_before_in_channel-requires c =
    let o = out c.args.self.now.blocks.held c.args.at.ptr c.deref-linked_row.result.now c.release.new.self.held
    (ap Some (c.deref-linked_row.ensures ∙ c.into_box.ensures) ∙ c.release.ensures.value) c.release.ensures.held
    c.requires.linked c.args.self.now.blocks.apart in
    let e2 = c.set_after_in_channel.ensures ∙ (λ i. changed (after_in_channel (o.same i).after_in_channel)
    (o.same i).before_in_channel (o.rest i)) in
    subst (λ (z : List (Held LinkedRow) × LinkedRow). IsHeld z.0 z.1.after_in_channel) (λ i. (sym e2 i, sym o.same i))
    (held2 o.before o.here o.after o.linked o.apart)

pub set_after_in_session-requires : goal.set_after_in_session-requires
set_after_in_session-requires c =
    let o = out c.args.self.now.blocks.held c.args.at.ptr c.deref-linked_row.result.now c.release.new.self.held
    (ap Some (c.deref-linked_row.ensures ∙ c.into_box.ensures) ∙ c.release.ensures.value) c.release.ensures.held
    c.requires.linked c.args.self.now.blocks.apart in
    let e2 = c.set_after_in_channel.ensures ∙ (λ i. changed (after_in_channel (o.same i).after_in_channel)
    (o.same i).before_in_channel (o.rest i)) in
    let e3 = c.set_before_in_channel.ensures ∙ (λ i. changed (before_in_channel (o.same i).before_in_channel)
    (o.same i).after_in_channel (e2 i)) in
    subst (λ (z : List (Held LinkedRow) × LinkedRow). IsHeld z.0 z.1.before_in_session) (λ i. (sym e3 i, sym o.same i))
    (held3 o.before o.here o.after o.linked o.apart)

pub set_before_in_session-requires : goal.set_before_in_session-requires
set_before_in_session-requires c =
    let o = out c.args.self.now.blocks.held c.args.at.ptr c.deref-linked_row.result.now c.release.new.self.held
    (ap Some (c.deref-linked_row.ensures ∙ c.into_box.ensures) ∙ c.release.ensures.value) c.release.ensures.held
    c.requires.linked c.args.self.now.blocks.apart in
    let e2 = c.set_after_in_channel.ensures ∙ (λ i. changed (after_in_channel (o.same i).after_in_channel)
    (o.same i).before_in_channel (o.rest i)) in
    let e3 = c.set_before_in_channel.ensures ∙ (λ i. changed (before_in_channel (o.same i).before_in_channel)
    (o.same i).after_in_channel (e2 i)) in
    let e4 = c.set_after_in_session.ensures ∙ (λ i. changed (after_in_session (o.same i).after_in_session)
    (o.same i).before_in_session (e3 i)) in
    subst (λ (z : List (Held LinkedRow) × LinkedRow). IsHeld z.0 z.1.after_in_session) (λ i. (sym e4 i, sym o.same i))
    (held4 o.before o.here o.after o.linked o.apart)

pub returns-clause-linked : goal.returns-clause-linked
returns-clause-linked c =
    let o = out c.args.self.now.blocks.held c.args.at.ptr c.deref-linked_row.result.now c.release.new.self.held
    (ap Some (c.deref-linked_row.ensures ∙ c.into_box.ensures) ∙ c.release.ensures.value) c.release.ensures.held
    c.requires.linked c.args.self.now.blocks.apart in
    let e2 = c.set_after_in_channel.ensures ∙ (λ i. changed (after_in_channel (o.same i).after_in_channel)
    (o.same i).before_in_channel (o.rest i)) in
    let e3 = c.set_before_in_channel.ensures ∙ (λ i. changed (before_in_channel (o.same i).before_in_channel)
    (o.same i).after_in_channel (e2 i)) in
    let e4 = c.set_after_in_session.ensures ∙ (λ i. changed (after_in_session (o.same i).after_in_session)
    (o.same i).before_in_session (e3 i)) in
    let e5 = c.set_before_in_session.ensures ∙ (λ i. changed (before_in_session (o.same i).before_in_session)
    (o.same i).after_in_session (e4 i)) in
    subst AreLinked (sym e5) (linked5 o.before o.here o.after o.linked o.apart)

pub returns-clause-lists : goal.returns-clause-lists
returns-clause-lists c =
    let o = out c.args.self.now.blocks.held c.args.at.ptr c.deref-linked_row.result.now c.release.new.self.held
    (ap Some (c.deref-linked_row.ensures ∙ c.into_box.ensures) ∙ c.release.ensures.value) c.release.ensures.held
    c.requires.linked c.args.self.now.blocks.apart in
    let e2 = c.set_after_in_channel.ensures ∙ (λ i. changed (after_in_channel (o.same i).after_in_channel)
    (o.same i).before_in_channel (o.rest i)) in
    let e3 = c.set_before_in_channel.ensures ∙ (λ i. changed (before_in_channel (o.same i).before_in_channel)
    (o.same i).after_in_channel (e2 i)) in
    let e4 = c.set_after_in_session.ensures ∙ (λ i. changed (after_in_session (o.same i).after_in_session)
    (o.same i).before_in_session (e3 i)) in
    let e5 = c.set_before_in_session.ensures ∙ (λ i. changed (before_in_session (o.same i).before_in_session)
    (o.same i).after_in_session (e4 i)) in let left = sym o.rest ∙ c.release.ensures.held in record {
      rows = ap rows_of e5 ∙ rows5 o.before o.here o.after o.linked o.apart ∙ ap rows_of left;
      channels = subst (λ (z : List (Held LinkedRow) × List (Held LinkedRow)). SameEnds channel_of z.0 z.1)
          (λ i. (sym e5 i, left i)) (ends5 o.before o.here o.after o.linked o.apart channel_of (λ _ _. refl)
          (λ _ _. refl) (λ _ _. refl) (λ _ _. refl));
      sessions = subst (λ (z : List (Held LinkedRow) × List (Held LinkedRow)). SameEnds session_of z.0 z.1)
          (λ i. (sym e5 i, left i)) (ends5 o.before o.here o.after o.linked o.apart session_of (λ _ _. refl)
          (λ _ _. refl) (λ _ _. refl) (λ _ _. refl));
    }
