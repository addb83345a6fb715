-- The new block is held, so to have its two neighbours point to it keeps both chains.
use Rattle.std.proofs.Common.{◌≡◌, List, [], ◌∷◌, ◌++◌, Some, None, refl, sym, ap, ◌∙◌, subst}
use Rattle.lru.specs.Linked.{IsApart}
use Rattle.cf_subs.specs.declared.linked_row.LinkedRow.{LinkedRow}
use Rattle.cf_subs.specs.Held.{Held, held, places}
use Rattle.cf_subs.specs.Threads.{IsHeld, changed, last_of, nowhere}
use Rattle.cf_subs.specs.RowBlocks.{AreLinked, after_in_channel, after_in_session, channel_of, session_of, rows_of}
use Rattle.cf_subs.specs.RowBlocks.{with_block, SameEnds}
use Rattle.cf_subs.proofs.Links.{stands1, stands2, rows3, ends3, linked3}
use Rattle.cf_subs.proofs.row_blocks.RowBlocks.link.Goals as goal

pub set_after_in_channel-requires : goal.set_after_in_channel-requires
set_after_in_channel-requires c =
    let hs = c.args.self.now.blocks.held in let n = held c.hold-at.result.ptr c.of.result.value in
    let v : n.value ≡ c.args.block.value = c.of.ensures in
    let channel =
    subst (λ (s : LinkedRow). (s.before_in_channel ≡ last_of channel_of nowhere hs s.row.channel)
    × (s.after_in_channel ≡ None)) (sym v) (c.requires.unlinked.channel, c.requires.unlinked.channel_ends) in
    let session =
    subst (λ (s : LinkedRow). (s.before_in_session ≡ last_of session_of nowhere hs s.row.session)
    × (s.after_in_session ≡ None)) (sym v) (c.requires.unlinked.session, c.requires.unlinked.session_ends) in
    let d : IsApart (places (hs ++ n ∷ [])) =
    subst (λ l. IsApart (places l)) c.hold-at.ensures.held c.hold-at.new.self.apart in
    let q1 : c.deref.result.now ≡ n.value = c.deref.ensures ∙ sym v in let q2 : c.deref-2.result.now ≡ n.value =
    c.deref-2.ensures ∙ sym v in
    subst (λ (z : List (Held LinkedRow) × LinkedRow). IsHeld z.0 z.1.before_in_channel)
    (λ i. (sym c.hold-at.ensures.held i, sym q1 i)) (stands1 hs n c.requires.linked d channel session)

pub set_after_in_session-requires : goal.set_after_in_session-requires
set_after_in_session-requires c =
    let hs = c.args.self.now.blocks.held in let n = held c.hold-at.result.ptr c.of.result.value in
    let v : n.value ≡ c.args.block.value = c.of.ensures in
    let channel =
    subst (λ (s : LinkedRow). (s.before_in_channel ≡ last_of channel_of nowhere hs s.row.channel)
    × (s.after_in_channel ≡ None)) (sym v) (c.requires.unlinked.channel, c.requires.unlinked.channel_ends) in
    let session =
    subst (λ (s : LinkedRow). (s.before_in_session ≡ last_of session_of nowhere hs s.row.session)
    × (s.after_in_session ≡ None)) (sym v) (c.requires.unlinked.session, c.requires.unlinked.session_ends) in
    let d : IsApart (places (hs ++ n ∷ [])) =
    subst (λ l. IsApart (places l)) c.hold-at.ensures.held c.hold-at.new.self.apart in
    let q1 : c.deref.result.now ≡ n.value = c.deref.ensures ∙ sym v in let q2 : c.deref-2.result.now ≡ n.value =
    c.deref-2.ensures ∙ sym v in
    let e2 = c.set_after_in_channel.ensures ∙ (λ i. changed (after_in_channel (Some c.hold-at.result))
    (q1 i).before_in_channel (c.hold-at.ensures.held i)) in
    subst (λ (z : List (Held LinkedRow) × LinkedRow). IsHeld z.0 z.1.before_in_session) (λ i. (sym e2 i, sym q2 i))
    (stands2 hs n c.requires.linked d channel session)

pub returns-clause-linked : goal.returns-clause-linked
returns-clause-linked c =
    let hs = c.args.self.now.blocks.held in let n = held c.hold-at.result.ptr c.of.result.value in
    let v : n.value ≡ c.args.block.value = c.of.ensures in
    let channel =
    subst (λ (s : LinkedRow). (s.before_in_channel ≡ last_of channel_of nowhere hs s.row.channel)
    × (s.after_in_channel ≡ None)) (sym v) (c.requires.unlinked.channel, c.requires.unlinked.channel_ends) in
    let session =
    subst (λ (s : LinkedRow). (s.before_in_session ≡ last_of session_of nowhere hs s.row.session)
    × (s.after_in_session ≡ None)) (sym v) (c.requires.unlinked.session, c.requires.unlinked.session_ends) in
    let d : IsApart (places (hs ++ n ∷ [])) =
    subst (λ l. IsApart (places l)) c.hold-at.ensures.held c.hold-at.new.self.apart in
    let q1 : c.deref.result.now ≡ n.value = c.deref.ensures ∙ sym v in let q2 : c.deref-2.result.now ≡ n.value =
    c.deref-2.ensures ∙ sym v in
    let e2 = c.set_after_in_channel.ensures ∙ (λ i. changed (after_in_channel (Some c.hold-at.result))
    (q1 i).before_in_channel (c.hold-at.ensures.held i)) in
    let e3 = c.set_after_in_session.ensures ∙ (λ i. changed (after_in_session (Some c.hold-at.result))
    (q2 i).before_in_session (e2 i)) in
    subst AreLinked (sym e3) (linked3 hs n c.requires.linked d channel session)

pub returns-clause-lists : goal.returns-clause-lists
returns-clause-lists c =
    let hs = c.args.self.now.blocks.held in let n = held c.hold-at.result.ptr c.of.result.value in
    let v : n.value ≡ c.args.block.value = c.of.ensures in
    let channel =
    subst (λ (s : LinkedRow). (s.before_in_channel ≡ last_of channel_of nowhere hs s.row.channel)
    × (s.after_in_channel ≡ None)) (sym v) (c.requires.unlinked.channel, c.requires.unlinked.channel_ends) in
    let session =
    subst (λ (s : LinkedRow). (s.before_in_session ≡ last_of session_of nowhere hs s.row.session)
    × (s.after_in_session ≡ None)) (sym v) (c.requires.unlinked.session, c.requires.unlinked.session_ends) in
    let d : IsApart (places (hs ++ n ∷ [])) =
    subst (λ l. IsApart (places l)) c.hold-at.ensures.held c.hold-at.new.self.apart in
    let q1 : c.deref.result.now ≡ n.value = c.deref.ensures ∙ sym v in let q2 : c.deref-2.result.now ≡ n.value =
    c.deref-2.ensures ∙ sym v in
    let e2 = c.set_after_in_channel.ensures ∙ (λ i. changed (after_in_channel (Some c.hold-at.result))
    (q1 i).before_in_channel (c.hold-at.ensures.held i)) in
    let e3 = c.set_after_in_session.ensures ∙ (λ i. changed (after_in_session (Some c.hold-at.result))
    (q2 i).before_in_session (e2 i)) in record {
      rows = ap rows_of e3 ∙ rows3 hs n c.requires.linked d channel session
          ∙ ap (λ (s : LinkedRow). rows_of (with_block hs c.hold-at.result s)) v;
      channels = subst (λ (z : List (Held LinkedRow) × LinkedRow). SameEnds channel_of z.0
          (with_block hs c.hold-at.result z.1)) (λ i. (sym e3 i, v i))
          (ends3 hs n c.requires.linked d channel session channel_of (λ _ _. refl) (λ _ _. refl));
      sessions = subst (λ (z : List (Held LinkedRow) × LinkedRow). SameEnds session_of z.0
          (with_block hs c.hold-at.result z.1)) (λ i. (sym e3 i, v i))
          (ends3 hs n c.requires.linked d channel session session_of (λ _ _. refl) (λ _ _. refl));
    }
