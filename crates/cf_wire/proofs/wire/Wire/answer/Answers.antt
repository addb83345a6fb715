-- What a head asks for decides which answer is written; of each refusal it is said what stands on the stream.
use Rattle.std.proofs.Common.{◌∙◌, ℕ, List, Option, refl, subst, sym}
use Rattle.std.specs.Io.KnownBytes.{Appends}
use Rattle.cf_handshake.specs.Answers.{opening_text}
use Rattle.cf_wire.specs.Answered.{HeadAsks, RefusesBy, RefusesFor}
use Rattle.cf_wire.specs.Refused.{IsOutside}
use Rattle.cf_wire.specs.declared.accept.RefusedStream.{RefusedStream}
use Rattle.cf_wire.specs.declared.accept.WireFault.{WireFault}
use Rattle.cf_wire.specs.declared.accept.WireFault.TheVariants.{Handshake, Health, StreamFault, Memory}
use Rattle.cf_wire.proofs.wire.Wire.answer.Goals as goal

module _ {S : Type 0} (contents : S → Option (List ℕ)) (old : S) (head : List ℕ) where
  outside_by : (fault : WireFault) (refused : RefusedStream S) → IsOutside fault
      → RefusesFor contents fault old head refused
  outside_by Handshake refused h = absurd h
  outside_by Health refused h = absurd h
  outside_by StreamFault refused h = h
  outside_by Memory refused h = h

pub returns-in-Ok-clause-opens : goal.returns-in-Ok-clause-opens
returns-in-Ok-clause-opens g c =
    let asks : HeadAsks c.args.head.now c.asked_of.result =
    record { read = c.asked_of.ensures.read; unread = c.asked_of.ensures.unread } in
    let told : Appends (g.S.Write.contents c.args.stream) (g.S.Write.contents c.from_partially_read.result.stream)
    (opening_text c.in-Socket.opening) =
    subst (λ (stream : g.row.S.Denot). Appends (g.S.Write.contents c.args.stream) (g.S.Write.contents stream)
    (opening_text c.in-Socket.opening))
    (sym c.from_partially_read.ensures.fresh.on_stream) c.in-Ok.ensures.told in (
      c.in-Socket.opening,
      subst (HeadAsks c.args.head.now) c.in-Socket.is asks,
      told,
      c.from_partially_read.ensures.input ∙ c.in-Ok.ensures.rest,
    )

pub returns-in-Err-clause-refuses : goal.returns-in-Err-clause-refuses
returns-in-Err-clause-refuses g c =
    subst (RefusesBy g.S.Write.contents c.args.stream c.args.head.now) (sym c.silently.ensures)
    (outside_by g.S.Write.contents c.args.stream c.args.head.now c.in-Err.fault _ c.in-Err.ensures.outside)

pub returns-in-Health-clause-refuses : goal.returns-in-Health-clause-refuses
returns-in-Health-clause-refuses g c =
    let asks : HeadAsks c.args.head.now c.asked_of.result =
    record { read = c.asked_of.ensures.read; unread = c.asked_of.ensures.unread } in
    subst (RefusesBy g.S.Write.contents c.args.stream c.args.head.now) (sym c.silently-in-Health.ensures)
    (subst (HeadAsks c.args.head.now) c.in-Health.is asks, refl)

pub returns-in-Refused-clause-refuses : goal.returns-in-Refused-clause-refuses
returns-in-Refused-clause-refuses g c =
    let asks : HeadAsks c.args.head.now c.asked_of.result =
    record { read = c.asked_of.ensures.read; unread = c.asked_of.ensures.unread } in
    subst (λ (fault : WireFault). RefusesFor g.S.Write.contents fault c.args.stream c.args.head.now c.refuse.result)
    (sym c.refuse.ensures.fault)
    (c.in-Refused.refusal, subst (HeadAsks c.args.head.now) c.in-Refused.is asks, c.refuse.ensures.tells)
