-- By where it ends: unread, read and stopped, or written whole; in each case what was written is the front that the
-- definition
-- has.
use Rattle.std.proofs.Common.{List, ℕ}
use Rattle.std.proofs.lemmas.Result.{err_from_is_err_and}
use Rattle.cf_machine.specs.Config.{Config}
use Rattle.cf_schedule.specs.Seen.{shown_config}
use Rattle.cf_simulate.specs.Simulation.{Ends, Prints}
use Rattle.cf_simulate.specs.WrittenTrace.{WritesFrontAtMost, WritesTrace}
use Rattle.cf_simulate.proofs.Safety.{IsSafe, fails_on_input, front_on_input, on_input, safe_done, safe_front}
use Rattle.cf_simulate.proofs.Safety.{unread_ends, unread_front}
use Rattle.cf_simulate.proofs.simulation.simulate.Goals as goal

pub returns-clause-done : goal.returns-clause-done
returns-clause-done g c =
    let cfg : Config = shown_config c.args.config.now in
    let old = g.W.Write.contents c.args.writer.now in
    let new = g.W.Write.contents c.write_input.new.writer in
    on_input c.write_input.result (λ (input : List ℕ). Prints c.args.explains cfg input old new)
    (g.R.Read.remaining c.args.reader.now) c.new-input.result.items c.read_to_end.new.buf.items c.as_slice.result.now
    c.new-input.ensures.items c.as_slice.ensures.value c.in_ok-read_to_end.ensures.bytes c.write_input.ensures.done

pub returns-clause-ends : goal.returns-clause-ends
returns-clause-ends g c =
    let cfg : Config = shown_config c.args.config.now in
    let old = g.W.Write.contents c.args.writer.now in
    let new = g.W.Write.contents c.write_input.new.writer in
    fails_on_input c.write_input.result (λ (input : List ℕ). Ends c.args.explains cfg input old new)
    (g.R.Read.remaining c.args.reader.now) c.new-input.result.items c.read_to_end.new.buf.items c.as_slice.result.now
    c.new-input.ensures.items c.as_slice.ensures.value c.in_ok-read_to_end.ensures.bytes c.write_input.ensures.ends

pub returns-clause-safe : goal.returns-clause-safe
returns-clause-safe g c =
    let cfg : Config = shown_config c.args.config.now in
    let old = g.W.Write.contents c.args.writer.now in
    let new = g.W.Write.contents c.write_input.new.writer in
    on_input c.write_input.result (λ (input : List ℕ). WritesTrace c.args.explains cfg input old new (IsSafe cfg))
    (g.R.Read.remaining c.args.reader.now) c.new-input.result.items c.read_to_end.new.buf.items c.as_slice.result.now
    c.new-input.ensures.items c.as_slice.ensures.value c.in_ok-read_to_end.ensures.bytes
    (safe_done c.safe_always.ensures c.args.explains cfg c.as_slice.result.now old new c.write_input.result
    c.write_input.ensures.done)

pub returns-clause-safe_front : goal.returns-clause-safe_front
returns-clause-safe_front g c =
    let cfg : Config = shown_config c.args.config.now in
    let old = g.W.Write.contents c.args.writer.now in
    let new = g.W.Write.contents c.write_input.new.writer in
    front_on_input c.write_input.result (λ (input : List ℕ). WritesFrontAtMost c.args.explains cfg input old new
    (IsSafe cfg))
    (g.R.Read.remaining c.args.reader.now) c.new-input.result.items c.read_to_end.new.buf.items c.as_slice.result.now
    c.new-input.ensures.items c.as_slice.ensures.value c.in_ok-read_to_end.ensures.bytes
    (safe_front c.safe_always.ensures c.args.explains cfg c.as_slice.result.now old new c.write_input.result
    c.write_input.ensures.ends)

pub returns-in_err-read_to_end-clause-ends : goal.returns-in_err-read_to_end-clause-ends
returns-in_err-read_to_end-clause-ends g c =
    let p = err_from_is_err_and c.from_residual.result c.from_residual.ensures.1 in
    rw p.1 (unread_ends c.args.explains (shown_config c.args.config.now) p.0 (g.R.Read.remaining c.args.reader.now)
    (g.W.Write.contents c.args.writer.now) p.2)

pub returns-in_err-read_to_end-clause-safe_front : goal.returns-in_err-read_to_end-clause-safe_front
returns-in_err-read_to_end-clause-safe_front g c =
    let p = err_from_is_err_and c.from_residual.result c.from_residual.ensures.1 in
    rw p.1 (unread_front c.args.explains (shown_config c.args.config.now) (g.R.Read.remaining c.args.reader.now)
    (g.W.Write.contents c.args.writer.now))
