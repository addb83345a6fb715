-- The laws of the JSON reader are collected in one record, from which the theory has what is written read back.
use Rattle.std.proofs.Common.{refl, arith}
use Rattle.cf_protocol.specs.Frame.{commands_of}
use Rattle.cf_protocol.specs.Written.{command_text, command, parts_of, as_it_is}
use Rattle.cf_protocol.proofs.Bodies.{request_bodies}
use Rattle.cf_protocol.proofs.CommandsBack.{read_command}
use Rattle.cf_protocol.proofs.CommandsAlike.{command_alike}
use Rattle.cf_protocol.proofs.Singles.{one_frame_of, no_other_of}
use Rattle.cf_protocol.proofs.Readings.{reads}
use Rattle.cf_protocol.proofs.JsonLaws.{JsonLaws}
use Rattle.cf_protocol.proofs.laws.commands_read_back.Goals as goal

laws : goal.After-quoting_reads_back → JsonLaws
laws c =
    record {
      one = c.one_value.ensures;
      back = c.compact_reads_back.ensures.back;
      regular = c.compact_reads_back.ensures.regular;
      is_text = c.quoting_reads_back.ensures.is_text;
      read = c.quoting_reads_back.ensures.characters;
    }

pub returns : goal.returns
unfolding command_text
returns c =
    let j = laws c in
    record {
      read = λ k regular.
          let h = request_bodies k.id k.request regular in
          one_frame_of commands_of k j 62 (parts_of (command h.0 k.id k.request))
          (parts_of (command as_it_is k.id k.request)) (command_alike j h.0 k.id k.request h.1) (omega arith)
          (reads _ (read_command j h.0 k.id k.request h.1) refl);
      alone = λ k ks regular.
          let h = request_bodies k.id k.request regular in
          no_other_of commands_of k ks j 62 (parts_of (command h.0 k.id k.request))
          (parts_of (command as_it_is k.id k.request)) (command_alike j h.0 k.id k.request h.1)
          (reads _ (read_command j h.0 k.id k.request h.1) refl);
    }
