-- The laws of the JSON reader are collected in one record, from which the theory has what is written read back.
use Rattle.std.proofs.Common.{arith}
use Rattle.cf_protocol.specs.Frame.{replies_of}
use Rattle.cf_protocol.specs.Written.{outgoing_text, outgoing, parts_of, as_it_is}
use Rattle.cf_protocol.proofs.Bodies.{outgoing_bodies}
use Rattle.cf_protocol.proofs.RepliesBack.{read_reply}
use Rattle.cf_protocol.proofs.RepliesAlike.{outgoing_alike}
use Rattle.cf_protocol.proofs.Singles.{one_frame_of, no_other_of}
use Rattle.cf_protocol.proofs.JsonLaws.{JsonLaws}
use Rattle.cf_protocol.proofs.laws.replies_read_back.Goals as goal

laws : goal.After-quoting_reads_back → JsonLaws
laws c =
    record {
      one = c.one_value.ensures;
      back = c.compact_reads_back.ensures.back;
      regular = c.compact_reads_back.ensures.regular;
      is_text = c.quoting_reads_back.ensures.is_text;
      read = c.quoting_reads_back.ensures.characters;
    }

pub returns : goal.returns
unfolding outgoing_text
returns c =
    let j = laws c in
    record {
      read = λ o regular.
          let h = outgoing_bodies o regular in
          one_frame_of replies_of o j 64 (parts_of (outgoing h.0 o)) (parts_of (outgoing as_it_is o))
          (outgoing_alike j h.0 o h.1) (omega arith) (read_reply j h.0 o h.1);
      alone = λ o os regular.
          let h = outgoing_bodies o regular in
          no_other_of replies_of o os j 64 (parts_of (outgoing h.0 o)) (parts_of (outgoing as_it_is o))
          (outgoing_alike j h.0 o h.1) (read_reply j h.0 o h.1);
    }
