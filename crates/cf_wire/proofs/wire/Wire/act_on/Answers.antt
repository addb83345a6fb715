-- Each kind of message is one event of the turn.
use Rattle.std.proofs.Common.{ap, sym, subst, ◌∙◌, refl, Ok}
use Rattle.tungstenite.specs.Content.{text}
use Rattle.tungstenite.specs.Socket.{Reads, content_of}
use Rattle.tungstenite.specs.declared.message.Message.{Message}
use Rattle.cf_wire.specs.Stages.{WireState}
use Rattle.cf_wire.specs.Turn.{is_signal, code_in}
use Rattle.cf_wire.proofs.Turns.{heard_turns, passed_turns, reject_turns, close_turns}
use Rattle.cf_wire.proofs.wire.Wire.act_on.Goals as goal

pub returns-in-Text-clause-turns : goal.returns-in-Text-clause-turns
returns-in-Text-clause-turns g c = λ before read.
    heard_turns _ _ _ _ _ _ _ _ _ _ c.args.message.now c.as_str-words.result.now _ _ refl refl c.requires.ready
    c.requires.room c.requires.«open» read
    (ap content_of c.in-Text.is ∙ ap text (sym c.as_str-words.ensures)) c.heard.ensures c.saturating_sub.ensures

pub returns-in-Binary-clause-turns : goal.returns-in-Binary-clause-turns
returns-in-Binary-clause-turns g c = λ before read.
    reject_turns _ _ _ _ _ _ _ _ _ _ (Ok c.args.message.now) _ c.shut.result _ _ refl refl c.requires.ready
    c.requires.room refl
    (_, ap content_of c.in-Binary.is) read c.code.ensures c.shut.ensures.put c.shut.ensures.ends

pub returns-in-Ping-clause-turns : goal.returns-in-Ping-clause-turns
returns-in-Ping-clause-turns g c = λ before read.
    passed_turns _ _ _ _ _ _ _ _ _ c.args.message.now _ _ refl refl c.requires.ready c.requires.room refl
    c.requires.«open» read
    (ap (λ (m : Message). is_signal (content_of m)) c.in-Ping.is)

pub returns-in-Pong-clause-turns : goal.returns-in-Pong-clause-turns
returns-in-Pong-clause-turns g c = λ before read.
    passed_turns _ _ _ _ _ _ _ _ _ c.args.message.now _ _ refl refl c.requires.ready c.requires.room refl
    c.requires.«open» read
    (ap (λ (m : Message). is_signal (content_of m)) c.in-Pong.is)

pub returns-in-Close-clause-turns : goal.returns-in-Close-clause-turns
returns-in-Close-clause-turns g c = λ before read.
    close_turns _ _ _ _ _ _ _ _ _ _ c.args.message.now c.code_of-code.result c.flush.result _ _ refl refl
    c.requires.ready c.requires.room refl
    (subst (λ (w : WireState g.row.S.Denot). Reads g.S.Read.remaining before w.socket (Ok c.args.message.now))
    (sym c.self.view_is) read)
    (ap (λ (m : Message). code_in (content_of m)) c.in-Close.is ∙ c.code_of-code.ensures) c.flush.ensures.flushed
    c.flush.ensures.leaves c.flush.ensures.«open» c.flush.ensures.ends
