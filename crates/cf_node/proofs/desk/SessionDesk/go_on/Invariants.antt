use Rattle.std.proofs.Common.{◌≡◌, true}
use Rattle.cf_session.specs.Standing.{met_refused_memory}
use Rattle.cf_node.specs.Desk.{CarriesOn, Grows}
use Rattle.cf_node.proofs.desk.SessionDesk.go_on.Given as goal

abbrev pub invariant-loop-part : goal.invariant-loop-part
invariant-loop-part g l = record {
  goes : CarriesOn g.B.Of.Naming.namespaces (λ h. h.client.standing.is_over) l.initial.self.talk.session
      l.initial.self.handler l.self.talk.session l.self.handler;
  short : met_refused_memory l.initial.self.talk.session ≡ true → met_refused_memory l.self.talk.session ≡ true;
  grows : Grows l.initial.self.outbox.outs.items l.self.outbox.outs.items;
}
