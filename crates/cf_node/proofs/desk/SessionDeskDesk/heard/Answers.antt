-- `hear` begins the text's script and `go_on` leads on; if memory wasn't short by the end, it wasn't in between.
use Rattle.cf_session.specs.Standing.{met_refused_memory, progress_of}
use Rattle.cf_node.proofs.Carrying.{still_long}
use Rattle.cf_node.proofs.desk.SessionDeskDesk.heard.Goals as goal

pub returns : goal.returns
returns g c = (
  λ long. record {
    heard = progress_of c.hear.new.self.session;
    hears = c.hear.ensures (still_long (met_refused_memory c.hear.new.self.session)
        (met_refused_memory c.go_on.new.self.talk.session) c.go_on.ensures.short long);
    leads = c.go_on.ensures.goes long;
  },
  c.go_on.ensures.grows,
)
