-- The state is that of a client which begins: no calls, and each mode made idle.
use Rattle.std.proofs.Common.{false}
use Rattle.cf_client.specs.ClientView.{ids_of}
use Rattle.cf_client.specs.Shown.{calls_of}
use Rattle.cf_client.proofs.client.Client.reconnect.Goals as goal

pub returns : goal.returns
returns c =
    rw (← c.self.view_is) (λ i. record {
      connected = false;
      client = record {
        fresh = 2;
        modes = λ d. c.make_idle.ensures d i;
        calls = ids_of (calls_of (c.clear.ensures.items i));
      };
      out = calls_of (c.clear.ensures.items i);
    })
