-- What a deployment fixes: how many nodes it has, and the namespaces that are set up. Nothing of it changes in a
-- run: a size that is set stands with the broker.
use Rattle.std.specs.Prelude.{ℕ}
use Rattle.cf_protocol.specs.Settings.{NamespaceTable}

pub record Config : Type 0 where
  pub nodes : ℕ
  pub namespaces : NamespaceTable
