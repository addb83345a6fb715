-- The nodes of a broker. (This project's own profile.)
use Rattle.std.specs.Prelude.{ℕ, vec_len}
use Rattle.cf_shard.specs.declared.naming.Naming.{Ghosts as NamingGhosts}
use Rattle.cf_stream.specs.declared.opening.Epochs.{Ghosts as EpochsGhosts}
use Rattle.cf_broker.specs.declared.broker.Broker.{Broker}

-- how many nodes a broker has a link to
abbrev pub node_count : {N E : Type 0} {n : NamingGhosts N} {e : EpochsGhosts E} → Broker N E n e → ℕ
node_count b = vec_len b.links
