-- What clauses of a broker cite of shards' numbers and words.
pub use Rattle.cf_shard.specs.Shards.{number_of, names, by_number}
