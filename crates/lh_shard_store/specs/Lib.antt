-- What contracts see of sessions of shards
pub mod ShardedSessions
