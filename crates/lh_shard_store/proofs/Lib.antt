pub mod ShardCalls
