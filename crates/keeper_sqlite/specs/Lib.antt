pub mod Files
pub mod ShardKeeper
