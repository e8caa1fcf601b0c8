pub mod Files
pub mod Sessions
