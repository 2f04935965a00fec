pub mod Planning
pub mod Answering
