pub mod Talking
pub mod Answering
