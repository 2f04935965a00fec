pub mod Kinds
pub mod Building
pub mod Soundness
