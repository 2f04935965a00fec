-- What the contracts of halving cards cite.
pub mod Halving
pub mod Building
pub mod Outer
pub mod Column
pub mod Soundness
pub mod Counts
pub mod Steps
