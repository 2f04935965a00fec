-- The lemmas of the proofs.
pub mod Laws
pub mod Reading
pub mod One
pub mod Writing
pub mod Rounds
pub mod Framing
pub mod Bodies
