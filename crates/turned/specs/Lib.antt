-- What the contracts of turned cards cite.
pub mod Turning
pub mod TurnedOver
pub mod Soundness
pub mod Sources
pub mod Reaching
