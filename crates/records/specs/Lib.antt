-- The definitions that the contracts cite.
pub mod Format
pub mod Reading
pub mod Writing
pub mod Answering
pub mod Frames
