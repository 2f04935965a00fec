pub mod Names
pub mod Lines
pub mod Calls
pub mod Shown
