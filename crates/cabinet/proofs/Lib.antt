pub mod Steady
pub mod Sole
pub mod Routes
mod Counting
mod Calls
mod Tables
mod Entries
mod Checks
