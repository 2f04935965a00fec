pub mod Verdicts
pub mod Sole
pub mod Checking
