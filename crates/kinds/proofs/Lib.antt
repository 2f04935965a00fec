mod Known
pub mod Sole
