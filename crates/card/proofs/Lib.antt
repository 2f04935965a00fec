mod Numbered
pub mod Pairing
pub mod Firsts
mod Filling
pub mod One
