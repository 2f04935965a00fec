pub mod Orders
pub mod Logs
pub mod Telling
pub mod Carrying
pub mod States
pub mod Serving
pub mod Checking
