pub mod Lists
pub mod Requests
pub mod Phrases
