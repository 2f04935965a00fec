mod Reading
mod Decimals
