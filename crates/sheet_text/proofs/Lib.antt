mod Entries
mod OneReading
