mod Planning
mod OneRefusal
mod Only
mod Rooms
