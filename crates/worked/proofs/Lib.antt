mod Trying
mod Looking
mod Deciding
